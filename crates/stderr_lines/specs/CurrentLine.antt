-- The current line of a reader. Internal: no caller needs this.
use Rattle.std.specs.Prelude.{◌≡◌, ℕ, ◌≤◌, false, List, length}
use Rattle.std.specs.List.{list_any}
use Rattle.stderr_lines.specs.LineEffects.{is_lf}

-- The front of a line, at most as many bytes as are read of a line.
pub record IsHeld (line : List ℕ) : Type 0 where
  pub short : length line ≤ 1023
  pub whole : list_any is_lf line ≡ false
