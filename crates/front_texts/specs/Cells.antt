-- Texts that fit into a number of terminal columns.
use Rattle.std.specs.Prelude.{ℕ, ◌≤◌, ◌≡◌, false, List, All, chars, String, string_bytes}
use Rattle.unicode_width.specs.Width.{str_width}
use Rattle.clean_texts.specs.CleanTexts.{is_steered}

-- A text takes at most this number of columns, as a terminal counts them (UAX 11).
abbrev pub Fits : ℕ → List ℕ → Type 0
Fits columns text = str_width false (chars text) ≤ columns

-- A line for a terminal: it takes at most this number of columns, and no character of it steers.
abbrev pub IsLine : ℕ → List ℕ → Type 0
IsLine columns text = Fits columns text × (is_steered text ≡ false)

-- Each of these is one.
abbrev pub AreLines : {Z : Type 0} → ℕ → List (String Z) → Type 0
AreLines {Z = Z} columns lines = All (λ (line : String Z). IsLine columns (string_bytes line)) lines
