-- The single steps of a reader of commands. No caller needs them.
use Rattle.std.specs.Prelude.{◌≡◌, ℕ, ◌+◌, ◌<◌, Bool, true, false, cond, nat_le, ◌==◌, List, [], ◌∷◌, take, drop}
use Rattle.spool_types.specs.Limits.{longest_send}
use Rattle.command_lines.specs.TextLines.{has_lf, first_line, after_line}
use Rattle.command_lines.specs.PendingCommands.{Pending, Leads, weight}
use Rattle.command_lines.specs.Steps.{GivesOne, Waits}
use Rattle.command_lines.specs.declared.command.Mode.{Mode}
use Rattle.command_lines.specs.declared.command.Mode.TheVariants.{Line, Skip, Payload, Counting}
use Rattle.command_lines.specs.declared.command.Kind.{Kind}
use Rattle.command_lines.specs.declared.command.Kind.TheVariants.{Remark, Says, Takes}
use Rattle.command_lines.specs.declared.commands.Step.{Step}
use Rattle.command_lines.specs.declared.commands.Step.TheVariants.{Given, Again, Wait}

-- The number of bytes of a send that are stored.
abbrev pub payload_size : Mode → ℕ
payload_size Line = 0
payload_size Skip = 0
payload_size (Payload job n) = n
payload_size (Counting n) = 0

-- The first line feed comes after n bytes.
pub record IsAt (xs : List ℕ) (n : ℕ) : Type 0 where
  pub there : has_lf xs ≡ true
  pub line : first_line xs ≡ take n xs
  pub rest : after_line xs ≡ drop (n + 1) xs

-- A line that begins so is a remark, and not the empty line.
abbrev pub starts_remark : List ℕ → Bool
starts_remark [] = false
starts_remark (b ∷ bs) = b == 35

-- No command was returned, but less is left.
pub record GoesOn (old new : Pending) : Type 0 where
  pub leads : Leads old [] new
  pub less : weight new < weight old

abbrev pub Moves : Pending → Step → Pending → Type 0
Moves old (Given c) new = GivesOne old c new
Moves old Again new = GoesOn old new
Moves old Wait new = Waits old new

-- A line of this kind was taken.
abbrev pub TakesKind : Kind → Pending → Step → Pending → Type 0
TakesKind Remark old step new = (step ≡ Again) × (new ≡ old)
TakesKind (Says c) old step new = (step ≡ Given c) × (new ≡ old)
TakesKind (Takes job n) old step new = (step ≡ Again) × (new ≡ record old { mode = cond (nat_le n longest_send) (Payload job n) (Counting n) })
