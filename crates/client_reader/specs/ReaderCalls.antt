-- Calls of a reader, in order: a piece of the text arrived, or a request was returned.
use Rattle.std.specs.Prelude.{◌≡◌, ℕ, List, [], ◌∷◌, ◌++◌}
use Rattle.command_lines.specs.declared.command.Command as commands
use Rattle.command_lines.specs.declared.command.Command.TheVariants.{Malformed}
use Rattle.client_reader.specs.declared.ask.Ask.{Ask}
use Rattle.client_reader.specs.declared.ask.Ask.TheVariants as asking

-- The command that the engine would find: a word of the service is malformed.
abbrev pub as_command : Ask → commands.Command
as_command (asking.Command c) = c
as_command (asking.Own word) = Malformed

pub data Call : Type 0 where
  takes : List ℕ → Call
  gives : Ask → Call

-- The awaited requests before these calls and after them, according to the contracts.
abbrev pub AreCalls : (List ℕ → List Ask) → List Call → (List ℕ → List Ask) → Type 0
AreCalls old [] new = (more : List ℕ) → old more ≡ new more
AreCalls old (takes piece ∷ calls) new = AreCalls (λ more. old (piece ++ more)) calls new
AreCalls old (gives ask ∷ calls) new = (others : List ℕ → List Ask) × ((more : List ℕ) → old more ≡ ask ∷ others more) × AreCalls others calls new

-- The text that arrived, in order.
abbrev pub taken_in : List Call → List ℕ
taken_in [] = []
taken_in (takes piece ∷ calls) = piece ++ taken_in calls
taken_in (gives ask ∷ calls) = taken_in calls

-- The returned requests, in order.
abbrev pub given_in : List Call → List Ask
given_in [] = []
given_in (takes piece ∷ calls) = given_in calls
given_in (gives ask ∷ calls) = ask ∷ given_in calls

-- These are the first of the others.
abbrev pub AreFirstOf : List Ask → List Ask → Type 0
AreFirstOf asks all = (rest : List Ask) × (all ≡ asks ++ rest)
