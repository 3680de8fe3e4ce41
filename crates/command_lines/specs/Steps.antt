-- The results of the calls of a reader of commands.
use Rattle.std.specs.Prelude.{◌≡◌, ◌<◌, ◌≤◌, [], ◌∷◌, Option, None, Some}
use Rattle.command_lines.specs.PendingCommands.{Pending, Leads, IsPartial, to_come, weight}
use Rattle.command_lines.specs.declared.command.Command.{Command}

-- One command was returned, and less is left.
pub record GivesOne (old : Pending) (c : Command) (new : Pending) : Type 0 where
  pub leads : Leads old (c ∷ []) new
  pub less : weight new < weight old

-- No command is whole.
pub record Waits (old new : Pending) : Type 0 where
  pub leads : Leads old [] new
  pub partial : IsPartial new.mode new.held
  pub lighter : weight new ≤ weight old

-- The next command, or none if none is whole.
abbrev pub Gives : Pending → Option Command → Pending → Type 0
Gives old None new = Waits old new
Gives old (Some c) new = GivesOne old c new

-- The text ends, and a command is returned.
pub record EndsWith (old : Pending) (c : Command) (new : Pending) : Type 0 where
  pub leads : to_come old [] ≡ c ∷ to_come new []
  pub less : weight new < weight old

-- The next command of the text that ends here, or none.
abbrev pub Ends : Pending → Option Command → Pending → Type 0
Ends old None new = to_come old [] ≡ []
Ends old (Some c) new = EndsWith old c new
