-- What a command and a tick leave for maintenance.
use Rattle.std.specs.Prelude.{Bool, true, false, ◌||◌, nat_lt, Result, Ok, Err}
use Rattle.command_lines.specs.declared.reply.Answer.{Answer}
use Rattle.command_lines.specs.declared.reply.Answer.TheVariants as answers
use Rattle.print_rounds.specs.declared.outcome.Round.{Round}
use Rattle.print_rounds.specs.declared.outcome.RoundFault.{RoundFault}
use Rattle.print_rounds.specs.declared.outcome.RoundFault.TheVariants.{Full}

-- The event of a command did not fit into the journal.
abbrev pub is_full : Answer → Bool
is_full answers.Full = true
is_full answer = false

-- An event of a tick did not fit into the journal.
abbrev pub has_met_full : Result Round RoundFault → Bool
has_met_full (Ok round) = false
has_met_full (Err Full) = true
has_met_full (Err fault) = false

-- A stage was started or finished, or the tick failed in another way.
abbrev pub has_done : Result Round RoundFault → Bool
has_done (Ok round) = nat_lt 0 round.started || nat_lt 0 round.finished
has_done (Err Full) = false
has_done (Err fault) = true
