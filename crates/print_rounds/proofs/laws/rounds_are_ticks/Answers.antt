use Rattle.print_rounds.proofs.TickRound.{round_is_tick}
use Rattle.print_rounds.proofs.laws.rounds_are_ticks.Goals as goal

pub returns : goal.returns
returns c = λ place documents s slots t legal rests looks. round_is_tick place documents s slots t legal rests looks
