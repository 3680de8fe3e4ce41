-- The line of the account for a tick.
use Rattle.std.specs.Prelude.{ℕ, List, ◌++◌, codes, Result, Ok, Err}
use Rattle.std.specs.Fmt.{decimal}
use Rattle.print_rounds.specs.declared.outcome.Round.{Round}
use Rattle.print_rounds.specs.declared.outcome.RoundFault.{RoundFault}
use Rattle.print_rounds.specs.declared.outcome.RoundFault.TheVariants as faults

abbrev pub counts_line : ℕ → ℕ → List ℕ
counts_line started finished = codes "tick: started " ++ (decimal started ++ (codes ", finished " ++ (decimal finished ++ codes "\n")))

abbrev pub fault_line : RoundFault → List ℕ
fault_line faults.Dead = codes "tick: dead\n"
fault_line faults.Memory = codes "tick: no memory\n"
fault_line faults.Full = codes "tick: full\n"
fault_line faults.Disk = codes "tick: disk failed\n"

abbrev pub tick_line : Result Round RoundFault → List ℕ
tick_line (Ok round) = counts_line round.started round.finished
tick_line (Err fault) = fault_line fault
