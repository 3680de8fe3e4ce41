-- By induction on the effects.
use Rattle.row_effects.proofs.PageLaws.{sum}
use Rattle.row_effects.proofs.laws.pages_add_up.Goals as goal

pub returns-clause-sum : goal.returns-clause-sum
returns-clause-sum c = sum
