-- By each word in order.
use Rattle.std.proofs.Common.{[], refl}
use Rattle.row_effects.proofs.ReasonLaws.{added, dropped}
use Rattle.row_effects.proofs.laws.reasons_are_kept.Goals as goal

pub returns-clause-added : goal.returns-clause-added
returns-clause-added c = added

pub returns-clause-set : goal.returns-clause-set
returns-clause-set c = λ words word. added words [] word refl

pub returns-clause-dropped : goal.returns-clause-dropped
returns-clause-dropped c = dropped
