-- The attribute that was set is the first one of its name.
use Rattle.row_effects.proofs.AttributeLaws.{replaced, added, others}
use Rattle.row_effects.proofs.laws.attributes_are_set.Goals as goal

pub returns-clause-replaced : goal.returns-clause-replaced
returns-clause-replaced c = replaced

pub returns-clause-added : goal.returns-clause-added
returns-clause-added c = added

pub returns-clause-others : goal.returns-clause-others
returns-clause-others c = others
