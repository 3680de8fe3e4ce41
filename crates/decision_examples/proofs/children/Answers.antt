use Rattle.std.proofs.Common.{refl}
use Rattle.decision_examples.proofs.Computing.{printing_numbers}
use Rattle.decision_examples.proofs.children.Goals as goal

pub returns-clause-environment : goal.returns-clause-environment
unfolding printing_numbers
returns-clause-environment c = λ place root lang path side. rw (root, lang, path, side) refl
