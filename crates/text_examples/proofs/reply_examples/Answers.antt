use Rattle.std.proofs.Common.{refl}
use Rattle.std.specs.Fmt.{digits}
use Rattle.text_examples.proofs.reply_examples.Goals as goal

pub returns-clause-done : goal.returns-clause-done
unfolding digits
returns-clause-done c = refl

pub returns-clause-error : goal.returns-clause-error
unfolding digits
returns-clause-error c = refl

pub returns-clause-closed : goal.returns-clause-closed
unfolding digits
returns-clause-closed c = refl

pub returns-clause-queue : goal.returns-clause-queue
unfolding digits
returns-clause-queue c = refl

pub returns-clause-stopped : goal.returns-clause-stopped
unfolding digits
returns-clause-stopped c = refl
