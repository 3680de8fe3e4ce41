use Rattle.std.proofs.Common.{◌≡◌, ◌∙◌, None, Some, refl}
use Rattle.std.specs.Cmp.{nat_cmp_total}
use Rattle.std.specs.Ordering.{nat_cmp}
use Rattle.std.specs.Fmt.{digits}
use Rattle.std.specs.FinMap as finite
use Rattle.spool_types.specs.State.{Job, job_at, nothing}
use Rattle.spool_types.specs.declared.phase.Hold.TheVariants.{Free}
use Rattle.spool_types.specs.declared.phase.Phase.TheVariants.{Incoming}
use Rattle.text_examples.specs.ReplyExamples.{busy}
use Rattle.text_examples.specs.ServiceExamples.{arriving, printing}
use Rattle.text_examples.proofs.service_reply_examples.Goals as goal

abbrev seven : Job
seven = record busy { media = None; phase = Incoming Free }

five_is : job_at arriving 5 ≡ None
five_is = finite.get-insert nat_cmp_total finite.empty 7 seven 5 ∙ finite.get-empty nat_cmp 5

seven_is : job_at arriving 7 ≡ Some seven
seven_is = finite.get-insert nat_cmp_total finite.empty 7 seven 7

busy_is : job_at printing 7 ≡ Some busy
busy_is = finite.get-insert nat_cmp_total finite.empty 7 busy 7

none_is : job_at nothing 7 ≡ None
none_is = finite.get-empty nat_cmp 7

pub returns-clause-job : goal.returns-clause-job
unfolding digits
returns-clause-job c = refl

pub returns-clause-hidden : goal.returns-clause-hidden
unfolding digits
returns-clause-hidden c = refl

pub returns-clause-line : goal.returns-clause-line
unfolding digits
returns-clause-line c = refl

pub returns-clause-queue : goal.returns-clause-queue
unfolding digits
returns-clause-queue c = refl

pub returns-clause-others_queue : goal.returns-clause-others_queue
unfolding digits
returns-clause-others_queue c = refl

pub returns-clause-said : goal.returns-clause-said
returns-clause-said c = refl

pub returns-clause-why : goal.returns-clause-why
unfolding digits
returns-clause-why c = refl

pub returns-clause-piece : goal.returns-clause-piece
unfolding digits
returns-clause-piece c = refl

pub returns-clause-piece_line : goal.returns-clause-piece_line
unfolding digits
returns-clause-piece_line c = refl

pub returns-clause-left : goal.returns-clause-left
unfolding digits
returns-clause-left c = rw (five_is, seven_is) refl

pub returns-clause-size : goal.returns-clause-size
returns-clause-size c = rw (seven_is, busy_is, none_is) refl

pub returns-clause-measured : goal.returns-clause-measured
unfolding digits
returns-clause-measured c = (refl, refl, refl)
