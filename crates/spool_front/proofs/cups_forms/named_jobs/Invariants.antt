-- The requested jobs among those so far.
use Rattle.std.proofs.Common.{◌≡◌, filter}
use Rattle.spool_front.specs.CupsForms.{is_named}
use Rattle.spool_front.proofs.cups_forms.named_jobs.Given as goal

abbrev pub invariant-loop-job : goal.invariant-loop-job
invariant-loop-job l = l.named.items ≡ filter (is_named l.asked) l.yielded
