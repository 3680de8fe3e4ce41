-- The start is applied, with the images that a crash leaves.
use Rattle.std.specs.Prelude.{vec_capacity}
use Rattle.print_rounds.proofs.HappenedLaws.{none_happened}
use Rattle.print_rounds.proofs.starts.start_job.Goals as goal

pub returns-in-Ok-clause-answer : goal.returns-in-Ok-clause-answer
returns-in-Ok-clause-answer g c = record {
  cause = c.in-Ok.ensures.answer;
  counted = c.in-Ok.ensures.later;
  told = c.in-Ok.ensures.told;
  crash = c.in-Ok.ensures.any_moment;
  whole = c.in-Ok.ensures.documents;
  sent = c.in-Ok.ensures.sent;
  settled = c.in-Ok.ensures.settled;
}

pub returns-in-Err-clause-answer : goal.returns-in-Err-clause-answer
returns-in-Err-clause-answer g c = record {
  cause = c.in-Err.ensures.answer;
  counted = c.in-Err.ensures.later;
  told = c.in-Err.ensures.told;
  crash = c.in-Err.ensures.any_moment;
  whole = c.in-Err.ensures.documents;
  sent = c.in-Err.ensures.sent;
  settled = c.in-Err.ensures.settled;
}

pub returns-in-Err-clause-noted : goal.returns-in-Err-clause-noted
returns-in-Err-clause-noted g c = none_happened (vec_capacity c.args.happened.now) 1 c.args.happened.now.items

pub returns-in-Ok-clause-noted : goal.returns-in-Ok-clause-noted
returns-in-Ok-clause-noted g c = (c.note.ensures.items, c.note.ensures.few)
