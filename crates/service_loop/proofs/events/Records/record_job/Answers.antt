-- The job is noted first, and then its queue.
use Rattle.std.proofs.Common.{inl, rules}
use Rattle.service_loop.proofs.events.Records.record_job.Goals as goal

pub returns-in-Some-clause-changes : goal.returns-in-Some-clause-changes
returns-in-Some-clause-changes c = (c.note.new.self, inl c.note.ensures, search rules)

pub returns-in-None-clause-changes : goal.returns-in-None-clause-changes
returns-in-None-clause-changes c = (c.note.new.self, inl c.note.ensures, search rules)
