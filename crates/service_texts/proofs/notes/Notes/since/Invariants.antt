-- The changes noted so far.
use Rattle.std.proofs.Common.{◌≡◌, ◌-◌, take}
use Rattle.event_records.specs.NumberedChanges.{position_after, since}
use Rattle.service_texts.specs.Notices.{nothing_noted, with_subjects}
use Rattle.service_texts.proofs.notes.Notes.since.Given as goal

abbrev pub invariant-loop-at : goal.invariant-loop-at
invariant-loop-at l = l.notes ≡ with_subjects nothing_noted (take (l.at - position_after l.changes l.number) (since l.changes l.number))
