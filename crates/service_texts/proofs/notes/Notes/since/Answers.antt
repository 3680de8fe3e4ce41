-- One more change is noted.
use Rattle.std.proofs.Common.{◌≤◌, ◌<◌, ap, arith, length, subst, sym, ◌∙◌}
use Rattle.std.proofs.lemmas.Bool.{false≢true}
use Rattle.std.specs.Prelude.{IsSome}
use Rattle.event_records.specs.NumberedChanges.{position_after}
use Rattle.service_texts.specs.Notices.{Noted, with_subject}
use Rattle.service_texts.proofs.NoteLaws.{noted_next}
use Rattle.service_texts.proofs.notes.Notes.since.Goals as goal
use Rattle.service_texts.proofs.notes.Notes.since.Goals.{in-Some+in_ok-note, in_default}

pub loop-at-preserved : goal.loop-at-preserved
loop-at-preserved c =
    let items = c.args.changes.now.items in
    let start = position_after c.args.changes.now c.args.number in
    let i = c.loop-at.at in
    let first = c.position_after-at.ensures in
    let count = c.len-at-end.ensures in
    let le : start ≤ i = omega (arith, first) in
    let lt : i < length items = omega (arith, count) in
    elim c.match-subject.branch [
      | in-Some+in_ok-note w ↦
          w.notes-is
          ∙ w.in_ok-note.ensures
          ∙ ap (λ (n : Noted). with_subject n w.in-Some.subject.now) c.loop-at.invariant
          ∙ sym (noted_next items start i w.in-Some.subject.now le lt w.in-Some.ensures.is)
      | in_default w ↦ absurd (false≢true (subst IsSome w.in_default.is (c.subject.ensures.there.1 lt)))
    ]
