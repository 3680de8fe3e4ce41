use Rattle.std.proofs.Common.{◌≡◌, ◌+◌, ◌∙◌, ◌∷◌, [], ◌++◌, List, length, refl, sym, ap, arith, length-append}
use Rattle.std.specs.Vec.Iter.{into_iter_items, into_iter_len, into_iter_steps}
use Rattle.std.specs.declared.vec.IntoIter.{IntoIter}
use Rattle.std.specs.Iterator.{Yields}
use Rattle.spool_types.specs.declared.event.Event.{Event}
use Rattle.spool_core.proofs.DriveLaws.{next_of}
use Rattle.spool_core.proofs.TurnLaws.{driven_none, driven_more, end_of_all, end_of_memory, end_of_turn, same_replies}
use Rattle.spool_core.proofs.driving.drive_all.Goals as goal

-- The elements that the iterator of a vector has returned are its first elements.
taken_front : {X A : Type 0} (s : IntoIter X A) (xs : List X) (t : IntoIter X A) → Yields into_iter_steps s xs t → into_iter_items s ≡ xs ++ into_iter_items t
taken_front s [] t y = ap into_iter_items y
taken_front s (x ∷ xs) t y = y.1.0 ∙ ap (λ ys. x ∷ ys) (taken_front y.0 xs t y.2)

pub loop-event-init : goal.loop-event-init
loop-event-init g c = record {
  driven = driven_none g.D.Disk.device g.met.D.Disk.lawful c.args.spool.now c.args.events.items
      c.new-replies.result.items c.new-replies.ensures.items c.look.ensures.kept c.look.ensures.synced;
  so_many = ap length c.new-replies.ensures.items;
  lives = c.if-is_over.ensures.on refl;
  settled = c.requires.settled;
}

pub returns-then-is_err-clause-outcome : goal.returns-then-is_err-clause-outcome
returns-then-is_err-clause-outcome g c =
    let replies = c.loop-event.replies.items in
    let events = sym c.into_iter-event-iterator.ensures.into_iter_gives.0 ∙ taken_front c.into_iter-event-iterator.result c.loop-event.yielded c.loop-event.event-iterator c.loop-event.yielded_by ∙ ap (λ (l : List Event). c.loop-event.yielded ++ l) c.in-Some.ensures.steps.0 in
    let next = next_of c.args.events.items c.loop-event.yielded (into_iter_items c.next.new.self) c.in-Some.event (length replies) c.loop-event.invariant.so_many events in
    same_replies g.D.Disk.device g.met.D.Disk.lawful c.args.spool.now c.args.events.items
    replies c.reserve.new.self.items _ c.loop-event.spool c.reserve.ensures.items
    (end_of_memory g.D.Disk.device g.met.D.Disk.lawful c.args.spool.now c.args.events.items
    replies c.loop-event.spool c.loop-event.invariant.driven next.fits (c.loop-event.invariant.lives (omega (arith, next.fits))))

pub loop-event-preserved : goal.loop-event-preserved
loop-event-preserved g c =
    let replies = c.loop-event.replies.items in
    let events = sym c.into_iter-event-iterator.ensures.into_iter_gives.0 ∙ taken_front c.into_iter-event-iterator.result c.loop-event.yielded c.loop-event.event-iterator c.loop-event.yielded_by ∙ ap (λ (l : List Event). c.loop-event.yielded ++ l) c.in-Some.ensures.steps.0 in
    let next = next_of c.args.events.items c.loop-event.yielded (into_iter_items c.next.new.self) c.in-Some.event (length replies) c.loop-event.invariant.so_many events in
    let more : c.push.new.self.items ≡ replies ++ c.in-Ok.answer ∷ [] = rw c.unwrap.ensures at c.push.ensures.items ∙ ap (λ rs. rs ++ c.in-Ok.answer ∷ []) c.reserve.ensures.items in
    record {
      driven = driven_more g.D.Disk.device g.met.D.Disk.lawful c.args.spool.now c.args.events.items
          replies c.loop-event.spool c.loop-event.invariant.driven c.loop-event.yielded c.in-Some.event next c.drive_one.new.spool
          (record { fixed = c.drive_one.ensures.fixed; told = c.drive_one.ensures.told.0; tells = c.drive_one.ensures.told.1; any_moment = c.drive_one.ensures.any_moment; documents = c.drive_one.ensures.documents })
          c.in-Ok.answer c.push.new.self.items more c.in-Ok.ensures.driven c.in-Ok.ensures.kept c.in-Ok.ensures.sent
          (c.drive_one.ensures.blames.counted (λ is. cc (is, c.in-Ok.is)));
      so_many = omega (arith, ap length more, length-append replies (c.in-Ok.answer ∷ []), length-append c.loop-event.yielded (c.in-Some.event ∷ []), c.loop-event.invariant.so_many);
      lives = c.loop-event.invariant.lives;
      settled = c.drive_one.ensures.settled;
    }

pub returns-in-Err-clause-outcome : goal.returns-in-Err-clause-outcome
returns-in-Err-clause-outcome g c =
    let replies = c.loop-event.replies.items in
    let events = sym c.into_iter-event-iterator.ensures.into_iter_gives.0 ∙ taken_front c.into_iter-event-iterator.result c.loop-event.yielded c.loop-event.event-iterator c.loop-event.yielded_by ∙ ap (λ (l : List Event). c.loop-event.yielded ++ l) c.in-Some.ensures.steps.0 in
    let next = next_of c.args.events.items c.loop-event.yielded (into_iter_items c.next.new.self) c.in-Some.event (length replies) c.loop-event.invariant.so_many events in
    same_replies g.D.Disk.device g.met.D.Disk.lawful c.args.spool.now c.args.events.items
    replies c.reserve.new.self.items c.in-Err.ending c.drive_one.new.spool c.reserve.ensures.items
    (end_of_turn g.D.Disk.device g.met.D.Disk.lawful c.args.spool.now c.args.events.items
    replies c.loop-event.spool c.loop-event.invariant.driven c.loop-event.yielded c.in-Some.event next c.drive_one.new.spool
    (record { fixed = c.drive_one.ensures.fixed; told = c.drive_one.ensures.told.0; tells = c.drive_one.ensures.told.1; any_moment = c.drive_one.ensures.any_moment; documents = c.drive_one.ensures.documents })
    c.in-Err.ending c.in-Err.ensures.driven)

-- Their number.
taken_count : {X A : Type 0} (s : IntoIter X A) (xs : List X) (t : IntoIter X A) → Yields into_iter_steps s xs t → into_iter_len s ≡ length xs + into_iter_len t
taken_count s [] t y = omega (arith, ap into_iter_len y)
taken_count s (x ∷ xs) t y = omega (arith, y.1.1, taken_count y.0 xs t y.2)

pub returns-clause-outcome : goal.returns-clause-outcome
returns-clause-outcome g c =
    let given = taken_count c.into_iter-event-iterator.result c.loop-event.yielded c.loop-event.event-iterator c.loop-event.yielded_by in
    end_of_all g.D.Disk.device g.met.D.Disk.lawful c.args.spool.now c.args.events.items c.loop-event.replies.items c.loop-event.spool c.loop-event.invariant.driven
    (omega (arith, given, c.in-None.ensures.steps.0, c.into_iter-event-iterator.ensures.into_iter_gives.1, c.args.events.ok, c.loop-event.invariant.so_many))
