use Rattle.std.proofs.Common.{◌+◌, List, ◌++◌, [], ◌∷◌, refl, sym, ◌∙◌, subst}
use Rattle.spool_disk.proofs.Moments.{no_change, twice_still}
use Rattle.gate_journal.specs.Entries.{HasFirst}
use Rattle.extents.specs.declared.extent.Extent.{Extent}
use Rattle.spool_areas.specs.PayloadExtents.{Follow, payloads_at}
use Rattle.spool_areas.proofs.Collected.{none_first, follow_push, first_push, found_lies, made}
use Rattle.spool_areas.proofs.records.collect.Goals as goal

pub loop-found-init : goal.loop-found-init
loop-found-init g c = record {
  inside = c.requires.inside;
  follow = subst (λ (l : List Extent). Follow c.args.first l c.args.first) (sym c.new-payloads.ensures.items) refl;
  so_far = λ r tells. subst (λ (l : List Extent). HasFirst c.args.first c.args.first (payloads_at r l) r) (sym c.new-payloads.ensures.items) (none_first c.args.first r);
  counted = refl;
  same = no_change g.D.Disk.device c.args.disk.now g.met.D.Disk.lawful;
  held = c.requires.held;
}

pub loop-found-preserved : goal.loop-found-preserved
loop-found-preserved g c =
    let x : Extent = record { place = c.in-Entry.place; len = c.in-Entry.len } in
    let xs = c.loop-found.payloads.items in
    let next = c.in-Entry.place + c.in-Entry.len in
    let lies = found_lies c.args.end c.loop-found.gate c.in-Entry.place c.in-Entry.len c.in-Ok.found c.in-Entry.is c.in-Ok.ensures.lies in
    let items = made c.push.result c.push.new.self.items (xs ++ x ∷ []) xs c.is_err.result c.is_err.ensures.value c.if-is_err.false c.push.ensures.items in
    record {
      inside = lies.1;
      follow = subst (λ (l : List Extent). Follow c.args.first l next) (sym items) (follow_push c.args.first xs c.loop-found.gate x c.loop-found.invariant.follow lies.0);
      so_far = λ r tells. subst (λ (l : List Extent). HasFirst c.args.first next (payloads_at r l) r) (sym items)
          (first_push c.args.first c.loop-found.gate xs x c.in-Ok.found r c.in-Entry.is
          (c.in-Ok.ensures.goes_on r c.args.first (payloads_at r xs) (c.loop-found.invariant.same.bytes ∙ tells) (c.loop-found.invariant.so_far r tells)));
      counted = c.in-Ok.ensures.cause.same ∙ c.loop-found.invariant.counted;
      same = twice_still g.D.Disk.device c.args.disk.now c.loop-found.disk c.next_entry.new.disk g.met.D.Disk.lawful c.loop-found.invariant.same c.next_entry.ensures.same;
      held = c.next_entry.ensures.held;
    }
