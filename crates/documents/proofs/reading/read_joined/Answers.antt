use Rattle.std.proofs.Common.{◌≡◌, ◌+◌, ◌-◌, ◌≤◌, ◌<◌, ◌⊎◌, ⊎_elim, ℕ, List, Bool, true, false, Some, IsTrue, length, get_or, take, drop, refl, sym, ◌∙◌, ap, arith, length-drop}
use Rattle.std.proofs.lemmas.List.{length-take}
use Rattle.std.proofs.lemmas.Result.{on_ok_weaker}
use borrow.Rule.Slice.PartMut.{put_mid}
use Rattle.spool_disk.specs.Disk.{DiskView, IsLawful}
use Rattle.spool_disk.proofs.Moments.{twice_still}
use Rattle.gate_journal.proofs.Places.{read_told}
use Rattle.extents.specs.declared.extent.Extent.{Extent}
use Rattle.spool_areas.specs.Header.{header_len}
use Rattle.documents.specs.Documents.{joined}
use Rattle.documents.proofs.Joined.{next_lies, next_size, skipped, more, passed, put_len, put_to, put_all}
use Rattle.documents.proofs.reading.read_joined.Goals as goal

abbrev none : Extent
none = record { place = 0; len = 0 }

-- An offset before the area's end is on the device.
on_device : {D : Type 0} (v : DiskView D) → IsLawful v → (disk : D) (end place : ℕ) (r : List ℕ) → v.bytes disk ≡ Some r → place ≤ end → end ≤ v.size disk → place ≤ length r
on_device v lawful disk end place r tells before within =
    let size = lawful.image_size disk r (lawful.reads_image disk r tells) in
    omega (arith, size, before, within)

-- After a read that returned Ok the areas are not dead.
lives : {Failed : Type 0} (old new : Bool) → old ≡ false → (IsTrue new → IsTrue old ⊎ Failed) → ¬ Failed → new ≡ false
lives old false alive dies whole = refl
lives old true alive dies whole = ⊎_elim (λ was. absurd (cc (was, alive))) (λ failed. absurd (whole failed)) (dies refl)

pub loop-extent-preserved-then-skip-extent : goal.loop-extent-preserved-then-skip-extent
loop-extent-preserved-then-skip-extent g c =
    let k = c.loop-extent.extent-index in
    let xs = c.args.extents.now in
    let x = get_or xs k none in
    let within : k < length xs = omega arith in
    let old = c.loop-extent.invariant in
    let next = next_lies (c.args.areas.now.base + header_len) c.args.areas.now.end xs k none within old.lie in
    record {
      within = old.within;
      lie = next.2;
      left = omega (arith, old.left, next_size xs k none within, c.if-skip-extent.true);
      rest = λ r tells.
          skipped r xs k none within (on_device g.D.Disk.device g.met.D.Disk.lawful c.args.areas.now.disk c.args.areas.now.end (x.place + x.len) r tells next.1 c.requires.within)
          (c.args.at + c.loop-extent.done) c.loop-extent.skip (old.rest r tells) c.if-skip-extent.true;
      read = old.read;
      base = old.base;
      end = old.end;
      epoch = old.epoch;
      gate = old.gate;
      version = old.version;
      held = old.held;
      alive = old.alive;
      counted = old.counted;
      still = old.still;
      keeps = old.keeps;
      staged = old.staged;
    }

pub returns-then-into-done-clause-data : goal.returns-then-into-done-clause-data
returns-then-into-done-clause-data g c =
    let k = c.loop-extent.extent-index in
    let xs = c.args.extents.now in
    let x = get_or xs k none in
    let within : k < length xs = omega arith in
    let old = c.loop-extent.invariant in
    let next = next_lies (c.args.areas.now.base + header_len) c.args.areas.now.end xs k none within old.lie in
    let done = c.loop-extent.done in
    let skip = c.loop-extent.skip in
    let into = c.loop-extent.into in
    let n = length into - done in
    let got = c.read_extent.new.into in
    let long : length got ≡ n = omega (arith, c.read_extent.auto.into, length-take n (drop done into), length-drop done into) in
    let fits : done + n ≡ length into = omega (arith, old.within) in
    on_ok_weaker c.read_extent.result
    (λ reads r tells.
    put_all done n into got long fits
    ∙ more r xs k none within (on_device g.D.Disk.device g.met.D.Disk.lawful c.args.areas.now.disk c.args.areas.now.end (x.place + x.len) r tells next.1 c.requires.within)
    (c.args.at + done) skip (old.rest r tells) c.args.at done n (take done into) got refl (old.read r tells) (omega (arith, c.if-into-done.true, c.if-skip-extent.false))
    (read_told _ r got (x.place + skip) n (old.still.bytes ∙ tells) long reads)
    ∙ ap (λ (m : ℕ). take m (drop c.args.at (joined r xs))) (fits ∙ c.loop-extent.auto.into))
    c.read_extent.ensures.data

pub loop-extent-preserved : goal.loop-extent-preserved
loop-extent-preserved g c =
    let k = c.loop-extent.extent-index in
    let xs = c.args.extents.now in
    let x = get_or xs k none in
    let within : k < length xs = omega arith in
    let old = c.loop-extent.invariant in
    let next = next_lies (c.args.areas.now.base + header_len) c.args.areas.now.end xs k none within old.lie in
    let done = c.loop-extent.done in
    let skip = c.loop-extent.skip in
    let into = c.loop-extent.into in
    let step = c.read_extent-in-loop-extent.ensures in
    let inside = λ (r : List ℕ) (tells : g.D.Disk.device.bytes c.args.areas.now.disk ≡ Some r). on_device g.D.Disk.device g.met.D.Disk.lawful c.args.areas.now.disk c.args.areas.now.end (x.place + x.len) r tells next.1 c.requires.within in
    let n = x.len - skip in
    let got = c.read_extent-in-loop-extent.new.into in
    let part : done + n - done ≡ n = omega arith in
    let room : done + (done + n - done) ≤ length into = omega (arith, c.if-into-done.false) in
    let long : length got ≡ done + n - done = omega (arith, c.read_extent-in-loop-extent.auto.into, length-take (done + n - done) (drop done into), length-drop done into, room) in
    let kept = put_len done (done + n - done) into got long room in
    let to : done + (done + n - done) ≡ done + n = omega arith in
    record {
      within = omega (arith, kept, room);
      lie = next.2;
      left = omega (arith, old.left, kept, next_size xs k none within, c.if-skip-extent.false);
      rest = λ r tells.
          (let sum : c.args.at + (done + n) ≡ c.args.at + done + n = omega arith in ap (λ (m : ℕ). drop m (joined r xs)) sum)
          ∙ passed r xs k none within (inside r tells) (c.args.at + done) skip (old.rest r tells) (omega (arith, c.if-skip-extent.false));
      read = λ r tells.
          ap (λ (m : ℕ). take m (put_mid done (done + n - done) into got)) (sym to) ∙ put_to done (done + n - done) into got long room
          ∙ more r xs k none within (inside r tells) (c.args.at + done) skip (old.rest r tells) c.args.at done n (take done into) got refl (old.read r tells) (omega (arith, c.if-skip-extent.false))
          (read_told _ r got (x.place + skip) n (old.still.bytes ∙ tells) (long ∙ part) c.in_ok-read_extent.ensures.data);
      base = step.same.0 ∙ old.base;
      end = step.same.1 ∙ old.end;
      epoch = step.same.2 ∙ old.epoch;
      gate = step.same.3 ∙ old.gate;
      version = step.same.4 ∙ old.version;
      held = step.held ∙ old.held;
      alive = lives c.loop-extent.areas.dead c.read_extent-in-loop-extent.new.self.dead old.alive step.dies.0 (λ failed. cc (failed, c.in_ok-read_extent.was));
      counted = step.blames.counted (λ failed. cc (failed, c.in_ok-read_extent.was)) ∙ old.counted;
      still = twice_still g.D.Disk.device c.args.areas.now.disk c.loop-extent.areas.disk c.read_extent-in-loop-extent.new.self.disk g.met.D.Disk.lawful old.still step.still;
      keeps = λ payloads keeps. step.keeps payloads (old.keeps payloads keeps);
      staged = λ payloads staged keeps. step.staged payloads staged (old.staged payloads staged keeps);
    }
