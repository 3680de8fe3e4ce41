use Rattle.std.proofs.Common.{◌≡◌, List, [], ◌∷◌, ◌++◌, length, Some, ap, ◌∙◌, inl, inr, arith}
use Rattle.spool_disk.specs.Images.{Device, IsImage}
use Rattle.disk_images.proofs.Steps.{settled, goes_on, ends, ends_exactly}
use Rattle.disk_images.proofs.disk.ImageDiskDisk.sync.Goals as goal

-- The past with this moment, as it was before the call.
kept_from : (past mid new : List Device) (now mid_now : Device) → mid ≡ past → mid_now ≡ now → new ≡ mid ++ mid_now ∷ [] → new ≡ past ++ now ∷ []
kept_from past mid new now mid_now same_past same_now kept = kept ∙ ap (λ (l : List Device). l ++ mid_now ∷ []) same_past ∙ ap (λ (d : Device). past ++ d ∷ []) same_now

pub returns-clause-same : goal.returns-clause-same
returns-clause-same g c =
    let old = c.args.self.now in
    let mid = c.strikes.new.self in
    let same_past = ap (λ v. v.items) c.strikes.ensures.past in
    let bytes : c.settle.new.self.bytes ≡ old.now.bytes = c.settle.ensures.bytes ∙ ap (λ (d : Device). d.bytes) (c.end_moment.ensures.now ∙ c.strikes.ensures.now) in
    let leaves = settled old.now c.settle.new.self bytes c.settle.ensures.unsynced in
    record {
      bytes = ap Some bytes;
      size = ap length bytes;
      images = elim c.end_moment.ensures.past [
        | inl kept ↦ ends old _ (IsImage old.now) (kept_from old.past.items mid.past.items c.end_moment.new.self.past.items old.now mid.now same_past c.strikes.ensures.now kept) (λ b i. i) leaves
        | inr left ↦ goes_on old _ (IsImage old.now) (left ∙ same_past) leaves
      ];
    }

pub returns-clause-since : goal.returns-clause-since
returns-clause-since g c few =
    let old = c.args.self.now in
    let mid = c.strikes.new.self in
    let same_past = ap (λ v. v.items) c.strikes.ensures.past in
    let same_count = c.strikes.ensures.same c.if-strikes.false in
    let kept = c.in_ok-end_moment.ensures.kept (omega (arith, same_count, few)) in
    ends_exactly old.past.items c.end_moment.new.self.past.items old.now c.settle.new.self (kept_from old.past.items mid.past.items c.end_moment.new.self.past.items old.now mid.now same_past c.strikes.ensures.now kept)
