use Rattle.std.proofs.Common.{◌≡◌, ℕ, ◌+◌, ◌-◌, ◌≤◌, List, ◌++◌, rules, arith, length, take, slice_range, sym, ap, ◌∙◌, subst, refl, le_refl, drop_at, length-take-le}
use Rattle.std.proofs.lemmas.Slice.{take-put_mid_below}
use Rattle.std.specs.Io.KnownBytes.{Consumes}
use Rattle.std.proofs.KnownBytes.{Consumes-trans, Consumes-kept}
use borrow.Rule.Slice.PartMut.{put_mid, post_of}
use lib.Seq.{take-add, take-append-le}
use Rattle.side_channel.proofs.streams.fill.Goals as goal

-- The next bytes follow the bytes read before.
take_split : (a b : ℕ) (old new : List ℕ) → a ≤ b → take a new ≡ take a old → take a old ++ slice_range new a b ≡ take b new
take_split a b old new h front =
    let same : a + (b - a) ≡ b = omega arith in
    ap (λ l. l ++ slice_range new a b) (sym front) ∙ sym (take-add a (b - a) new) ∙ ap (λ n. take n new) same

slice_range-put_mid : (a k n : ℕ) (xs ys : List ℕ) → a ≤ length xs → n ≤ length ys → slice_range (put_mid a k xs ys) a (a + n) ≡ take n ys
slice_range-put_mid a k n xs ys within fits =
    let same : (a + n) - a ≡ n = omega arith in
    let after = post_of a k xs in
    ap (take ((a + n) - a)) (drop_at (take a xs) (ys ++ after) a (length-take-le a xs within)) ∙ ap (λ m. take m (ys ++ after)) same ∙ take-append-le n ys after fits

pub reads-preserved-in-Ok : goal.reads-preserved-in-Ok
reads-preserved-in-Ok g c =
    let from = c.reads.at in
    let room = length c.reads.buf - from in
    let within = c.reads.invariant.within in
    let part = slice_range-put_mid from room c.in-Ok.n c.reads.buf c.read.new.buf within c.in-Ok.ensures.bound.0 in
    let joined = take_split from (from + c.in-Ok.n) c.reads.buf (put_mid from room c.reads.buf c.read.new.buf) (omega arith) (take-put_mid_below _ _ _ _ _ (le_refl _) within) in
    record {
      same = search rules;
      within = search rules;
      read = subst (Consumes _ _) (ap (λ l. take from c.reads.buf ++ l) (sym part) ∙ joined) (Consumes-trans _ _ _ _ _ c.reads.invariant.read c.in-Ok.ensures.bytes.0);
      reads = let h = c.reads.invariant.reads in omega arith;
      counted = λ _. let h = c.reads.invariant.reads in let k = c.if-reads-eq0.false in omega (arith, k);
    }

pub returns-then-ne-clause-err : goal.returns-then-ne-clause-err
returns-then-ne-clause-err g c =
    let short = length-take-le c.reads.at c.reads.buf c.reads.invariant.within in (
      refl,
      record {
        bytes = take c.reads.at c.reads.buf;
        fewer = let h = c.reads-test.true in let same = c.reads.invariant.same in omega (arith, short, h, same);
        read = Consumes-kept _ _ _ _ c.reads.invariant.read c.in-Err.ensures.bytes;
      },
    )
