-- Zeros after zeros are zeros.
use Rattle.std.proofs.Common.{◌≡◌, ◌∙◌, ℕ, ◌+◌, ◌*◌, ◌/◌, ◌%◌, ◌≤◌, List, ◌++◌, Option, Result, Ok, Err, replicate, arith, refl, ap, subst}
use Rattle.std.specs.Prelude.{OnOk}
use Rattle.std.specs.Io.KnownBytes.{Appends}
use Rattle.std.proofs.KnownBytes.{Appends-trans}
use Rattle.std.proofs.lemmas.List.{replicate-append-replicate, take-replicate}
use Rattle.whole_writes.proofs.write_zeros.Goals as goal

more : (a b d : Option (List ℕ)) (m n k : ℕ) (zeros : List ℕ) → zeros ≡ replicate n 0 → m + n ≡ k
    → Appends a b (replicate m 0) → Appends b d zeros → Appends a d (replicate k 0)
more a b d m n k zeros are sum before now =
    subst (Appends a d) (ap (λ l. replicate m 0 ++ l) are ∙ replicate-append-replicate m n 0 ∙ ap (λ j. replicate j 0) sum)
    (Appends-trans a b d (replicate m 0) zeros before now)

on_ok : {A E : Type 0} (P Q : Type 0) (r : Result A E) → (P → Q) → OnOk r P → OnOk r Q
on_ok P Q (Ok x) f h = f h
on_ok P Q (Err e) f h = tt

-- The whole blocks, and the rest of the last block.
all : (count blocks : ℕ) → blocks ≤ count / 65536 → count / 65536 ≤ blocks → blocks * 65536 + count % 65536 ≡ count
all count blocks most least = omega (arith, most, least)

rest_fits : (count : ℕ) → count % 65536 ≤ 65536
rest_fits count = omega arith

pub loop-preserved : goal.loop-preserved
loop-preserved g c = more _ _ _ (c.loop.counter * 65536) 65536 _ _ refl (omega arith) c.loop.invariant c.in_ok-write_all.ensures.bytes

pub returns : goal.returns
returns g c = on_ok _ _ c.write_all-2.result
    (more _ _ _ (c.loop.counter * 65536) (c.args.count % 65536) _ _ (take-replicate (c.args.count % 65536) 65536 0 (rest_fits c.args.count)) (all c.args.count c.loop.counter c.loop.auto.counter-end c.loop-test.false) c.loop.invariant)
    c.write_all-2.ensures.bytes
