use Rattle.std.proofs.Common.{◌≡◌, ◌+◌, ◌++◌, take, drop, length, arith, ap, sym, ◌∙◌, subst}
use Rattle.std.proofs.Common.{ℕ, List, Option, None, Some, length-drop}
use Rattle.std.proofs.lemmas.List.{take-append-drop, take-take, drop-take, take_rest}
use Rattle.std.specs.Io.KnownBytes.{Appends, Keeps}
use Rattle.std.proofs.KnownBytes.{Appends-trans}
use Rattle.whole_writes.proofs.write_whole.Goals as goal
use Rattle.whole_writes.proofs.write_whole.Goals.{in-Ok, in-Err+else-ne}

-- The next bytes follow the bytes written before.
grown : (bytes rest : List ℕ) (at n : ℕ) → rest ≡ drop at bytes → take at bytes ++ take n rest ≡ take (at + n) bytes
grown bytes rest at n e =
    ap (λ l. take at bytes ++ take n l) e
    ∙ sym (sym (take-append-drop at (take (at + n) bytes)) ∙ ap (λ l. l ++ drop at (take (at + n) bytes)) (take-take at (at + n) bytes (omega arith)) ∙ ap (λ l. take at bytes ++ l) (drop-take at n bytes))

kept_on : (a b d : Option (List ℕ)) (xs : List ℕ) → Appends a b xs → Keeps b d → Appends a d xs
kept_on None b d xs h k = tt
kept_on (Some x) None d xs h k = absurd h
kept_on (Some x) (Some y) None xs h k = absurd k
kept_on (Some x) (Some y) (Some z) xs h k = k ∙ h

pub writes-preserved : goal.writes-preserved
writes-preserved g c =
    let W = g.W.Write.contents in
    let bytes = c.args.bytes.now in
    elim c.match-write.branch [
      | in-Ok w ↦
          let rest_is = take_rest bytes c.writes.at in
          record {
            wrote = subst (Appends (W c.args.writer.now) (W c.write.new.self)) (grown bytes _ c.writes.at w.in-Ok.n rest_is ∙ ap (λ m. take m bytes) (sym w.at-is)) (Appends-trans _ _ _ _ _ c.writes.invariant.wrote w.in-Ok.ensures.bytes);
            within = let l = length-drop c.writes.at bytes in let k = ap length rest_is in let b = w.in-Ok.ensures.bound in let h = c.writes.invariant.within in let f = c.if-bytes-at.false in omega (arith, w.at-is, b);
          }
      | in-Err+else-ne w ↦ record {
        wrote = subst (λ m. Appends (W c.args.writer.now) (W c.write.new.self) (take m bytes)) (sym w.at-is) (kept_on _ _ _ _ c.writes.invariant.wrote w.in-Err.ensures.bytes);
        within = let h = c.writes.invariant.within in omega (arith, w.at-is);
      }
    ]
