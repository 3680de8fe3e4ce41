-- The first line is the part's name.
use Rattle.std.proofs.Common.{◌≡◌, ◌∙◌, ◌++◌, ◌∷◌, List, ℕ, Option, Some, None, true, false, ap, arith, sym}
use Rattle.std.specs.Borrow.{Bor}
use Rattle.std.specs.Prelude.{IfNone}
use Rattle.std.proofs.lemmas.Slice.Eq.{bytes_eq-Decides}
use Rattle.std.proofs.lemmas.Str.Pattern.{IsSplitOnceResult, split_after, split_parts}
use Rattle.spool_admin.specs.Record.{IsNoted, is_part}
use Rattle.spool_admin.proofs.record.part_in.Goals as goal
use Rattle.spool_admin.proofs.record.part_in.Goals.{else-eq-via-then-eq+else-is_part, else-eq-via-else-eq}

same_parts : (part words text : List ℕ) (x : Bor (List ℕ) × Bor (List ℕ)) → IsSplitOnceResult 10 text (Some x) → IsNoted part words text → (x.0.now ≡ part) × (x.1.now ≡ words)
same_parts part words text x h is = split_after 10 text part words (Some x) h (omega arith) is.text_is is.one_line

no_parts : (part words text : List ℕ) → IsSplitOnceResult 10 text None → IsNoted part words text → ⊥
no_parts part words text h is = split_after 10 text part words None h (omega arith) is.text_is is.one_line

noted_so : (text words : List ℕ) (x : Bor (List ℕ) × Bor (List ℕ)) → IsSplitOnceResult 10 text (Some x) → x.1.now ≡ words → is_part x.0.now ≡ true → IsNoted x.0.now words text
noted_so text words x h is name =
    let parts = split_parts 10 text (Some x) h (omega arith) in
    record { text_is = parts.0 ∙ ap (λ (ws : List ℕ). x.0.now ++ (10 ∷ ws)) is; name = name; one_line = parts.1 }

said : {T : Type 0} (o : Option T) (P : Type 0) → P → IfNone o P
said None P p = p
said (Some x) P p = tt

pub returns-in_err-part-clause-none : goal.returns-in_err-part-clause-none
returns-in_err-part-clause-none c = said c.from_residual.result _ (λ part. no_parts part c.args.words.now c.args.text.now c.in_err-part.ensures.cases)

pub returns-then-is_part-clause-some : goal.returns-then-is_part-clause-some
returns-then-is_part-clause-some c =
    noted_so c.args.text.now c.args.words.now (c.in_ok-part.part, c.in_ok-part.others) c.in_ok-part.ensures.cases
    ((bytes_eq-Decides c.in_ok-part.others.now c.args.words.now).0 (sym c.eq.ensures ∙ c.if-eq.true)) (sym c.is_part.ensures ∙ c.if-is_part.true)

pub returns-else-eq-clause-none : goal.returns-else-eq-clause-none
returns-else-eq-clause-none c = λ part is.
    let same = same_parts part c.args.words.now c.args.text.now (c.in_ok-part.part, c.in_ok-part.others) c.in_ok-part.ensures.cases is in
    elim c.else-eq.branch [
      | else-eq-via-then-eq+else-is_part w ↦
          let bad : false ≡ true = sym w.if-is_part.false ∙ w.is_part.ensures ∙ ap is_part same.0 ∙ is.name in
          cc
      | else-eq-via-else-eq w ↦
          let bad : false ≡ true = sym w.if-eq.false ∙ c.eq.ensures ∙ (bytes_eq-Decides c.in_ok-part.others.now c.args.words.now).1 same.1 in
          cc
    ]
