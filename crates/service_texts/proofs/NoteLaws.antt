-- Changes that are noted one after another.
use Rattle.std.proofs.Common.{◌≡◌, ◌≤◌, ◌<◌, ◌+◌, ◌-◌, ℕ, List, [], ◌∷◌, ◌++◌, length, take, drop, get_or, refl, sym, ap, ◌∙◌, add-one, arith}
use Rattle.std.proofs.Math.Seq.{take-suc}
use Rattle.std.proofs.lemmas.List.{get_or-drop, length-drop}
use Rattle.event_records.specs.declared.changes.Subject.{Subject}
use Rattle.service_texts.specs.Notices.{Noted, nothing_noted, with_subject, with_subjects}

subjects_more : (n : Noted) (xs : List Subject) (x : Subject) → with_subjects n (xs ++ x ∷ []) ≡ with_subject (with_subjects n xs) x
subjects_more n [] x = refl
subjects_more n (y ∷ ys) x = subjects_more (with_subject n y) ys x

-- One more of the changes from a position on.
pub noted_next : (items : List Subject) (start i : ℕ) (x : Subject) → start ≤ i → i < length items → x ≡ get_or items i x →
    with_subjects nothing_noted (take (i + 1 - start) (drop start items)) ≡ with_subject (with_subjects nothing_noted (take (i - start) (drop start items))) x
noted_next items start i x le lt is =
    let k = i - start in
    let count = length-drop start items in
    let there : k < length (drop start items) = omega (arith, le, lt, count) in
    let place : start + k ≡ i = omega (arith, le) in
    let next : i + 1 - start ≡ k + 1 = omega (arith, le) in
    let item : get_or (drop start items) k x ≡ x = get_or-drop start items k x ∙ ap (λ j. get_or items j x) place ∙ sym is in
    ap (λ j. with_subjects nothing_noted (take j (drop start items))) (next ∙ add-one k)
    ∙ ap (with_subjects nothing_noted) (take-suc (drop start items) k x there ∙ ap (λ z. take k (drop start items) ++ z ∷ []) item)
    ∙ subjects_more nothing_noted (take k (drop start items)) x
