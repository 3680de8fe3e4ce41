-- The search for a text within another.
use Rattle.std.proofs.Common.{◌≡◌, ℕ, zero, suc, ◌+◌, ◌≤◌, Bool, true, false, ◌||◌, ◌&&◌, List, [], ◌∷◌, length, take, drop, length-drop, length-take, refl, ap, sym, ◌∙◌, arith, Option, None, Some}
use Rattle.std.specs.Prelude.{is_some, nat_le}
use Rattle.std.proofs.lemmas.Slice.Eq.{bytes_eq-Decides}
use Rattle.memchr.specs.Find.{OccursAt, FindsNeedle}
use Rattle.memchr.proofs.lemmas.MatchLemmas.{occurs_at-true, OccursAt-from_part}
use Rattle.mime_rules.specs.Tests.{some_end, stands}

or_right : (a b : Bool) → b ≡ true → (a || b) ≡ true
or_right true b h = refl
or_right false b h = h

and_right : (a b : Bool) → (a && b) ≡ true → b ≡ true
and_right true b h = h
and_right false b h = cc

end_at : (test : List ℕ → Bool) (bs : List ℕ) (k : ℕ) → k ≤ length bs → test (drop k bs) ≡ true → some_end test bs ≡ true
end_at test [] zero le h = h
end_at test [] (suc k) le h = absurd (omega arith)
end_at test (b ∷ bs) zero le h = ap (λ v. v || some_end test bs) h
end_at test (b ∷ bs) (suc k) le h = or_right (test (b ∷ bs)) (some_end test bs) (end_at test bs k (omega arith) h)

none_at : (test : List ℕ → Bool) (bs : List ℕ) → ((k : ℕ) → k ≤ length bs → test (drop k bs) ≡ false) → some_end test bs ≡ false
none_at test [] h = h 0 (omega arith)
none_at test (b ∷ bs) h = ap (λ v. v || some_end test bs) (h 0 (omega arith)) ∙ none_at test bs (λ k le. h (suc k) (omega arith))

not_true : (b : Bool) → (b ≡ true → ⊥) → b ≡ false
not_true true h = absurd (h refl)
not_true false h = refl

-- A text at the front of the rest is at most as long as the rest.
stands_occurs : (hay needle : List ℕ) (k : ℕ) → k ≤ length hay → stands needle (drop k hay) ≡ true → OccursAt hay needle k
stands_occurs hay needle k le h =
    let same : take (length needle) (drop k hay) ≡ needle = (bytes_eq-Decides (take (length needle) (drop k hay)) needle).0 h in
    OccursAt-from_part hay needle k (omega (arith, length-drop k hay, length-take (length needle) (drop k hay), ap length same)) same

pub found_some : (hay needle : List ℕ) (r : Option ℕ) → FindsNeedle hay needle 0 r → is_some r ≡ some_end (stands needle) hay
found_some hay needle None nowhere =
    sym (none_at (stands needle) hay (λ k le. not_true (stands needle (drop k hay)) (λ h. nowhere k (omega arith) (omega arith) (stands_occurs hay needle k le h))))
found_some hay needle (Some k) first =
    let occurs = first.1 in
    sym (end_at (stands needle) hay k (omega (arith, occurs.fits)) (and_right (nat_le (k + length needle) (length hay)) (stands needle (drop k hay)) (occurs_at-true hay needle k occurs)))
