-- Bytes have one reading.
use Rattle.std.proofs.Common.{◌≡◌, ◌⊎◌, ℕ, List, ◌++◌, sym, ◌∙◌, subst}
use Rattle.gate_journal.proofs.Places.{one_list}
use Rattle.spool_areas.specs.Payloads.{HasPayloads, HasFirstPayloads, IsTornAfter}
use Rattle.spool_areas.proofs.Once as once

module _ (base place : ℕ) (bytes : List ℕ) where
  pub same_payloads : (some others : List (List ℕ)) → HasPayloads base some bytes → HasPayloads place others bytes → some ≡ others
  same_payloads some others a b =
      let at = subst (λ n. HasPayloads n others bytes) (once.same_base bytes base place a.current b.current) b in
      one_list some others a.entries.gate at.entries.gate a.entries.rest at.entries.rest a.entries.closed at.entries.closed a.entries.short at.entries.short (sym a.entries.stands ∙ at.entries.stands)

  pub whole_or_torn : (some others : List (List ℕ)) → HasPayloads base some bytes → IsTornAfter place others bytes → ⊥
  whole_or_torn some others a b =
      once.whole_or_torn bytes base some others a (subst (λ n. IsTornAfter n others bytes) (once.same_base bytes base place a.current b.first.current) b)

  pub one_torn : (some others : List (List ℕ)) → IsTornAfter base some bytes → IsTornAfter place others bytes → some ≡ others
  one_torn some others a b =
      once.one_torn bytes base some others a (subst (λ n. IsTornAfter n others bytes) (once.same_base bytes base place a.first.current b.first.current) b)

  pub first_of : (first all : List (List ℕ)) → HasFirstPayloads base first bytes → HasPayloads place all bytes → (rest : List (List ℕ)) × (all ≡ first ++ rest)
  first_of first all a b =
      once.first_of bytes base first all a (subst (λ n. HasPayloads n all bytes) (once.same_base bytes base place a.current b.current) b)

  pub first_of_torn : (first all : List (List ℕ)) → HasFirstPayloads base first bytes → IsTornAfter place all bytes → (rest : List (List ℕ)) × (all ≡ first ++ rest)
  first_of_torn first all a b =
      once.first_of_torn bytes base first all a (subst (λ n. IsTornAfter n all bytes) (once.same_base bytes base place a.current b.first.current) b)

  pub either_first : (some others : List (List ℕ)) → HasFirstPayloads base some bytes → HasFirstPayloads place others bytes
      → ((rest : List (List ℕ)) × (some ≡ others ++ rest)) ⊎ ((rest : List (List ℕ)) × (others ≡ some ++ rest))
  either_first some others a b =
      once.either_first bytes base some others a (subst (λ n. HasFirstPayloads n others bytes) (once.same_base bytes base place a.current b.current) b)
