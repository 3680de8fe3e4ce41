-- The type of a document.
use Rattle.std.specs.Prelude.{◌≡◌, ℕ, Bool, false, ◌||◌, ◌&&◌, cond, nat_lt, ◌==◌, IsTrue, List, [], ◌∷◌, Option, None, Some}
use Rattle.std.specs.List.{Contains, All}
use Rattle.std.specs.Option.{option_map}
use Rattle.std.specs.Ordering.{nat_cmp, is_lt}
use Rattle.std.specs.Cmp.Lexicographic.{slice_cmp}
use Rattle.mime_rules.specs.Tests.{Subject}
use Rattle.mime_rules.specs.RuleLines.{Alternative}

-- `a` has a higher priority, or the same priority and a type that is alphabetically before.
abbrev pub beats : Alternative → Alternative → Bool
beats a b = nat_lt b.priority a.priority || (a.priority == b.priority && is_lt (slice_cmp nat_cmp a.media b.media))

abbrev pub better : Alternative → Option Alternative → Alternative
better a None = a
better a (Some b) = cond (beats b a) b a

-- The best of the alternatives that are true.
abbrev pub best : Subject → List Alternative → Option Alternative
best s [] = None
best s (a ∷ as') = cond (a.rule s) (Some (better a (best s as'))) (best s as')

abbrev pub type_of : Subject → List Alternative → Option (List ℕ)
type_of s all = option_map (λ a. a.media) (best s all)

-- The alternative is true, and no true one beats it.
pub record IsBest (s : Subject) (all : List Alternative) (a : Alternative) : Type 0 where
  pub listed : Contains all a
  pub holds : IsTrue (a.rule s)
  pub unbeaten : All (λ b. IsTrue (b.rule s) → beats b a ≡ false) all

-- No alternative is true.
abbrev pub NoneHolds : Subject → List Alternative → Type 0
NoneHolds s all = All (λ a. a.rule s ≡ false) all
