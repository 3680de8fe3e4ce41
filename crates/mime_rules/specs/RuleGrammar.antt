-- The grammar of a list of rules, over its tokens.
use Rattle.std.specs.Prelude.{ℕ, zero, suc, ◌+◌, ◌*◌, Bool, true, false, ◌||◌, cond, List, [], ◌∷◌, length, Option, None, Some}
use Rattle.std.specs.Option.{option_map}
use Rattle.spool_types.specs.declared.warning.WarningKind.{WarningKind}
use Rattle.spool_types.specs.declared.warning.WarningKind.TheVariants.{BadRule}
use Rattle.mime_rules.specs.RuleReading.{Read, read, wrong, on}
use Rattle.mime_rules.specs.Tests.{Subject, never, negation, both, either}
use Rattle.mime_rules.specs.Tokens.{Token, gap, comma, plus, bang, opening, closing, test, priority, fault}

-- The maximum nesting depth of groups.
abbrev pub most_depth : ℕ
most_depth = 16

abbrev pub separates : Token → Bool
separates gap = true
separates comma = true
separates _ = false

abbrev pub closes : Token → Bool
closes closing = true
closes _ = false

abbrev pub is_end : List Token → Bool
is_end [] = true
is_end (t ∷ ts) = closes t

-- Items are separated by any number of blanks and commas.
abbrev pub after_separators : List Token → List Token
after_separators [] = []
after_separators (t ∷ ts) = cond (separates t) (after_separators ts) (t ∷ ts)

-- A factor or an item of priorities only has no meaning, and is left out of the item or list that contains it.
abbrev pub both_of : Option (Subject → Bool) → Option (Subject → Bool) → Option (Subject → Bool)
both_of None k = k
both_of (Some m) None = Some m
both_of (Some m) (Some k) = Some (both m k)

abbrev pub either_of : Option (Subject → Bool) → (Subject → Bool) → Subject → Bool
either_of None k = k
either_of (Some m) k = either m k

-- A factor is negated.
abbrev pub negated : Read Token (Option (Subject → Bool)) → Read Token (Option (Subject → Bool))
negated factor = on (λ m. read (option_map negation m)) factor

-- A group ends with its closing parenthesis.
abbrev pub group_end : (Subject → Bool) → List Token → Read Token (Option (Subject → Bool))
group_end m (closing ∷ ts) = read (Some m) ts
group_end m _ = wrong BadRule

abbrev pub in_group : Read Token (Subject → Bool) → Read Token (Option (Subject → Bool))
in_group inner = on group_end inner

-- A factor: `!` and a factor, a list in parentheses, a test or a priority. inner reads the list, next the factor after `!`.
abbrev pub factor_at : (List Token → Read Token (Subject → Bool)) → (List Token → Read Token (Option (Subject → Bool))) → List Token → Read Token (Option (Subject → Bool))
factor_at inner next [] = wrong BadRule
factor_at inner next (test m ∷ ts) = read (Some m) ts
factor_at inner next (priority n ∷ ts) = read None ts
factor_at inner next (bang ∷ ts) = negated (next ts)
factor_at inner next (opening ∷ ts) = in_group (inner ts)
factor_at inner next (fault kind ∷ ts) = wrong kind
factor_at inner next (gap ∷ ts) = wrong BadRule
factor_at inner next (comma ∷ ts) = wrong BadRule
factor_at inner next (plus ∷ ts) = wrong BadRule
factor_at inner next (closing ∷ ts) = wrong BadRule

-- After a plus the item continues.
abbrev pub behind_factor : (List Token → Read Token (Option (Subject → Bool))) → Option (Subject → Bool) → List Token → Read Token (Option (Subject → Bool))
behind_factor more m [] = read m []
behind_factor more m (plus ∷ ts) = on (λ k. read (both_of m k)) (more ts)
behind_factor more m (t ∷ ts) = read m (t ∷ ts)

-- The error for an unexpected token.
abbrev pub fault_of : Token → WarningKind
fault_of (fault kind) = kind
fault_of _ = BadRule

-- An item must be followed by a separator or the end of the list.
abbrev pub item_end : List Token → Read Token Bool
item_end [] = read true []
item_end (t ∷ ts) = cond (separates t || closes t) (read true []) (wrong (fault_of t))

abbrev pub behind_item : (List Token → Read Token (Subject → Bool)) → Option (Subject → Bool) → List Token → Read Token (Subject → Bool)
behind_item more m ts = on (λ _ _. on (λ k. read (either_of m k)) (more ts)) (item_end ts)

-- A list ends with its tokens or before a closing parenthesis.
abbrev pub list_here : (List Token → Read Token (Subject → Bool)) → List Token → Read Token (Subject → Bool)
list_here items ts = cond (is_end ts) (read never ts) (items ts)

-- A factor, an item and a list. The first number bounds the steps, the second the groups that may still be nested.
unfoldable mutual
  pub factor_within : ℕ → ℕ → List Token → Read Token (Option (Subject → Bool))
  factor_within zero groups ts = wrong BadRule
  factor_within (suc n) zero ts = factor_at (λ _. wrong BadRule) (factor_within n zero) ts
  factor_within (suc n) (suc groups) ts = factor_at (list_within n groups) (factor_within n (suc groups)) ts

  pub item_within : ℕ → ℕ → List Token → Read Token (Option (Subject → Bool))
  item_within zero groups ts = wrong BadRule
  item_within (suc n) groups ts = on (behind_factor (item_within n groups)) (factor_within n groups ts)

  pub list_within : ℕ → ℕ → List Token → Read Token (Subject → Bool)
  list_within zero groups ts = wrong BadRule
  list_within (suc n) groups ts = list_here (λ here. on (behind_item (list_within n groups)) (item_within n groups here)) (after_separators ts)

-- Nothing may follow the list of a line.
abbrev pub line_end : List Token → Read Token Bool
line_end [] = read true []
line_end (t ∷ ts) = wrong (fault_of t)

abbrev pub whole : (Subject → Bool) → List Token → Read Token (Subject → Bool)
whole m ts = on (λ _ _. read m []) (line_end ts)

-- More steps than a list of this many tokens takes.
abbrev pub steps : List Token → ℕ
steps ts = 3 * length ts + 3

-- The list of a line: its meaning, or its first error.
unfoldable pub list_of : List Token → Read Token (Subject → Bool)
list_of ts = on whole (list_within (steps ts) most_depth ts)

-- The last priority counts. The default is 100.
abbrev pub last_priority : ℕ → List Token → ℕ
last_priority p [] = p
last_priority p (priority n ∷ ts) = last_priority n ts
last_priority p (t ∷ ts) = last_priority p ts

abbrev pub priority_of : List Token → ℕ
priority_of ts = last_priority 100 ts
