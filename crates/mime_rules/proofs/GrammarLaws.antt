-- The productions of the grammar, each as a law of the reading of tokens.
use Rattle.std.proofs.Common.{◌≡◌, ℕ, zero, suc, ◌+◌, ◌*◌, ◌<◌, ◌≤◌, Bool, true, false, not, cond, ◌&&◌, List, [], ◌∷◌, ◌++◌, length, map, refl, ap, sym, subst, ◌∙◌, arith, Option, None, Some, Ok, Err}
use Rattle.std.specs.Prelude.{Result}
use Rattle.std.specs.Option.{option_to_list}
use Rattle.std.proofs.lemmas.List.{append-nil, length-map}
use std.Path.{fun_ext}
use Rattle.mime_rules.specs.declared.tokens.Token.{Token as MemoryToken}
use Rattle.mime_rules.specs.declared.stop.Stop.{Stop}
use Rattle.mime_rules.specs.declared.stop.Stop.TheVariants.{Memory, Fault}
use Rattle.spool_types.specs.declared.warning.WarningKind.{WarningKind}
use Rattle.spool_types.specs.declared.warning.WarningKind.TheVariants.{BadRule}
use Rattle.mime_rules.specs.RuleReading.{Read, read, wrong, on}
use Rattle.mime_rules.specs.Tests.{Subject, never, always, negation, both, either, any_of}
use Rattle.mime_rules.specs.Tokens.{Token, gap, comma, plus, bang, opening, closing, test, priority, fault}
use Rattle.mime_rules.specs.RuleGrammar.{after_separators, is_end, both_of, either_of, negated, behind_factor, fault_of, item_end, behind_item, list_here, factor_within, item_within, list_within, line_end, whole, most_depth, steps, list_of}
use Rattle.mime_rules.specs.RuleFields.{token_of, Reads, Stopped, ListSays, ItemSays, FactorSays, GroupSays, with_bangs, negated_meaning, all_or_none, is_bang_next, behind_bang, is_plus_next, behind_plus}

-- The list, after the separators at its front.
abbrev pub HereSays : ℕ → List Token → Read Token (Subject → Bool) → Type 0
HereSays groups ts r = (n : ℕ) → 3 * length ts + 2 ≤ n → list_here (λ here. on (behind_item (list_within n groups)) (item_within n groups here)) ts ≡ r

-- The rest of an item, after a factor: nothing, or a plus and an item.
abbrev pub RestSays : ℕ → List Token → Read Token (Option (Subject → Bool)) → Type 0
RestSays groups ts r = (n : ℕ) → 3 * length ts + 2 ≤ n → behind_factor (item_within n groups) None ts ≡ r

-- Items in front of a list.
abbrev pub any_onto : List (Subject → Bool) → (Subject → Bool) → Subject → Bool
any_onto [] k = k
any_onto (m ∷ ms) k = either m (any_onto ms k)

abbrev pub any_before : List (Subject → Bool) → Read Token (Subject → Bool) → Read Token (Subject → Bool)
any_before ms r = on (λ k. read (any_onto ms k)) r

-- Factors in front of an item's rest.
abbrev pub all_onto : List (Subject → Bool) → Option (Subject → Bool) → Option (Subject → Bool)
all_onto [] k = k
all_onto (m ∷ ms) k = both_of (Some m) (all_onto ms k)

abbrev pub all_before : List (Subject → Bool) → Read Token (Option (Subject → Bool)) → Read Token (Option (Subject → Bool))
all_before ms r = on (λ k. read (all_onto ms k)) r

pub on_read : {X A : Type 0} (r : Read X A) → on read r ≡ r
on_read (read a rest) = refl
on_read (wrong kind) = refl

not_not : (b : Bool) → not (not b) ≡ b
not_not true = refl
not_not false = refl

negation_twice : (m : Subject → Bool) → negation (negation m) ≡ m
negation_twice m = fun_ext (λ s. not_not (m s))

pub negated_twice : (r : Read Token (Option (Subject → Bool))) → negated (negated r) ≡ r
negated_twice (read None ts) = refl
negated_twice (read (Some m) ts) = ap (λ k. read (Some k) ts) (negation_twice m)
negated_twice (wrong kind) = refl

pub more_bangs : (odd : Bool) (r : Read Token (Option (Subject → Bool))) → with_bangs odd (negated r) ≡ with_bangs (not odd) r
more_bangs true r = negated_twice r
more_bangs false r = refl

-- The factors.
pub bang_says : (groups : ℕ) (ts : List Token) (r : Read Token (Option (Subject → Bool))) → FactorSays groups ts r → FactorSays groups (bang ∷ ts) (negated r)
unfolding factor_within
bang_says groups ts r says zero le = absurd (omega arith)
bang_says zero ts r says (suc n) le = ap negated (says n (omega arith))
bang_says (suc groups) ts r says (suc n) le = ap negated (says n (omega arith))

pub bang_taken : (groups : ℕ) (ts us : List Token) (r : Read Token (Option (Subject → Bool))) → is_bang_next ts ≡ true → us ≡ behind_bang ts → FactorSays groups us r → FactorSays groups ts (negated r)
bang_taken groups [] us r next is says = cc
bang_taken groups (bang ∷ ts) us r next is says = bang_says groups ts r (λ n le. ap (factor_within n groups) (sym is) ∙ says n (subst (λ v. 3 * length v + 1 ≤ n) (sym is) le))
bang_taken groups (gap ∷ ts) us r next is says = cc
bang_taken groups (comma ∷ ts) us r next is says = cc
bang_taken groups (plus ∷ ts) us r next is says = cc
bang_taken groups (opening ∷ ts) us r next is says = cc
bang_taken groups (closing ∷ ts) us r next is says = cc
bang_taken groups (test t ∷ ts) us r next is says = cc
bang_taken groups (priority p ∷ ts) us r next is says = cc
bang_taken groups (fault kind ∷ ts) us r next is says = cc

pub test_says : (groups : ℕ) (m : Subject → Bool) (ts : List Token) → FactorSays groups (test m ∷ ts) (read (Some m) ts)
unfolding factor_within
test_says groups m ts zero le = absurd (omega arith)
test_says zero m ts (suc n) le = refl
test_says (suc groups) m ts (suc n) le = refl

pub priority_says : (groups p : ℕ) (ts : List Token) → FactorSays groups (priority p ∷ ts) (read None ts)
unfolding factor_within
priority_says groups p ts zero le = absurd (omega arith)
priority_says zero p ts (suc n) le = refl
priority_says (suc groups) p ts (suc n) le = refl

pub group_says : (groups : ℕ) (ts : List Token) (r : Read Token (Option (Subject → Bool))) → GroupSays groups ts r → FactorSays groups (opening ∷ ts) r
unfolding factor_within
group_says groups ts r says zero le = absurd (omega arith)
group_says zero ts r says (suc n) le = says n (omega arith)
group_says (suc groups) ts r says (suc n) le = says n (omega arith)

pub nothing_says : (groups : ℕ) → FactorSays groups [] (wrong BadRule)
unfolding factor_within
nothing_says groups zero le = absurd (omega arith)
nothing_says zero (suc n) le = refl
nothing_says (suc groups) (suc n) le = refl

-- The token begins a factor.
abbrev pub begins : Token → Bool
begins bang = true
begins opening = true
begins (test m) = true
begins (priority n) = true
begins _ = false

pub wrong_says : (groups : ℕ) (t : Token) (ts : List Token) → begins t ≡ false → FactorSays groups (t ∷ ts) (wrong (fault_of t))
unfolding factor_within
wrong_says groups t ts h zero le = absurd (omega arith)
wrong_says zero gap ts h (suc n) le = refl
wrong_says (suc groups) gap ts h (suc n) le = refl
wrong_says zero comma ts h (suc n) le = refl
wrong_says (suc groups) comma ts h (suc n) le = refl
wrong_says zero plus ts h (suc n) le = refl
wrong_says (suc groups) plus ts h (suc n) le = refl
wrong_says zero closing ts h (suc n) le = refl
wrong_says (suc groups) closing ts h (suc n) le = refl
wrong_says zero (fault kind) ts h (suc n) le = refl
wrong_says (suc groups) (fault kind) ts h (suc n) le = refl
wrong_says groups bang ts h (suc n) le = cc
wrong_says groups opening ts h (suc n) le = cc
wrong_says groups (test m) ts h (suc n) le = cc
wrong_says groups (priority p) ts h (suc n) le = cc

-- An item: a factor, and the rest.
both_none : (m : Option (Subject → Bool)) → both_of m None ≡ m
both_none None = refl
both_none (Some m) = refl

behind_as : (more : List Token → Read Token (Option (Subject → Bool))) (m : Option (Subject → Bool)) (ts : List Token) → behind_factor more m ts ≡ on (λ k. read (both_of m k)) (behind_factor more None ts)
behind_as more m [] = ap (λ k. read k []) (sym (both_none m))
behind_as more m (plus ∷ ts) = ap (on (λ k. read (both_of m k))) (sym (on_read (more ts)))
behind_as more m (gap ∷ ts) = ap (λ k. read k (gap ∷ ts)) (sym (both_none m))
behind_as more m (comma ∷ ts) = ap (λ k. read k (comma ∷ ts)) (sym (both_none m))
behind_as more m (bang ∷ ts) = ap (λ k. read k (bang ∷ ts)) (sym (both_none m))
behind_as more m (opening ∷ ts) = ap (λ k. read k (opening ∷ ts)) (sym (both_none m))
behind_as more m (closing ∷ ts) = ap (λ k. read k (closing ∷ ts)) (sym (both_none m))
behind_as more m (test t ∷ ts) = ap (λ k. read k (test t ∷ ts)) (sym (both_none m))
behind_as more m (priority p ∷ ts) = ap (λ k. read k (priority p ∷ ts)) (sym (both_none m))
behind_as more m (fault kind ∷ ts) = ap (λ k. read k (fault kind ∷ ts)) (sym (both_none m))

pub item_says : (groups : ℕ) (ts rest : List Token) (m : Option (Subject → Bool)) (r : Read Token (Option (Subject → Bool))) →
    FactorSays groups ts (read m rest) → length rest < length ts → RestSays groups rest r → ItemSays groups ts (on (λ k. read (both_of m k)) r)
unfolding item_within
item_says groups ts rest m r factor less says zero le = absurd (omega arith)
item_says groups ts rest m r factor less says (suc n) le =
    ap (on (behind_factor (item_within n groups))) (factor n (omega arith))
    ∙ behind_as (item_within n groups) m rest
    ∙ ap (on (λ k. read (both_of m k))) (says n (omega arith))

pub item_wrong : (groups : ℕ) (ts : List Token) (kind : WarningKind) → FactorSays groups ts (wrong kind) → ItemSays groups ts (wrong kind)
unfolding item_within
item_wrong groups ts kind factor zero le = absurd (omega arith)
item_wrong groups ts kind factor (suc n) le = ap (on (behind_factor (item_within n groups))) (factor n (omega arith))

pub plus_says : (groups : ℕ) (ts : List Token) (r : Read Token (Option (Subject → Bool))) → ItemSays groups ts r → RestSays groups (plus ∷ ts) r
plus_says groups ts r says n le = on_read (item_within n groups ts) ∙ says n (omega arith)

pub plus_taken : (groups : ℕ) (ts us : List Token) (r : Read Token (Option (Subject → Bool))) → is_plus_next ts ≡ true → us ≡ behind_plus ts → ItemSays groups us r → RestSays groups ts r
plus_taken groups [] us r next is says = cc
plus_taken groups (plus ∷ ts) us r next is says = plus_says groups ts r (λ n le. ap (item_within n groups) (sym is) ∙ says n (subst (λ v. 3 * length v + 2 ≤ n) (sym is) le))
plus_taken groups (gap ∷ ts) us r next is says = cc
plus_taken groups (comma ∷ ts) us r next is says = cc
plus_taken groups (bang ∷ ts) us r next is says = cc
plus_taken groups (opening ∷ ts) us r next is says = cc
plus_taken groups (closing ∷ ts) us r next is says = cc
plus_taken groups (test t ∷ ts) us r next is says = cc
plus_taken groups (priority p ∷ ts) us r next is says = cc
plus_taken groups (fault kind ∷ ts) us r next is says = cc

pub rest_ends : (groups : ℕ) (ts : List Token) → is_plus_next ts ≡ false → RestSays groups ts (read None ts)
rest_ends groups [] h n le = refl
rest_ends groups (plus ∷ ts) h n le = cc
rest_ends groups (gap ∷ ts) h n le = refl
rest_ends groups (comma ∷ ts) h n le = refl
rest_ends groups (bang ∷ ts) h n le = refl
rest_ends groups (opening ∷ ts) h n le = refl
rest_ends groups (closing ∷ ts) h n le = refl
rest_ends groups (test t ∷ ts) h n le = refl
rest_ends groups (priority p ∷ ts) h n le = refl
rest_ends groups (fault kind ∷ ts) h n le = refl

-- A list.
pub list_says : (groups : ℕ) (ts : List Token) (r : Read Token (Subject → Bool)) → length (after_separators ts) ≤ length ts → HereSays groups (after_separators ts) r → ListSays groups ts r
unfolding list_within
list_says groups ts r le says zero lt = absurd (omega arith)
list_says groups ts r le says (suc n) lt = says n (omega arith)

pub here_ends : (groups : ℕ) (ts : List Token) → is_end ts ≡ true → HereSays groups ts (read never ts)
here_ends groups ts h n le = ap (λ v. cond v (read never ts) (on (behind_item (list_within n groups)) (item_within n groups ts))) h

pub here_wrong : (groups : ℕ) (ts : List Token) (kind : WarningKind) → is_end ts ≡ false → ItemSays groups ts (wrong kind) → HereSays groups ts (wrong kind)
here_wrong groups ts kind h item n le =
    ap (λ v. cond v (read never ts) (on (behind_item (list_within n groups)) (item_within n groups ts))) h
    ∙ ap (on (behind_item (list_within n groups))) (item n le)

pub here_breaks : (groups : ℕ) (ts rest : List Token) (m : Option (Subject → Bool)) (kind : WarningKind) → is_end ts ≡ false → ItemSays groups ts (read m rest) → item_end rest ≡ wrong kind → HereSays groups ts (wrong kind)
here_breaks groups ts rest m kind h item broken n le =
    ap (λ v. cond v (read never ts) (on (behind_item (list_within n groups)) (item_within n groups ts))) h
    ∙ ap (on (behind_item (list_within n groups))) (item n le)
    ∙ ap (on (λ _ _. on (λ k. read (either_of m k)) (list_within n groups rest))) broken

pub here_says : (groups : ℕ) (ts rest : List Token) (m : Option (Subject → Bool)) (r : Read Token (Subject → Bool)) → is_end ts ≡ false → ItemSays groups ts (read m rest) → item_end rest ≡ read true [] → length rest < length ts → ListSays groups rest r → HereSays groups ts (on (λ k. read (either_of m k)) r)
here_says groups ts rest m r h item good less says n le =
    ap (λ v. cond v (read never ts) (on (behind_item (list_within n groups)) (item_within n groups ts))) h
    ∙ ap (on (behind_item (list_within n groups))) (item n le)
    ∙ ap (on (λ _ _. on (λ k. read (either_of m k)) (list_within n groups rest))) good
    ∙ ap (on (λ k. read (either_of m k))) (says n (omega arith))

-- Collected items and factors.
pub any_before_push : (ms : List (Subject → Bool)) (m : Subject → Bool) (r : Read Token (Subject → Bool)) → any_before (ms ++ m ∷ []) r ≡ any_before ms (on (λ k. read (either m k)) r)
any_before_push ms m (wrong kind) = refl
any_before_push ms m (read k rest) = ap (λ v. read v rest) (go ms)
  where
    go : (ns : List (Subject → Bool)) → any_onto (ns ++ m ∷ []) k ≡ any_onto ns (either m k)
    go [] = refl
    go (x ∷ xs) = ap (either x) (go xs)

pub any_before_none : (ms : List (Subject → Bool)) (r : Read Token (Subject → Bool)) → any_before ms (on (λ k. read (either_of None k)) r) ≡ any_before ms r
any_before_none ms (read k rest) = refl
any_before_none ms (wrong kind) = refl

pub any_before_end : (ms : List (Subject → Bool)) (ts : List Token) → any_before ms (read never ts) ≡ read (any_of ms) ts
any_before_end ms ts = ap (λ v. read v ts) (go ms)
  where
    go : (ns : List (Subject → Bool)) → any_onto ns never ≡ any_of ns
    go [] = refl
    go (x ∷ xs) = ap (either x) (go xs)

pub all_before_push : (ms : List (Subject → Bool)) (m : Subject → Bool) (r : Read Token (Option (Subject → Bool))) → all_before (ms ++ m ∷ []) r ≡ all_before ms (on (λ k. read (both_of (Some m) k)) r)
all_before_push ms m (wrong kind) = refl
all_before_push ms m (read k rest) = ap (λ v. read v rest) (go ms)
  where
    go : (ns : List (Subject → Bool)) → all_onto (ns ++ m ∷ []) k ≡ all_onto ns (both_of (Some m) k)
    go [] = refl
    go (x ∷ xs) = ap (both_of (Some x)) (go xs)

pub all_before_none : (ms : List (Subject → Bool)) (r : Read Token (Option (Subject → Bool))) → all_before ms (on (λ k. read (both_of None k)) r) ≡ all_before ms r
all_before_none ms (read k rest) = refl
all_before_none ms (wrong kind) = refl

both_always : (m : Subject → Bool) → m ≡ both m always
both_always m = fun_ext (λ s. and_true (m s))
  where
    and_true : (b : Bool) → b ≡ (b && true)
    and_true true = refl
    and_true false = refl

pub all_onto_none : (ms : List (Subject → Bool)) → all_onto ms None ≡ all_or_none ms
all_onto_none [] = refl
all_onto_none (m ∷ []) = ap Some (both_always m)
all_onto_none (m ∷ k ∷ ms) = ap (both_of (Some m)) (all_onto_none (k ∷ ms))

-- The list of a line.
pub whole_says : (ts : List Token) (r : Read Token (Subject → Bool)) → ListSays most_depth ts r → list_of ts ≡ on whole r
unfolding list_of
whole_says ts r says = ap (on whole) (says (steps ts) (omega arith))

-- Collected items and factors, if they have a meaning.
pub any_before_kept : (ms : List (Subject → Bool)) (m : Option (Subject → Bool)) (r : Read Token (Subject → Bool)) → any_before (ms ++ option_to_list m) r ≡ any_before ms (on (λ k. read (either_of m k)) r)
any_before_kept ms None r = ap (λ v. any_before v r) (append-nil ms) ∙ sym (any_before_none ms r)
any_before_kept ms (Some m) r = any_before_push ms m r

pub all_before_kept : (ms : List (Subject → Bool)) (m : Option (Subject → Bool)) (r : Read Token (Option (Subject → Bool))) → all_before (ms ++ option_to_list m) r ≡ all_before ms (on (λ k. read (both_of m k)) r)
all_before_kept ms None r = ap (λ v. all_before v r) (append-nil ms) ∙ sym (all_before_none ms r)
all_before_kept ms (Some m) r = all_before_push ms m r

-- An item that continues after a plus, or ends.
pub item_goes_on : (groups : ℕ) (ts rest us : List Token) (ms kept : List (Subject → Bool)) (m : Option (Subject → Bool)) (r : Read Token (Option (Subject → Bool))) →
    FactorSays groups ts (read m rest) → length rest < length ts → kept ≡ ms ++ option_to_list m → is_plus_next rest ≡ true → us ≡ behind_plus rest → ItemSays groups us r →
    (entry : List Token) → ((q : Read Token (Option (Subject → Bool))) → ItemSays groups ts q → ItemSays groups entry (all_before ms q)) → ItemSays groups entry (all_before kept r)
item_goes_on groups ts rest us ms kept m r factor less is next taken says entry inv n le =
    inv (on (λ k. read (both_of m k)) r) (item_says groups ts rest m r factor less (plus_taken groups rest us r next taken says)) n le
    ∙ sym (all_before_kept ms m r) ∙ ap (λ v. all_before v r) (sym is)

pub item_ends : (groups : ℕ) (ts rest : List Token) (ms kept : List (Subject → Bool)) (m : Option (Subject → Bool)) →
    FactorSays groups ts (read m rest) → length rest < length ts → kept ≡ ms ++ option_to_list m → is_plus_next rest ≡ false →
    (entry : List Token) → ((q : Read Token (Option (Subject → Bool))) → ItemSays groups ts q → ItemSays groups entry (all_before ms q)) → ItemSays groups entry (read (all_or_none kept) rest)
item_ends groups ts rest ms kept m factor less is next entry inv n le =
    inv (on (λ k. read (both_of m k)) (read None rest)) (item_says groups ts rest m (read None rest) factor less (rest_ends groups rest next)) n le
    ∙ sym (all_before_kept ms m (read None rest)) ∙ ap (λ v. all_before v (read None rest)) (sym is) ∙ ap (λ v. read v rest) (all_onto_none kept)

pub item_stops : (groups : ℕ) (stop : Stop) (ts entry : List Token) (ms : List (Subject → Bool)) → Stopped stop (FactorSays groups ts) → ((q : Read Token (Option (Subject → Bool))) → ItemSays groups ts q → ItemSays groups entry (all_before ms q)) → Stopped stop (ItemSays groups entry)
item_stops groups Memory ts entry ms h inv = tt
item_stops groups (Fault kind) ts entry ms h inv = inv (wrong kind) (item_wrong groups ts kind h)

-- A list that continues after an item, or stops there.
pub list_goes_on : (groups : ℕ) (ts rest us : List Token) (ms kept : List (Subject → Bool)) (m : Option (Subject → Bool)) (r : Read Token (Subject → Bool)) →
    is_end ts ≡ false → ItemSays groups ts (read m rest) → length rest < length ts → kept ≡ ms ++ option_to_list m → item_end rest ≡ read true [] → us ≡ after_separators rest → length us ≤ length rest → HereSays groups us r →
    (entry : List Token) → ((q : Read Token (Subject → Bool)) → HereSays groups ts q → ListSays groups entry (any_before ms q)) → ListSays groups entry (any_before kept r)
list_goes_on groups ts rest us ms kept m r unclosed item less is good taken le says entry inv n enough =
    let rest_says : ListSays groups rest r = list_says groups rest r (subst (λ v. length v ≤ length rest) taken le) (subst (λ v. HereSays groups v r) taken says) in
    inv (on (λ k. read (either_of m k)) r) (here_says groups ts rest m r unclosed item good less rest_says) n enough
    ∙ sym (any_before_kept ms m r) ∙ ap (λ v. any_before v r) (sym is)

pub list_stops : (groups : ℕ) (stop : Stop) (ts entry : List Token) (ms : List (Subject → Bool)) → is_end ts ≡ false → Stopped stop (ItemSays groups ts) → ((q : Read Token (Subject → Bool)) → HereSays groups ts q → ListSays groups entry (any_before ms q)) → Stopped stop (ListSays groups entry)
list_stops groups Memory ts entry ms unclosed h inv = tt
list_stops groups (Fault kind) ts entry ms unclosed h inv = inv (wrong kind) (here_wrong groups ts kind unclosed h)

pub list_breaks : (groups : ℕ) (stop : Stop) (ts rest entry : List Token) (ms : List (Subject → Bool)) (m : Option (Subject → Bool)) → is_end ts ≡ false → ItemSays groups ts (read m rest) → Stopped stop (λ r. item_end rest ≡ r) → ((q : Read Token (Subject → Bool)) → HereSays groups ts q → ListSays groups entry (any_before ms q)) → Stopped stop (ListSays groups entry)
list_breaks groups Memory ts rest entry ms m unclosed item h inv = tt
list_breaks groups (Fault kind) ts rest entry ms m unclosed item h inv = inv (wrong kind) (here_breaks groups ts rest m kind unclosed item h)

pub list_ends : (groups : ℕ) (ts entry : List Token) (ms : List (Subject → Bool)) → is_end ts ≡ true → ((q : Read Token (Subject → Bool)) → HereSays groups ts q → ListSays groups entry (any_before ms q)) → ListSays groups entry (read (any_of ms) ts)
list_ends groups ts entry ms at_end inv n le = inv (read never ts) (here_ends groups ts at_end) n le ∙ any_before_end ms ts

-- A factor after its `!`s.
pub factor_stops : (groups : ℕ) (stop : Stop) (odd : Bool) (ts entry : List Token) → Stopped stop (FactorSays groups ts) → ((q : ℕ) (r : Read Token (Option (Subject → Bool))) → FactorSays q ts r → FactorSays q entry (with_bangs odd r)) → Stopped stop (FactorSays groups entry)
factor_stops groups Memory odd ts entry h turns = tt
factor_stops groups (Fault kind) true ts entry h turns = turns groups (wrong kind) h
factor_stops groups (Fault kind) false ts entry h turns = turns groups (wrong kind) h

pub factor_with_bangs : (groups : ℕ) (odd : Bool) (ts rest entry : List Token) (m k : Option (Subject → Bool)) → FactorSays groups ts (read m rest) → k ≡ negated_meaning odd m → ((q : ℕ) (r : Read Token (Option (Subject → Bool))) → FactorSays q ts r → FactorSays q entry (with_bangs odd r)) → FactorSays groups entry (read k rest)
factor_with_bangs groups true ts rest entry m k h is turns n le = turns groups (read m rest) h n le ∙ ap (λ v. read v rest) (sym is)
factor_with_bangs groups false ts rest entry m k h is turns n le = turns groups (read m rest) h n le ∙ ap (λ v. read v rest) (sym is)

-- A line with an error inside its list or after it.
pub line_stops : (stop : Stop) (ts : List Token) → Stopped stop (ListSays most_depth ts) → Stopped stop (λ r. list_of ts ≡ r)
line_stops Memory ts h = tt
line_stops (Fault kind) ts h = whole_says ts (wrong kind) h

pub line_left : (stop : Stop) (ts rest : List Token) (m : Subject → Bool) → ListSays most_depth ts (read m rest) → Stopped stop (λ r. line_end rest ≡ r) → Stopped stop (λ r. list_of ts ≡ r)
line_left Memory ts rest m says h = tt
line_left (Fault kind) ts rest m says h = whole_says ts (read m rest) says ∙ ap (on (λ _ _. read m [])) h

pub line_good : (ts rest : List Token) (m : Subject → Bool) → ListSays most_depth ts (read m rest) → line_end rest ≡ read true [] → list_of ts ≡ read m []
line_good ts rest m says h = whole_says ts (read m rest) says ∙ ap (on (λ _ _. read m [])) h

-- The first items of a list.
pub list_begins : (groups : ℕ) (ts us : List Token) (r : Read Token (Subject → Bool)) (ms : List (Subject → Bool)) → us ≡ after_separators ts → length us ≤ length ts → ms ≡ [] → HereSays groups us r → ListSays groups ts (any_before ms r)
list_begins groups ts us r ms is le empty says n enough =
    list_says groups ts r (subst (λ v. length v ≤ length ts) is le) (subst (λ v. HereSays groups v r) is says) n enough ∙ sym (ap (λ v. any_before v r) empty ∙ on_read r)

pub behind_none : (ts : List Token) → is_plus_next ts ≡ false → ts ≡ behind_plus ts
behind_none [] h = refl
behind_none (t ∷ ts) h = ap (λ v. cond v ts (t ∷ ts)) (sym h)

-- A factor that begins with this token.
pub factor_along : (groups : ℕ) (ts us : List Token) (r : Read Token (Option (Subject → Bool))) → ts ≡ us → FactorSays groups us r → FactorSays groups ts r
factor_along groups ts us r is says = subst (λ v. FactorSays groups v r) (sym is) says

pub popped : (all rest : List MemoryToken) (t u : MemoryToken) → all ≡ t ∷ rest → t ≡ u → map token_of all ≡ token_of u ∷ map token_of rest
popped all rest t u is same = ap (map token_of) is ∙ ap (λ v. token_of v ∷ map token_of rest) same

pub nothing_left : (groups : ℕ) (all : List MemoryToken) → length all ≡ 0 → FactorSays groups (map token_of all) (wrong BadRule)
nothing_left groups [] h = nothing_says groups
nothing_left groups (t ∷ rest) h = absurd (omega arith)

pub no_bang : (all rest : List Token) (C : Type 0) → is_bang_next all ≡ false → all ≡ bang ∷ rest → C
no_bang all rest C h is = absurd (true_is_false (sym (ap is_bang_next is) ∙ h))
  where
    true_is_false : true ≡ false → ⊥
    true_is_false e = cc

pub shorter_map : (xs ys : List MemoryToken) → length xs < length ys → length (map token_of xs) < length (map token_of ys)
shorter_map xs ys h = omega (arith, length-map xs token_of, length-map ys token_of)

pub no_longer_map : (xs ys : List MemoryToken) → length xs ≤ length ys → length (map token_of xs) ≤ length (map token_of ys)
no_longer_map xs ys h = omega (arith, length-map xs token_of, length-map ys token_of)

-- A group, with its opening parenthesis.
pub opened_reads : {V : Type 0} (result : Result V Stop) (seen : V → Read Token (Option (Subject → Bool))) (groups : ℕ) (all rest : List Token) → all ≡ opening ∷ rest → Reads result seen (GroupSays groups rest) → Reads result seen (FactorSays groups all)
opened_reads (Ok v) seen groups all rest is h = factor_along groups all (opening ∷ rest) (seen v) is (group_says groups rest (seen v) h)
opened_reads (Err Memory) seen groups all rest is h = tt
opened_reads (Err (Fault kind)) seen groups all rest is h = factor_along groups all (opening ∷ rest) (wrong kind) is (group_says groups rest (wrong kind) h)
