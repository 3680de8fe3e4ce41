-- Pairs with unique names.
use Rattle.std.proofs.Common.{◌≡◌, ℕ, Bool, true, false, ◌&&◌, not, cond, nat_eq, nat_lt, codes, List, [], ◌∷◌, ◌++◌, refl, ap, sym, ◌∙◌, bytes_eq, eqb, length, arith, option_map, Some, Result, Ok, Err}
use Rattle.std.proofs.lemmas.Bool.{and_parts, and_from, not-true, not_from_false, or_parts, or_from, false_from_ne_true, true≢false, le-leb}
use Rattle.std.proofs.lemmas.Slice.Eq.{bytes_eq-Decides}
use Rattle.std.proofs.lemmas.List.{append_assoc, append-nil}
use Rattle.std.specs.Cow.{cow_str_bytes}
use Rattle.std.specs.List.{list_any, list_all, before_first, after_first, starts_with}
use Rattle.std.specs.Map.{lookup}
use Rattle.std.specs.declared.borrow.CowStr.{CowStr}
use denote.Ref.{Bor}
use Rattle.indexmap.specs.IndexMap.{insert_entry}
use Rattle.spool_types.specs.Values.{is_word_byte}
use Rattle.filter_args.specs.declared.fault.OptionFault.{OptionFault}
use Rattle.filter_args.specs.declared.fault.OptionFault.TheVariants.{BadName}
use Rattle.filter_args.specs.Pairs.{Pair, is_option_name, put, put_all, value_of, is_among, are_options}
use Rattle.filter_args.specs.OptionTexts.{is_some_bytes, is_equals, bare_pair, value_in, named, named_pair, pair_in, put_read, with_word}
use Rattle.filter_args.specs.OptionFields.{pair_of, pairs_of}

other_way : (n m : List ℕ) → bytes_eq n m ≡ false → bytes_eq m n ≡ false
other_way n m h = false_from_ne_true (bytes_eq m n) (λ e. true≢false (sym ((bytes_eq-Decides n m).1 (sym ((bytes_eq-Decides m n).0 e))) ∙ h))

is_among-put : (n : List ℕ) (qs : List Pair) (p : Pair) → is_among n qs ≡ false → bytes_eq n p.0 ≡ false → is_among n (put qs p) ≡ false
is_among-put n [] p h k = or_from _ _ k refl
is_among-put n (q ∷ qs) p h k =
    let parts = or_parts (bytes_eq n q.0) (is_among n qs) h in
    elim (bytes_eq p.0 q.0) as (λ v. is_among n (cond v ((q.0, p.1) ∷ qs) (q ∷ put qs p)) ≡ false) [
      | true ↦ h
      | false ↦ or_from _ _ parts.0 (is_among-put n qs p parts.1 k)
    ]

-- Adding a pair leaves each name unique.
pub put-are_options : (qs : List Pair) (p : Pair) → are_options qs ≡ true → is_option_name p.0 ≡ true → are_options (put qs p) ≡ true
put-are_options [] p h k = and_from _ _ k refl
put-are_options (q ∷ qs) p h k =
    let parts = and_parts (is_option_name q.0) (not (is_among q.0 qs) && are_options qs) h in
    let rest = and_parts (not (is_among q.0 qs)) (are_options qs) parts.1 in
    by (bytes_eq p.0 q.0) refl parts rest (put-are_options qs p rest.1 k)
  where
    by : (v : Bool) → bytes_eq p.0 q.0 ≡ v → (is_option_name q.0 ≡ true) × ((not (is_among q.0 qs) && are_options qs) ≡ true) → (not (is_among q.0 qs) ≡ true) × (are_options qs ≡ true)
        → are_options (put qs p) ≡ true → are_options (cond v ((q.0, p.1) ∷ qs) (q ∷ put qs p)) ≡ true
    by true e parts rest more = h
    by false e parts rest more = and_from _ _ parts.0 (and_from _ _ (not_from_false _ (is_among-put q.0 qs p (not-true _ rest.0) (other_way p.0 q.0 e))) more)

-- A new name comes last.
put-new : (qs : List Pair) (p : Pair) → is_among p.0 qs ≡ false → put qs p ≡ qs ++ p ∷ []
put-new [] p h = refl
put-new (q ∷ qs) p h =
    let parts = or_parts (bytes_eq p.0 q.0) (is_among p.0 qs) h in
    ap (λ v. cond v ((q.0, p.1) ∷ qs) (q ∷ put qs p)) parts.0 ∙ ap (λ l. q ∷ l) (put-new qs p parts.1)

is_among-append : (n : List ℕ) (qs : List Pair) (p : Pair) (ps : List Pair) → is_among n (qs ++ p ∷ ps) ≡ false → bytes_eq n p.0 ≡ false
is_among-append n [] p ps h = (or_parts (bytes_eq n p.0) (is_among n ps) h).0
is_among-append n (q ∷ qs) p ps h = is_among-append n qs p ps (or_parts (bytes_eq n q.0) (is_among n (qs ++ p ∷ ps)) h).1

-- A name in the middle is not among the names before it.
fresh : (qs : List Pair) (p : Pair) (ps : List Pair) → are_options (qs ++ p ∷ ps) ≡ true → is_among p.0 qs ≡ false
fresh [] p ps h = refl
fresh (q ∷ qs) p ps h =
    let parts = and_parts (is_option_name q.0) (not (is_among q.0 (qs ++ p ∷ ps)) && are_options (qs ++ p ∷ ps)) h in
    let rest = and_parts (not (is_among q.0 (qs ++ p ∷ ps))) (are_options (qs ++ p ∷ ps)) parts.1 in
    or_from _ _ (other_way q.0 p.0 (is_among-append q.0 qs p ps (not-true _ rest.0))) (fresh qs p ps rest.1)

put_all-append : (qs ps : List Pair) → are_options (qs ++ ps) ≡ true → put_all qs ps ≡ qs ++ ps
put_all-append qs [] h = sym (append-nil qs)
put_all-append qs (p ∷ ps) h =
    ap (λ l. put_all l ps) (put-new qs p (fresh qs p ps h))
    ∙ put_all-append (qs ++ p ∷ []) ps (ap are_options (append_assoc qs (p ∷ []) ps) ∙ h)
    ∙ append_assoc qs (p ∷ []) ps

-- Options that are added in order are these options.
pub put_all-options : (ps : List Pair) → are_options ps ≡ true → put_all [] ps ≡ ps
put_all-options ps h = put_all-append [] ps h

-- ## The map in memory

module _ {Z : Type 0} where
  -- A map takes a pair as the list does.
  pub pairs_of-insert : (es : List (Bor (List ℕ) × CowStr Z)) (name : Bor (List ℕ)) (value : CowStr Z)
      → pairs_of (insert_entry (λ x y. bytes_eq x.now y.now) es name value) ≡ put (pairs_of es) (pair_of (name, value))
  pairs_of-insert [] name value = refl
  pairs_of-insert (e ∷ es) name value =
      elim (bytes_eq name.now e.0.now) as (λ v. pairs_of (cond v ((e.0, value) ∷ es) (e ∷ insert_entry (λ x y. bytes_eq x.now y.now) es name value)) ≡ cond v ((e.0.now, cow_str_bytes value) ∷ pairs_of es) (pair_of e ∷ put (pairs_of es) (pair_of (name, value)))) [
        | true ↦ refl
        | false ↦ ap (λ l. pair_of e ∷ l) (pairs_of-insert es name value)
      ]

  -- A map finds a value as the list does.
  pub value_of-pairs_of : (name : List ℕ) (es : List (Bor (List ℕ) × CowStr Z)) → option_map cow_str_bytes (lookup (λ k. bytes_eq name k.now) es) ≡ value_of name (pairs_of es)
  value_of-pairs_of name [] = refl
  value_of-pairs_of name (e ∷ es) =
      elim (bytes_eq name e.0.now) as (λ v. option_map cow_str_bytes (cond v (Some e.1) (lookup (λ k. bytes_eq name k.now) es)) ≡ cond v (Some (cow_str_bytes e.1)) (value_of name (pairs_of es))) [
        | true ↦ refl
        | false ↦ value_of-pairs_of name es
      ]

-- ## A word's pair

bare_pair-name : (name : List ℕ) → is_option_name name ≡ true → is_option_name (bare_pair name).0 ≡ true
bare_pair-name [] h = h
bare_pair-name (a ∷ []) h = h
bare_pair-name (a ∷ b ∷ []) h = h
bare_pair-name (a ∷ b ∷ c ∷ rest) h =
    let all = (and_parts _ (list_all is_word_byte (a ∷ b ∷ c ∷ rest)) h).1 in
    let tail = (and_parts (is_word_byte b) (list_all is_word_byte (c ∷ rest)) (and_parts (is_word_byte a) (list_all is_word_byte (b ∷ c ∷ rest)) all).1).1 in
    by (nat_lt 2 (length (a ∷ b ∷ c ∷ rest)) && starts_with nat_eq (a ∷ b ∷ c ∷ rest) (codes "no")) tail
  where
    by : (v : Bool) → list_all is_word_byte (c ∷ rest) ≡ true → is_option_name (cond {A = Pair} v (c ∷ rest, codes "false") (a ∷ b ∷ c ∷ rest, codes "true")).0 ≡ true
    by true tail = and_from _ _ (le-leb 1 _ (omega arith)) tail
    by false tail = h

named-name : (name : List ℕ) (value : Result (List ℕ) OptionFault) (p : Pair) → named name value ≡ Ok p → name ≡ p.0
named-name name (Ok value) p h = ap (λ r. name_in r) h
  where
    name_in : Result Pair OptionFault → List ℕ
    name_in (Ok q) = q.0
    name_in (Err fault) = name
named-name name (Err fault) p h = absurd (cc)

-- It has a name.
pub pair_in-name : (word : List ℕ) (p : Pair) → pair_in word ≡ Ok p → is_option_name p.0 ≡ true
pair_in-name word p = split (list_any is_equals word)
  where
    of_name : (v : Bool) → is_option_name word ≡ v → cond v (Ok (bare_pair word)) (Err BadName) ≡ Ok p → is_option_name p.0 ≡ true
    of_name true e h = let same : bare_pair word ≡ p = cc in ap (λ q. is_option_name q.0) (sym same) ∙ bare_pair-name word e
    of_name false e h = absurd (cc)

    of_pair : (v : Bool) → is_option_name (before_first is_equals word) ≡ v
        → cond v (named (before_first is_equals word) (value_in (after_first is_equals word))) (Err BadName) ≡ Ok p → is_option_name p.0 ≡ true
    of_pair true e h = ap is_option_name (sym (named-name (before_first is_equals word) (value_in (after_first is_equals word)) p h)) ∙ e
    of_pair false e h = absurd (cc)

    split : (v : Bool)
        → cond v (named_pair (before_first is_equals word) (after_first is_equals word)) (cond (is_option_name word) (Ok (bare_pair word)) (Err BadName)) ≡ Ok p
        → is_option_name p.0 ≡ true
    split true h = of_pair (is_option_name (before_first is_equals word)) refl h
    split false h = of_name (is_option_name word) refl h

-- The result is a list of options.
pub with_word-options : (qs : List Pair) (word : List ℕ) (rs : List Pair) → are_options qs ≡ true → with_word qs word ≡ Ok rs → are_options rs ≡ true
with_word-options qs word rs h = some (is_some_bytes word)
  where
    read : (r : Result Pair OptionFault) → pair_in word ≡ r → put_read qs r ≡ Ok rs → are_options rs ≡ true
    read (Ok p) e k = let same : put qs p ≡ rs = cc in ap are_options (sym same) ∙ put-are_options qs p h (pair_in-name word p e)
    read (Err fault) e k = absurd (cc)

    some : (v : Bool) → cond v (put_read qs (pair_in word)) (Ok qs) ≡ Ok rs → are_options rs ≡ true
    some true k = read (pair_in word) refl k
    some false k = let same : qs ≡ rs = cc in ap are_options (sym same) ∙ h

-- A word's pair, inserted into the map.
pub with_word-put : {Z : Type 0} (es new : List (Bor (List ℕ) × CowStr Z)) (word : List ℕ) (name : Bor (List ℕ)) (value : CowStr Z)
    → is_some_bytes word ≡ true → pair_in word ≡ Ok (pair_of (name, value)) → new ≡ insert_entry (λ x y. bytes_eq x.now y.now) es name value
    → with_word (pairs_of es) word ≡ Ok (pairs_of new)
with_word-put es new word name value some read same =
    ap (λ v. cond v (put_read (pairs_of es) (pair_in word)) (Ok (pairs_of es))) some
    ∙ ap (put_read (pairs_of es)) read
    ∙ ap (λ l. Ok l) (sym (pairs_of-insert es name value) ∙ ap pairs_of (sym same))

pub some_from : (word : List ℕ) → eqb (length word) 0 ≡ false → is_some_bytes word ≡ true
some_from [] h = absurd (true≢false h)
some_from (b ∷ bs) h = le-leb 1 _ (omega arith)
