-- Printed options are read as the same options.
use Rattle.std.proofs.Common.{◌≡◌, ℕ, suc, ◌+◌, Bool, true, false, ◌&&◌, ◌||◌, not, cond, eqb, List, [], ◌∷◌, ◌++◌, length, take, drop, map, filter, refl, ap, sym, ◌∙◌, subst, arith, Ok, Err}
use Rattle.std.proofs.lemmas.Bool.{and_parts, or_parts, or_from, or_right, and_right, ne_eqb, eqb-true, le-leb, true≢false}
use Rattle.std.specs.List.{list_any, list_all, before_first, after_first, position_or_len}
use Rattle.spool_types.specs.Values.{is_word_byte}
use Rattle.line_words.specs.Blanks.{is_blank}
use Rattle.filter_args.specs.declared.fault.OptionFault.TheVariants.{BadName, Unclosed, Collection}
use Rattle.line_words.specs.declared.quoting.Quoting.{Quoting}
use Rattle.line_words.specs.declared.quoting.Quoting.TheVariants.{Bare}
use Rattle.filter_args.specs.Pairs.{Pair, is_option_name, is_among, are_options}
use Rattle.std.specs.List.{onto_first}
use Rattle.line_words.specs.Quoting.{pieces, is_quoting, next, is_bare, is_cut, said, place_after}
use Rattle.filter_args.specs.OptionTexts.{is_some_bytes, words_of, is_equals, is_collection, bare_pair, value_without_quotes, value_in, named, named_pair, pair_in, then_pairs, pairs_in, joined, reading}
use Rattle.filter_args.specs.Printing.{is_special, escaped, printed_value, printed_pair, printed}
use Rattle.filter_args.proofs.CharLaws.{next_plain}
use Rattle.filter_args.proofs.PairLaws.{put_all-options}

-- ## Bytes that no blank splits

abbrev pub IsUncut : Quoting → List ℕ → Type 0
IsUncut q [] = Unit {0}
IsUncut q (b ∷ bs) = (is_cut q b ≡ false) × IsUncut (next q b) bs

onto : List ℕ → List (List ℕ) → List (List ℕ)
onto [] ws = ws
onto (b ∷ bs) ws = onto_first b (onto bs ws)

pieces-uncut : (q : Quoting) (w t : List ℕ) → IsUncut q w → pieces q (w ++ t) ≡ onto w (pieces (place_after q w) t)
unfolding onto
pieces-uncut q [] t h = refl
pieces-uncut q (b ∷ bs) t h =
    ap (λ v. cond v ([] ∷ pieces Bare (bs ++ t)) (onto_first b (pieces (next q b) (bs ++ t)))) h.0 ∙ ap (onto_first b) (pieces-uncut (next q b) bs t h.1)

onto-first : (w : List ℕ) (ws : List (List ℕ)) → onto w ([] ∷ ws) ≡ w ∷ ws
unfolding onto
onto-first [] ws = refl
onto-first (b ∷ bs) ws = ap (onto_first b) (onto-first bs ws)

-- The text of a value: it is not split, ends outside quotes, and represents the value.
record IsFor (value text : List ℕ) : Type 0 where
  uncut : IsUncut Bare text
  place : place_after Bare text ≡ Bare
  says : said Bare text ≡ value

behind_backslash : (b : ℕ) (bs e : List ℕ) → IsFor bs e → IsFor (b ∷ bs) (92 ∷ b ∷ e)
behind_backslash b bs e h = record {
  uncut = (refl, (and_right (is_blank b) false refl, h.uncut));
  place = h.place;
  says = ap (λ l. b ∷ l) h.says;
}

plain_byte : (b : ℕ) (bs e : List ℕ) → is_special b ≡ false → IsFor bs e → IsFor (b ∷ bs) (b ∷ e)
plain_byte b bs e plain h =
    let parts = or_parts (is_blank b) (is_quoting b) plain in
    let stays = next_plain b parts.1 in
    record {
      uncut = (ap (λ v. v && true) parts.0, subst (λ q. IsUncut q e) (sym stays) h.uncut);
      place = ap (λ q. place_after q e) stays ∙ h.place;
      says = ap (λ v. cond (not v) (b ∷ said (next Bare b) e) (said (next Bare b) e)) parts.1 ∙ ap (λ q. b ∷ said q e) stays ∙ ap (λ l. b ∷ l) h.says;
    }

escaped_for : (value : List ℕ) → IsFor value (escaped value)
escaped_for [] = record { uncut = tt; place = refl; says = refl }
escaped_for (b ∷ bs) = by (is_special b) refl (escaped_for bs)
  where
    by : (v : Bool) → is_special b ≡ v → IsFor bs (escaped bs) → IsFor (b ∷ bs) (cond v (92 ∷ b ∷ escaped bs) (b ∷ escaped bs))
    by true e rest = behind_backslash b bs (escaped bs) rest
    by false e rest = plain_byte b bs (escaped bs) e rest

bracket_plain : (b : ℕ) → eqb b 123 ≡ true → is_special b ≡ false
bracket_plain b e = ap is_special (eqb-true b 123 e)

printed_value_for : (value : List ℕ) → IsFor value (printed_value value)
printed_value_for [] = record { uncut = tt; place = refl; says = refl }
printed_value_for (b ∷ bs) = by (eqb b 123) refl
  where
    by : (v : Bool) → eqb b 123 ≡ v → IsFor (b ∷ bs) (cond v (92 ∷ escaped (b ∷ bs)) (escaped (b ∷ bs)))
    by true e =
        subst (λ l. IsFor (b ∷ bs) (92 ∷ l)) (ap (λ v. cond v (92 ∷ b ∷ escaped bs) (b ∷ escaped bs)) (sym (bracket_plain b e)))
        (behind_backslash b bs (escaped bs) (escaped_for bs))
    by false e = escaped_for (b ∷ bs)

-- It opens no collection.
printed_value-bracket : (value : List ℕ) → is_collection (printed_value value) ≡ false
printed_value-bracket [] = refl
printed_value-bracket (b ∷ bs) = by (eqb b 123) refl
  where
    first : (v : Bool) → eqb b 123 ≡ false → is_collection (cond v (92 ∷ b ∷ escaped bs) (b ∷ escaped bs)) ≡ false
    first true e = refl
    first false e = e

    by : (v : Bool) → eqb b 123 ≡ v → is_collection (cond v (92 ∷ escaped (b ∷ bs)) (escaped (b ∷ bs))) ≡ false
    by true e = refl
    by false e = first (is_special b) e

value_in-printed : (value : List ℕ) → value_in (printed_value value) ≡ Ok value
value_in-printed value =
    let h = printed_value_for value in
    ap (λ v. cond v (Err Collection) (value_without_quotes (printed_value value))) (printed_value-bracket value)
    ∙ ap (λ q. cond (is_bare q) (Ok (said Bare (printed_value value))) (Err Unclosed)) h.place
    ∙ ap (λ l. Ok l) h.says

-- ## Names

not_word : (n : ℕ) → is_word_byte n ≡ false → (b : ℕ) → is_word_byte b ≡ true → eqb b n ≡ false
not_word n other b word = ne_eqb b n (λ e. true≢false (sym word ∙ ap is_word_byte e ∙ other))

word_blank : (b : ℕ) → is_word_byte b ≡ true → is_blank b ≡ false
word_blank b h = or_from (eqb b 32) (eqb b 9) (not_word 32 refl b h) (not_word 9 refl b h)

word_quoting : (b : ℕ) → is_word_byte b ≡ true → is_quoting b ≡ false
word_quoting b h = or_from (eqb b 92) (eqb b 39 || eqb b 34) (not_word 92 refl b h) (or_from (eqb b 39) (eqb b 34) (not_word 39 refl b h) (not_word 34 refl b h))

name_uncut : (name rest : List ℕ) → list_all is_word_byte name ≡ true → IsUncut Bare rest → IsUncut Bare (name ++ rest)
name_uncut [] rest h uncut = uncut
name_uncut (b ∷ bs) rest h uncut =
    let parts = and_parts (is_word_byte b) (list_all is_word_byte bs) h in
    (ap (λ v. v && true) (word_blank b parts.0), subst (λ q. IsUncut q (bs ++ rest)) (sym (next_plain b (word_quoting b parts.0))) (name_uncut bs rest parts.1 uncut))

name_place : (name rest : List ℕ) → list_all is_word_byte name ≡ true → place_after Bare (name ++ rest) ≡ place_after Bare rest
name_place [] rest h = refl
name_place (b ∷ bs) rest h =
    let parts = and_parts (is_word_byte b) (list_all is_word_byte bs) h in
    ap (λ q. place_after q (bs ++ rest)) (next_plain b (word_quoting b parts.0)) ∙ name_place bs rest parts.1

name_any : (name rest : List ℕ) → list_any is_equals (name ++ 61 ∷ rest) ≡ true
name_any [] rest = refl
name_any (b ∷ bs) rest = or_right (is_equals b) (list_any is_equals (bs ++ 61 ∷ rest)) (name_any bs rest)

name_first : (name rest : List ℕ) → list_all is_word_byte name ≡ true → position_or_len is_equals (name ++ 61 ∷ rest) ≡ length name
name_first [] rest h = refl
name_first (b ∷ bs) rest h =
    let parts = and_parts (is_word_byte b) (list_all is_word_byte bs) h in
    ap (λ v. cond (not v) (1 + position_or_len is_equals (bs ++ 61 ∷ rest)) 0) (not_word 61 refl b parts.0) ∙ omega (arith, name_first bs rest parts.1)

take_name : (name rest : List ℕ) → take (length name) (name ++ rest) ≡ name
take_name [] rest = refl
take_name (b ∷ bs) rest = ap (λ l. b ∷ l) (take_name bs rest)

drop_name : (name rest : List ℕ) (b : ℕ) → drop (suc (length name)) (name ++ b ∷ rest) ≡ rest
drop_name [] rest b = refl
drop_name (a ∷ bs) rest b = drop_name bs rest b

pair_in-printed : (p : Pair) → is_option_name p.0 ≡ true → pair_in (printed_pair p) ≡ Ok p
pair_in-printed p h =
    let word = printed_pair p in
    let all = (and_parts _ (list_all is_word_byte p.0) h).1 in
    let first = name_first p.0 (printed_value p.1) all in
    let before : before_first is_equals word ≡ p.0 = ap (λ n. take n word) first ∙ take_name p.0 (61 ∷ printed_value p.1) in
    let after : after_first is_equals word ≡ printed_value p.1 = ap (λ n. drop (n + 1) word) first ∙ ap (λ n. drop n word) (plus (length p.0)) ∙ drop_name p.0 (printed_value p.1) 61 in
    ap (λ v. cond v (named_pair (before_first is_equals word) (after_first is_equals word)) (cond (is_option_name word) (Ok (bare_pair word)) (Err BadName))) (name_any p.0 (printed_value p.1))
    ∙ ap (λ n. named_pair n (after_first is_equals word)) before
    ∙ ap (λ v. cond v (named p.0 (value_in (after_first is_equals word))) (Err BadName)) h
    ∙ ap (λ r. named p.0 (value_in r)) after
    ∙ ap (named p.0) (value_in-printed p.1)
  where
    plus : (n : ℕ) → n + 1 ≡ suc n
    plus n = omega arith

-- ## The whole text

-- Each name is valid.
abbrev pub AreNamed : List Pair → Type 0
AreNamed [] = Unit {0}
AreNamed (p ∷ ps) = (is_option_name p.0 ≡ true) × AreNamed ps

named_options : (ps : List Pair) → are_options ps ≡ true → AreNamed ps
named_options [] h = tt
named_options (p ∷ ps) h =
    let parts = and_parts (is_option_name p.0) (not (is_among p.0 ps) && are_options ps) h in
    (parts.0, named_options ps (and_parts (not (is_among p.0 ps)) (are_options ps) parts.1).1)

pair_uncut : (p : Pair) → is_option_name p.0 ≡ true → IsUncut Bare (printed_pair p)
pair_uncut p h = name_uncut p.0 (61 ∷ printed_value p.1) (and_parts _ (list_all is_word_byte p.0) h).1 (refl, (printed_value_for p.1).uncut)

pair_place : (p : Pair) → is_option_name p.0 ≡ true → place_after Bare (printed_pair p) ≡ Bare
pair_place p h = name_place p.0 (61 ∷ printed_value p.1) (and_parts _ (list_all is_word_byte p.0) h).1 ∙ (printed_value_for p.1).place

pieces-printed : (p : Pair) (ps : List Pair) → AreNamed (p ∷ ps) → pieces Bare (printed (p ∷ ps)) ≡ map printed_pair (p ∷ ps)
pieces-printed p [] h =
    pieces-uncut Bare (printed_pair p) [] (pair_uncut p h.0) ∙ ap (λ q. onto (printed_pair p) (pieces q [])) (pair_place p h.0) ∙ onto-first (printed_pair p) []
pieces-printed p (q ∷ qs) h =
    pieces-uncut Bare (printed_pair p) (32 ∷ printed (q ∷ qs)) (pair_uncut p h.0)
    ∙ ap (λ place. onto (printed_pair p) (pieces place (32 ∷ printed (q ∷ qs)))) (pair_place p h.0)
    ∙ onto-first (printed_pair p) (pieces Bare (printed (q ∷ qs)))
    ∙ ap (λ l. printed_pair p ∷ l) (pieces-printed q qs h.1)

pair_some : (name rest : List ℕ) → is_some_bytes (name ++ 61 ∷ rest) ≡ true
pair_some [] rest = le-leb 1 _ (omega arith)
pair_some (b ∷ bs) rest = le-leb 1 _ (omega arith)

filter-printed : (ps : List Pair) → filter is_some_bytes (map printed_pair ps) ≡ map printed_pair ps
filter-printed [] = refl
filter-printed (p ∷ ps) =
    ap (λ v. cond v (printed_pair p ∷ filter is_some_bytes (map printed_pair ps)) (filter is_some_bytes (map printed_pair ps))) (pair_some p.0 (printed_value p.1))
    ∙ ap (λ l. printed_pair p ∷ l) (filter-printed ps)

words-printed : (ps : List Pair) → AreNamed ps → words_of (printed ps) ≡ map printed_pair ps
words-printed [] h = refl
words-printed (p ∷ ps) h = ap (filter is_some_bytes) (pieces-printed p ps h) ∙ filter-printed (p ∷ ps)

pairs_in-printed : (ps : List Pair) → AreNamed ps → pairs_in (map printed_pair ps) ≡ Ok ps
pairs_in-printed [] h = refl
pairs_in-printed (p ∷ ps) h =
    ap (λ r. then_pairs r (pairs_in (map printed_pair ps))) (pair_in-printed p h.0) ∙ ap (then_pairs (Ok p)) (pairs_in-printed ps h.1)

-- Printed options are read as these options.
pub reading-printed : (ps : List Pair) → are_options ps ≡ true → reading (printed ps) ≡ Ok ps
reading-printed ps h =
    let named = named_options ps h in
    ap (λ ws. joined [] (pairs_in ws)) (words-printed ps named) ∙ ap (joined []) (pairs_in-printed ps named) ∙ ap (λ l. Ok l) (put_all-options ps h)

-- The same for the options in a map.
pub read_back : {ps qs : List Pair} → ps ≡ qs → are_options ps ≡ true → reading (printed qs) ≡ Ok qs
read_back {ps} {qs} same h = subst (λ l. reading (printed l) ≡ Ok l) same (reading-printed ps h)
