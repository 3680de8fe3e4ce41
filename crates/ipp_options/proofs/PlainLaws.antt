-- Options without control characters, and their text.
use Rattle.std.proofs.Common.{◌≡◌, ℕ, ◌<◌, Bool, true, false, ◌&&◌, cond, leb, List, [], ◌∷◌, ◌++◌, length, refl, ap, sym, ◌∙◌, arith}
use Rattle.std.specs.List.{AllByRecursion, flat_map, list_all}
use Rattle.std.specs.Str.{bytes_eq}
use Rattle.std.proofs.lemmas.Bool.{and_parts, and_from, le-leb, leb-false}
use Rattle.std.proofs.lemmas.Bool.Decides.{nat_tests}
use Rattle.std.proofs.lemmas.List.Folds.{list_all-append}
use Rattle.spool_types.specs.Values.{is_options, is_plain, is_word_byte}
use Rattle.filter_args.specs.OptionTexts.{is_collection}
use Rattle.filter_args.specs.Pairs.{Pair, is_option_name, put}
use Rattle.filter_args.specs.Printing.{after_blank, escaped, is_special, printed, printed_pair, printed_value}

-- A valid name, and a value without control characters.
abbrev pub IsPlainPair : Pair → Type 0
IsPlainPair p = (is_option_name p.0 ≡ true) × (list_all is_plain p.1 ≡ true)

abbrev pub ArePlain : List Pair → Type 0
ArePlain pairs = AllByRecursion IsPlainPair pairs

pub put_plain : (qs : List Pair) (p : Pair) → ArePlain qs → IsPlainPair p → ArePlain (put qs p)
put_plain [] p all one = (one, tt)
put_plain (q ∷ qs) p all one = by (put_plain qs p all.1 one) (bytes_eq p.0 q.0)
  where
    by : ArePlain (put qs p) → (v : Bool) → ArePlain (cond v ((q.0, p.1) ∷ qs) (q ∷ put qs p))
    by others true = ((all.0.0, one.1), all.1)
    by others false = (all.0, others)

-- ## Their text

joined_plain : (xs ys : List ℕ) → list_all is_plain xs ≡ true → list_all is_plain ys ≡ true → list_all is_plain (xs ++ ys) ≡ true
joined_plain xs ys x y = list_all-append is_plain xs ys ∙ and_from (list_all is_plain xs) (list_all is_plain ys) x y

word_byte_plain : (b : ℕ) → is_word_byte b ≡ true → is_plain b ≡ true
word_byte_plain b h = grind (arith, nat_tests)

word_plain : (name : List ℕ) → list_all is_word_byte name ≡ true → list_all is_plain name ≡ true
word_plain [] h = refl
word_plain (b ∷ bs) h =
    let (here, others) = and_parts (is_word_byte b) (list_all is_word_byte bs) h in
    and_from (is_plain b) (list_all is_plain bs) (word_byte_plain b here) (word_plain bs others)

name_plain : (name : List ℕ) → is_option_name name ≡ true → list_all is_plain name ≡ true
name_plain name h = word_plain name (and_parts (leb 1 (length name)) (list_all is_word_byte name) h).1

escaped_plain : (value : List ℕ) → list_all is_plain value ≡ true → list_all is_plain (escaped value) ≡ true
escaped_plain [] h = refl
escaped_plain (b ∷ bs) h =
    let (here, others) = and_parts (is_plain b) (list_all is_plain bs) h in
    by (and_from (is_plain b) (list_all is_plain (escaped bs)) here (escaped_plain bs others)) (is_special b)
  where
    by : list_all is_plain (b ∷ escaped bs) ≡ true → (v : Bool) → list_all is_plain (cond v (92 ∷ b ∷ escaped bs) (b ∷ escaped bs)) ≡ true
    by rest true = rest
    by rest false = rest

value_plain : (value : List ℕ) → list_all is_plain value ≡ true → list_all is_plain (printed_value value) ≡ true
value_plain value h = by (is_collection value)
  where
    by : (v : Bool) → list_all is_plain (cond v (92 ∷ escaped value) (escaped value)) ≡ true
    by true = escaped_plain value h
    by false = escaped_plain value h

pair_plain : (p : Pair) → IsPlainPair p → list_all is_plain (printed_pair p) ≡ true
pair_plain p h = joined_plain p.0 (61 ∷ printed_value p.1) (name_plain p.0 h.0) (value_plain p.1 h.1)

others_plain : (ps : List Pair) → ArePlain ps → list_all is_plain (flat_map after_blank ps) ≡ true
others_plain [] h = refl
others_plain (p ∷ ps) h = joined_plain (after_blank p) (flat_map after_blank ps) (pair_plain p h.0) (others_plain ps h.1)

printed_plain : (ps : List Pair) → ArePlain ps → list_all is_plain (printed ps) ≡ true
printed_plain [] h = refl
printed_plain (p ∷ ps) h = joined_plain (printed_pair p) (flat_map after_blank ps) (pair_plain p h.0) (others_plain ps h.1)

long_text : (text : List ℕ) → list_all is_plain text ≡ true → is_options text ≡ false → 2048 < length text
long_text text plain bad = by (leb 0 (length text)) (le-leb 0 (length text) (omega arith)) (leb (length text) 2048) refl bad
  where
    by : (least : Bool) → least ≡ true → (most : Bool) → leb (length text) 2048 ≡ most → (least && most && list_all is_plain text) ≡ false → 2048 < length text
    by false l most e h = absurd (cc)
    by true l true e h = absurd (cc)
    by true l false e h = leb-false (length text) 2048 e

-- If options without control characters are not stored, their text is too long.
pub too_long : (ps : List Pair) → ArePlain ps → is_options (printed ps) ≡ false → 2048 < length (printed ps)
too_long ps all bad = long_text (printed ps) (printed_plain ps all) bad
