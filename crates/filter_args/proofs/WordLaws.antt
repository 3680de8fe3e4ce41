-- The words of a text of options, read from its front.
use Rattle.std.proofs.Common.{◌≡◌, ℕ, suc, ◌+◌, ◌<◌, ◌≤◌, Bool, true, false, ◌||◌, not, cond, List, [], ◌∷◌, ◌++◌, length, get_or, take, drop, filter, refl, ap, sym, ◌∙◌, arith, eqb, ◌⊎◌, inl, inr, Ok, Err, Result, Some, None}
use Rattle.std.proofs.lemmas.List.{append_assoc, append-nil, take_more, drop_more, take_all, drop_all}
use Rattle.std.proofs.lemmas.Bool.{and_parts, or_cases, eqb-true}
use Rattle.std.specs.Option.{option_or}
use Rattle.std.specs.Result.{IsOk, result_err}
use Rattle.std.specs.List.{list_any, position_or_len, before_first, after_first}
use Rattle.line_words.specs.Blanks.{is_blank}
use Rattle.filter_args.specs.declared.fault.OptionFault.{OptionFault}
use Rattle.filter_args.specs.declared.fault.OptionFault.TheVariants.{BadName, Unclosed, Collection, Memory}
use Rattle.filter_args.specs.OptionFields.{IsFault}
use Rattle.line_words.specs.declared.quoting.Quoting.{Quoting}
use Rattle.line_words.specs.declared.quoting.Quoting.TheVariants.{Bare}
use Rattle.filter_args.specs.Pairs.{Pair, is_option_name, put}
use Rattle.std.specs.List.{onto_first}
use Rattle.line_words.specs.Quoting.{pieces, next, is_bare, is_cut, said, place_after}
use Rattle.filter_args.specs.OptionTexts.{word_here, after_word, is_some_bytes, words_of, is_equals, is_collection, bare_pair, value_in, named, bare_in, named_pair, pair_in, then_pairs, pairs_in, put_read, with_word, joined, reading}

-- The pieces after the first.
later : Quoting → List ℕ → List (List ℕ)
later place [] = []
later place (b ∷ bs) = cond (is_cut place b) (pieces Bare bs) (later (next place b) bs)

pieces_first : (place : Quoting) (text : List ℕ) → pieces place text ≡ word_here place text ∷ later place text
unfolding later
pieces_first place [] = refl
pieces_first place (b ∷ bs) =
    elim (is_cut place b) as (λ v. cond v ([] ∷ pieces Bare bs) (onto_first b (pieces (next place b) bs)) ≡ cond v [] (b ∷ word_here (next place b) bs) ∷ cond v (pieces Bare bs) (later (next place b) bs)) [
      | true ↦ refl
      | false ↦ ap (onto_first b) (pieces_first (next place b) bs)
    ]

later_words : (place : Quoting) (text : List ℕ) → filter is_some_bytes (later place text) ≡ words_of (after_word place text)
unfolding later
later_words place [] = refl
later_words place (b ∷ bs) =
    elim (is_cut place b) as (λ v. filter is_some_bytes (cond v (pieces Bare bs) (later (next place b) bs)) ≡ words_of (cond v bs (after_word (next place b) bs))) [
      | true ↦ refl
      | false ↦ later_words (next place b) bs
    ]

-- A text's words are its first word, if it is not empty, and the words of the rest.
pub words_split : (text : List ℕ) → words_of text ≡ cond (is_some_bytes (word_here Bare text)) (word_here Bare text ∷ words_of (after_word Bare text)) (words_of (after_word Bare text))
words_split text =
    ap (filter is_some_bytes) (pieces_first Bare text)
    ∙ ap (λ l. cond (is_some_bytes (word_here Bare text)) (word_here Bare text ∷ l) l) (later_words Bare text)

-- A word that is read up to byte i.
module _ (xs : List ℕ) (i : ℕ) (less : i < length xs) (place : Quoting) where
  at_byte : {X : Type 0} (f : List ℕ → X) → f (get_or xs i 0 ∷ drop (i + 1) xs) ≡ f (drop i xs)
  at_byte f = ap f (sym (drop_more xs i 0 less))

  pub word_ends : is_cut place (get_or xs i 0) ≡ true → take i xs ++ word_here place (drop i xs) ≡ word_here Bare xs → take i xs ≡ word_here Bare xs
  word_ends cut same =
      sym (append-nil (take i xs)) ∙ ap (λ v. take i xs ++ cond v [] (get_or xs i 0 ∷ word_here (next place (get_or xs i 0)) (drop (i + 1) xs))) (sym cut)
      ∙ at_byte (λ l. take i xs ++ word_here place l) ∙ same

  pub word_more : is_cut place (get_or xs i 0) ≡ false → take i xs ++ word_here place (drop i xs) ≡ word_here Bare xs
      → take (i + 1) xs ++ word_here (next place (get_or xs i 0)) (drop (i + 1) xs) ≡ word_here Bare xs
  word_more other same =
      ap (λ l. l ++ word_here (next place (get_or xs i 0)) (drop (i + 1) xs)) (take_more xs i 0 less)
      ∙ append_assoc (take i xs) (get_or xs i 0 ∷ []) (word_here (next place (get_or xs i 0)) (drop (i + 1) xs))
      ∙ ap (λ v. take i xs ++ cond v [] (get_or xs i 0 ∷ word_here (next place (get_or xs i 0)) (drop (i + 1) xs))) (sym other)
      ∙ at_byte (λ l. take i xs ++ word_here place l) ∙ same

  pub rest_begins : is_cut place (get_or xs i 0) ≡ true → after_word place (drop i xs) ≡ after_word Bare xs → drop (i + 1) xs ≡ after_word Bare xs
  rest_begins cut same =
      ap (λ v. cond v (drop (i + 1) xs) (after_word (next place (get_or xs i 0)) (drop (i + 1) xs))) (sym cut) ∙ at_byte (after_word place) ∙ same

  pub rest_more : is_cut place (get_or xs i 0) ≡ false → after_word place (drop i xs) ≡ after_word Bare xs → after_word (next place (get_or xs i 0)) (drop (i + 1) xs) ≡ after_word Bare xs
  rest_more other same =
      ap (λ v. cond v (drop (i + 1) xs) (after_word (next place (get_or xs i 0)) (drop (i + 1) xs))) (sym other) ∙ at_byte (after_word place) ∙ same

pub word_whole : (xs : List ℕ) (i : ℕ) (place : Quoting) → length xs ≤ i → take i xs ++ word_here place (drop i xs) ≡ word_here Bare xs → xs ≡ word_here Bare xs
word_whole xs i place le same =
    sym (append-nil xs) ∙ ap (λ l. l ++ []) (sym (take_all i xs le)) ∙ ap (λ l. take i xs ++ word_here place l) (sym (drop_all i xs le)) ∙ same

pub rest_empty : (xs : List ℕ) (i : ℕ) (place : Quoting) → length xs ≤ i → after_word place (drop i xs) ≡ after_word Bare xs → [] ≡ after_word Bare xs
rest_empty xs i place le same = ap (after_word place) (sym (drop_all i xs le)) ∙ same

after_word_short : (place : Quoting) (text : List ℕ) → length (after_word place text) ≤ length text
after_word_short place [] = omega arith
after_word_short place (b ∷ bs) =
    let rest = after_word_short (next place b) bs in
    elim (is_cut place b) as (λ v. length (cond v bs (after_word (next place b) bs)) ≤ suc (length bs)) [ true ↦ omega arith | false ↦ omega arith ]

-- The rest after a word is shorter than the text.
pub after_word_shorter : (text : List ℕ) → 1 ≤ length text → length (after_word Bare text) < length text
after_word_shorter [] some = absurd (omega arith)
after_word_shorter (b ∷ bs) some =
    let rest = after_word_short (next Bare b) bs in
    elim (is_cut Bare b) as (λ v. length (cond v bs (after_word (next Bare b) bs)) < suc (length bs)) [ true ↦ omega arith | false ↦ omega arith ]

-- A byte that ends a word is ASCII.
pub cut_ascii : (place : Quoting) (b : ℕ) → is_cut place b ≡ true → b < 128
cut_ascii place b h = by (or_cases (eqb b 32) (eqb b 9) (and_parts (is_blank b) (is_bare place) h).0)
  where
    by : (eqb b 32 ≡ true) ⊎ (eqb b 9 ≡ true) → b < 128
    by (inl e) = let is = eqb-true b 32 e in omega arith
    by (inr e) = let is = eqb-true b 9 e in omega arith

-- ## The pairs of the words

-- One more pair.
pub joined_more : (qs : List Pair) (p : Pair) (r : Result (List Pair) OptionFault) → joined qs (then_pairs (Ok p) r) ≡ joined (put qs p) r
joined_more qs p (Ok ps) = refl
joined_more qs p (Err fault) = refl

-- These options with a word, and then the pairs that were read.
abbrev pub then_joined : Result (List Pair) OptionFault → Result (List Pair) OptionFault → Result (List Pair) OptionFault
then_joined (Ok qs) rest = joined qs rest
then_joined (Err fault) rest = Err fault

-- A text's pairs are the pair of its first word and the pairs of the rest.
pub joined_word : (qs : List Pair) (text : List ℕ)
    → joined qs (pairs_in (words_of text)) ≡ then_joined (with_word qs (word_here Bare text)) (pairs_in (words_of (after_word Bare text)))
joined_word qs text =
    ap (λ ws. joined qs (pairs_in ws)) (words_split text) ∙ by (is_some_bytes (word_here Bare text))
  where
    read : (r : Result Pair OptionFault) → joined qs (then_pairs r (pairs_in (words_of (after_word Bare text)))) ≡ then_joined (put_read qs r) (pairs_in (words_of (after_word Bare text)))
    read (Ok p) = joined_more qs p (pairs_in (words_of (after_word Bare text)))
    read (Err fault) = refl

    by : (v : Bool)
        → joined qs (pairs_in (cond v (word_here Bare text ∷ words_of (after_word Bare text)) (words_of (after_word Bare text))))
        ≡ then_joined (cond v (put_read qs (pair_in (word_here Bare text))) (Ok qs)) (pairs_in (words_of (after_word Bare text)))
    by true = read (pair_in (word_here Bare text))
    by false = refl

-- ## Errors

pub fault_is : {A : Type 0} (r : Result A OptionFault) (fault : OptionFault) → result_err r ≡ Some fault → IsFault fault r
fault_is (Ok x) fault e = absurd (cc)
fault_is {A} (Err f) fault e = by fault (let same : f ≡ fault = cc in same)
  where
    by : (g : OptionFault) → f ≡ g → IsFault {A = A} g (Err f)
    by BadName same = ap (λ x. Err x) same
    by Unclosed same = ap (λ x. Err x) same
    by Collection same = ap (λ x. Err x) same
    by Memory same = tt

pub ok_from : {A : Type 0} (r : Result A OptionFault) → result_err r ≡ None → IsOk r
ok_from (Ok x) e = refl
ok_from (Err f) e = absurd (cc)

pub ok_value : {A : Type 0} (r : Result A OptionFault) → result_err r ≡ None → (x : A) × (r ≡ Ok x)
ok_value (Ok x) e = (x, refl)
ok_value (Err f) e = absurd (cc)

-- No text has the error out of memory.
pair_said : (word : List ℕ) → ¬ (result_err (pair_in word) ≡ Some Memory)
pair_said word = by (list_any is_equals word)
  where
    named_said : (name raw : List ℕ) (a b c : Bool) → ¬ (result_err (cond a (named name (cond b (Err Collection) (cond c (Ok (said Bare raw)) (Err Unclosed)))) (Err BadName)) ≡ Some Memory)
    named_said name raw true true c = λ e. absurd (cc)
    named_said name raw true false true = λ e. absurd (cc)
    named_said name raw true false false = λ e. absurd (cc)
    named_said name raw false b c = λ e. absurd (cc)

    bare_said : (v : Bool) → ¬ (result_err (cond v (Ok (bare_pair word)) (Err BadName)) ≡ Some Memory)
    bare_said true = λ e. absurd (cc)
    bare_said false = λ e. absurd (cc)

    by : (v : Bool) → ¬ (result_err (cond v (named_pair (before_first is_equals word) (after_first is_equals word)) (bare_in word)) ≡ Some Memory)
    by true =
        named_said (before_first is_equals word) (after_first is_equals word) (is_option_name (before_first is_equals word)) (is_collection (after_first is_equals word))
        (is_bare (place_after Bare (after_first is_equals word)))
    by false = bare_said (is_option_name word)

pairs_said : (ws : List (List ℕ)) → ¬ (result_err (pairs_in ws) ≡ Some Memory)
pairs_said [] = λ e. absurd (cc)
pairs_said (w ∷ ws) = by (pair_in w) (pairs_in ws) (pair_said w) (pairs_said ws)
  where
    by : (p : Result Pair OptionFault) (ps : Result (List Pair) OptionFault) → ¬ (result_err p ≡ Some Memory) → ¬ (result_err ps ≡ Some Memory) → ¬ (result_err (then_pairs p ps) ≡ Some Memory)
    by (Err f) ps h k = h
    by (Ok p) (Err f) h k = k
    by (Ok p) (Ok ps) h k = λ e. absurd (cc)

pub reading_said : (text : List ℕ) → ¬ (result_err (reading text) ≡ Some Memory)
reading_said text = by (pairs_in (words_of text)) (pairs_said (words_of text))
  where
    by : (ps : Result (List Pair) OptionFault) → ¬ (result_err ps ≡ Some Memory) → ¬ (result_err (joined [] ps) ≡ Some Memory)
    by (Ok ps) h = λ e. absurd (cc)
    by (Err f) h = h

-- The error of the first word is the error of the text.
pub fault_told : (qs : List Pair) (text : List ℕ) (fault : OptionFault) (all : Result (List Pair) OptionFault)
    → result_err (with_word qs (word_here Bare text)) ≡ Some fault → joined qs (pairs_in (words_of text)) ≡ all → result_err all ≡ Some fault
fault_told qs text fault all told same =
    ap result_err (sym same ∙ joined_word qs text) ∙ by (with_word qs (word_here Bare text)) (pairs_in (words_of (after_word Bare text))) told
  where
    by : (r rest : Result (List Pair) OptionFault) → result_err r ≡ Some fault → result_err (then_joined r rest) ≡ Some fault
    by (Ok rs) rest e = absurd (cc)
    by (Err f) rest e = e

-- If the text has no error, its first word has none.
pub no_fault_yet : (qs : List Pair) (text : List ℕ) (all : Result (List Pair) OptionFault)
    → result_err all ≡ None → joined qs (pairs_in (words_of text)) ≡ all → result_err (with_word qs (word_here Bare text)) ≡ None
no_fault_yet qs text all none same =
    by (with_word qs (word_here Bare text)) (pairs_in (words_of (after_word Bare text))) (ap result_err (sym (joined_word qs text) ∙ same) ∙ none)
  where
    by : (r rest : Result (List Pair) OptionFault) → result_err (then_joined r rest) ≡ None → result_err r ≡ None
    by (Ok rs) rest e = refl
    by (Err f) rest e = e

pub pair_told : (qs rs : List Pair) (text : List ℕ) (all : Result (List Pair) OptionFault)
    → with_word qs (word_here Bare text) ≡ Ok rs → joined qs (pairs_in (words_of text)) ≡ all → joined rs (pairs_in (words_of (after_word Bare text))) ≡ all
pair_told qs rs text all told same =
    ap (λ r. then_joined r (pairs_in (words_of (after_word Bare text)))) (sym told) ∙ sym (joined_word qs text) ∙ same

none_equals : (bytes : List ℕ) → position_or_len is_equals bytes ≡ length bytes → list_any is_equals bytes ≡ false
none_equals [] h = refl
none_equals (b ∷ bs) h = by (is_equals b) h (none_equals bs)
  where
    by : (v : Bool) → cond (not v) (1 + position_or_len is_equals bs) 0 ≡ suc (length bs) → (position_or_len is_equals bs ≡ length bs → list_any is_equals bs ≡ false) → (v || list_any is_equals bs) ≡ false
    by true e rest = absurd (omega arith)
    by false e rest = rest (omega arith)

some_equals : (bytes : List ℕ) → position_or_len is_equals bytes < length bytes → list_any is_equals bytes ≡ true
some_equals [] h = absurd (omega arith)
some_equals (b ∷ bs) h = by (is_equals b) h (some_equals bs)
  where
    by : (v : Bool) → cond (not v) (1 + position_or_len is_equals bs) 0 < suc (length bs) → (position_or_len is_equals bs < length bs → list_any is_equals bs ≡ true) → (v || list_any is_equals bs) ≡ true
    by true e rest = refl
    by false e rest = rest (omega arith)

-- A word with '=' is a name and a value.
pub pair_in_named : (word name raw : List ℕ) → position_or_len is_equals word < length word → name ≡ before_first is_equals word → raw ≡ after_first is_equals word → named_pair name raw ≡ pair_in word
pair_in_named word name raw h p q =
    ap (λ l. named_pair l raw) p ∙ ap (named_pair (before_first is_equals word)) q
    ∙ ap (λ v. cond v (named_pair (before_first is_equals word) (after_first is_equals word)) (bare_in word)) (sym (some_equals word h))

-- A word without '=' is a name alone.
pub pair_in_bare : (word : List ℕ) → position_or_len is_equals word ≡ length word → bare_in word ≡ pair_in word
pair_in_bare word h =
    ap (λ v. cond v (named_pair (before_first is_equals word) (after_first is_equals word)) (bare_in word)) (sym (none_equals word h))

-- The pair of a word without an error.
pub bare_read : (name : List ℕ) → result_err (bare_in name) ≡ None → bare_in name ≡ Ok (bare_pair name)
bare_read name = by (is_option_name name)
  where
    by : (v : Bool) → result_err (cond v (Ok (bare_pair name)) (Err BadName)) ≡ None → cond v (Ok (bare_pair name)) (Err BadName) ≡ Ok (bare_pair name)
    by true e = refl
    by false e = absurd (cc)

pub named_read : (name raw : List ℕ) → result_err (named_pair name raw) ≡ None → named_pair name raw ≡ Ok (name, said Bare raw)
named_read name raw = by (is_option_name name) (is_collection raw) (is_bare (place_after Bare raw))
  where
    by : (a b c : Bool)
        → result_err (cond a (named name (cond b (Err Collection) (cond c (Ok (said Bare raw)) (Err Unclosed)))) (Err BadName)) ≡ None
        → cond a (named name (cond b (Err Collection) (cond c (Ok (said Bare raw)) (Err Unclosed)))) (Err BadName) ≡ Ok (name, said Bare raw)
    by true true c e = absurd (cc)
    by true false true e = refl
    by true false false e = absurd (cc)
    by false b c e = absurd (cc)

-- The error of a name, or of the value after it.
pub named_fault : (name raw : List ℕ) → option_or (cond (is_option_name name) None (Some BadName)) (result_err (value_in raw)) ≡ result_err (named_pair name raw)
named_fault name raw = by (is_option_name name) (value_in raw)
  where
    by : (v : Bool) (value : Result (List ℕ) OptionFault) → option_or (cond v None (Some BadName)) (result_err value) ≡ result_err (cond v (named name value) (Err BadName))
    by true (Ok value) = refl
    by true (Err fault) = refl
    by false value = refl

-- A word's error is the error of its pair.
pub word_fault_told : (qs : List Pair) (word : List ℕ) → is_some_bytes word ≡ true → result_err (pair_in word) ≡ result_err (with_word qs word)
word_fault_told qs word some = by (pair_in word) ∙ ap (λ v. result_err (cond v (put_read qs (pair_in word)) (Ok qs))) (sym some)
  where
    by : (r : Result Pair OptionFault) → result_err r ≡ result_err (put_read qs r)
    by (Ok p) = refl
    by (Err fault) = refl
