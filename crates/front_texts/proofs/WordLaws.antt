-- Words, numbers and quoted texts read as the values that were printed.
use Rattle.std.proofs.Common.{◌≡◌, ℕ, zero, suc, ◌+◌, ◌-◌, ◌*◌, ◌/◌, ◌%◌, ◌<◌, ◌≤◌, ◌^◌, ◌⊎◌, inl, inr, Bool, true, false, not, ◌&&◌, ◌||◌, cond, nat_le, List, [], ◌∷◌, ◌++◌, length, refl, ap, sym, ◌∙◌, arith, None, Some, append_assoc}
use Rattle.std.proofs.lemmas.Bool.{and_from, le-leb, cases_lt}
use Rattle.std.proofs.lemmas.Bool.Decides.{nat_tests}
use Rattle.std.proofs.lemmas.Fmt.{decimal_digit, decimal_step, decimal_nonempty}
use Rattle.std.proofs.lemmas.List.Folds.{list_all-append}
use Rattle.std.specs.Char.{is_ascii_digit}
use Rattle.std.specs.Fmt.{decimal}
use Rattle.std.specs.List.{list_all, flat_map}
use Rattle.line_words.specs.Blanks.{is_blank, after_blanks, word_here, behind_word, first_word, after_word}
use Rattle.line_words.specs.DecimalNumbers.{read_on, is_decimal, decimal as number_in}
use Rattle.line_words.specs.Quotes.{is_quote, is_backslash, with_bytes, quoted}
use Rattle.command_lines.specs.Replies.{escaped_byte}

-- ## Words

-- A byte that does not end a word.
abbrev pub is_solid : ℕ → Bool
is_solid b = not (is_blank b)

-- A non-empty word without blanks.
pub record IsWhole (w : List ℕ) : Type 0 where
  pub some : 1 ≤ length w
  pub solid : list_all is_solid w ≡ true

first_part : (x y : Bool) → (x && y) ≡ true → x ≡ true
first_part true y h = refl
first_part false y h = h

second_part : (x y : Bool) → (x && y) ≡ true → y ≡ true
second_part true y h = h
second_part false true h = refl
second_part false false h = h

not_blank : (b : ℕ) → is_solid b ≡ true → is_blank b ≡ false
not_blank b h = (elim (is_blank b) as (λ v. not v ≡ true → v ≡ false) [ true ↦ λ h. sym h | false ↦ λ h. refl ]) h

word_here-front : (w rest : List ℕ) → list_all is_solid w ≡ true → word_here (w ++ 32 ∷ rest) ≡ w
word_here-front [] rest h = refl
word_here-front (b ∷ bs) rest h =
    ap (λ v. cond v [] (b ∷ word_here (bs ++ 32 ∷ rest))) (not_blank b (first_part _ _ h))
    ∙ ap (λ (l : List ℕ). b ∷ l) (word_here-front bs rest (second_part _ _ h))

behind_word-front : (w rest : List ℕ) → list_all is_solid w ≡ true → behind_word (w ++ 32 ∷ rest) ≡ 32 ∷ rest
behind_word-front [] rest h = refl
behind_word-front (b ∷ bs) rest h =
    ap (λ v. cond v (b ∷ (bs ++ 32 ∷ rest)) (behind_word (bs ++ 32 ∷ rest))) (not_blank b (first_part _ _ h))
    ∙ behind_word-front bs rest (second_part _ _ h)

after_blanks-front : (w rest : List ℕ) → IsWhole w → after_blanks (32 ∷ (w ++ 32 ∷ rest)) ≡ w ++ 32 ∷ rest
after_blanks-front [] rest is = let h : 1 ≤ 0 = is.some in absurd (omega arith)
after_blanks-front (b ∷ bs) rest is =
    ap (λ v. cond v (after_blanks (bs ++ 32 ∷ rest)) (b ∷ (bs ++ 32 ∷ rest))) (not_blank b (first_part _ _ is.solid))

-- The first word after a blank, and the text after it.
pub first_word-front : (w rest : List ℕ) → IsWhole w → first_word (32 ∷ (w ++ 32 ∷ rest)) ≡ w
first_word-front w rest is = ap word_here (after_blanks-front w rest is) ∙ word_here-front w rest is.solid

pub after_word-front : (w rest : List ℕ) → IsWhole w → after_word (32 ∷ (w ++ 32 ∷ rest)) ≡ 32 ∷ rest
after_word-front w rest is = ap behind_word (after_blanks-front w rest is) ∙ behind_word-front w rest is.solid

-- A word whose bytes pass a test that no blank passes.
pub whole_from : (passes : ℕ → Bool) (w : List ℕ) → ((b : ℕ) → passes b ≡ true → is_solid b ≡ true) → 1 ≤ length w → list_all passes w ≡ true → IsWhole w
whole_from passes w each some all = record { some = some; solid = kept w all }
  where
    kept : (w : List ℕ) → list_all passes w ≡ true → list_all is_solid w ≡ true
    kept [] h = refl
    kept (b ∷ bs) h = and_from (is_solid b) (list_all is_solid bs) (each b (first_part _ _ h)) (kept bs (second_part _ _ h))

-- ## Numbers

read_on-append : (n : ℕ) (xs : List ℕ) (d : ℕ) → read_on n (xs ++ d ∷ []) ≡ 10 * read_on n xs + (d - 48)
read_on-append n [] d = refl
read_on-append n (x ∷ xs) d = read_on-append (10 * n + (x - 48)) xs d

digit_of : (d : ℕ) → d < 10 → is_ascii_digit (48 + d) ≡ true
digit_of d h = grind (arith, nat_tests)

-- The digits of a number, which read as the number.
pub record ReadsAs (n : ℕ) (w : List ℕ) : Type 0 where
  pub digits : list_all is_ascii_digit w ≡ true
  pub value : read_on 0 w ≡ n

one_digit : (n : ℕ) → n < 10 → ReadsAs n ((48 + n) ∷ [])
one_digit n h = record { digits = and_from _ _ (digit_of n h) refl; value = omega arith }

digit_more : (n : ℕ) (w : List ℕ) → ReadsAs (n / 10) w → ReadsAs n (w ++ (48 + n % 10) ∷ [])
digit_more n w is =
    let last : list_all is_ascii_digit ((48 + n % 10) ∷ []) ≡ true = and_from _ _ (digit_of (n % 10) (omega arith)) refl in
    let known : read_on 0 w ≡ n / 10 = is.value in
    record {
      digits = list_all-append is_ascii_digit w ((48 + n % 10) ∷ []) ∙ and_from _ _ is.digits last;
      value = read_on-append 0 w (48 + n % 10) ∙ omega arith;
    }

same_reads : (n : ℕ) (v w : List ℕ) → w ≡ v → ReadsAs n v → ReadsAs n w
same_reads n v w e is = record { digits = ap (list_all is_ascii_digit) e ∙ is.digits; value = ap (read_on 0) e ∙ is.value }

-- A number of one digit, or of more.
by_size : (n : ℕ) → n < 2 ^ 64 → (10 ≤ n → ReadsAs (n / 10) (decimal (n / 10))) → ReadsAs n (decimal n)
by_size n s less = by (cases_lt n 10)
  where
    by : (n < 10) ⊎ (10 ≤ n) → ReadsAs n (decimal n)
    by (inl few) = same_reads n ((48 + n) ∷ []) (decimal n) (decimal_digit n few) (one_digit n few)
    by (inr many) = same_reads n (decimal (n / 10) ++ (48 + n % 10) ∷ []) (decimal n) (decimal_step n many s) (digit_more n (decimal (n / 10)) (less many))

reads_within : (k n : ℕ) → n < k → n < 2 ^ 64 → ReadsAs n (decimal n)
reads_within zero n h s = absurd (omega arith)
reads_within (suc k) n h s = by_size n s (λ many. reads_within k (n / 10) (omega arith) (omega arith))

pub decimal_reads : (n : ℕ) → n < 2 ^ 64 → ReadsAs n (decimal n)
decimal_reads n s = reads_within (suc n) n (omega arith) s

digit_solid : (b : ℕ) → is_ascii_digit b ≡ true → is_solid b ≡ true
digit_solid b h = grind (arith, nat_tests)

pub decimal_whole : (n : ℕ) → n < 2 ^ 64 → IsWhole (decimal n)
decimal_whole n s = let some : 0 < length (decimal n) = decimal_nonempty n s in whole_from is_ascii_digit (decimal n) digit_solid (omega arith) (decimal_reads n s).digits

-- A number up to the greatest.
pub number_back : (most n : ℕ) → n ≤ most → n < 2 ^ 64 → number_in most (decimal n) ≡ Some n
number_back most n le s =
    let is = decimal_reads n s in
    let some : 0 < length (decimal n) = decimal_nonempty n s in
    let low : nat_le (read_on 0 (decimal n)) most ≡ true = ap (λ v. nat_le v most) is.value ∙ le-leb n most le in
    let all : is_decimal most (decimal n) ≡ true = and_from _ _ (and_from _ _ (le-leb 1 (length (decimal n)) (omega arith)) is.digits) low in
    ap (λ v. cond v (Some (read_on 0 (decimal n))) None) all ∙ ap (λ v. Some v) is.value

-- ## Quoted texts

abbrev pub escaped_text : List ℕ → List ℕ
escaped_text text = flat_map escaped_byte text

quoted_byte : (b : ℕ) (bs rest more : List ℕ) → quoted false more ≡ Some (bs, rest) → quoted false (escaped_byte b ++ more) ≡ Some (b ∷ bs, rest)
quoted_byte b bs rest more is = by (is_quote b) (is_backslash b) refl refl
  where
    escaped : (is_quote b || is_backslash b) ≡ true → quoted false (escaped_byte b ++ more) ≡ Some (b ∷ bs, rest)
    escaped e =
        ap (λ v. quoted false (cond v (92 ∷ b ∷ []) (b ∷ []) ++ more)) e
        ∙ ap (λ v. with_bytes (cond v (b ∷ []) (92 ∷ b ∷ [])) (quoted false more)) e
        ∙ ap (with_bytes (b ∷ [])) is

    by : (q k : Bool) → is_quote b ≡ q → is_backslash b ≡ k → quoted false (escaped_byte b ++ more) ≡ Some (b ∷ bs, rest)
    by true k e f = escaped (ap (λ v. v || is_backslash b) e)
    by false true e f = escaped (ap (λ v. is_quote b || v) f ∙ ap (λ v. v || true) e)
    by false false e f =
        ap (λ v. quoted false (cond v (92 ∷ b ∷ []) (b ∷ []) ++ more)) (ap (λ v. v || is_backslash b) e ∙ f)
        ∙ ap (λ v. cond v (Some ([], more)) (cond (is_backslash b) (quoted true more) (with_bytes (b ∷ []) (quoted false more)))) e
        ∙ ap (λ v. cond v (quoted true more) (with_bytes (b ∷ []) (quoted false more))) f
        ∙ ap (with_bytes (b ∷ [])) is

-- A text after its opening quote, and the text after the closing one.
pub quoted_back : (text rest : List ℕ) → quoted false (escaped_text text ++ 34 ∷ rest) ≡ Some (text, rest)
quoted_back [] rest = refl
quoted_back (b ∷ bs) rest =
    ap (quoted false) (append_assoc (escaped_byte b) (escaped_text bs) (34 ∷ rest))
    ∙ quoted_byte b bs rest (escaped_text bs ++ 34 ∷ rest) (quoted_back bs rest)
