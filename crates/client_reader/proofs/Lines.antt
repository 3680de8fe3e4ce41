-- Texts by lines, and by the bytes of a send.
use Rattle.std.proofs.Common.{◌≡◌, ℕ, suc, zero, ◌+◌, ◌-◌, ◌<◌, ◌≤◌, true, false, not, cond, List, [], ◌∷◌, ◌++◌, length, get_or, take, drop, refl, ap, sym, ◌∙◌, eqb, ltb, arith, append_assoc, length-append, length-drop, lt-ltb, Option, None, Some}
use Rattle.std.proofs.lemmas.List.{append-nil, get_or_append_left, get_or_past, get_or_at, take-append-le, take_at, drop-append-le, drop_at, drop_all, drop_more}
use Rattle.std.proofs.lemmas.Bool.{false≢true}
use Rattle.std.specs.Prelude.{nat_le}
use Rattle.command_lines.specs.TextLines.{has_lf, first_line, after_line}
use Rattle.command_lines.specs.CommandGrammar.{kind_of, kind_of_words, is_remark}
use Rattle.command_lines.specs.CommandWords.{words_of, words_within}
use Rattle.command_lines.specs.Text as texts
use Rattle.command_lines.specs.Text.{commands_within, commands_of, after_bytes, is_lf_at, sent}
use Rattle.command_lines.specs.declared.command.Command.TheVariants.{Malformed}
use Rattle.command_lines.specs.declared.command.Kind.{Kind}
use Rattle.command_lines.specs.declared.command.Kind.TheVariants.{Remark, Takes, Says}
use Rattle.service_texts.specs.ServiceWords.{own_word}
use Rattle.service_texts.specs.declared.own_words.OwnWord.{OwnWord}
use Rattle.client_reader.specs.declared.ask.Ask.{Ask}
use Rattle.client_reader.specs.declared.ask.Ask.TheVariants as asking
use Rattle.client_reader.specs.Asks.{own_of, after_send, after_kind, after_own, asks_within, asks_of}
use Rattle.client_reader.specs.AwaitedRequests.{ends_within}

-- ## Lines

pub first_line_part : (xs ys : List ℕ) → has_lf xs ≡ false → first_line (xs ++ ys) ≡ xs ++ first_line ys
first_line_part [] ys h = refl
first_line_part (x ∷ xs) ys h =
    (elim (eqb x 10) as (λ v. cond v true (has_lf xs) ≡ false → cond v [] (x ∷ first_line (xs ++ ys)) ≡ x ∷ (xs ++ first_line ys)) [ true ↦ λ k. absurd (false≢true (sym k)) | false ↦ λ k. ap (λ l. x ∷ l) (first_line_part xs ys k) ]) h

pub after_line_part : (xs ys : List ℕ) → has_lf xs ≡ false → after_line (xs ++ ys) ≡ after_line ys
after_line_part [] ys h = refl
after_line_part (x ∷ xs) ys h =
    (elim (eqb x 10) as (λ v. cond v true (has_lf xs) ≡ false → cond v (xs ++ ys) (after_line (xs ++ ys)) ≡ after_line ys) [ true ↦ λ k. absurd (false≢true (sym k)) | false ↦ λ k. after_line_part xs ys k ]) h

after_line_short : (xs : List ℕ) → length (after_line xs) ≤ length xs
after_line_short [] = omega arith
after_line_short (x ∷ xs) = elim (eqb x 10) as (λ v. length (cond v xs (after_line xs)) ≤ suc (length xs)) [ true ↦ omega arith | false ↦ let h = after_line_short xs in omega arith ]

after_line_shorter : (x : ℕ) (xs : List ℕ) → length (after_line (x ∷ xs)) ≤ length xs
after_line_shorter x xs = elim (eqb x 10) as (λ v. length (cond v xs (after_line xs)) ≤ length xs) [ true ↦ omega arith | false ↦ after_line_short xs ]

pub has_lf_append : (xs ys : List ℕ) → has_lf xs ≡ false → has_lf ys ≡ false → has_lf (xs ++ ys) ≡ false
has_lf_append [] ys h k = k
has_lf_append (x ∷ xs) ys h k =
    (elim (eqb x 10) as (λ v. cond v true (has_lf xs) ≡ false → cond v true (has_lf (xs ++ ys)) ≡ false) [ true ↦ λ l. absurd (false≢true (sym l)) | false ↦ λ l. has_lf_append xs ys l k ]) h

-- ## Bytes of a send

-- The bytes of a send and LF, otherwise malformed, for any way to read the rest.
abbrev pub split_at : {X : Type 0} → (List ℕ → List X) → (List ℕ → X) → X → ℕ → List ℕ → List X
split_at reading good bad n text = cond (is_lf_at n text) (good (take n text) ∷ reading (drop (n + 1) text)) (bad ∷ reading (after_line (drop n text)))

module _ {X : Type 0} (reading : List ℕ → List X) (good : List ℕ → X) (bad : X) (n : ℕ) where
  pub split_wrong : (text : List ℕ) → is_lf_at n text ≡ false → split_at reading good bad n text ≡ bad ∷ reading (after_line (drop n text))
  split_wrong text e = ap (λ v. cond v (good (take n text) ∷ reading (drop (n + 1) text)) (bad ∷ reading (after_line (drop n text)))) e

  pub split_right : (text : List ℕ) → is_lf_at n text ≡ true → split_at reading good bad n text ≡ good (take n text) ∷ reading (drop (n + 1) text)
  split_right text e = ap (λ v. cond v (good (take n text) ∷ reading (drop (n + 1) text)) (bad ∷ reading (after_line (drop n text)))) e

  -- Some bytes are missing at the end.
  pub split_cut : (text : List ℕ) → length text ≤ n → split_at reading good bad n text ≡ bad ∷ reading []
  split_cut text h =
      split_wrong text (ap (λ b. eqb b 10) (get_or_past text n 0 h)) ∙ ap (λ l. bad ∷ reading (after_line l)) (drop_all n text h)

  -- All bytes have arrived, followed by LF.
  pub split_whole : (text more : List ℕ) → length text ≡ n → split_at reading good bad n (text ++ 10 ∷ more) ≡ good text ∷ reading more
  split_whole text more h =
      let e : is_lf_at n (text ++ 10 ∷ more) ≡ true = ap (λ b. eqb b 10) (get_or_at text 10 more 0 n h) in
      let d : drop (n + 1) (text ++ 10 ∷ more) ≡ more = ap (drop (n + 1)) (sym (append_assoc text (10 ∷ []) more)) ∙ drop_at (text ++ 10 ∷ []) more (n + 1) (length-append text (10 ∷ []) ∙ ap (λ k. k + 1) h) in
      split_right (text ++ 10 ∷ more) e
      ∙ ap (λ l. good l ∷ reading (drop (n + 1) (text ++ 10 ∷ more))) (take_at text (10 ∷ more) n h)
      ∙ ap (λ l. good text ∷ reading l) d

  -- One more byte has arrived, and more follow.
  module _ (text : List ℕ) (full : length text ≡ n + 1) where
    lf_same : (more : List ℕ) → is_lf_at n (text ++ more) ≡ is_lf_at n text
    lf_same more = ap (λ b. eqb b 10) (get_or_append_left text more 0 n (omega arith))

    pub split_full : is_lf_at n text ≡ true → (more : List ℕ) → split_at reading good bad n (text ++ more) ≡ good (take n text) ∷ reading more
    split_full is more =
        split_right (text ++ more) (lf_same more ∙ is)
        ∙ ap (λ l. good l ∷ reading (drop (n + 1) (text ++ more))) (take-append-le n text more (omega arith))
        ∙ ap (λ l. good (take n text) ∷ reading l) (drop_at text more (n + 1) full)

    pub split_off : is_lf_at n text ≡ false → (more : List ℕ) → split_at reading good bad n (text ++ more) ≡ bad ∷ reading (after_line more)
    split_off is more =
        let rest : drop n text ≡ get_or text n 0 ∷ [] = drop_more text n 0 (omega arith) ∙ ap (λ l. get_or text n 0 ∷ l) (drop_all (n + 1) text (omega arith)) in
        split_wrong (text ++ more) (lf_same more ∙ is)
        ∙ ap (λ l. bad ∷ reading (after_line l)) (drop-append-le n text more (omega arith))
        ∙ ap (λ l. bad ∷ reading (after_line (l ++ more))) rest
        ∙ ap (λ v. bad ∷ reading (cond v more (after_line more))) is

-- ## The requests of a text, line by line

module _ (f g : List ℕ → List Ask) where
  same_bytes : (job n : ℕ) (rest : List ℕ) → ((t : List ℕ) → length t ≤ length rest → f t ≡ g t) → after_send f job n rest ≡ after_send g job n rest
  same_bytes job n rest h =
      let a = h (drop (n + 1) rest) (let l = length-drop (n + 1) rest in omega arith) in
      let b = h (after_line (drop n rest)) (let l = length-drop n rest in let m = after_line_short (drop n rest) in omega arith) in
      elim (is_lf_at n rest) as (λ v. cond v (asking.Command (sent job n (take n rest)) ∷ f (drop (n + 1) rest)) (asking.Command Malformed ∷ f (after_line (drop n rest))) ≡ cond v (asking.Command (sent job n (take n rest)) ∷ g (drop (n + 1) rest)) (asking.Command Malformed ∷ g (after_line (drop n rest))))
      [ true ↦ ap (λ l. asking.Command (sent job n (take n rest)) ∷ l) a | false ↦ ap (λ l. asking.Command Malformed ∷ l) b ]

  same_kind : (kind : Kind) (rest : List ℕ) → ((t : List ℕ) → length t ≤ length rest → f t ≡ g t) → after_kind f kind rest ≡ after_kind g kind rest
  same_kind Remark rest h = h rest (omega arith)
  same_kind (Says c) rest h = ap (λ l. asking.Command c ∷ l) (h rest (omega arith))
  same_kind (Takes job n) rest h = same_bytes job n rest h

  same_line : (word : Option OwnWord) (kind : Kind) (rest : List ℕ) → ((t : List ℕ) → length t ≤ length rest → f t ≡ g t) → after_own f word kind rest ≡ after_own g word kind rest
  same_line None kind rest h = same_kind kind rest h
  same_line (Some word) kind rest h = ap (λ l. asking.Own word ∷ l) (h rest (omega arith))

same_within : (m n : ℕ) (t : List ℕ) → length t ≤ m → length t ≤ n → asks_within m t ≡ asks_within n t
unfolding asks_within
same_within zero zero t h k = refl
same_within zero (suc n) [] h k = refl
same_within zero (suc n) (b ∷ bs) h k = absurd (omega arith)
same_within (suc m) zero [] h k = refl
same_within (suc m) zero (b ∷ bs) h k = absurd (omega arith)
same_within (suc m) (suc n) [] h k = refl
same_within (suc m) (suc n) (b ∷ bs) h k =
    let short = after_line_shorter b bs in
    same_line (asks_within m) (asks_within n) (own_of (first_line (b ∷ bs))) (kind_of (first_line (b ∷ bs))) (after_line (b ∷ bs)) (λ t l. same_within m n t (omega arith) (omega arith))

-- The empty text.
pub commands_of-nil : commands_of [] ≡ []
unfolding commands_of commands_within
commands_of-nil = refl

asks_of-cons : (b : ℕ) (bs : List ℕ) → asks_of (b ∷ bs) ≡ after_own asks_of (own_of (first_line (b ∷ bs))) (kind_of (first_line (b ∷ bs))) (after_line (b ∷ bs))
unfolding asks_of asks_within
asks_of-cons b bs =
    let short = after_line_shorter b bs in
    same_line (asks_within (length bs)) asks_of (own_of (first_line (b ∷ bs))) (kind_of (first_line (b ∷ bs))) (after_line (b ∷ bs)) (λ t l. same_within (length bs) (length t) t (omega arith) (omega arith))

-- The same for commands, as `command_lines` states it.
abbrev pub LineByLine : Type 0
LineByLine = (text : List ℕ) → commands_of text ≡ texts.after_kind commands_of (kind_of (first_line text)) (after_line text)

first_whole : (l r : List ℕ) → has_lf l ≡ false → first_line (l ++ 10 ∷ r) ≡ l
first_whole l r h = first_line_part l (10 ∷ r) h ∙ append-nil l

-- A complete line.
pub commands_line : LineByLine → (l r : List ℕ) → has_lf l ≡ false → commands_of (l ++ 10 ∷ r) ≡ texts.after_kind commands_of (kind_of l) r
commands_line law l r h =
    law (l ++ 10 ∷ r)
    ∙ ap (λ x. texts.after_kind commands_of (kind_of x) (after_line (l ++ 10 ∷ r))) (first_whole l r h)
    ∙ ap (texts.after_kind commands_of (kind_of l)) (after_line_part l (10 ∷ r) h)

-- A line that is no command.
fault_kind : kind_of (120 ∷ []) ≡ Says Malformed
unfolding kind_of words_of words_within
fault_kind = refl

pub one_fault : LineByLine → commands_of (120 ∷ 10 ∷ []) ≡ Malformed ∷ commands_of []
one_fault law = commands_line law (120 ∷ []) [] refl ∙ ap (λ k. texts.after_kind commands_of k []) fault_kind

asks_some : (text : List ℕ) → 0 < length text → asks_of text ≡ after_own asks_of (own_of (first_line text)) (kind_of (first_line text)) (after_line text)
asks_some [] h = absurd (omega arith)
asks_some (b ∷ bs) h = asks_of-cons b bs

pub asks_line : (l r : List ℕ) → has_lf l ≡ false → asks_of (l ++ 10 ∷ r) ≡ after_own asks_of (own_of l) (kind_of l) r
asks_line l r h =
    asks_some (l ++ 10 ∷ r) (let e = length-append l (10 ∷ r) in omega arith)
    ∙ ap (λ x. after_own asks_of (own_of x) (kind_of x) (after_line (l ++ 10 ∷ r))) (first_whole l r h)
    ∙ ap (after_own asks_of (own_of l) (kind_of l)) (after_line_part l (10 ∷ r) h)

-- ## Lines that are too long

-- A long line is blank, a remark or malformed, depending on its first byte only.
abbrev pub long_kind : List ℕ → Kind
long_kind l = cond (is_remark l) Remark (Says Malformed)

kind_long : (l more : List ℕ) → 4096 < length l → kind_of (l ++ more) ≡ long_kind l
unfolding kind_of
kind_long [] more k = absurd (omega arith)
kind_long (b ∷ bs) more k =
    let l : ltb 4096 (length (b ∷ (bs ++ more))) ≡ true = lt-ltb 4096 _ (let e = length-append bs more in omega arith) in
    ap (λ v. cond (eqb b 35) Remark (cond v (Says Malformed) (kind_of_words (words_of (b ∷ (bs ++ more)))))) l

own_long : (l more : List ℕ) → 4096 < length l → own_of (l ++ more) ≡ None
own_long l more k =
    let f : nat_le (length (l ++ more)) 4096 ≡ false = (let e = length-append l more in grind arith) in
    ap (λ v. cond v (own_word (l ++ more)) None) f

pub commands_long : LineByLine → (l more : List ℕ) → has_lf l ≡ false → 4096 < length l → commands_of (l ++ more) ≡ texts.after_kind commands_of (long_kind l) (after_line more)
commands_long law l more h k =
    law (l ++ more)
    ∙ ap (λ x. texts.after_kind commands_of (kind_of x) (after_line (l ++ more))) (first_line_part l more h)
    ∙ ap (λ x. texts.after_kind commands_of x (after_line (l ++ more))) (kind_long l (first_line more) k)
    ∙ ap (texts.after_kind commands_of (long_kind l)) (after_line_part l more h)

pub asks_long : (l more : List ℕ) → has_lf l ≡ false → 4096 < length l → asks_of (l ++ more) ≡ after_kind asks_of (long_kind l) (after_line more)
asks_long l more h k =
    asks_some (l ++ more) (let e = length-append l more in omega arith)
    ∙ ap (λ x. after_own asks_of (own_of x) (kind_of x) (after_line (l ++ more))) (first_line_part l more h)
    ∙ ap (λ w. after_own asks_of w (kind_of (l ++ first_line more)) (after_line (l ++ more))) (own_long l (first_line more) k)
    ∙ ap (λ x. after_kind asks_of x (after_line (l ++ more))) (kind_long l (first_line more) k)
    ∙ ap (after_kind asks_of (long_kind l)) (after_line_part l more h)

-- ## The last byte

no_lf_at : (xs : List ℕ) (i : ℕ) → has_lf xs ≡ false → is_lf_at i xs ≡ false
no_lf_at [] i h = refl
no_lf_at (x ∷ xs) zero h = (elim (eqb x 10) as (λ v. cond v true (has_lf xs) ≡ false → v ≡ false) [ true ↦ λ k. k | false ↦ λ k. refl ]) h
no_lf_at (x ∷ xs) (suc i) h =
    (elim (eqb x 10) as (λ v. cond v true (has_lf xs) ≡ false → is_lf_at i xs ≡ false) [ true ↦ λ k. absurd (false≢true (sym k)) | false ↦ λ k. no_lf_at xs i k ]) h

pub ends_within_front : (xs : List ℕ) → has_lf xs ≡ false → ends_within xs ≡ true
ends_within_front xs h = ap not (no_lf_at xs (length xs - 1) h)

pub ends_within_line : (l : List ℕ) → ends_within (l ++ 10 ∷ []) ≡ false
ends_within_line l =
    let e : length (l ++ 10 ∷ []) - 1 ≡ length l = (let k = length-append l (10 ∷ []) in omega arith) in
    ap (λ n. not (is_lf_at n (l ++ 10 ∷ []))) e ∙ ap (λ b. not (eqb b 10)) (get_or_at l 10 [] 0 (length l) refl)
