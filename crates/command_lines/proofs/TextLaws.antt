-- The commands of a text, line by line, and the commands to come.
use Rattle.std.proofs.Common.{◌≡◌, ℕ, suc, zero, ◌+◌, ◌-◌, ◌<◌, ◌≤◌, true, false, cond, List, [], ◌∷◌, ◌++◌, length, get_or, take, drop, refl, ap, sym, ◌∙◌, eqb, ltb, arith, length-append, length-drop, lt-ltb}
use Rattle.std.proofs.lemmas.List.{append-nil}
use Rattle.std.proofs.lemmas.Bool.{false≢true}
use Rattle.std.proofs.lemmas.List.{get_or_append_left, get_or-append_right, get_or_past, take-append-le, drop-append-le, drop-drop, drop_at, drop_all, drop_more}
use Rattle.command_lines.specs.TextLines.{has_lf, first_line, after_line}
use Rattle.command_lines.specs.ReaderSteps.{IsAt}
use Rattle.command_lines.specs.CommandGrammar.{kind_of, kind_of_words}
use Rattle.command_lines.specs.CommandWords.{words_of}
use Rattle.command_lines.specs.ReaderSteps.{starts_remark}
use Rattle.command_lines.specs.Text.{commands_within, commands_of, after_kind, after_bytes, is_lf_at, sent}
use Rattle.command_lines.specs.declared.command.Command.{Command}
use Rattle.command_lines.specs.declared.command.Command.TheVariants.{Malformed}
use Rattle.command_lines.specs.declared.command.Kind.{Kind}
use Rattle.command_lines.specs.declared.command.Kind.TheVariants.{Remark, Takes, Says}
use Rattle.command_lines.proofs.LineLaws.{after_line_short, after_line_shorter, first_line_whole, after_line_whole, first_line_part, after_line_part}

-- Two readings that agree on each text that is at most as long as the rest.
module _ (f g : List ℕ → List Command) where
  same_bytes : (command : List ℕ → Command) (n : ℕ) (rest : List ℕ) → ((t : List ℕ) → length t ≤ length rest → f t ≡ g t) → after_bytes f command n rest ≡ after_bytes g command n rest
  same_bytes command n rest h =
      let a = h (drop (n + 1) rest) (let l = length-drop (n + 1) rest in omega arith) in
      let b = h (after_line (drop n rest)) (let l = length-drop n rest in let m = after_line_short (drop n rest) in omega arith) in
      elim (is_lf_at n rest) as (λ v. cond v (command (take n rest) ∷ f (drop (n + 1) rest)) (Malformed ∷ f (after_line (drop n rest))) ≡ cond v (command (take n rest) ∷ g (drop (n + 1) rest)) (Malformed ∷ g (after_line (drop n rest))))
      [ true ↦ ap (λ l. command (take n rest) ∷ l) a | false ↦ ap (λ l. Malformed ∷ l) b ]

  same_kind : (kind : Kind) (rest : List ℕ) → ((t : List ℕ) → length t ≤ length rest → f t ≡ g t) → after_kind f kind rest ≡ after_kind g kind rest
  same_kind Remark rest h = h rest (omega arith)
  same_kind (Says c) rest h = ap (λ l. c ∷ l) (h rest (omega arith))
  same_kind (Takes job n) rest h = same_bytes (sent job n) n rest h

-- A greater count of lines changes nothing.
same_within : (m n : ℕ) (t : List ℕ) → length t ≤ m → length t ≤ n → commands_within m t ≡ commands_within n t
unfolding commands_within
same_within zero zero t h k = refl
same_within zero (suc n) [] h k = refl
same_within zero (suc n) (b ∷ bs) h k = absurd (omega arith)
same_within (suc m) zero [] h k = refl
same_within (suc m) zero (b ∷ bs) h k = absurd (omega arith)
same_within (suc m) (suc n) [] h k = refl
same_within (suc m) (suc n) (b ∷ bs) h k =
    let short = after_line_shorter b bs in
    same_kind (commands_within m) (commands_within n) (kind_of (first_line (b ∷ bs))) (after_line (b ∷ bs)) (λ t l. same_within m n t (omega arith) (omega arith))

-- The first line of a text, and the commands of the rest.
pub commands_of-line : (t : List ℕ) → commands_of t ≡ after_kind commands_of (kind_of (first_line t)) (after_line t)
unfolding commands_of commands_within kind_of
commands_of-line [] = refl
commands_of-line (b ∷ bs) =
    let short = after_line_shorter b bs in
    same_kind (commands_within (length bs)) commands_of (kind_of (first_line (b ∷ bs))) (after_line (b ∷ bs)) (λ t l. same_within (length bs) (length t) t (omega arith) (omega arith))

pub commands_of-nil : commands_of [] ≡ []
unfolding commands_of commands_within
commands_of-nil = refl

pub kind_of_remark : (held more : List ℕ) → starts_remark held ≡ true → kind_of (held ++ more) ≡ Remark
unfolding kind_of
kind_of_remark [] more h = absurd (false≢true h)
kind_of_remark (b ∷ bs) more h = ap (λ v. cond v Remark (cond (ltb 4096 (length (b ∷ (bs ++ more)))) (Says Malformed) (kind_of_words (words_of (b ∷ (bs ++ more)))))) h

pub kind_of_long : (held more : List ℕ) → starts_remark held ≡ false → 4096 < length held → kind_of (held ++ more) ≡ Says Malformed
unfolding kind_of
kind_of_long [] more h k = absurd (omega arith)
kind_of_long (b ∷ bs) more h k =
    let l : ltb 4096 (length (b ∷ (bs ++ more))) ≡ true = lt-ltb 4096 _ (let e = length-append bs more in omega arith) in
    ap (λ v. cond v Remark (cond (ltb 4096 (length (b ∷ (bs ++ more)))) (Says Malformed) (kind_of_words (words_of (b ∷ (bs ++ more)))))) h
    ∙ ap (λ v. cond v (Says Malformed) (kind_of_words (words_of (b ∷ (bs ++ more))))) l

-- A whole line.
pub whole_line : (held : List ℕ) (at : ℕ) → IsAt held at → (kind : Kind) → kind ≡ kind_of (take at held) → (more : List ℕ) → commands_of (held ++ more) ≡ after_kind commands_of kind (drop (at + 1) held ++ more)
whole_line held at is kind e more =
    commands_of-line (held ++ more)
    ∙ ap (λ l. after_kind commands_of (kind_of l) (after_line (held ++ more))) (first_line_whole held more is.there ∙ is.line)
    ∙ ap (λ k. after_kind commands_of k (after_line (held ++ more))) (sym e)
    ∙ ap (after_kind commands_of kind) (after_line_whole held more is.there ∙ ap (λ l. l ++ more) is.rest)

-- The beginning of a line that already determines the meaning of the line.
pub part_line : (held : List ℕ) → has_lf held ≡ false → (kind : Kind) → ((more : List ℕ) → kind_of (held ++ more) ≡ kind) → (more : List ℕ) → commands_of (held ++ more) ≡ after_kind commands_of kind (after_line more)
part_line held none kind says more =
    commands_of-line (held ++ more)
    ∙ ap (λ l. after_kind commands_of (kind_of l) (after_line (held ++ more))) (first_line_part held more none)
    ∙ ap (λ k. after_kind commands_of k (after_line (held ++ more))) (says (first_line more))
    ∙ ap (after_kind commands_of kind) (after_line_part held more none)

pub remark_part : (held : List ℕ) → has_lf held ≡ false → starts_remark held ≡ true → (more : List ℕ) → commands_of (held ++ more) ≡ commands_of (after_line more)
remark_part held none first = part_line held none Remark (λ more. kind_of_remark held more first)

pub long_part : (held : List ℕ) → has_lf held ≡ false → starts_remark held ≡ false → 4096 < length held → (more : List ℕ) → commands_of (held ++ more) ≡ Malformed ∷ commands_of (after_line more)
long_part held none first long = part_line held none (Says Malformed) (λ more. kind_of_long held more first long)

-- All bytes are buffered.
module _ (command : List ℕ → Command) (n : ℕ) (held : List ℕ) (there : n < length held) where
  lf_same : (more : List ℕ) → is_lf_at n (held ++ more) ≡ is_lf_at n held
  lf_same more = ap (λ b. eqb b 10) (get_or_append_left held more 0 n there)

  pub whole_bytes : get_or held n 0 ≡ 10 → (more : List ℕ) → after_bytes commands_of command n (held ++ more) ≡ command (take n held) ∷ commands_of (drop (n + 1) held ++ more)
  whole_bytes is more =
      let e : is_lf_at n (held ++ more) ≡ true = lf_same more ∙ ap (λ b. eqb b 10) is in
      let le : n ≤ length held = omega arith in
      let lt : n + 1 ≤ length held = omega arith in
      ap (λ v. cond v (command (take n (held ++ more)) ∷ commands_of (drop (n + 1) (held ++ more))) (Malformed ∷ commands_of (after_line (drop n (held ++ more))))) e
      ∙ ap (λ l. command l ∷ commands_of (drop (n + 1) (held ++ more))) (take-append-le n held more le)
      ∙ ap (λ l. command (take n held) ∷ commands_of l) (drop-append-le (n + 1) held more lt)

  pub wrong_bytes : (get_or held n 0 ≡ 10 → ⊥) → (more : List ℕ) → after_bytes commands_of command n (held ++ more) ≡ Malformed ∷ commands_of (after_line (drop (n + 1) held ++ more))
  wrong_bytes not more =
      let f : eqb (get_or held n 0) 10 ≡ false = grind (arith, not) in
      let e : is_lf_at n (held ++ more) ≡ false = lf_same more ∙ f in
      let le : n ≤ length held = omega arith in
      ap (λ v. cond v (command (take n (held ++ more)) ∷ commands_of (drop (n + 1) (held ++ more))) (Malformed ∷ commands_of (after_line (drop n (held ++ more))))) e
      ∙ ap (λ l. Malformed ∷ commands_of (after_line l)) (drop-append-le n held more le)
      ∙ ap (λ l. Malformed ∷ commands_of (after_line (l ++ more))) (drop_one n held there)
      ∙ ap (λ v. Malformed ∷ commands_of (cond v (drop (n + 1) held ++ more) (after_line (drop (n + 1) held ++ more)))) f
    where
      drop_one : (n : ℕ) (xs : List ℕ) → n < length xs → drop n xs ≡ get_or xs n 0 ∷ drop (n + 1) xs
      drop_one n xs h = drop_more xs n 0 h

-- Bytes that are counted.
pub counted_bytes : (command : Command) (n : ℕ) (held more : List ℕ) → length held ≤ n → after_bytes commands_of (λ _. command) n (held ++ more) ≡ after_bytes commands_of (λ _. command) (n - length held) more
counted_bytes command n held more h =
    let b : get_or (held ++ more) n 0 ≡ get_or more (n - length held) 0 = get_or-append_right held more (length held) n 0 refl h in
    let d : drop n (held ++ more) ≡ drop (n - length held) more = passed n h in
    let d' : drop (n + 1) (held ++ more) ≡ drop (n - length held + 1) more =
    passed (n + 1) (omega arith) ∙ (let e : n + 1 - length held ≡ n - length held + 1 = omega arith in ap (λ m. drop m more) e) in
    ap (λ x. cond (eqb x 10) (command ∷ commands_of (drop (n + 1) (held ++ more))) (Malformed ∷ commands_of (after_line (drop n (held ++ more))))) b
    ∙ ap (λ l. cond (is_lf_at (n - length held) more) (command ∷ commands_of l) (Malformed ∷ commands_of (after_line (drop n (held ++ more))))) d'
    ∙ ap (λ l. cond (is_lf_at (n - length held) more) (command ∷ commands_of (drop (n - length held + 1) more)) (Malformed ∷ commands_of (after_line l))) d
  where
    passed : (m : ℕ) → length held ≤ m → drop m (held ++ more) ≡ drop (m - length held) more
    passed m k =
        (let e : m ≡ length held + (m - length held) = omega arith in ap (λ q. drop q (held ++ more)) e)
        ∙ sym (drop-drop (m - length held) (length held) (held ++ more))
        ∙ ap (drop (m - length held)) (drop_at held more (length held) refl)

-- The text ends before the LF.
pub cut_bytes : (command : List ℕ → Command) (n : ℕ) (held : List ℕ) → length held ≤ n → after_bytes commands_of command n (held ++ []) ≡ Malformed ∷ []
cut_bytes command n held h =
    ap (λ l. after_bytes commands_of command n l) (append-nil held)
    ∙ ap (λ b. cond (eqb b 10) (command (take n held) ∷ commands_of (drop (n + 1) held)) (Malformed ∷ commands_of (after_line (drop n held)))) (get_or_past held n 0 h)
    ∙ ap (λ l. Malformed ∷ commands_of (after_line l)) (drop_all n held h)
    ∙ ap (λ l. Malformed ∷ l) commands_of-nil
