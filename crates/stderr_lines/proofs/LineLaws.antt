-- Lines of a text that arrives in parts.
use Rattle.std.proofs.Common.{◌≡◌, ◌||◌, ◌&&◌, ℕ, suc, zero, ◌+◌, ◌-◌, ◌<◌, ◌≤◌, Bool, true, false, cond, min, List, [], ◌∷◌, ◌++◌, length, map, take, drop, eqb, refl, ap, sym, ◌∙◌, arith, subst, Option, None, Some, length-append, length-take}
use Rattle.std.proofs.lemmas.Bool.{or_parts, or_from, ne_eqb, eqb-true, and_parts}
use Rattle.std.proofs.lemmas.List.{append_assoc, append-nil, take_all, take-append-le, length-take-le}
use Rattle.std.proofs.lemmas.List.Folds.{list_all-append}
use Rattle.std.specs.List.{slice_split, onto_first, list_any, list_all, flat_map}
use Rattle.spool_types.specs.Values.{is_printable, is_attribute_name}
use Rattle.spool_types.specs.declared.effect.Effect.TheVariants.{Attribute}
use Rattle.stderr_lines.specs.declared.prefix.Prefix.{Prefix}
use Rattle.stderr_lines.specs.AttributeLines.{attribute_of, cut_pair}
use Rattle.line_words.specs.Quoting.{said}
use Rattle.line_words.specs.declared.quoting.Quoting.TheVariants.{Bare}
use Rattle.stderr_lines.specs.EffectDrafts.{IsLineText}
use Rattle.spool_types.specs.declared.effect.Effect.{Effect}
use Rattle.line_words.specs.Blanks.{is_blank, after_blanks}
use Rattle.line_words.specs.Quotes.{with_bytes}
use Rattle.stderr_lines.specs.Cuts.{cut_at}
use Rattle.stderr_lines.specs.LineEffects.{is_lf, without_cr, kept_line, prefix_of, shown_byte, shown_text, effects_by, effects_behind, line_effects, effects_of}
use Rattle.stderr_lines.specs.CurrentLine.{IsHeld}
use Rattle.stderr_lines.specs.PendingEffects.{Pending, Tally, Takes, to_come, told_after}
use Rattle.stderr_lines.specs.Tallies.{keep_all, begun, joined}
use Rattle.stderr_lines.proofs.PieceLaws.{onto_front, onto_front-end}
use Rattle.stderr_lines.proofs.TallyLaws.{told_keep_all, told_behind, told_joined, told_end}

-- ## Carriage returns

pub cr_push : (xs : List ℕ) (b : ℕ) → without_cr (xs ++ b ∷ []) ≡ cond (eqb b 13) xs (xs ++ b ∷ [])
cr_push [] b = refl
cr_push (x ∷ []) b = elim (eqb b 13) as (λ v. x ∷ cond v [] (b ∷ []) ≡ cond v (x ∷ []) (x ∷ b ∷ [])) [ true ↦ refl | false ↦ refl ]
cr_push (x ∷ y ∷ ys) b =
    ap (λ l. x ∷ l) (cr_push (y ∷ ys) b)
    ∙ elim (eqb b 13) as (λ v. x ∷ cond v (y ∷ ys) (y ∷ ys ++ b ∷ []) ≡ cond v (x ∷ y ∷ ys) (x ∷ y ∷ ys ++ b ∷ [])) [ true ↦ refl | false ↦ refl ]

pub cr_front : (xs : List ℕ) → take (length (without_cr xs)) xs ≡ without_cr xs
cr_front [] = refl
cr_front (b ∷ []) = elim (eqb b 13) as (λ v. take (length (cond v [] (b ∷ []))) (b ∷ []) ≡ cond v [] (b ∷ [])) [ true ↦ refl | false ↦ refl ]
cr_front (b ∷ c ∷ bs) = ap (λ l. b ∷ l) (cr_front (c ∷ bs))

-- The current line is stored as it is.
pub kept_held : (line : List ℕ) → length line ≤ 1023 → kept_line line ≡ without_cr line
kept_held line short = ap without_cr (take_all 1023 line short)

-- ## The current line

onto_front-cons : (b : ℕ) (front : List ℕ) (pieces : List (List ℕ)) → onto_first b (onto_front front pieces) ≡ onto_front (b ∷ front) pieces
onto_front-cons b front [] = refl
onto_front-cons b front (piece ∷ pieces) = refl

-- Bytes without a line feed precede the first line.
lines_front : (front text : List ℕ) → list_any is_lf front ≡ false → slice_split is_lf (front ++ text) ≡ onto_front front (slice_split is_lf text)
lines_front [] text h = first text
  where
    none : (test : Bool) (b : ℕ) (others pieces : List (List ℕ)) → cond test ([] ∷ others) (onto_first b pieces) ≡ onto_front [] (cond test ([] ∷ others) (onto_first b pieces))
    none true b others pieces = refl
    none false b others [] = refl
    none false b others (piece ∷ pieces) = refl

    first : (text : List ℕ) → slice_split is_lf text ≡ onto_front [] (slice_split is_lf text)
    first [] = refl
    first (b ∷ bs) = none (is_lf b) b (slice_split is_lf bs) (slice_split is_lf bs)
lines_front (b ∷ bs) text h =
    let (here, others) = or_parts (is_lf b) (list_any is_lf bs) h in
    ap (λ v. cond v ([] ∷ slice_split is_lf (bs ++ text)) (onto_first b (slice_split is_lf (bs ++ text)))) here
    ∙ ap (onto_first b) (lines_front bs text others)
    ∙ onto_front-cons b bs (slice_split is_lf text)

abbrev kept_effects : List ℕ → List Effect
kept_effects line = line_effects (kept_line line)

-- Two fronts of a line that yield the same stored bytes.
module _ (f g : List ℕ) (same : (text : List ℕ) → take 1023 (f ++ text) ≡ take 1023 (g ++ text)) where
  same_lines : (lines : List (List ℕ)) → flat_map kept_effects (onto_front f lines) ≡ flat_map kept_effects (onto_front g lines)
  same_lines [] =
      let e : take 1023 f ≡ take 1023 g = ap (take 1023) (sym (append-nil f)) ∙ same [] ∙ ap (take 1023) (append-nil g) in
      ap (λ l. line_effects (without_cr l) ++ []) e
  same_lines (line ∷ lines) = ap (λ l. line_effects (without_cr l) ++ flat_map kept_effects lines) (same line)

  pub same_effects : list_any is_lf f ≡ false → list_any is_lf g ≡ false → (more : List ℕ) → effects_of (f ++ more) ≡ effects_of (g ++ more)
  same_effects h k more =
      ap (flat_map kept_effects) (lines_front f more h) ∙ same_lines (slice_split is_lf more) ∙ ap (flat_map kept_effects) (sym (lines_front g more k))

-- A line feed ends the current line.
line_end : (line more : List ℕ) → list_any is_lf line ≡ false → effects_of (line ++ 10 ∷ more) ≡ line_effects (kept_line line) ++ effects_of more
line_end line more h = ap (flat_map kept_effects) (lines_front line (10 ∷ more) h ∙ onto_front-end line (slice_split is_lf more))

-- The end of the text does too.
last_line : (line : List ℕ) → list_any is_lf line ≡ false → effects_of (line ++ []) ≡ line_effects (kept_line line)
last_line line h = ap (flat_map kept_effects) (lines_front line [] h ∙ onto_front-end line []) ∙ append-nil (line_effects (kept_line line))

-- ## Pieces

abbrev pub is : List ℕ → Tally → Pending
is held tally = record { held = held; tally = tally }

pub takes_none : (p : Pending) → Takes p [] p
takes_none p more = refl

pub takes_more : (p q r : Pending) (xs ys : List ℕ) → Takes p xs q → Takes q ys r → Takes p (xs ++ ys) r
takes_more p q r xs ys first second more = ap (to_come p) (append_assoc xs ys more) ∙ first (ys ++ more) ∙ second more

-- A line feed.
pub takes_lf : (line : List ℕ) (t u : Tally) (new : List ℕ) (b : ℕ) → b ≡ 10 → list_any is_lf line ≡ false → new ≡ [] → u ≡ keep_all t (line_effects (kept_line line)) → Takes (is line t) (b ∷ []) (is new u)
takes_lf line t u new b lf h e f more =
    ap (λ x. told_after t (effects_of (line ++ x ∷ more))) lf
    ∙ ap (told_after t) (line_end line more h)
    ∙ told_keep_all t (line_effects (kept_line line)) (effects_of more)
    ∙ ap (λ v. told_after v (effects_of more)) (sym f)
    ∙ ap (λ l. told_after u (effects_of (l ++ more))) (sym e)

-- Bytes of the current line. The first of them are stored.
module _ (line piece : List ℕ) (held : IsHeld line) (none : list_any is_lf piece ≡ false) where
  same_take : (room : ℕ) (xs text : List ℕ) → take room (xs ++ text) ≡ take room (take room xs ++ text)
  same_take zero xs text = refl
  same_take (suc n) [] text = refl
  same_take (suc n) (x ∷ xs) text = ap (λ l. x ∷ l) (same_take n xs text)

  take_past : (n : ℕ) (xs ys : List ℕ) → length xs ≤ n → take n (xs ++ ys) ≡ xs ++ take (n - length xs) ys
  take_past n [] ys le = (let e : n ≡ n - 0 = omega arith in ap (λ m. take m ys) e)
  take_past zero (x ∷ xs) ys le = absurd (omega arith)
  take_past (suc n) (x ∷ xs) ys le =
      let e : suc n - suc (length xs) ≡ n - length xs = omega arith in
      ap (λ l. x ∷ l) (take_past n xs ys (omega arith) ∙ ap (λ m. xs ++ take m ys) (sym e))

  any_append : (xs ys : List ℕ) → list_any is_lf xs ≡ false → list_any is_lf ys ≡ false → list_any is_lf (xs ++ ys) ≡ false
  any_append [] ys h k = k
  any_append (x ∷ xs) ys h k = let (here, others) = or_parts (is_lf x) (list_any is_lf xs) h in or_from (is_lf x) (list_any is_lf (xs ++ ys)) here (any_append xs ys others k)

  any_take : (n : ℕ) (xs : List ℕ) → list_any is_lf xs ≡ false → list_any is_lf (take n xs) ≡ false
  any_take zero xs h = refl
  any_take (suc n) [] h = refl
  any_take (suc n) (x ∷ xs) h = let (here, others) = or_parts (is_lf x) (list_any is_lf xs) h in or_from (is_lf x) (list_any is_lf (take n xs)) here (any_take n xs others)

  part : List ℕ
  part = take (1023 - length line) piece

  same_kept : (text : List ℕ) → take 1023 ((line ++ piece) ++ text) ≡ take 1023 ((line ++ part) ++ text)
  unfolding part
  same_kept text =
      ap (take 1023) (append_assoc line piece text)
      ∙ take_past 1023 line (piece ++ text) held.short
      ∙ ap (λ l. line ++ l) (same_take (1023 - length line) piece text)
      ∙ sym (take_past 1023 line (take (1023 - length line) piece ++ text) held.short)
      ∙ ap (take 1023) (sym (append_assoc line (take (1023 - length line) piece) text))

  pub takes_part : (t : Tally) (new : List ℕ) → new ≡ line ++ take (1023 - length line) piece → Takes (is line t) piece (is new t)
  unfolding part
  takes_part t new e more =
      ap (λ l. told_after t (effects_of l)) (sym (append_assoc line piece more))
      ∙ ap (told_after t) (same_effects (line ++ piece) (line ++ part) same_kept (any_append line piece held.whole none) (any_append line part held.whole (any_take (1023 - length line) piece none)) more)
      ∙ ap (λ l. told_after t (effects_of (l ++ more))) (sym e)

  pub held_part : (new : List ℕ) → new ≡ line ++ take (1023 - length line) piece → IsHeld new
  held_part new e = record {
    short = let s = held.short in let l = length-append line (take (1023 - length line) piece) in let m = length-take (1023 - length line) piece in let f = ap length e in omega arith;
    whole = ap (list_any is_lf) e ∙ any_append line (take (1023 - length line) piece) held.whole (any_take (1023 - length line) piece none);
  }

-- No byte of a line.
pub held_none : (line : List ℕ) → line ≡ [] → IsHeld line
held_none line e = record { short = let f : length line ≡ 0 = ap length e in omega arith; whole = ap (list_any is_lf) e }

-- A byte that is no line feed.
pub one_none : (b : ℕ) → (b ≡ 10 → ⊥) → list_any is_lf (b ∷ []) ≡ false
one_none b not = or_from (is_lf b) false (ne_eqb b 10 not) refl

-- A piece is taken by a tally of its own.
pub takes_joined : (line new : List ℕ) (t u : Tally) (piece : List ℕ) → Takes (is line (begun t)) piece (is new u) → Takes (is line t) piece (is new (joined t u))
takes_joined line new t u piece h more = ap (told_behind t.effects) (h more) ∙ sym (told_joined t u (effects_of (new ++ more)))

-- ## The end

pub told_finish : (line : List ℕ) (t u : Tally) → list_any is_lf line ≡ false → u ≡ joined t (keep_all (begun t) (line_effects (kept_line line))) → u.dropped ≤ 4294967295
    → record { effects = u.effects; dropped = u.dropped } ≡ to_come (is line t) []
told_finish line t u h e le =
    let es = line_effects (kept_line line) in
    let k = keep_all (begun t) es in
    sym (told_end u le)
    ∙ ap (λ v. told_after v []) e
    ∙ told_joined t k []
    ∙ ap (told_behind t.effects) (sym (told_keep_all (begun t) es []) ∙ ap (told_after (begun t)) (append-nil es))
    ∙ ap (told_after t) (sym (last_line line h))

-- ## The beginning of a line's text

abbrev pub IsCut : ℕ → Option (List ℕ × List ℕ) → List ℕ → Type 0
IsCut c None line = Unit {0}
IsCut c (Some (before, behind)) line = line ≡ before ++ c ∷ behind

onto_cut : (b c : ℕ) (found : Option (List ℕ × List ℕ)) (line : List ℕ) → IsCut c found line → IsCut c (with_bytes (b ∷ []) found) (b ∷ line)
onto_cut b c None line h = tt
onto_cut b c (Some (before, behind)) line h = ap (λ l. b ∷ l) h

pub cut_parts : (c : ℕ) (line : List ℕ) → IsCut c (cut_at c line) line
cut_parts c [] = tt
cut_parts c (b ∷ bs) =
    (elim (eqb b c) as (λ v. eqb b c ≡ v → IsCut c (cond v (Some ([], bs)) (with_bytes (b ∷ []) (cut_at c bs))) (b ∷ bs)) [
      | true ↦ λ h. ap (λ x. x ∷ bs) (eqb-true b c h)
      | false ↦ λ h. onto_cut b c (cut_at c bs) bs (cut_parts c bs)
    ]) refl

blanks_front : (rest : List ℕ) → (front : List ℕ) × (rest ≡ front ++ after_blanks rest)
blanks_front [] = ([], refl)
blanks_front (b ∷ bs) = elim (is_blank b) as (λ v. (front : List ℕ) × (b ∷ bs ≡ front ++ cond v (after_blanks bs) (b ∷ bs))) [
  | true ↦ let h = blanks_front bs in (b ∷ h.0, ap (λ l. b ∷ l) h.1)
  | false ↦ ([], refl)
]

drop_front : (front text : List ℕ) → drop (length (front ++ text) - length text) (front ++ text) ≡ text
drop_front front text = at front (length (front ++ text) - length text) (let l = length-append front text in omega arith)
  where
    at : (front : List ℕ) (n : ℕ) → n ≡ length front → drop n (front ++ text) ≡ text
    at [] n e = ap (λ m. drop m text) e
    at (x ∷ xs) n e = ap (λ m. drop m (x ∷ (xs ++ text))) e ∙ at xs (length xs) refl

-- The bytes after a colon and blanks are the end of the line.
pub text_place : (line name rest : List ℕ) → cut_at 58 line ≡ Some (name, rest) → drop (length line - length (after_blanks rest)) line ≡ after_blanks rest
text_place line name rest e =
    let cut : line ≡ name ++ 58 ∷ rest = subst (λ f. IsCut 58 f line) e (cut_parts 58 line) in
    let (front, is_front) = blanks_front rest in
    let whole : line ≡ (name ++ 58 ∷ front) ++ after_blanks rest = cut ∙ ap (λ l. name ++ 58 ∷ l) is_front ∙ sym (append_assoc name (58 ∷ front) (after_blanks rest)) in
    ap (λ l. drop (length l - length (after_blanks rest)) l) whole ∙ drop_front (name ++ 58 ∷ front) (after_blanks rest)

pub rest_short : (line name rest : List ℕ) → Some (name, rest) ≡ cut_at 58 line → length rest ≤ length line
rest_short line name rest e =
    let cut : line ≡ name ++ 58 ∷ rest = subst (λ f. IsCut 58 f line) (sym e) (cut_parts 58 line) in
    let l = length-append name (58 ∷ rest) in
    let m = ap length cut in
    omega arith

pub prefix_text : (line name rest text : List ℕ) (prefix : Prefix) → Some (name, rest) ≡ cut_at 58 line → text ≡ after_blanks rest → prefix ≡ prefix_of name
    → line_effects line ≡ effects_by prefix (map shown_byte (drop (length line - length text) line))
prefix_text line name rest text prefix cut keeps is_prefix =
    ap effects_behind (sym cut)
    ∙ ap (λ p. effects_by p (shown_text rest)) (sym is_prefix)
    ∙ ap (λ t. effects_by prefix (map shown_byte t)) (sym (text_place line name rest (sym cut)) ∙ ap (λ t. drop (length line - length t) line) (sym keeps))

-- ## Pairs

pub value_text : (word name value : List ℕ) → Some (name, value) ≡ cut_at 61 word → IsLineText word → IsLineText value
value_text word name value e h =
    let cut : word ≡ name ++ 61 ∷ value = subst (λ f. IsCut 61 f word) (sym e) (cut_parts 61 word) in
    let l = length-append name (61 ∷ value) in
    let m = ap length cut in
    let s = h.short in
    let all : (list_all is_printable name && list_all is_printable (61 ∷ value)) ≡ true = sym (list_all-append is_printable name (61 ∷ value)) ∙ ap (list_all is_printable) (sym cut) ∙ h.printable in
    record {
      short = omega arith;
      printable = (and_parts (list_all is_printable name) (list_all is_printable (61 ∷ value)) all).1;
    }

pub no_pair : (word name value : List ℕ) → Some (name, value) ≡ cut_at 61 word → is_attribute_name name ≡ false → None ≡ attribute_of word
no_pair word name value cut h = sym (ap cut_pair (sym cut) ∙ ap (λ v. cond v (Some (Attribute (record { name = name; value = said Bare value }))) None) h)

-- ## The bytes of a line that are read

pub end_bytes : (line front bytes : List ℕ) → front ≡ without_cr line → bytes ≡ line → take (length front) bytes ≡ without_cr line
end_bytes line front bytes is_front is_bytes = ap (λ l. take (length l) bytes) is_front ∙ ap (take (length (without_cr line))) is_bytes ∙ cr_front line
