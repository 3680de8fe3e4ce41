-- Reasons, read one at a time.
use Rattle.std.proofs.Common.{◌≡◌, ◌&&◌, ℕ, suc, ◌+◌, ◌*◌, ◌<◌, ◌≤◌, Bool, true, false, cond, List, [], ◌∷◌, ◌++◌, length, filter, refl, ap, sym, ◌∙◌, arith, Option, None, Some}
use Rattle.std.specs.List.{slice_split, onto_first}
use Rattle.std.specs.Option.{option_to_list}
use Rattle.std.specs.Str.{is_utf8}
use Rattle.spool_types.specs.Values.{is_reason}
use Rattle.spool_types.specs.Effects.{text_size, texts_size}
use Rattle.stderr_lines.specs.ReasonLines.{is_separator, reasons_of}
use Rattle.stderr_lines.specs.Rests.{pieces_behind, reasons_from}
use Rattle.stderr_lines.proofs.TextLaws.{reason_test}

-- The first piece is a reason or is not.
pub first_reason : (text word : List ℕ) (behind : Option (List ℕ)) → slice_split is_separator text ≡ word ∷ pieces_behind behind
    → reasons_of text ≡ option_to_list (cond (is_utf8 word && is_reason word) (Some word) None) ++ reasons_from behind
first_reason text word behind e =
    ap (filter is_reason) e
    ∙ by_test (is_reason word) behind
    ∙ ap (λ v. option_to_list (cond v (Some word) None) ++ reasons_from behind) (sym (reason_test word))
  where
    by_test : (t : Bool) (behind : Option (List ℕ)) → cond t (word ∷ filter is_reason (pieces_behind behind)) (filter is_reason (pieces_behind behind)) ≡ option_to_list (cond t (Some word) None) ++ reasons_from behind
    by_test true None = refl
    by_test true (Some rest) = refl
    by_test false None = refl
    by_test false (Some rest) = refl

-- ## Sizes

pub no_size : (xs : List (List ℕ)) → texts_size xs ≡ 0 → xs ≡ []
no_size [] h = refl
no_size (x ∷ xs) h = absurd (omega arith)

onto_first_size : (b : ℕ) (pieces : List (List ℕ)) → texts_size (onto_first b pieces) ≤ texts_size pieces + 3
onto_first_size b [] = omega arith
onto_first_size b (piece ∷ pieces) = omega arith

split_size : (xs : List ℕ) → texts_size (slice_split is_separator xs) ≤ 3 * length xs + 2
split_size [] = omega arith
split_size (x ∷ xs) =
    let h = split_size xs in
    let k = onto_first_size x (slice_split is_separator xs) in
    elim (is_separator x) as (λ v. texts_size (cond v ([] ∷ slice_split is_separator xs) (onto_first x (slice_split is_separator xs))) ≤ 3 * suc (length xs) + 2) [
      | true ↦ omega arith
      | false ↦ omega arith
    ]

filter_size : (xs : List (List ℕ)) → texts_size (filter is_reason xs) ≤ texts_size xs
filter_size [] = omega arith
filter_size (x ∷ xs) =
    let h = filter_size xs in
    elim (is_reason x) as (λ v. texts_size (cond v (x ∷ filter is_reason xs) (filter is_reason xs)) ≤ text_size x + texts_size xs) [
      | true ↦ omega arith
      | false ↦ omega arith
    ]

pub reasons_size_bound : (text : List ℕ) → texts_size (reasons_of text) ≤ 3 * length text + 2
reasons_size_bound text = let h = filter_size (slice_split is_separator text) in let k = split_size text in omega arith

count_bound : (xs : List (List ℕ)) → length xs ≤ texts_size xs
count_bound [] = omega arith
count_bound (x ∷ xs) = let h = count_bound xs in omega arith

pub reasons_count_bound : (text : List ℕ) → length (reasons_of text) ≤ 3 * length text + 2
reasons_count_bound text = let h = reasons_size_bound text in let k = count_bound (reasons_of text) in omega arith

-- One more reason of a text fits in its size.
pub reason_fits : (text here reason : List ℕ) (size : ℕ) (rest found behind : Option (List ℕ)) → length text ≤ 1023 → size + texts_size (reasons_from rest) ≡ texts_size (reasons_of text)
    → rest ≡ Some here → reasons_of here ≡ option_to_list found ++ reasons_from behind → found ≡ Some reason → size + (2 + length reason) ≤ 4096
reason_fits text here reason size rest found behind short same is_rest is_here is_found =
    let a : texts_size (reasons_from rest) ≡ texts_size (reasons_of here) = ap (λ r. texts_size (reasons_from r)) is_rest in
    let b : texts_size (reasons_of here) ≡ texts_size (option_to_list found ++ reasons_from behind) = ap texts_size is_here in
    let c : texts_size (option_to_list found ++ reasons_from behind) ≡ (2 + length reason) + texts_size (reasons_from behind) = ap (λ f. texts_size (option_to_list f ++ reasons_from behind)) is_found in
    let d = reasons_size_bound text in
    omega arith
