-- A key and its value were read, or a key without a value.
use Rattle.std.proofs.Common.{◌≡◌, ℕ, ◌-◌, ◌<◌, ◌≤◌, true, List, [], ◌∷◌, length, get_or, take, drop, map, None, Some, refl, sym, ap, ◌∙◌, arith, rules}
use Rattle.std.specs.Option.{option_and_then}
use Rattle.line_words.specs.WordFields.{bytes_of}
use Rattle.line_words.specs.declared.words.Word.{Word}
use Rattle.service_texts.specs.Selections.{selection_in, with_key}
use Rattle.service_texts.specs.declared.selection.Selection.{Selection}
use Rattle.service_texts.proofs.selection.selection_in.Goals as goal

-- A key without a value selects nothing.
one_word : (s : Selection) (ws : List Word) → 1 ≤ length ws → length ws < 2 → selection_in s (map bytes_of ws) ≡ None
one_word s [] le lt = absurd (omega (arith, le))
one_word s (w ∷ []) le lt = refl
one_word s (w ∷ v ∷ ws) le lt = absurd (omega (arith, lt))

all_of : (ws : List Word) (n : ℕ) → n ≡ length ws → take n ws ≡ ws
all_of [] n is = ap (λ k. take k []) is
all_of (w ∷ ws) n is = ap (λ k. take k (w ∷ ws)) is ∙ ap (λ (vs : List Word). w ∷ vs) (all_of ws (length ws) refl)

two_words : (s t : Selection) (ws rest : List Word) (key value : Word) → 2 ≤ length ws → key ≡ get_or ws 0 key → value ≡ get_or ws 1 value →
    rest ≡ take (length ws - 2) (drop 2 ws) → with_key s (bytes_of key) (bytes_of value) ≡ Some t → selection_in t (map bytes_of rest) ≡ selection_in s (map bytes_of ws)
two_words s t [] rest key value le k v is added = absurd (omega (arith, le))
two_words s t (w ∷ []) rest key value le k v is added = absurd (omega (arith, le))
two_words s t (w ∷ u ∷ ws) rest key value le k v is added =
    let same : rest ≡ ws = is ∙ all_of ws (length (w ∷ u ∷ ws) - 2) (omega arith) in
    let here : with_key s (bytes_of w) (bytes_of u) ≡ Some t =
    ap (λ (x : Word). with_key s (bytes_of x) (bytes_of u)) (sym k) ∙ ap (λ (x : Word). with_key s (bytes_of key) (bytes_of x)) (sym v) ∙ added in
    ap (λ (vs : List Word). selection_in t (map bytes_of vs)) same ∙ sym (ap (option_and_then (λ selection. selection_in selection (map bytes_of ws))) here)

pub returns-in-len1 : goal.returns-in-len1
returns-in-len1 c = sym (one_word c.loop-rest.selection c.loop-rest.rest.now (omega (arith, c.in-len1.len_at_least)) (omega (arith, c.in-len1.len_below))) ∙ c.loop-rest.invariant

pub loop-rest-preserved : goal.loop-rest-preserved
loop-rest-preserved c =
    let s = c.loop-rest.selection in
    let so : c.in_ok-add-in-len2-up.field-0 ≡ true = search rules in
    let added = ap (λ (b : List ℕ). with_key s b (bytes_of c.value-item.result)) (sym c.bytes.ensures.value) ∙ ap (λ (b : List ℕ). with_key s c.bytes.result.now b) (sym c.bytes-in-len2-up.ensures.value) ∙ c.in_ok-add-in-len2-up.ensures.added so in
    two_words s c.add.new.self c.loop-rest.rest.now _ c.key-item.result c.value-item.result (omega (arith, c.in-len2-up.len_at_least)) c.key-item.is c.value-item.is refl added ∙ c.loop-rest.invariant
