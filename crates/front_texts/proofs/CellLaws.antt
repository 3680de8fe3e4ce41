-- The empty text takes no column, and no character of a text that is cut steers unless one of the whole text does.
use Rattle.std.proofs.Common.{◌≡◌, ℕ, false, List, [], ◌∷◌, ◌++◌, take, drop, length, refl, sym, ap, ◌∙◌, arith}
use Rattle.std.proofs.lemmas.Bool.{or_parts, or_from}
use Rattle.std.proofs.lemmas.List.{take-append-drop}
use Rattle.std.proofs.lemmas.List.Folds.{list_any-append}
use Rattle.std.proofs.lemmas.Str.{chars-nil, chars-append}
use Rattle.std.specs.List.{list_any}
use Rattle.std.specs.Str.{IsUtf8, chars}
use Rattle.unicode_width.specs.Width.{str_width}
use Rattle.unicode_width.proofs.Rules.{str_width-simple}
use Rattle.clean_texts.specs.CleanTexts.{is_steered}
use Rattle.clean_texts.specs.SteeringCharacters.{steers}
use Rattle.front_texts.specs.Cells.{Fits}

pub none_fits : (columns : ℕ) (text : List ℕ) → text ≡ [] → Fits columns text
none_fits columns text is =
    let none : str_width false (chars text) ≡ 0 = ap (λ t. str_width false (chars t)) is ∙ ap (str_width false) chars-nil ∙ str_width-simple false [] refl in
    omega arith

pub none_is_clean : (text : List ℕ) → text ≡ [] → is_steered text ≡ false
none_is_clean text is = ap is_steered is ∙ ap (list_any steers) chars-nil

-- The mark at the end.
mark_is_clean : is_steered (226 ∷ 128 ∷ 166 ∷ []) ≡ false
unfolding chars steers
mark_is_clean = refl

front_is_clean : (text front : List ℕ) → IsUtf8 front → front ≡ take (length front) text → is_steered text ≡ false → list_any steers (chars front) ≡ false
front_is_clean text front u is clean =
    let rest = drop (length front) text in
    let whole : front ++ rest ≡ text = ap (λ (l : List ℕ). l ++ rest) is ∙ take-append-drop (length front) text in
    let both : list_any steers (chars front ++ chars rest) ≡ false =
    ap (list_any steers) (sym (chars-append front rest u)) ∙ ap is_steered whole ∙ clean in
    (or_parts (list_any steers (chars front)) (list_any steers (chars rest)) (sym (list_any-append steers (chars front) (chars rest)) ∙ both)).0

pub cut_is_clean : (text front cut : List ℕ) → IsUtf8 front → front ≡ take (length front) text → cut ≡ front ++ (226 ∷ 128 ∷ 166 ∷ []) → is_steered text ≡ false → is_steered cut ≡ false
cut_is_clean text front cut u is e clean =
    let mark = 226 ∷ 128 ∷ 166 ∷ [] in
    ap is_steered e
    ∙ ap (list_any steers) (chars-append front mark u)
    ∙ list_any-append steers (chars front) (chars mark)
    ∙ or_from (list_any steers (chars front)) (list_any steers (chars mark)) (front_is_clean text front u is clean) mark_is_clean
