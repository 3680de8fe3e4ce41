-- Converting the capitals of a text to lower case does not move its slash.
use Rattle.std.proofs.Common.{◌≡◌, ◌&&◌, ◌||◌, ◌+◌, ◌==◌, ℕ, Bool, true, false, not, cond, List, [], ◌∷◌, length, map, take, drop, nat_lt, nat_le, refl, ap, sym, ◌∙◌, arith, suc, zero}
use Rattle.std.proofs.lemmas.Bool.{ne_eqb, lt-ltb, le-ltb, ltb-true, ltb-false}
use Rattle.std.proofs.lemmas.List.{take-map, drop-map, length-map}
use Rattle.std.specs.List.{list_any, position_or_len, before_first, after_first}
use Rattle.std.specs.Char.{to_ascii_lowercase}
use Rattle.std.specs.Str.{str_to_ascii_lowercase}
use Rattle.spool_types.specs.Values.{is_slash, is_media_part, is_media_type}

same_slash : (b : ℕ) → is_slash (to_ascii_lowercase b) ≡ is_slash b
same_slash b =
    (elim (nat_lt b 65) as (λ v. nat_lt b 65 ≡ v → is_slash (cond v b (cond (nat_lt b 91) (b + 32) b)) ≡ is_slash b) [
      | true ↦ λ h. refl
      | false ↦ λ h. (elim (nat_lt b 91) as (λ v. is_slash (cond v (b + 32) b) ≡ is_slash b) [
        | true ↦ let g = ltb-false b 65 h in ne_eqb (b + 32) 47 (omega arith) ∙ sym (ne_eqb b 47 (omega arith))
        | false ↦ refl
      ])
    ]) refl

slash_place : (xs : List ℕ) → position_or_len is_slash (map to_ascii_lowercase xs) ≡ position_or_len is_slash xs
slash_place [] = refl
slash_place (x ∷ xs) = position_cond (is_slash (to_ascii_lowercase x)) (is_slash x) (same_slash x) (slash_place xs)
  where
    position_cond : (v w : Bool) → v ≡ w → {m n : ℕ} → m ≡ n → cond (not v) (1 + m) 0 ≡ cond (not w) (1 + n) 0
    position_cond v w e {m} {n} f = ap (λ b. cond (not b) (1 + m) 0) e ∙ ap (λ k. cond (not w) (1 + k) 0) f

slash_any : (xs : List ℕ) → list_any is_slash (map to_ascii_lowercase xs) ≡ list_any is_slash xs
slash_any [] = refl
slash_any (x ∷ xs) = ap (λ v. v || list_any is_slash (map to_ascii_lowercase xs)) (same_slash x) ∙ ap (λ v. is_slash x || v) (slash_any xs)

kind_folded : (xs : List ℕ) → before_first is_slash (str_to_ascii_lowercase xs) ≡ str_to_ascii_lowercase (before_first is_slash xs)
kind_folded xs = ap (λ n. take n (map to_ascii_lowercase xs)) (slash_place xs) ∙ take-map to_ascii_lowercase (position_or_len is_slash xs) xs

subtype_folded : (xs : List ℕ) → after_first is_slash (str_to_ascii_lowercase xs) ≡ str_to_ascii_lowercase (after_first is_slash xs)
subtype_folded xs = ap (λ n. drop (n + 1) (map to_ascii_lowercase xs)) (slash_place xs) ∙ drop-map to_ascii_lowercase (position_or_len is_slash xs + 1) xs

pub media_folded : (text : List ℕ) →
    (nat_le (length text) 255
    && list_any is_slash text
    && is_media_part (str_to_ascii_lowercase (before_first is_slash text))
    && is_media_part (str_to_ascii_lowercase (after_first is_slash text)))
    ≡ is_media_type (str_to_ascii_lowercase text)
media_folded text =
    sym (
    ap (λ n. nat_le n 255 && list_any is_slash (str_to_ascii_lowercase text) && is_media_part (before_first is_slash (str_to_ascii_lowercase text)) && is_media_part (after_first is_slash (str_to_ascii_lowercase text))) (length-map text to_ascii_lowercase)
    ∙ ap (λ v. nat_le (length text) 255 && v && is_media_part (before_first is_slash (str_to_ascii_lowercase text)) && is_media_part (after_first is_slash (str_to_ascii_lowercase text))) (slash_any text)
    ∙ ap (λ kind. nat_le (length text) 255 && list_any is_slash text && is_media_part kind && is_media_part (after_first is_slash (str_to_ascii_lowercase text))) (kind_folded text)
    ∙ ap (λ subtype. nat_le (length text) 255 && list_any is_slash text && is_media_part (str_to_ascii_lowercase (before_first is_slash text)) && is_media_part subtype) (subtype_folded text)
    )
