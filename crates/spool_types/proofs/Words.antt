-- The value of a word, which may be UTF-8 or not.
use Rattle.std.proofs.Common.{◌≡◌, ◌&&◌, ℕ, Bool, true, false, cond, List, ap, sym, refl, ◌∙◌, None, Some}
use Rattle.std.proofs.lemmas.Str.{IsUtf8-from_is_utf8, is_utf8-from_IsUtf8}
use Rattle.std.specs.Str.{IsUtf8, is_utf8, str_to_ascii_lowercase}
use Rattle.std.specs.Prelude.{IsTrue}
use Rattle.spool_types.specs.Values.{text_in, folded_in}

utf8_false : (word : List ℕ) → (IsUtf8 word → ⊥) → is_utf8 word ≡ false
utf8_false word not =
    (elim (is_utf8 word) as (λ v. is_utf8 word ≡ v → v ≡ false) [ true ↦ λ h. absurd (not (IsUtf8-from_is_utf8 word h)) | false ↦ λ h. refl ]) refl

pub no_text : (allowed : List ℕ → Bool) (word : List ℕ) → (IsUtf8 word → ⊥) → None ≡ text_in allowed word
no_text allowed word not = sym (ap (λ v. cond (v && allowed word) (Some word) None) (utf8_false word not))

pub some_text : (allowed : List ℕ → Bool) (word text copy : List ℕ) → (text ≡ word) × IsUtf8 word → IsTrue (allowed text) → copy ≡ text → Some copy ≡ text_in allowed word
some_text allowed word text copy (read, utf8) is same =
    let ok : allowed word ≡ true = ap allowed (sym read) ∙ is in
    ap Some (same ∙ read)
    ∙ sym (ap (λ v. cond (v && allowed word) (Some word) None) (is_utf8-from_IsUtf8 word utf8) ∙ ap (λ v. cond v (Some word) None) ok)

pub no_folded : (allowed : List ℕ → Bool) (word : List ℕ) → (IsUtf8 word → ⊥) → None ≡ folded_in allowed word
no_folded allowed word not = sym (ap (λ v. cond (v && allowed (str_to_ascii_lowercase word)) (Some (str_to_ascii_lowercase word)) None) (utf8_false word not))

pub some_folded : (allowed : List ℕ → Bool) (word text copy : List ℕ) → (text ≡ word) × IsUtf8 word → IsTrue (allowed (str_to_ascii_lowercase text)) → copy ≡ str_to_ascii_lowercase text → Some copy ≡ folded_in allowed word
some_folded allowed word text copy (read, utf8) is same =
    let ok : allowed (str_to_ascii_lowercase word) ≡ true = ap (λ l. allowed (str_to_ascii_lowercase l)) (sym read) ∙ is in
    ap Some (same ∙ ap str_to_ascii_lowercase read)
    ∙ sym (ap (λ v. cond (v && allowed (str_to_ascii_lowercase word)) (Some (str_to_ascii_lowercase word)) None) (is_utf8-from_IsUtf8 word utf8) ∙ ap (λ v. cond v (Some (str_to_ascii_lowercase word)) None) ok)

pub other_folded : (allowed : List ℕ → Bool) (word text : List ℕ) → (text ≡ word) × IsUtf8 word → allowed (str_to_ascii_lowercase text) ≡ false → None ≡ folded_in allowed word
other_folded allowed word text (read, utf8) is =
    let not : allowed (str_to_ascii_lowercase word) ≡ false = ap (λ l. allowed (str_to_ascii_lowercase l)) (sym read) ∙ is in
    sym (ap (λ v. cond (v && allowed (str_to_ascii_lowercase word)) (Some (str_to_ascii_lowercase word)) None) (is_utf8-from_IsUtf8 word utf8) ∙ ap (λ v. cond v (Some (str_to_ascii_lowercase word)) None) not)
