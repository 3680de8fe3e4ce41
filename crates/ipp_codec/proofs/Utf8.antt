-- A character string is UTF-8 within its limits.
use Rattle.std.proofs.Common.{◌≡◌, ℕ, Bool, true, false, cond, ◌&&◌, List, Ok, Err, refl, sym, ap, ◌∙◌}
use Rattle.std.specs.Str.{IsUtf8, is_utf8}
use Rattle.std.specs.Prelude.{IsTrue}
use Rattle.std.proofs.lemmas.Str.{is_utf8-from_IsUtf8, IsUtf8-from_is_utf8}
use Rattle.ipp_values.specs.TextLimits.{is_text}
use Rattle.ipp_codec.specs.declared.fault.DecodeFault.TheVariants.{Text}
use Rattle.ipp_codec.specs.Octets.{IsText}
use Rattle.ipp_codec.specs.Reading.{text_of}

-- A text as its accessor returns it.
pub text_is : (least most highest : ℕ) (seen text : List ℕ) → seen ≡ text → IsUtf8 seen → IsTrue (is_text least most highest text) → IsText least most highest text
text_is least most highest seen text same utf8 passes = (ap is_utf8 (sym same) ∙ is_utf8-from_IsUtf8 seen utf8, passes)

tested : (octets : List ℕ) (b : Bool) → is_utf8 octets ≡ b → (IsUtf8 octets → ⊥) → is_utf8 octets ≡ false
tested octets true is refused = absurd (refused (IsUtf8-from_is_utf8 octets is))
tested octets false is refused = is

pub text_refused : (least most highest : ℕ) (octets : List ℕ) → (IsUtf8 octets → ⊥) → text_of least most highest octets ≡ Err Text
unfolding text_of
text_refused least most highest octets refused = ap (λ b. cond (b && is_text least most highest octets) (Ok octets) (Err Text)) (tested octets (is_utf8 octets) refl refused)

pub text_read : (least most highest : ℕ) (octets text copy : List ℕ) → (text ≡ octets) × IsUtf8 octets → IsTrue (is_text least most highest text) → copy ≡ text → text_of least most highest octets ≡ Ok copy
unfolding text_of
text_read least most highest octets text copy (read, utf8) passes same =
    ap (λ b. cond (b && is_text least most highest octets) (Ok octets) (Err Text)) (is_utf8-from_IsUtf8 octets utf8)
    ∙ ap (λ b. cond b (Ok octets) (Err Text)) (ap (is_text least most highest) (sym read) ∙ passes)
    ∙ ap (λ (t : List ℕ). Ok t) (sym read ∙ sym same)
