-- A text is read if its bytes are UTF-8.
use Rattle.std.proofs.Common.{◌≡◌, ℕ, Bool, true, false, List, Ok, Err, refl}
use Rattle.std.specs.Str.{IsUtf8, is_utf8}
use Rattle.std.proofs.lemmas.Str.{is_utf8-from_IsUtf8, IsUtf8-from_is_utf8}
use Rattle.field_codec.specs.declared.fault.CodecFault.TheVariants.{Utf8}
use Rattle.field_codec.specs.Fields.{utf8_of}

pub utf8_read : (bytes text : List ℕ) → text ≡ bytes → IsUtf8 bytes → utf8_of bytes ≡ Ok text
unfolding utf8_of
utf8_read bytes text same utf8 = rw (is_utf8-from_IsUtf8 bytes utf8, same) refl

tested : (bytes : List ℕ) (b : Bool) → is_utf8 bytes ≡ b → (IsUtf8 bytes → ⊥) → is_utf8 bytes ≡ false
tested bytes true is refused = absurd (refused (IsUtf8-from_is_utf8 bytes is))
tested bytes false is refused = is

pub utf8_refused : (bytes : List ℕ) → (IsUtf8 bytes → ⊥) → utf8_of bytes ≡ Err Utf8
unfolding utf8_of
utf8_refused bytes refused = rw (tested bytes (is_utf8 bytes) refl refused) refl
