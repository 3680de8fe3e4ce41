-- A text is UTF-8.
use Rattle.std.proofs.Common.{◌≡◌, ℕ, Bool, true, List, sym, ap, ◌∙◌}
use Rattle.std.specs.Str.{IsUtf8, is_utf8}
use Rattle.std.proofs.lemmas.Str.{is_utf8-from_IsUtf8}
use Rattle.event_codec.specs.Spelling.{IsText}

-- A text as its accessor returns it.
pub text_is : (allowed : List ℕ → Bool) (seen text : List ℕ) → seen ≡ text → IsUtf8 seen → allowed text ≡ true → IsText allowed text
text_is allowed seen text same utf8 passes = record { utf8 = ap is_utf8 (sym same) ∙ is_utf8-from_IsUtf8 seen utf8; passes = passes }
