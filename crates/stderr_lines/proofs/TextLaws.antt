-- Bytes of a line that are text.
use Rattle.std.proofs.Common.{◌≡◌, ◌&&◌, ℕ, suc, zero, ◌<◌, ◌≤◌, Bool, true, false, not, cond, codes, List, [], ◌∷◌, ◌++◌, length, take, drop, map, leb, refl, ap, sym, ◌∙◌, arith, lit<, IsAscii, IsUtf8, Option, None, Some, length-take, length-drop, subst, ◌-◌}
use Rattle.std.proofs.lemmas.Bool.{and_parts, and_from, and_right, le-leb, false_from_ne_true}
use Rattle.std.proofs.lemmas.Bool.Decides.{nat_tests}
use Rattle.std.proofs.lemmas.List.{take-append-drop, take_rest, drop-map, length-map}
use Rattle.std.proofs.lemmas.List.Folds.{list_all-append}
use Rattle.std.proofs.lemmas.Str.{IsUtf8-from_ascii, IsUtf8-from_is_utf8, is_utf8-from_IsUtf8}
use Rattle.std.specs.Prelude.{nat_eq, IfSome}
use Rattle.std.specs.Cmp.Lexicographic.{pointwise}
use Rattle.std.specs.List.{list_all}
use Rattle.std.specs.Str.{is_utf8}
use Rattle.spool_types.specs.Values.{is_text_of, is_printable, is_word_byte, is_attribute_byte, is_reason, is_attribute_name, is_message}
use Rattle.stderr_lines.specs.LineEffects.{shown_byte}
use Rattle.stderr_lines.specs.EffectDrafts.{IsLineText}

-- ## Texts of ASCII are UTF-8

-- A text that passes a test byte by byte.
text_parts : (p : ℕ → Bool) (least most : ℕ) (text : List ℕ) → is_text_of p least most text ≡ true → list_all p text ≡ true
text_parts p least most text h = (and_parts (leb least (length text) && leb (length text) most) (list_all p text) h).1

ascii : (p : ℕ → Bool) → ((b : ℕ) → p b ≡ true → b < 128) → (text : List ℕ) → list_all p text ≡ true → IsAscii text
ascii p small [] h i = lit< tt
ascii p small (b ∷ bs) h zero = small b (and_parts (p b) (list_all p bs) h).0
ascii p small (b ∷ bs) h (suc i) = ascii p small bs (and_parts (p b) (list_all p bs) h).1 i

printable_below : (b : ℕ) → is_printable b ≡ true → b < 128
printable_below b h = grind (arith, nat_tests)

word_below : (b : ℕ) → is_word_byte b ≡ true → b < 128
word_below b h = grind (arith, nat_tests)

attribute_below : (b : ℕ) → is_attribute_byte b ≡ true → b < 128
attribute_below b h = grind (arith, nat_tests)

pub printable_utf8 : (text : List ℕ) → list_all is_printable text ≡ true → IsUtf8 text
printable_utf8 text h = IsUtf8-from_ascii text (ascii is_printable printable_below text h)

reason_utf8 : (text : List ℕ) → is_reason text ≡ true → IsUtf8 text
reason_utf8 text h =
    IsUtf8-from_ascii text (ascii is_word_byte word_below text (text_parts is_word_byte 1 127 text (and_parts (is_text_of is_word_byte 1 127 text) (not (pointwise nat_eq text (codes "none"))) h).0))

attribute_utf8 : (text : List ℕ) → is_attribute_name text ≡ true → IsUtf8 text
attribute_utf8 text h = IsUtf8-from_ascii text (ascii is_attribute_byte attribute_below text (text_parts is_attribute_byte 1 127 text h))

-- If every text of a kind is ASCII, the test for UTF-8 adds nothing.
same_test : (allowed : List ℕ → Bool) → ((xs : List ℕ) → allowed xs ≡ true → IsUtf8 xs) → (xs : List ℕ) → (is_utf8 xs && allowed xs) ≡ allowed xs
same_test allowed utf8 xs =
    (elim (allowed xs) as (λ v. allowed xs ≡ v → (is_utf8 xs && v) ≡ v) [
      | true ↦ λ h. ap (λ v. v && true) (is_utf8-from_IsUtf8 xs (utf8 xs h))
      | false ↦ λ h. and_right (is_utf8 xs) false refl
    ]) refl

pub reason_test : (xs : List ℕ) → (is_utf8 xs && is_reason xs) ≡ is_reason xs
reason_test = same_test is_reason reason_utf8

pub attribute_test : (xs : List ℕ) → (is_utf8 xs && is_attribute_name xs) ≡ is_attribute_name xs
attribute_test = same_test is_attribute_name attribute_utf8

-- ## The text of a line

pub shown_printable : (xs : List ℕ) → list_all is_printable (map shown_byte xs) ≡ true
shown_printable [] = refl
shown_printable (b ∷ bs) = and_from (is_printable (shown_byte b)) (list_all is_printable (map shown_byte bs)) (one b) (shown_printable bs)
  where
    one : (b : ℕ) → is_printable (shown_byte b) ≡ true
    one b = (elim (is_printable b) as (λ v. is_printable b ≡ v → is_printable (cond v b 63) ≡ true) [ true ↦ λ h. h | false ↦ λ h. refl ]) refl

-- It is a message.
pub message_text : (text : List ℕ) → IsLineText text → is_message text ≡ true
message_text text h =
    and_from (leb 0 (length text) && leb (length text) 1023) (list_all is_printable text)
    (and_from (leb 0 (length text)) (leb (length text) 1023) (le-leb 0 (length text) (omega arith)) (le-leb (length text) 1023 h.short))
    h.printable

-- Each part of it is printable too.
both : (i : ℕ) (text : List ℕ) → IsLineText text → (list_all is_printable (take i text) ≡ true) × (list_all is_printable (drop i text) ≡ true)
both i text h =
    and_parts (list_all is_printable (take i text)) (list_all is_printable (drop i text))
    (sym (list_all-append is_printable (take i text) (drop i text)) ∙ ap (list_all is_printable) (take-append-drop i text) ∙ h.printable)

pub front_text : (i : ℕ) (text : List ℕ) → IsLineText text → IsLineText (take i text)
front_text i text h = record { short = let s = h.short in let l = length-take i text in omega arith; printable = (both i text h).0 }

pub rest_text : (i : ℕ) (text : List ℕ) → IsLineText text → IsLineText (drop i text)
rest_text i text h = record { short = let s = h.short in let l = length-drop i text in omega arith; printable = (both i text h).1 }

-- ## Texts of a kind

pub no_text : (allowed : List ℕ → Bool) (xs : List ℕ) → (IsUtf8 xs → ⊥) → None ≡ cond (is_utf8 xs && allowed xs) (Some xs) None
no_text allowed xs not = sym (ap (λ v. cond (v && allowed xs) (Some xs) None) (false_from_ne_true (is_utf8 xs) (λ h. not (IsUtf8-from_is_utf8 xs h))))

pub some_text : (allowed : List ℕ → Bool) (xs text : List ℕ) → (text ≡ xs) × IsUtf8 xs → allowed text ≡ true → Some text ≡ cond (is_utf8 xs && allowed xs) (Some xs) None
some_text allowed xs text (read, utf8) is =
    ap Some read ∙ sym (ap (λ v. cond v (Some xs) None) (and_from (is_utf8 xs) (allowed xs) (is_utf8-from_IsUtf8 xs utf8) (ap allowed (sym read) ∙ is)))

pub other_text : (allowed : List ℕ → Bool) (xs text : List ℕ) → (text ≡ xs) × IsUtf8 xs → allowed text ≡ false → None ≡ cond (is_utf8 xs && allowed xs) (Some xs) None
other_text allowed xs text (read, utf8) is = sym (ap (λ v. cond v (Some xs) None) (and_right (is_utf8 xs) (allowed xs) (ap allowed (sym read) ∙ is)))

-- The bytes that a text of a kind was read from.
some_test : (t : Bool) (xs text : List ℕ) → Some text ≡ cond t (Some xs) None → (t ≡ true) × (text ≡ xs)
some_test true xs text h = (refl, cc)
some_test false xs text h = cc

none_test : (t : Bool) (xs : List ℕ) → None ≡ cond t (Some xs) None → t ≡ false
none_test true xs h = cc
none_test false xs h = refl

pub reason_allowed : (xs : List ℕ) (text : Option (List ℕ)) → text ≡ cond (is_utf8 xs && is_reason xs) (Some xs) None → IfSome text (λ reason. is_reason reason ≡ true)
reason_allowed xs None h = tt
reason_allowed xs (Some text) h =
    let (test, same) = some_test (is_utf8 xs && is_reason xs) xs text h in
    ap is_reason same ∙ sym (reason_test xs) ∙ test

pub attribute_name : (xs text : List ℕ) → Some text ≡ cond (is_utf8 xs && is_attribute_name xs) (Some xs) None → (is_attribute_name xs ≡ true) × (text ≡ xs)
attribute_name xs text h =
    let (test, same) = some_test (is_utf8 xs && is_attribute_name xs) xs text h in
    (sym (attribute_test xs) ∙ test, same)

pub no_attribute_name : (xs : List ℕ) → None ≡ cond (is_utf8 xs && is_attribute_name xs) (Some xs) None → is_attribute_name xs ≡ false
no_attribute_name xs h = sym (attribute_test xs) ∙ none_test (is_utf8 xs && is_attribute_name xs) xs h

-- A line whose bytes are shown, from some position on.
pub shown_rest : (line bytes : List ℕ) (start : ℕ) → bytes ≡ map shown_byte line → take (length bytes - start) (drop start bytes) ≡ map shown_byte (drop start line)
shown_rest line bytes start e = take_rest bytes start ∙ ap (drop start) e ∙ drop-map shown_byte start line

pub shown_line : (line bytes : List ℕ) (start : ℕ) → length line ≤ 1023 → bytes ≡ map shown_byte line → IsLineText (take (length bytes - start) (drop start bytes))
shown_line line bytes start short e =
    subst (λ l. IsLineText l) (sym (shown_rest line bytes start e))
    (record {
      short = let a = length-map (drop start line) shown_byte in let b = length-drop start line in omega arith;
      printable = shown_printable (drop start line);
    })
