-- Clean texts: their characters, and their length.
use Rattle.std.proofs.Common.{◌≡◌, ℕ, suc, ◌*◌, ◌≤◌, Bool, true, false, cond, List, [], ◌∷◌, map, length, chars, encode_utf8, encode_utf8_all, refl, ap, ◌∙◌, arith, length-append}
use Rattle.std.specs.Char.{len_utf8}
use Rattle.std.specs.List.{list_any}
use Rattle.std.specs.Str.{IsUtf8}
use Rattle.std.proofs.lemmas.Bool.{and_parts, and_from, or_parts, or_from}
use Rattle.std.proofs.lemmas.Str.{chars-encodes, encodes-chars, scalars-chars, length-encode, len_utf8_bounds}
use lib.Utf8.{scalar, scalars}
use Rattle.clean_texts.specs.SteeringCharacters.{steers}
use Rattle.clean_texts.specs.CleanTexts.{clean_char, clean_text, is_steered, AreBounded, AreUnchanged, StayClean}

cond_scalar : (b : Bool) (c : ℕ) → scalar c ≡ true → scalar (cond b 0xFFFD c) ≡ true
cond_scalar true c h = refl
cond_scalar false c h = h

clean_scalars : (cs : List ℕ) → scalars cs ≡ true → scalars (map clean_char cs) ≡ true
clean_scalars [] h = refl
clean_scalars (c ∷ cs) h =
    let parts = and_parts (scalar c) (scalars cs) h in and_from _ _ (cond_scalar (steers c) c parts.0) (clean_scalars cs parts.1)

mark_is_calm : steers 0xFFFD ≡ false
unfolding steers
mark_is_calm = refl

cond_calm : (b : Bool) (c : ℕ) → steers c ≡ b → steers (cond b 0xFFFD c) ≡ false
cond_calm true c e = mark_is_calm
cond_calm false c e = e

none_steers : (cs : List ℕ) → list_any steers (map clean_char cs) ≡ false
none_steers [] = refl
none_steers (c ∷ cs) = or_from _ _ (cond_calm (steers c) c refl) (none_steers cs)

clean_utf8 : (text : List ℕ) → IsUtf8 text → IsUtf8 (clean_text text)
clean_utf8 text u = (map clean_char (chars text), (clean_scalars (chars text) (scalars-chars text u), refl))

clean_chars : (text : List ℕ) → IsUtf8 text → chars (clean_text text) ≡ map clean_char (chars text)
clean_chars text u = chars-encodes (map clean_char (chars text)) (clean_scalars (chars text) (scalars-chars text u))

-- No character of a clean text steers.
pub clean_is_calm : (text : List ℕ) → IsUtf8 text → is_steered (clean_text text) ≡ false
clean_is_calm text u = ap (list_any steers) (clean_chars text u) ∙ none_steers (chars text)

cond_same : (b : Bool) (c : ℕ) → b ≡ false → cond b 0xFFFD c ≡ c
cond_same true c e = cc
cond_same false c e = refl

same_chars : (cs : List ℕ) → list_any steers cs ≡ false → map clean_char cs ≡ cs
same_chars [] h = refl
same_chars (c ∷ cs) h =
    let parts = or_parts (steers c) (list_any steers cs) h in
    ap (λ (d : ℕ). d ∷ map clean_char cs) (cond_same (steers c) c parts.0) ∙ ap (λ (ds : List ℕ). c ∷ ds) (same_chars cs parts.1)

pub unchanged : AreUnchanged
unchanged text u calm = ap encode_utf8_all (same_chars (chars text) calm) ∙ encodes-chars text u

pub stay_clean : StayClean
stay_clean text u = unchanged (clean_text text) (clean_utf8 text u) (clean_is_calm text u)

length_clean : (cs : List ℕ) → length (map clean_char cs) ≡ length cs
length_clean [] = refl
length_clean (c ∷ cs) = ap suc (length_clean cs)

cond_short : (b : Bool) (c : ℕ) → len_utf8 (cond b 0xFFFD c) ≤ 3 * len_utf8 c
cond_short true c = let least = (len_utf8_bounds c).0 in omega arith
cond_short false c = omega arith

short : (cs : List ℕ) → length (encode_utf8_all (map clean_char cs)) ≤ 3 * length (encode_utf8_all cs)
short [] = omega arith
short (c ∷ cs) =
    let one = cond_short (steers c) c in
    let rest = short cs in
    let front = length-encode (clean_char c) in
    let old = length-encode c in
    omega (arith, length-append (encode_utf8 (clean_char c)) (encode_utf8_all (map clean_char cs)), length-append (encode_utf8 c) (encode_utf8_all cs))

pub bounded : AreBounded
bounded text u = (
  ap length (clean_chars text u) ∙ length_clean (chars text),
  let less = short (chars text) in omega (arith, ap length (encodes-chars text u)),
)
