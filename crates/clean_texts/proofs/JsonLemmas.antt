-- Escapes of JSON: they are ASCII, no character of them steers, and they are read back.
use Rattle.std.proofs.Common.{◌≡◌, ℕ, ◌/◌, ◌%◌, ◌<◌, ◌≤◌, Bool, true, false, cond, List, [], ◌∷◌, ◌++◌, chars, encode_utf8, encode_utf8_all, flat_map, nat_lt, refl, sym, ap, ◌∙◌, arith, append-nil, ⊎_elim}
use Rattle.std.specs.Char.{digit_char}
use Rattle.std.specs.List.{list_any}
use Rattle.std.specs.Str.{IsUtf8}
use Rattle.std.proofs.Math.Utf8.{scalar, scalars, scalar_cases}
use Rattle.std.proofs.lemmas.Bool.{agree_below_at, and_parts, and_from, or_from, ltb-true, ltb-false}
use Rattle.std.proofs.lemmas.List.Folds.{list_any-append}
use Rattle.std.proofs.lemmas.Str.{digit_value-digit_char, encode_ascii, encodes-append, chars-encodes, scalars-chars}
use Rattle.clean_texts.specs.SteeringCharacters.{steers}
use Rattle.clean_texts.specs.CleanTexts.{is_steered}
use Rattle.clean_texts.specs.JsonEscapes.{four_digits, unit_escape, char_of, escape_of, high_unit, low_unit, json_bytes, clean_json, AreReadBack}

unit_back : (u : ℕ) → u < 0x10000 → four_digits (digit_char (u / 4096)) (digit_char (u / 256 % 16)) (digit_char (u / 16 % 16)) (digit_char (u % 16)) ≡ u
unit_back u small =
    let a = digit_value-digit_char (u / 4096) (omega arith) in
    let b = digit_value-digit_char (u / 256 % 16) (omega arith) in
    let c = digit_value-digit_char (u / 16 % 16) (omega arith) in
    let d = digit_value-digit_char (u % 16) (omega arith) in
    rw (a, b, c, d) (omega arith)

pair_back : (c : ℕ) → 0x10000 ≤ c → c < 0x110000 → char_of (unit_escape (high_unit c) ++ unit_escape (low_unit c)) ≡ c
unfolding unit_escape
pair_back c low high =
    let h = unit_back (high_unit c) (omega arith) in
    let l = unit_back (low_unit c) (omega arith) in
    rw (h, l) (omega arith)

by_size : (b : Bool) (c : ℕ) → nat_lt c 0x10000 ≡ b → c < 0x110000 → char_of (cond b (unit_escape c) (unit_escape (high_unit c) ++ unit_escape (low_unit c))) ≡ c
unfolding unit_escape
by_size true c e small = unit_back c (ltb-true c 0x10000 e)
by_size false c e small = pair_back c (ltb-false c 0x10000 e) small

pub read_back : AreReadBack
read_back c small = by_size (nat_lt c 0x10000) c refl small

-- ## Escapes as characters

digit_scalar : (d : ℕ) → d < 16 → scalar (digit_char d) ≡ true
digit_scalar d small = agree_below_at (λ k. scalar (digit_char k)) (λ _. true) 16 d refl small

digit_calm : (d : ℕ) → d < 16 → steers (digit_char d) ≡ false
unfolding steers
digit_calm d small = agree_below_at (λ k. steers (digit_char k)) (λ _. false) 16 d refl small

digit_ascii : (d : ℕ) → d < 16 → encode_utf8 (digit_char d) ≡ digit_char d ∷ []
digit_ascii d small = encode_ascii (digit_char d) (ltb-true (digit_char d) 128 (agree_below_at (λ k. nat_lt (digit_char k) 128) (λ _. true) 16 d refl small))

-- A list of characters that are scalars, that do not steer, and that are their own bytes.
record IsPlain (cs : List ℕ) : Type 0 where
  all : scalars cs ≡ true
  calm : list_any steers cs ≡ false
  bytes : encode_utf8_all cs ≡ cs

plain-nil : IsPlain []
plain-nil = record { all = refl; calm = refl; bytes = refl }

plain-cons : (c : ℕ) (cs : List ℕ) → scalar c ≡ true → steers c ≡ false → encode_utf8 c ≡ c ∷ [] → IsPlain cs → IsPlain (c ∷ cs)
plain-cons c cs one calm byte p = record {
  all = and_from (scalar c) (scalars cs) one p.all;
  calm = or_from (steers c) (list_any steers cs) calm p.calm;
  bytes = ap (λ (bs : List ℕ). bs ++ encode_utf8_all cs) byte ∙ ap (λ (bs : List ℕ). c ∷ bs) p.bytes;
}

plain-digit : (d : ℕ) (cs : List ℕ) → d < 16 → IsPlain cs → IsPlain (digit_char d ∷ cs)
plain-digit d cs small p = plain-cons (digit_char d) cs (digit_scalar d small) (digit_calm d small) (digit_ascii d small) p

backslash_calm : steers 92 ≡ false
unfolding steers
backslash_calm = refl

u_calm : steers 117 ≡ false
unfolding steers
u_calm = refl

plain-unit : (u : ℕ) (cs : List ℕ) → u < 0x10000 → IsPlain cs → IsPlain (unit_escape u ++ cs)
unfolding unit_escape
plain-unit u cs small p =
    plain-cons 92 _ refl backslash_calm (encode_ascii 92 (omega arith))
    (plain-cons 117 _ refl u_calm (encode_ascii 117 (omega arith))
    (plain-digit (u / 4096) _ (omega arith)
    (plain-digit (u / 256 % 16) _ (omega arith)
    (plain-digit (u / 16 % 16) _ (omega arith)
    (plain-digit (u % 16) cs (omega arith) p)))))

plain_by_size : (b : Bool) (c : ℕ) → nat_lt c 0x10000 ≡ b → c < 0x110000 → IsPlain (cond b (unit_escape c) (unit_escape (high_unit c) ++ unit_escape (low_unit c)))
unfolding unit_escape
plain_by_size true c e small = plain-unit c [] (ltb-true c 0x10000 e) plain-nil
plain_by_size false c e small =
    let low = ltb-false c 0x10000 e in
    plain-unit (high_unit c) (unit_escape (low_unit c)) (omega arith) (plain-unit (low_unit c) [] (omega arith) plain-nil)

plain-escape : (c : ℕ) → scalar c ≡ true → IsPlain (escape_of c)
plain-escape c one = plain_by_size (nat_lt c 0x10000) c refl (⊎_elim (λ low. omega arith) (λ high. omega (arith, high.1)) (scalar_cases c one))

-- ## Texts

-- What the characters of a text of JSON are.
record IsSpelled (cs bs : List ℕ) : Type 0 where
  all : scalars cs ≡ true
  calm : list_any steers cs ≡ false
  bytes : encode_utf8_all cs ≡ bs

spelled_by : (b : Bool) (c : ℕ) → steers c ≡ b → scalar c ≡ true → IsSpelled (cond b (escape_of c) (c ∷ [])) (cond b (escape_of c) (encode_utf8 c))
spelled_by true c e one = let p = plain-escape c one in record { all = p.all; calm = p.calm; bytes = p.bytes }
spelled_by false c e one = record { all = and_from (scalar c) true one refl; calm = or_from (steers c) false e refl; bytes = append-nil (encode_utf8 c) }

scalars-append : (xs ys : List ℕ) → scalars xs ≡ true → scalars ys ≡ true → scalars (xs ++ ys) ≡ true
scalars-append [] ys p q = q
scalars-append (x ∷ xs) ys p q =
    let parts = and_parts (scalar x) (scalars xs) p in and_from (scalar x) (scalars (xs ++ ys)) parts.0 (scalars-append xs ys parts.1 q)

spelled-append : (xs ys fs bs : List ℕ) → IsSpelled xs fs → IsSpelled ys bs → IsSpelled (xs ++ ys) (fs ++ bs)
spelled-append xs ys fs bs p q = record {
  all = scalars-append xs ys p.all q.all;
  calm = list_any-append steers xs ys ∙ or_from (list_any steers xs) (list_any steers ys) p.calm q.calm;
  bytes = encodes-append xs ys ∙ ap (λ (l : List ℕ). l ++ encode_utf8_all ys) p.bytes ∙ ap (λ (l : List ℕ). fs ++ l) q.bytes;
}

spelled : (cs : List ℕ) → scalars cs ≡ true → IsSpelled (flat_map (λ (c : ℕ). cond (steers c) (escape_of c) (c ∷ [])) cs) (flat_map json_bytes cs)
spelled [] all = record { all = refl; calm = refl; bytes = refl }
spelled (c ∷ cs) all =
    let parts = and_parts (scalar c) (scalars cs) all in spelled-append _ _ _ _ (spelled_by (steers c) c refl parts.0) (spelled cs parts.1)

-- No character of the text steers.
pub json_is_calm : (text : List ℕ) → IsUtf8 text → is_steered (clean_json text) ≡ false
json_is_calm text u =
    let s = spelled (chars text) (scalars-chars text u) in
    ap is_steered (sym s.bytes) ∙ ap (list_any steers) (chars-encodes _ s.all) ∙ s.calm
