-- A field that is read has these bytes as its code, and the code of a field is read as this field.
use Rattle.std.proofs.Common.{◌≡◌, ℕ, ◌+◌, ◌^◌, ◌<◌, ◌≤◌, Bool, true, false, cond, ltb, List, [], ◌∷◌, ◌++◌, length, get_or, take, drop, Result, Ok, Err, refl, sym, ap, subst, ◌∙◌, append_assoc, arith, inl, inr}
use Rattle.std.specs.Int.{Width, w8, w16, w32, w64, byte_len, from_be_bytes, to_be_bytes}
use Rattle.std.specs.Prelude.{nat_le, ◌&&◌}
use Rattle.std.specs.Str.{is_utf8}
use Rattle.std.proofs.lemmas.Bool.{cases_lt, ltb-false, le-ltb}
use Rattle.std.proofs.lemmas.Bool.Decides.{nat_tests}
use Rattle.std.proofs.lemmas.List.{take_at, drop_at, take-append-drop, length-append, length-take, get_or-drop, get_or-take, get_or_past}
use Rattle.std.proofs.lemmas.Nat.{be_bytes_2, be_bytes_4, be_bytes_8, from_be_bytes-to_be_bytes_2, from_be_bytes-to_be_bytes_4, from_be_bytes-to_be_bytes_8}
use Rattle.field_codec.specs.declared.fault.CodecFault.{CodecFault}
use Rattle.field_codec.specs.declared.fault.CodecFault.TheVariants.{Length, Range, Utf8}
use Rattle.event_codec.specs.Spelling.{text_code, IsIn, IsText}
use Rattle.event_codec.specs.EventReading.{Field, ◌>>=◌, part_at, number_at, checked, ranged, ranged_at, utf8_of, text_at}

abbrev pub IsBytes : List ℕ → Type 0
IsBytes bytes = (i : ℕ) → get_or bytes i 0 < 256

pub IsBytes-drop : (n : ℕ) (bytes : List ℕ) → IsBytes bytes → IsBytes (drop n bytes)
IsBytes-drop n bytes h i = rw get_or-drop (h (n + i))

pub IsBytes-take : (n : ℕ) (bytes : List ℕ) → IsBytes bytes → IsBytes (take n bytes)
IsBytes-take n bytes h i =
    elim (cases_lt i n) [
      | inl lt ↦ rw (get_or-take n bytes i 0 lt) (h i)
      | inr le ↦ rw (get_or_past (take n bytes) i 0 (omega (arith, length-take n bytes))) (omega arith)
    ]

-- The value of a step that did not fail.
pub record Stepped {A B : Type 0} (r : Result A CodecFault) (f : A → Result B CodecFault) (y : B) : Type 0 where
  pub value : A
  pub was : r ≡ Ok value
  pub then : f value ≡ Ok y

pub bind_ok : {A B : Type 0} (r : Result A CodecFault) (f : A → Result B CodecFault) (y : B) → (r >>= f) ≡ Ok y → Stepped r f y
bind_ok (Ok x) f y e = record { value = x; was = refl; then = e }
bind_ok (Err d) f y e = absurd cc

-- Tests that did not fail.
pub guard_ok : {A : Type 0} (b : Bool) (d : CodecFault) (x y : A) → cond b (Err d) (Ok x) ≡ Ok y → (b ≡ false) × (x ≡ y)
guard_ok true d x y e = absurd cc
guard_ok false d x y e = (refl, cc)

pub passed_ok : {A : Type 0} (b : Bool) (d : CodecFault) (x y : A) → cond b (Ok x) (Err d) ≡ Ok y → (b ≡ true) × (x ≡ y)
passed_ok true d x y e = (refl, cc)
passed_ok false d x y e = absurd cc

abbrev pub done : {A : Type 0} → A → Result A CodecFault
done x = Ok x

pub ok_is : {A : Type 0} (x y : A) → done x ≡ done y → x ≡ y
ok_is x y e = cc

-- A property of a value is one of an equal value, with both written out.
pub subst_at : {A : Type 0} (P : A → Type 0) (x y : A) → x ≡ y → P x → P y
subst_at P x y same this = subst P same this

-- A property of a value is one of the value that was read.
pub ok_as : {A : Type 0} (P : A → Type 0) (x y : A) → done x ≡ done y → P x → P y
ok_as P x y e this = subst P (ok_is x y e) this

-- The bytes that a reader took from the front.
pub record Takes (bytes text rest : List ℕ) : Type 0 where
  pub parts : bytes ≡ text ++ rest
  pub rest_fits : IsBytes rest

pub Takes-then : (a x b y c : List ℕ) → Takes a x b → Takes b y c → Takes a (x ++ y) c
Takes-then a x b y c p q = record { parts = p.parts ∙ ap (λ (t : List ℕ). x ++ t) q.parts ∙ sym (append_assoc x y c); rest_fits = q.rest_fits }

-- The bytes that two readers took, in order.
infixl 10 ◌⨾◌
pub ◌⨾◌ : {a x b y c : List ℕ} → Takes a x b → Takes b y c → Takes a (x ++ y) c
p ⨾ q = Takes-then _ _ _ _ _ p q

-- A reader, by the code and the limits of a value.
pub record Reads {A : Type 0} (read : List ℕ → Field A) (code : A → List ℕ) (Legal : A → Type 0) : Type 0 where
  pub takes : (bytes : List ℕ) (x : A) (rest : List ℕ) → IsBytes bytes → read bytes ≡ Ok (x, rest) → Takes bytes (code x) rest × Legal x
  pub again : (x : A) (rest : List ℕ) → Legal x → read (code x ++ rest) ≡ Ok (x, rest)

-- The bytes that a step took, if more steps follow.
pub record Got {A B : Type 0} (code : A → List ℕ) (Legal : A → Type 0) (bytes : List ℕ) (f : A × List ℕ → Result B CodecFault) (y : B) : Type 0 where
  pub value : A
  pub rest : List ℕ
  pub taken : Takes bytes (code value) rest
  pub legal : Legal value
  pub then : f (value, rest) ≡ Ok y

pub got : {A B : Type 0} (read : List ℕ → Field A) (code : A → List ℕ) (Legal : A → Type 0) → Reads read code Legal → (bytes : List ℕ) (f : A × List ℕ → Result B CodecFault) (y : B) → IsBytes bytes → (read bytes >>= f) ≡ Ok y → Got code Legal bytes f y
got read code Legal reads bytes f y fits e =
    let s = bind_ok (read bytes) f y e in
    let t = reads.takes bytes s.value.0 s.value.1 fits s.was in
    record { value = s.value.0; rest = s.value.1; taken = t.0; legal = t.1; then = s.then }

-- The code of a value is read as this value, if more bytes follow.
pub again-then : {A B : Type 0} (read : List ℕ → Field A) (code : A → List ℕ) (Legal : A → Type 0) → Reads read code Legal → (x : A) (more rest : List ℕ) (f : A × List ℕ → Result B CodecFault) → Legal x → (read ((code x ++ more) ++ rest) >>= f) ≡ f (x, more ++ rest)
again-then read code Legal reads x more rest f legal =
    ap (λ (t : List ℕ). read t >>= f) (append_assoc (code x) more rest) ∙ ap (λ r. r >>= f) (reads.again x (more ++ rest) legal)

pub again-last : {A B : Type 0} (read : List ℕ → Field A) (code : A → List ℕ) (Legal : A → Type 0) → Reads read code Legal → (x : A) (rest : List ℕ) (f : A × List ℕ → Result B CodecFault) → Legal x → (read (code x ++ rest) >>= f) ≡ f (x, rest)
again-last read code Legal reads x rest f legal = ap (λ r. r >>= f) (reads.again x rest legal)

-- The same, if the result of the following steps is known.
pub again-step : {A B : Type 0} (read : List ℕ → Field A) (code : A → List ℕ) (Legal : A → Type 0) → Reads read code Legal → (x : A) (more rest : List ℕ) (f : A × List ℕ → Result B CodecFault) (y : Result B CodecFault) → Legal x → f (x, more ++ rest) ≡ y → (read ((code x ++ more) ++ rest) >>= f) ≡ y
again-step read code Legal reads x more rest f y legal e = again-then read code Legal reads x more rest f legal ∙ e

-- A value, followed by the rest of the value that contains it.
pub reads_then : {A B : Type 0} (first : List ℕ → Field A) (code : A → List ℕ) (Legal : A → Type 0) (second : A → List ℕ → Field B) (more : B → List ℕ) (Rest : B → Type 0) (part : B → A) → Reads first code Legal → ((a : A) → Reads (second a) more (λ b. (part b ≡ a) × Rest b))
    → Reads (λ bytes. first bytes >>= λ a. second a.0 a.1) (λ b. code (part b) ++ more b) (λ b. Legal (part b) × Rest b)
reads_then {A = A} first code Legal second more Rest part reads others = record {
  takes = λ bytes b rest fits e.
      let a = got first code Legal reads bytes (λ a. second a.0 a.1) (b, rest) fits e in
      let s = (others a.value).takes a.rest b rest a.taken.rest_fits a.then in
      let taken : Takes bytes (code (part b)) a.rest = subst_at (λ (v : A). Takes bytes (code v) a.rest) a.value (part b) (sym s.1.0) a.taken in
      (taken ⨾ s.0, (subst_at Legal a.value (part b) (sym s.1.0) a.legal, s.1.1));
  again = λ b rest legal. again-step first code Legal reads (part b) (more b) rest (λ a. second a.0 a.1) (Ok (b, rest)) legal.0 ((others (part b)).again b rest (refl, legal.1));
}

-- ---- parts

pub record Parts (n : ℕ) (bytes part rest : List ℕ) : Type 0 where
  pub len : length part ≡ n
  pub front : part ≡ take n bytes
  pub taken : Takes bytes part rest

pub part_takes : (n : ℕ) (bytes part rest : List ℕ) → IsBytes bytes → part_at n bytes ≡ Ok (part, rest) → Parts n bytes part rest
unfolding part_at
part_takes n bytes part rest fits e =
    let g = guard_ok (ltb (length bytes) n) Length (take n bytes, drop n bytes) (part, rest) e in
    let long : n ≤ length bytes = ltb-false _ _ g.0 in
    subst (λ (p : List ℕ × List ℕ). Parts n bytes p.0 p.1) g.1 (record {
      len = omega (arith, length-take n bytes);
      front = refl;
      taken = record { parts = sym (take-append-drop n bytes); rest_fits = IsBytes-drop n bytes fits };
    })

pub part_again : (part rest : List ℕ) (n : ℕ) → length part ≡ n → part_at n (part ++ rest) ≡ Ok (part, rest)
unfolding part_at
part_again part rest n len =
    let long : ltb (length (part ++ rest)) n ≡ false = le-ltb _ _ (omega (arith, length-append part rest)) in
    rw (long, take_at part rest n len, drop_at part rest n len) refl

-- ---- numbers

pub record IsWide (w : Width) (limit : ℕ) : Type 0 where
  pub len : (n : ℕ) → length (to_be_bytes w n) ≡ byte_len w
  pub back : (bytes : List ℕ) → length bytes ≡ byte_len w → IsBytes bytes → to_be_bytes w (from_be_bytes w bytes) ≡ bytes
  pub again : (n : ℕ) → n < limit → from_be_bytes w (to_be_bytes w n) ≡ n
  pub below : (bytes : List ℕ) → IsBytes bytes → from_be_bytes w bytes < limit

one_byte : (bytes : List ℕ) → length bytes ≡ 1 → IsBytes bytes → to_be_bytes w8 (from_be_bytes w8 bytes) ≡ bytes
one_byte [] len fits = absurd (omega (arith, len))
one_byte (b ∷ []) len fits = let lt : b < 256 = fits 0 in ap (λ n. n ∷ []) (omega (arith, lt))
one_byte (b ∷ c ∷ bytes) len fits = absurd (omega (arith, len))

pub wide8 : IsWide w8 (2 ^ 8)
wide8 = record {
  len = λ n. refl;
  back = one_byte;
  again = λ n lt. omega arith;
  below = λ bytes fits. omega (arith, fits 0);
}

pub wide16 : IsWide w16 (2 ^ 16)
wide16 = record {
  len = λ n. refl;
  back = λ bytes len fits. be_bytes_2 bytes _ len fits refl;
  again = λ n lt. from_be_bytes-to_be_bytes_2 n lt;
  below = λ bytes fits. omega (arith, fits 0, fits 1);
}

pub wide32 : IsWide w32 (2 ^ 32)
wide32 = record {
  len = λ n. refl;
  back = λ bytes len fits. be_bytes_4 bytes _ len fits refl;
  again = λ n lt. from_be_bytes-to_be_bytes_4 n lt;
  below = λ bytes fits. omega (arith, fits 0, fits 1, fits 2, fits 3);
}

pub wide64 : IsWide w64 (2 ^ 64)
wide64 = record {
  len = λ n. refl;
  back = λ bytes len fits. be_bytes_8 bytes _ len fits refl;
  again = λ n lt. from_be_bytes-to_be_bytes_8 n lt;
  below = λ bytes fits. omega (arith, fits 0, fits 1, fits 2, fits 3, fits 4, fits 5, fits 6, fits 7);
}

number_takes : (w : Width) (limit : ℕ) (wide : IsWide w limit) (bytes : List ℕ) (n : ℕ) (rest : List ℕ) → IsBytes bytes → number_at w bytes ≡ Ok (n, rest) → Takes bytes (to_be_bytes w n) rest × (n < limit)
unfolding number_at
number_takes w limit wide bytes n rest fits e =
    let s = bind_ok (part_at (byte_len w) bytes) (λ part. Ok (from_be_bytes w part.0, part.1)) (n, rest) e in
    let p = part_takes (byte_len w) bytes s.value.0 s.value.1 fits s.was in
    let part_fits : IsBytes s.value.0 = rw p.front (IsBytes-take (byte_len w) bytes fits) in
    let first : Takes bytes (to_be_bytes w (from_be_bytes w s.value.0)) s.value.1 = rw (wide.back s.value.0 p.len part_fits) p.taken in
    ok_as (λ (x : ℕ × List ℕ). Takes bytes (to_be_bytes w x.0) x.1 × (x.0 < limit)) (from_be_bytes w s.value.0, s.value.1) (n, rest) s.then (first, wide.below s.value.0 part_fits)

number_again : (w : Width) (limit : ℕ) (wide : IsWide w limit) (n : ℕ) (rest : List ℕ) → n < limit → number_at w (to_be_bytes w n ++ rest) ≡ Ok (n, rest)
unfolding number_at
number_again w limit wide n rest lt =
    rw (part_again (to_be_bytes w n) rest (byte_len w) (wide.len n), wide.again n lt) refl

pub reads_number : (w : Width) (limit : ℕ) → IsWide w limit → Reads (number_at w) (to_be_bytes w) (λ n. n < limit)
reads_number w limit wide = record { takes = number_takes w limit wide; again = number_again w limit wide }

within : (least most n : ℕ) → (nat_le least n && nat_le n most) ≡ true → IsIn least most n
within least most n e = record { at_least = grind (arith, nat_tests); at_most = grind (arith, nat_tests) }

tested : (least most n : ℕ) → IsIn least most n → (nat_le least n && nat_le n most) ≡ true
tested least most n h = let a = h.at_least in let b = h.at_most in grind (arith, nat_tests)

ranged_takes : (least most : ℕ) (w : Width) (limit : ℕ) (wide : IsWide w limit) (bytes : List ℕ) (n : ℕ) (rest : List ℕ) → IsBytes bytes → ranged_at least most w bytes ≡ Ok (n, rest) → Takes bytes (to_be_bytes w n) rest × IsIn least most n
unfolding ranged_at ranged checked
ranged_takes least most w limit wide bytes n rest fits e =
    let s = got (number_at w) (to_be_bytes w) (λ n. n < limit) (reads_number w limit wide) bytes (λ x. ranged least most x.0 >>= λ number. Ok (number, x.1)) (n, rest) fits e in
    let c = bind_ok (ranged least most s.value) (λ number. Ok (number, s.rest)) (n, rest) s.then in
    let g = passed_ok (nat_le least s.value && nat_le s.value most) Range s.value c.value c.was in
    let h : IsIn least most s.value = within least most s.value g.0 in
    let first : Takes bytes (to_be_bytes w c.value) s.rest × IsIn least most c.value = subst_at (λ (k : ℕ). Takes bytes (to_be_bytes w k) s.rest × IsIn least most k) s.value c.value g.1 (s.taken, h) in
    ok_as (λ (x : ℕ × List ℕ). Takes bytes (to_be_bytes w x.0) x.1 × IsIn least most x.0) (c.value, s.rest) (n, rest) c.then first

ranged_again : (least most : ℕ) (w : Width) (limit : ℕ) (wide : IsWide w limit) → most < limit → (n : ℕ) (rest : List ℕ) → IsIn least most n → ranged_at least most w (to_be_bytes w n ++ rest) ≡ Ok (n, rest)
unfolding ranged_at ranged checked
ranged_again least most w limit wide lt n rest h =
    rw (number_again w limit wide n rest (omega (arith, h.at_most, lt)), tested least most n h) refl

pub reads_ranged : (least most : ℕ) (w : Width) (limit : ℕ) → IsWide w limit → most < limit → Reads (ranged_at least most w) (to_be_bytes w) (IsIn least most)
reads_ranged least most w limit wide lt = record { takes = ranged_takes least most w limit wide; again = ranged_again least most w limit wide lt }

-- ---- texts

abbrev pub IsShort : (List ℕ → Bool) → Type 0
IsShort allowed = (text : List ℕ) → allowed text ≡ true → length text < 2 ^ 16

text_takes : (allowed : List ℕ → Bool) (bytes text rest : List ℕ) → IsBytes bytes → text_at allowed bytes ≡ Ok (text, rest) → Takes bytes (text_code text) rest × IsText allowed text
unfolding text_at utf8_of checked
text_takes allowed bytes text rest fits e =
    let n = got (number_at w16) (to_be_bytes w16) (λ n. n < 2 ^ 16) (reads_number w16 (2 ^ 16) wide16) bytes (λ n. part_at n.0 n.1 >>= λ part. utf8_of part.0 >>= λ text. checked (allowed text) (text, part.1)) (text, rest) fits e in
    let s = bind_ok (part_at n.value n.rest) (λ part. utf8_of part.0 >>= λ text. checked (allowed text) (text, part.1)) (text, rest) n.then in
    let p = part_takes n.value n.rest s.value.0 s.value.1 n.taken.rest_fits s.was in
    let u = bind_ok (utf8_of s.value.0) (λ text. checked (allowed text) (text, s.value.1)) (text, rest) s.then in
    let utf8 = passed_ok (is_utf8 s.value.0) Utf8 s.value.0 u.value u.was in
    let g = passed_ok (allowed u.value) Range (u.value, s.value.1) (text, rest) u.then in
    let both : Takes bytes (to_be_bytes w16 n.value ++ s.value.0) s.value.1 = Takes-then bytes (to_be_bytes w16 n.value) n.rest s.value.0 s.value.1 n.taken p.taken in
    let coded : Takes bytes (text_code s.value.0) s.value.1 = subst (λ (k : ℕ). Takes bytes (to_be_bytes w16 k ++ s.value.0) s.value.1) (sym p.len) both in
    let is : IsText allowed s.value.0 = record { utf8 = utf8.0; passes = rw utf8.1 g.0 } in
    subst (λ (x : List ℕ × List ℕ). Takes bytes (text_code x.0) x.1 × IsText allowed x.0) (ap (λ (t : List ℕ). (t, s.value.1)) utf8.1 ∙ g.1) (coded, is)

text_again : (allowed : List ℕ → Bool) → IsShort allowed → (text rest : List ℕ) → IsText allowed text → text_at allowed (text_code text ++ rest) ≡ Ok (text, rest)
unfolding text_at utf8_of checked
text_again allowed short text rest h =
    rw (number_again w16 (2 ^ 16) wide16 (length text) (text ++ rest) (short text h.passes), part_again text rest (length text) refl, h.utf8, h.passes) refl

pub reads_text : (allowed : List ℕ → Bool) → IsShort allowed → Reads (text_at allowed) text_code (IsText allowed)
reads_text allowed short = record { takes = text_takes allowed; again = text_again allowed short }
