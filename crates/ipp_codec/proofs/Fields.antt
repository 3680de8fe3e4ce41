-- A field that is read has these octets as its spelling, and the spelling of a field is read as this field.
use Rattle.std.proofs.Common.{◌≡◌, ℕ, ◌+◌, ◌^◌, ◌<◌, ◌≤◌, Bool, true, false, cond, ltb, List, [], ◌∷◌, ◌++◌, length, get_or, take, drop, Result, Ok, Err, refl, sym, ap, subst, ◌∙◌, append_assoc, arith, inl, inr}
use Rattle.std.specs.Int.{Width, w8, w16, w32, byte_len, from_be_bytes, to_be_bytes}
use Rattle.std.proofs.lemmas.Bool.{cases_lt, ltb-false, le-ltb}
use Rattle.std.proofs.lemmas.List.{take_at, drop_at, take-append-drop, length-append, length-take, get_or-drop, get_or-take, get_or_past}
use Rattle.std.proofs.lemmas.Nat.{be_bytes_2, be_bytes_4, from_be_bytes-to_be_bytes_2, from_be_bytes-to_be_bytes_4}
use Rattle.ipp_codec.specs.declared.fault.DecodeFault.{DecodeFault}
use Rattle.ipp_codec.specs.Reading.{part_at, number_at, checked}
use Rattle.ipp_codec.specs.ReadSteps.{Field, ◌>>=◌}

abbrev pub IsBytes : List ℕ → Type 0
IsBytes bytes = (i : ℕ) → get_or bytes i 0 < 256

pub IsBytes-drop : (n : ℕ) (bytes : List ℕ) → IsBytes bytes → IsBytes (drop n bytes)
IsBytes-drop n bytes h i = rw get_or-drop (h (n + i))

pub IsBytes-take : (n : ℕ) (bytes : List ℕ) → IsBytes bytes → IsBytes (take n bytes)
IsBytes-take n bytes h i =
    elim (cases_lt i n) [
      | inl lt ↦ rw (get_or-take n bytes i 0 lt) (h i)
      | inr le ↦ rw (get_or_past (take n bytes) i 0 (omega (arith, length-take n bytes))) (omega arith)
    ]

-- The value of a step that did not fail.
pub record Stepped {A B : Type 0} (r : Result A DecodeFault) (f : A → Result B DecodeFault) (y : B) : Type 0 where
  pub value : A
  pub was : r ≡ Ok value
  pub then : f value ≡ Ok y

pub bind_ok : {A B : Type 0} (r : Result A DecodeFault) (f : A → Result B DecodeFault) (y : B) → (r >>= f) ≡ Ok y → Stepped r f y
bind_ok (Ok x) f y e = record { value = x; was = refl; then = e }
bind_ok (Err d) f y e = absurd cc

-- Tests that did not fail.
pub guard_ok : {A : Type 0} (b : Bool) (d : DecodeFault) (x y : A) → cond b (Err d) (Ok x) ≡ Ok y → (b ≡ false) × (x ≡ y)
guard_ok true d x y e = absurd cc
guard_ok false d x y e = (refl, cc)

pub passed_ok : {A : Type 0} (b : Bool) (d : DecodeFault) (x y : A) → cond b (Ok x) (Err d) ≡ Ok y → (b ≡ true) × (x ≡ y)
passed_ok true d x y e = (refl, cc)
passed_ok false d x y e = absurd cc

abbrev pub done : {A : Type 0} → A → Result A DecodeFault
done x = Ok x

pub ok_is : {A : Type 0} (x y : A) → done x ≡ done y → x ≡ y
ok_is x y e = cc

-- A property of a value is one of an equal value, with both written out.
pub subst_at : {A : Type 0} (P : A → Type 0) (x y : A) → x ≡ y → P x → P y
subst_at P x y same this = subst P same this

-- A property of a value is one of the value that was read.
pub ok_as : {A : Type 0} (P : A → Type 0) (x y : A) → done x ≡ done y → P x → P y
ok_as P x y e this = subst P (ok_is x y e) this

-- The bytes that a reader took from the front.
pub record Takes (bytes text rest : List ℕ) : Type 0 where
  pub parts : bytes ≡ text ++ rest
  pub rest_fits : IsBytes rest

pub Takes-then : (a x b y c : List ℕ) → Takes a x b → Takes b y c → Takes a (x ++ y) c
Takes-then a x b y c p q = record { parts = p.parts ∙ ap (λ (t : List ℕ). x ++ t) q.parts ∙ sym (append_assoc x y c); rest_fits = q.rest_fits }

-- The bytes that two readers took, in order.
infixl 10 ◌⨾◌
pub ◌⨾◌ : {a x b y c : List ℕ} → Takes a x b → Takes b y c → Takes a (x ++ y) c
p ⨾ q = Takes-then _ _ _ _ _ p q

-- A reader, by the code and the limits of a value.
pub record Reads {A : Type 0} (read : List ℕ → Field A) (code : A → List ℕ) (Legal : A → Type 0) : Type 0 where
  pub takes : (bytes : List ℕ) (x : A) (rest : List ℕ) → IsBytes bytes → read bytes ≡ Ok (x, rest) → Takes bytes (code x) rest × Legal x
  pub again : (x : A) (rest : List ℕ) → Legal x → read (code x ++ rest) ≡ Ok (x, rest)

-- The bytes that a step took, if more steps follow.
pub record Got {A B : Type 0} (code : A → List ℕ) (Legal : A → Type 0) (bytes : List ℕ) (f : A × List ℕ → Result B DecodeFault) (y : B) : Type 0 where
  pub value : A
  pub rest : List ℕ
  pub taken : Takes bytes (code value) rest
  pub legal : Legal value
  pub then : f (value, rest) ≡ Ok y

pub got : {A B : Type 0} (read : List ℕ → Field A) (code : A → List ℕ) (Legal : A → Type 0) → Reads read code Legal → (bytes : List ℕ) (f : A × List ℕ → Result B DecodeFault) (y : B) → IsBytes bytes → (read bytes >>= f) ≡ Ok y → Got code Legal bytes f y
got read code Legal reads bytes f y fits e =
    let s = bind_ok (read bytes) f y e in
    let t = reads.takes bytes s.value.0 s.value.1 fits s.was in
    record { value = s.value.0; rest = s.value.1; taken = t.0; legal = t.1; then = s.then }

-- The code of a value is read as this value, if more bytes follow.
pub again-then : {A B : Type 0} (read : List ℕ → Field A) (code : A → List ℕ) (Legal : A → Type 0) → Reads read code Legal → (x : A) (more rest : List ℕ) (f : A × List ℕ → Result B DecodeFault) → Legal x → (read ((code x ++ more) ++ rest) >>= f) ≡ f (x, more ++ rest)
again-then read code Legal reads x more rest f legal =
    ap (λ (t : List ℕ). read t >>= f) (append_assoc (code x) more rest) ∙ ap (λ r. r >>= f) (reads.again x (more ++ rest) legal)

pub again-last : {A B : Type 0} (read : List ℕ → Field A) (code : A → List ℕ) (Legal : A → Type 0) → Reads read code Legal → (x : A) (rest : List ℕ) (f : A × List ℕ → Result B DecodeFault) → Legal x → (read (code x ++ rest) >>= f) ≡ f (x, rest)
again-last read code Legal reads x rest f legal = ap (λ r. r >>= f) (reads.again x rest legal)

-- The same, if the result of the following steps is known.
pub again-step : {A B : Type 0} (read : List ℕ → Field A) (code : A → List ℕ) (Legal : A → Type 0) → Reads read code Legal → (x : A) (more rest : List ℕ) (f : A × List ℕ → Result B DecodeFault) (y : Result B DecodeFault) → Legal x → f (x, more ++ rest) ≡ y → (read ((code x ++ more) ++ rest) >>= f) ≡ y
again-step read code Legal reads x more rest f y legal e = again-then read code Legal reads x more rest f legal ∙ e

-- ---- parts

pub record Parts (n : ℕ) (bytes part rest : List ℕ) : Type 0 where
  pub len : length part ≡ n
  pub front : part ≡ take n bytes
  pub taken : Takes bytes part rest

pub part_takes : (fault : DecodeFault) (n : ℕ) (bytes part rest : List ℕ) → IsBytes bytes → part_at fault n bytes ≡ Ok (part, rest) → Parts n bytes part rest
unfolding part_at
part_takes fault n bytes part rest fits e =
    let g = guard_ok (ltb (length bytes) n) fault (take n bytes, drop n bytes) (part, rest) e in
    let long : n ≤ length bytes = ltb-false _ _ g.0 in
    subst (λ (p : List ℕ × List ℕ). Parts n bytes p.0 p.1) g.1 (record {
      len = omega (arith, length-take n bytes);
      front = refl;
      taken = record { parts = sym (take-append-drop n bytes); rest_fits = IsBytes-drop n bytes fits };
    })

pub part_again : (fault : DecodeFault) (part rest : List ℕ) (n : ℕ) → length part ≡ n → part_at fault n (part ++ rest) ≡ Ok (part, rest)
unfolding part_at
part_again fault part rest n len =
    let long : ltb (length (part ++ rest)) n ≡ false = le-ltb _ _ (omega (arith, length-append part rest)) in
    rw (long, take_at part rest n len, drop_at part rest n len) refl

-- ---- numbers

pub record IsWide (w : Width) (limit : ℕ) : Type 0 where
  pub len : (n : ℕ) → length (to_be_bytes w n) ≡ byte_len w
  pub back : (bytes : List ℕ) → length bytes ≡ byte_len w → IsBytes bytes → to_be_bytes w (from_be_bytes w bytes) ≡ bytes
  pub again : (n : ℕ) → n < limit → from_be_bytes w (to_be_bytes w n) ≡ n
  pub below : (bytes : List ℕ) → IsBytes bytes → from_be_bytes w bytes < limit

one_byte : (bytes : List ℕ) → length bytes ≡ 1 → IsBytes bytes → to_be_bytes w8 (from_be_bytes w8 bytes) ≡ bytes
one_byte [] len fits = absurd (omega (arith, len))
one_byte (b ∷ []) len fits = let lt : b < 256 = fits 0 in ap (λ n. n ∷ []) (omega (arith, lt))
one_byte (b ∷ c ∷ bytes) len fits = absurd (omega (arith, len))

pub wide8 : IsWide w8 (2 ^ 8)
wide8 = record {
  len = λ n. refl;
  back = one_byte;
  again = λ n lt. omega arith;
  below = λ bytes fits. omega (arith, fits 0);
}

pub wide16 : IsWide w16 (2 ^ 16)
wide16 = record {
  len = λ n. refl;
  back = λ bytes len fits. be_bytes_2 bytes _ len fits refl;
  again = λ n lt. from_be_bytes-to_be_bytes_2 n lt;
  below = λ bytes fits. omega (arith, fits 0, fits 1);
}

pub wide32 : IsWide w32 (2 ^ 32)
wide32 = record {
  len = λ n. refl;
  back = λ bytes len fits. be_bytes_4 bytes _ len fits refl;
  again = λ n lt. from_be_bytes-to_be_bytes_4 n lt;
  below = λ bytes fits. omega (arith, fits 0, fits 1, fits 2, fits 3);
}

number_takes : (fault : DecodeFault) (w : Width) (limit : ℕ) (wide : IsWide w limit) (bytes : List ℕ) (n : ℕ) (rest : List ℕ) → IsBytes bytes → number_at fault w bytes ≡ Ok (n, rest) → Takes bytes (to_be_bytes w n) rest × (n < limit)
unfolding number_at
number_takes fault w limit wide bytes n rest fits e =
    let s = bind_ok (part_at fault (byte_len w) bytes) (λ part. Ok (from_be_bytes w part.0, part.1)) (n, rest) e in
    let p = part_takes fault (byte_len w) bytes s.value.0 s.value.1 fits s.was in
    let part_fits : IsBytes s.value.0 = rw p.front (IsBytes-take (byte_len w) bytes fits) in
    let first : Takes bytes (to_be_bytes w (from_be_bytes w s.value.0)) s.value.1 = rw (wide.back s.value.0 p.len part_fits) p.taken in
    ok_as (λ (x : ℕ × List ℕ). Takes bytes (to_be_bytes w x.0) x.1 × (x.0 < limit)) (from_be_bytes w s.value.0, s.value.1) (n, rest) s.then (first, wide.below s.value.0 part_fits)

number_again : (fault : DecodeFault) (w : Width) (limit : ℕ) (wide : IsWide w limit) (n : ℕ) (rest : List ℕ) → n < limit → number_at fault w (to_be_bytes w n ++ rest) ≡ Ok (n, rest)
unfolding number_at
number_again fault w limit wide n rest lt =
    rw (part_again fault (to_be_bytes w n) rest (byte_len w) (wide.len n), wide.again n lt) refl

pub reads_number : (fault : DecodeFault) (w : Width) (limit : ℕ) → IsWide w limit → Reads (number_at fault w) (to_be_bytes w) (λ n. n < limit)
reads_number fault w limit wide = record { takes = number_takes fault w limit wide; again = number_again fault w limit wide }

pub reads_16 : (fault : DecodeFault) → Reads (number_at fault w16) (to_be_bytes w16) (λ n. n < 2 ^ 16)
reads_16 fault = reads_number fault w16 (2 ^ 16) wide16

pub reads_32 : (fault : DecodeFault) → Reads (number_at fault w32) (to_be_bytes w32) (λ n. n < 2 ^ 32)
reads_32 fault = reads_number fault w32 (2 ^ 32) wide32

-- ---- one octet

one_cell : (n : ℕ) → n < 256 → to_be_bytes w8 n ≡ n ∷ []
one_cell n lt = ap (λ m. m ∷ []) (omega (arith, lt))

octet_takes : (fault : DecodeFault) (bytes : List ℕ) (n : ℕ) (rest : List ℕ) → IsBytes bytes → number_at fault w8 bytes ≡ Ok (n, rest) → Takes bytes (n ∷ []) rest × (n < 256)
octet_takes fault bytes n rest fits e =
    let t = number_takes fault w8 (2 ^ 8) wide8 bytes n rest fits e in
    let lt : n < 256 = omega (arith, t.1) in
    (subst (λ (code : List ℕ). Takes bytes code rest) (one_cell n lt) t.0, lt)

octet_again : (fault : DecodeFault) (n : ℕ) (rest : List ℕ) → n < 256 → number_at fault w8 ((n ∷ []) ++ rest) ≡ Ok (n, rest)
octet_again fault n rest lt = ap (λ (code : List ℕ). number_at fault w8 (code ++ rest)) (sym (one_cell n lt)) ∙ number_again fault w8 (2 ^ 8) wide8 n rest (omega (arith, lt))

pub reads_octet : (fault : DecodeFault) → Reads (number_at fault w8) (λ n. n ∷ []) (λ n. n < 256)
reads_octet fault = record { takes = octet_takes fault; again = octet_again fault }

-- ---- tests

pub checked_ok : {A : Type 0} (fault : DecodeFault) (passes : Bool) (x y : A) → checked fault passes x ≡ Ok y → (passes ≡ true) × (x ≡ y)
unfolding checked
checked_ok fault passes x y e = passed_ok passes fault x y e

pub checked_again : {A : Type 0} (fault : DecodeFault) (passes : Bool) (x : A) → passes ≡ true → checked fault passes x ≡ Ok x
unfolding checked
checked_again fault passes x is = rw is refl
