-- Fields at the front of bytes, from left to right, up to the first error.
use Rattle.std.specs.Prelude.{◌≡◌, ℕ, List, length, take, drop, Bool, true, ◌&&◌, Result, Ok, Err, nat_lt, nat_le, ◌==◌, if◌then◌else◌}
use Rattle.std.specs.Int.{Width, w16, byte_len, from_be_bytes}
use Rattle.std.specs.Str.{is_utf8}
use Rattle.spool_types.specs.declared.text.TextFault.{TextFault}
use Rattle.spool_types.specs.declared.text.TextFault.TheVariants.{Bad}
use Rattle.spool_types.specs.declared.text.TextFault.TheVariants as text_faults
use Rattle.field_codec.specs.declared.fault.CodecFault.{CodecFault}
use Rattle.field_codec.specs.declared.fault.CodecFault.TheVariants.{Kind, Length, Range, Utf8, Memory}

-- A value and the bytes after it, or the first error.
abbrev pub Field : Type 0 → Type 0
Field A = Result (A × List ℕ) CodecFault

-- Steps in order, up to the first error.
infixl 10 ◌>>=◌
abbrev pub ◌>>=◌ : {A B : Type 0} → Result A CodecFault → (A → Result B CodecFault) → Result B CodecFault
(Ok x) >>= f = f x
(Err e) >>= f = Err e

-- The result of a function, converted by `view`, is that of `reading`, unless memory ran out.
abbrev pub Fails : {Y : Type 0} → CodecFault → Result Y CodecFault → Type 0
Fails Kind reading = reading ≡ Err Kind
Fails Length reading = reading ≡ Err Length
Fails Range reading = reading ≡ Err Range
Fails Utf8 reading = reading ≡ Err Utf8
Fails Memory reading = Unit {0}

abbrev pub Gives : {X Y : Type 0} → (X → Y) → Result X CodecFault → Result Y CodecFault → Type 0
Gives view (Ok x) reading = reading ≡ Ok (view x)
Gives view (Err e) reading = Fails e reading

-- Memory runs out only if something is copied.
abbrev pub MemoryOnly : Bool → CodecFault → Type 0
MemoryOnly copied fault = fault ≡ Memory → copied ≡ true

-- ---- fields: first Length, then Utf8, then Range

unfoldable pub part_at : ℕ → List ℕ → Field (List ℕ)
part_at n bytes = if nat_lt (length bytes) n then Err Length else Ok (take n bytes, drop n bytes)

unfoldable pub number_at : Width → List ℕ → Field ℕ
number_at w bytes = do
  part ← part_at (byte_len w) bytes
  Ok (from_be_bytes w part.0, part.1)

-- The value if it passes a test, otherwise `Range`.
unfoldable pub checked : {A : Type 0} → Bool → A → Result A CodecFault
checked passes x = if passes then Ok x else Err Range

unfoldable pub ranged : ℕ → ℕ → ℕ → Result ℕ CodecFault
ranged least most n = checked (nat_le least n && nat_le n most) n

unfoldable pub ranged_at : ℕ → ℕ → Width → List ℕ → Field ℕ
ranged_at least most w bytes = do
  n ← number_at w bytes
  number ← ranged least most n.0
  Ok (number, n.1)

unfoldable pub utf8_of : List ℕ → Result (List ℕ) CodecFault
utf8_of bytes = if is_utf8 bytes then Ok bytes else Err Utf8

unfoldable pub text_at : (List ℕ → Bool) → List ℕ → Field (List ℕ)
text_at allowed bytes = do
  n ← number_at w16 bytes
  part ← part_at n.0 n.1
  text ← utf8_of part.0
  checked (allowed text) (text, part.1)

-- A value with no bytes after it.
unfoldable pub whole : {A : Type 0} → Field A → Result A CodecFault
whole field = do
  x ← field
  if length x.1 == 0 then Ok x.0 else Err Length

-- The error of a field whose text was not read.
abbrev pub codec_fault : TextFault → CodecFault
codec_fault Bad = Range
codec_fault text_faults.Memory = Memory
