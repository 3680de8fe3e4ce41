-- Examples of bytes that are no event, each with its first error.
use Rattle.std.specs.Prelude.{◌≡◌, ℕ, ◌-◌, List, [], ◌∷◌, ◌++◌, map, take, codes, length, Option, None, Some, Err}
use Rattle.std.specs.Int.{w16, to_be_bytes}
use Rattle.std.specs.List.{flat_map}
use Rattle.std.specs.Result.{result_err}
use Rattle.field_codec.specs.declared.fault.CodecFault.{CodecFault}
use Rattle.field_codec.specs.declared.fault.CodecFault.TheVariants.{Kind, Length, Range, Utf8}
use Rattle.event_codec.specs.EventReading.{reading}
use Rattle.decision_examples.specs.HexBytes.{hex, times}

-- Each row: the bytes that follow these bytes, and the error.
abbrev pub AreFaults : List ℕ → List (List ℕ × CodecFault) → Type 0
AreFaults before rows =
    map (λ (row : List ℕ × CodecFault). reading (before ++ hex row.0)) rows ≡ map (λ (row : List ℕ × CodecFault). Err row.1) rows

-- The kinds 40 to 43 are rows of a listing.
abbrev pub FaultRows : Type 0
FaultRows = AreFaults [] (
    (codes "0A 00 00 00 01 00", Length)
    ∷ (codes "0A 00 00 00 00", Range)
    ∷ (codes "7F", Kind)
    ∷ ([], Length)
    ∷ (codes "07 00 00 00 01 00 03 61 2F 42 00", Range)
    ∷ (codes "07 00 00 00 01 00 03 61 2F FF 00", Utf8)
    ∷ (codes "03 00 01 71 02", Range)
    ∷ (codes "04 00 01 71 02", Range)
    ∷ (codes "08 00 00 00 01 00", Range)
    ∷ (codes "08 00 00 00 01 03", Range)
    ∷ (codes "08 00 00 00 01 02", Length)
    ∷ (codes "08 00 00 00 01 02 00 00 03 A3 52 94 40 01", Range)
    ∷ (codes "09 00 00 00 01 00", Length)
    ∷ (codes "08 00 00 00 01 01 00", Length)
    ∷ (codes "03 00 01 71 01 00", Length)
    ∷ (codes "0F 00", Length)
    ∷ (codes "10", Length)
    ∷ (codes "10 00 00 00", Length)
    ∷ (codes "10 00 00 00 01 00", Length)
    ∷ (codes "10 00 00 00 00", Range)
    ∷ (codes "10 80 00 00 00", Range)
    ∷ (codes "12", Kind)
    ∷ (codes "12 00 00 00 01", Kind)
    ∷ (codes "11", Length)
    ∷ (codes "11 00 01 71 00 00 00 01 00 01 75 00 00 00 01 32 00 00", Length)
    ∷ (codes "11 00 01 71 00 00 00 01 00 01 75 00 00 00 01 32 00 00 00 00 00 00 00 00 07", Length)
    ∷ (codes "11 00 01 71 00 00 00 01 00 01 75 00 00 00 01 32 00 00 00 00 00 00 00 00 07 D0 00", Length)
    ∷ (codes "11 00 01 71 00 00 00 01 00 01 75 00 00 00 01 32 00 00 00 00 03 A3 52 94 40 01", Range)
    ∷ (codes "05 00 01 71 00 00 00 01 00 01 75 00 00 00 01 32 00 00 00 00 00 00 00 00 07 D0", Length)
    ∷ (codes "0D 00 00 00 01 00 00 00 00 01 01 00 00 00 00 00 00", Range)
    ∷ (codes "0D 00 00 00 01 00 00 00 01 00 01 00 00 00 00 00 00", Range)
    ∷ (codes "0D 00 00 00 01 00 00 00 01 11 01 00 00 00 00 00 00", Range)
    ∷ (codes "0D 00 00 00 01 00 00 00 01 01 04 00 00 00 00 00 00", Range)
    ∷ (codes "0D 00 00 00 01 00 00 00 01 01 01 00 00 00 00 00 01", Length)
    ∷ (codes "40", Kind)
    ∷ (codes "40 00 00 00 00 00 00 00 00 00 00 00 00", Kind)
    ∷ (codes "41", Kind)
    ∷ (codes "41 00 00 00 00 00 00 00 00 00 00 00 00", Kind)
    ∷ (codes "42", Kind)
    ∷ (codes "42 00 00 00 00 00 00 00 00 00 00 00 00", Kind)
    ∷ (codes "43", Kind)
    ∷ (codes "43 00 00 00 00 00 00 00 00 00 00 00 00", Kind)
    ∷ [])

-- After the dropped lines of a stage that a signal ended.
abbrev pub EffectFaultRows : Type 0
EffectFaultRows = AreFaults (hex (codes "0D 00 00 00 01 00 00 00 01 01 01 00 00 00 00")) (
    (codes "00", Length)
    ∷ (codes "00 00 00", Length)
    ∷ (codes "00 01 00", Range)
    ∷ (codes "00 01 08", Range)
    ∷ (codes "00 02 08", Range)
    ∷ (codes "00 01 01 00 00 00 01 00 00 00", Length)
    ∷ (codes "00 01 02 00 00 00", Length)
    ∷ (codes "00 01 02 00 00 00 09 00", Length)
    ∷ (codes "00 02 02 00 00 00 09", Length)
    ∷ (codes "00 01 03 00", Length)
    ∷ (codes "00 01 03 00 01", Length)
    ∷ (codes "00 01 03 00 02 00 01 61", Length)
    ∷ (codes "00 01 03 00 01 00 04 6E 6F 6E 65", Range)
    ∷ (codes "00 01 03 00 01 00 00", Range)
    ∷ (codes "00 01 03 00 01 00 03 61 20 62", Range)
    ∷ (codes "00 01 03 00 01 00 01 FF", Utf8)
    ∷ (codes "00 01 04 00 00", Range)
    ∷ (codes "00 01 05 00 00", Range)
    ∷ (codes "00 01 04 00 01", Length)
    ∷ (codes "00 01 05 00 01 00 01", Length)
    ∷ (codes "00 01 03 FF FF", Length)
    ∷ (codes "00 01 06 00 03 61 5F 62 00 00", Range)
    ∷ (codes "00 01 06 00 00 00 00", Range)
    ∷ (codes "00 01 06 00 01 FF", Utf8)
    ∷ (codes "00 01 06 00 01 61 00", Length)
    ∷ (codes "00 01 06 00 01 61 00 01 7F", Range)
    ∷ (codes "00 01 06 00 01 61 00 01 80", Utf8)
    ∷ (codes "00 01 07", Length)
    ∷ (codes "00 01 07 07", Range)
    ∷ (codes "00 01 07 06 00 02 61", Length)
    ∷ (codes "00 01 07 06 00 01 1F", Range)
    ∷ (codes "00 01 07 06 00 01 C3", Utf8)
    ∷ [])

-- The error of the bytes that follow these bytes, if any.
abbrev pub faults : List ℕ → List (List ℕ) → List (Option CodecFault)
faults before rows = map (λ row. result_err (reading (before ++ row))) rows

-- A stage with 1,820 effects of nine bytes each, 16,380 in all, up to a further effect.
abbrev pub full_stage : List ℕ
full_stage = hex (codes "0D 00 00 00 01 00 00 00 01 01 01 00 00 00 00 07 1D") ++ flat_map (λ effect. effect) (times 1820 (hex (codes "01 00 00 00 01 00 00 00 01")))

abbrev pub FullStageRows : Type 0
FullStageRows = faults full_stage (map hex (codes "07 06 00 00" ∷ codes "02 00 00 00 01" ∷ codes "07 06 00 01 61" ∷ codes "07 06 00 02 61" ∷ codes "07 06 00 01 80" ∷ codes "02 00 00 00" ∷ []))
    ≡ None ∷ Some Range ∷ Some Range ∷ Some Length ∷ Some Utf8 ∷ Some Length ∷ []

-- A text of this length that begins with a type.
abbrev pub long_text : ℕ → List ℕ
long_text count = to_be_bytes w16 count ++ codes "a/" ++ times (count - 2) 98

-- A Close with a media type of this length.
abbrev pub closing : ℕ → List ℕ
closing count = hex (codes "07 00 00 00 01") ++ long_text count ++ 0 ∷ []

abbrev pub LongTypeRows : Type 0
LongTypeRows = faults [] (map closing (255 ∷ 256 ∷ 300 ∷ [])) ≡ None ∷ Some Range ∷ Some Range ∷ []

-- A job with 556 bytes of options.
abbrev pub long_job : List ℕ
long_job = hex (codes "05 00 01 71 00 00 00 01 00 01 75 00 00 00 01 32") ++ long_text 556

-- One byte is missing, or all after the first 300.
abbrev pub CutTextRows : Type 0
CutTextRows = faults [] (map (λ cut. take (length long_job - cut) long_job) (0 ∷ 1 ∷ 256 ∷ [])) ≡ None ∷ Some Length ∷ Some Length ∷ []

-- Copies, a priority and an interval, at their limits and beyond.
abbrev pub job_of_copies : List ℕ → List ℕ
job_of_copies numbers = hex (codes "05 00 01 71 00 00 00 01 00 01 75 00 00") ++ numbers ++ 0 ∷ 0 ∷ []

abbrev pub RangeRows : Type 0
RangeRows = faults [] (map (λ numbers. job_of_copies (hex numbers)) (
    codes "00 01 01" ∷ codes "27 0F 64" ∷ codes "00 00 01" ∷ codes "27 10 01" ∷ codes "00 01 00" ∷ codes "00 01 65" ∷ []))
    ≡ None ∷ None ∷ Some Range ∷ Some Range ∷ Some Range ∷ Some Range ∷ []

-- A queue with this retry interval.
abbrev pub queue_of_interval : List ℕ → List ℕ
queue_of_interval interval = hex (codes "01 00 01 71 00 03 73 3A 2F 00 03 61 2F 62 00") ++ interval ++ 0 ∷ 5 ∷ []

abbrev pub IntervalRows : Type 0
IntervalRows = faults [] (map (λ interval. queue_of_interval (hex interval)) (codes "00 00 00 00" ∷ codes "00 01 51 80" ∷ codes "00 01 51 81" ∷ [])) ≡ None ∷ None ∷ Some Range ∷ []

-- A send that is too long is an error before its bytes are checked.
abbrev pub SendRows : Type 0
SendRows = faults [] (map hex (codes "06 00 00 00 01 00 00 00 00" ∷ codes "06 00 00 00 01 00 01 00 00" ∷ codes "06 00 00 00 01 00 01 00 01" ∷ [])) ≡ None ∷ Some Length ∷ Some Range ∷ []
