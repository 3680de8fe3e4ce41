-- Examples of bytes that are no row of a listing, each with its first error.
use Rattle.std.specs.Prelude.{◌≡◌, ℕ, List, [], ◌∷◌, ◌++◌, map, codes, Err}
use Rattle.spool_types.specs.declared.version.Version.{Version}
use Rattle.spool_types.specs.declared.version.Version.TheVariants.{One, Two}
use Rattle.field_codec.specs.declared.fault.CodecFault.{CodecFault}
use Rattle.field_codec.specs.declared.fault.CodecFault.TheVariants.{Kind, Length, Range, Utf8}
use Rattle.event_codec.specs.RowReading.{row_reading}
use Rattle.decision_examples.specs.HexBytes.{hex}
use Rattle.decision_examples.specs.ListedRows.{before_phase}

-- Each row: the bytes that follow these bytes, and the error in this version.
abbrev pub AreFaultsIn : Version → List ℕ → List (List ℕ × CodecFault) → Type 0
AreFaultsIn version before rows =
    map (λ (row : List ℕ × CodecFault). row_reading version (before ++ hex row.0)) rows ≡ map (λ (row : List ℕ × CodecFault). Err row.1) rows

-- The error in both versions.
abbrev pub AreFaults : List ℕ → List (List ℕ × CodecFault) → Type 0
AreFaults before rows = AreFaultsIn One before rows × AreFaultsIn Two before rows

abbrev pub ListedFaultRows : Type 0
ListedFaultRows = AreFaults [] (
    ([], Length)
    ∷ (codes "0A 00 00 00 01", Kind)
    ∷ (codes "3F", Kind)
    ∷ (codes "44", Kind)
    ∷ (codes "40", Length)
    ∷ (codes "40 80 00 00 00 00 00 00 00 00 00 00 00", Range)
    ∷ (codes "40 00 00 00 00 00 00 03 A3 52 94 40 01", Range)
    ∷ (codes "40 00 00 00 00 00 00 00 00 00 00 00 00 00", Length)
    ∷ (codes "41 00 01 20", Range)
    ∷ (codes "41 00 01 FF", Utf8)
    ∷ (codes "41 00 02 71", Length)
    ∷ (codes "42 00 00 00 00", Range)
    ∷ (codes "42 80 00 00 00", Range)
    ∷ (codes "42 00 00 00 01 00 01 FF", Utf8)
    ∷ (codes "42 00 00 00 01 00 01 71 00 01 75 00 00 00 01 32 00 00 02", Range)
    ∷ (codes "42 00 00 00 01 00 01 71 00 01 75 00 00 00 01 32 00 00 01 00 03 61 2F 42", Range)
    ∷ (codes "42 00 00 00 01 00 01 71 00 01 75 00 00 00 01 32 00 00 00 10", Range)
    ∷ (codes "42 00 00 00 01 00 01 71 00 01 75 00 00 00 01 32 00 00 00 00 00 00 00 00 00 00 00 00 01 00 00 01", Range)
    ∷ (codes "43 00 00 00 00", Range)
    ∷ (codes "43 00 00 00 01 00 00 00 00", Range)
    ∷ (codes "43 00 00 00 01 00 01 00 01", Range)
    ∷ (codes "43 00 00 00 01 00 00 00 02 61", Length)
    ∷ (codes "43 00 00 00 01 00 00 00 01 61 62", Length)
    ∷ [])

-- After the message of a queue.
abbrev pub QueueFaultRows : Type 0
QueueFaultRows = AreFaults (hex (codes "41 00 01 71 00 03 73 3A 2F 00 03 61 2F 62 00 00 00 00 1E 00 05 00 00 00 00 01 00 00 00")) (
    ([], Length)
    ∷ (codes "41", Range)
    ∷ (codes "01 00 04 6E 6F 6E 65", Range)
    ∷ (codes "02 00 01 62 00 01 61", Range)
    ∷ (codes "02 00 01 61 00 01 61", Range)
    ∷ (codes "03 00 01 62 00 01 61", Range)
    ∷ (codes "02 00 01 62 00 02 61", Length)
    ∷ (codes "02 00 01 62 00 01 FF", Utf8)
    ∷ (codes "00", Length)
    ∷ (codes "00 41", Range)
    ∷ (codes "00 02 00 01 62 00 00 00 01 61", Range)
    ∷ (codes "00 02 00 01 61 00 00 00 01 61 00 00", Range)
    ∷ (codes "00 01 00 01 61 00 01 7F", Range)
    ∷ (codes "00 01 00 01 61 00", Length)
    ∷ (codes "00 00 00", Length)
    ∷ [])

-- After the size of a job of two attempts, three pages and one filter.
abbrev pub PhaseFaultRows : Type 0
PhaseFaultRows = AreFaults before_phase (
    ([], Length)
    ∷ (codes "06", Range)
    ∷ (codes "00", Length)
    ∷ (codes "00 03", Range)
    ∷ (codes "00 01", Length)
    ∷ (codes "00 01 03", Range)
    ∷ (codes "00 02 00", Length)
    ∷ (codes "00 02 00 00 03 A3 52 94 40 01", Range)
    ∷ (codes "01 00 00 00 00 00 00 00 00 00", Length)
    ∷ (codes "01 00 00 00 00 00 00 00 00 00 02", Range)
    ∷ (codes "02", Length)
    ∷ (codes "02 00", Range)
    ∷ (codes "02 11", Range)
    ∷ (codes "05", Length)
    ∷ (codes "05 05", Range)
    ∷ [])

-- After the phase of a completed job: version 1 reads no moment, and version 2 requires one.
abbrev pub FirstVersionFaultRows : Type 0
FirstVersionFaultRows = AreFaultsIn One (before_phase ++ 3 ∷ []) ((codes "00", Length) ∷ (codes "01 00 00 00 00 00 00 07 D0", Length) ∷ [])

abbrev pub MomentFaultRows : Type 0
MomentFaultRows = AreFaultsIn Two (before_phase ++ 3 ∷ []) (
    ([], Length)
    ∷ (codes "02", Range)
    ∷ (codes "01", Length)
    ∷ (codes "01 00 00 00 00 00 00 07", Length)
    ∷ (codes "01 00 00 03 A3 52 94 40 01", Range)
    ∷ (codes "01 00 00 00 00 00 00 07 D0 00", Length)
    ∷ (codes "00 00", Length)
    ∷ [])
