-- The lines of backends that are printed.
use Rattle.std.specs.Prelude.{◌≡◌, ℕ, ◌⊎◌, ◌==◌, List, [], ◌∷◌, ◌++◌, Option, None, Some, IfSome, IsUtf8}
use Rattle.std.specs.List.{AllZip, flat_map, slice_split}
use Rattle.std.specs.Io.KnownBytes.{Appends}
use Rattle.device_uri.specs.BackendLines.{IsDeviceLine}
use Rattle.device_uri.specs.declared.line.DeviceLine.{DeviceLine}
use Rattle.program_lists.specs.declared.kinds.BackendNameKind.{BackendNameKind}
use Rattle.program_lists.specs.declared.line.Listed.{Listed}
use Rattle.program_lists.specs.declared.line.ListedProgram.{ListedProgram}
use Rattle.spool_runtime.specs.declared.fault.ShellFault.{ShellFault}
use Rattle.spool_runtime.specs.declared.fault.ShellFault.TheVariants.{Memory, Write}

-- A line ends at its line feed. The last line needs none.
abbrev pub lines_of : List ℕ → List (List ℕ)
lines_of text = slice_split (λ b. b == 10) text

-- The text has the fields of a device line.
abbrev pub HasFields : List ℕ → Type 0
HasFields line = (fields : DeviceLine) × IsDeviceLine fields line

-- The line parses as a device line.
abbrev pub IsDevice : List ℕ → Type 0
IsDevice line = IsUtf8 line × HasFields line

-- The line unchanged, followed by a line feed.
abbrev pub with_feed : List ℕ → List ℕ
with_feed line = line ++ 10 ∷ []

-- The text is this line, followed by the text of the other lines.
pub record Follows (line : List ℕ) (others : List ℕ → Type 0) (text : List ℕ) : Type 0 where
  pub rest : List ℕ
  pub whole : text ≡ with_feed line ++ rest
  pub are : others rest

-- The text that is printed for these lines: the device lines in order, and nothing else.
abbrev pub ArePrinted : List (List ℕ) → List ℕ → Type 0
ArePrinted [] text = text ≡ []
ArePrinted (line ∷ lines) text = (IsDevice line × Follows line (ArePrinted lines) text) ⊎ (¬ (IsDevice line) × ArePrinted lines text)

-- The writer got the text that is printed for these lines.
pub record PrintsDevices (lines : List (List ℕ)) (old new : Option (List ℕ)) : Type 0 where
  pub text : List ℕ
  pub are : ArePrinted lines text
  pub wrote : Appends old new text

-- The writer got this line if it is a device line, and nothing otherwise.
abbrev pub PrintsIfDevice : List ℕ → Option (List ℕ) → Option (List ℕ) → Type 0
PrintsIfDevice line old new = (IsDevice line × Appends old new (with_feed line)) ⊎ (¬ (IsDevice line) × (new ≡ old))

-- ---- the backends

-- The output of a backend is a text, or none if it cannot be run or read. If the output is known, it is this.
abbrev pub Knows : Option (Option (List ℕ)) → Option (List ℕ) → Type 0
Knows known told = IfSome known (λ this. told ≡ this)

abbrev pub lines_told : Option (List ℕ) → List (List ℕ)
lines_told None = []
lines_told (Some text) = lines_of text

-- Each backend was asked once, in order, and the device lines in their output were printed.
pub record PrintsTold
    (tells : ListedProgram → Option (Option (List ℕ))) (backends : List (Listed BackendNameKind)) (old new : Option (List ℕ)) : Type 0 where
  pub told : List (Option (List ℕ))
  pub each : AllZip (λ backend text. Knows (tells backend.program) text) backends told
  pub printed : PrintsDevices (flat_map lines_told told) old new

-- ---- errors

-- The writer failed, or memory ran out.
abbrev pub IsOfPrinting : ShellFault → Type 0
IsOfPrinting fault = (fault ≡ Write) ⊎ (fault ≡ Memory)

-- The same for one line: the writer failed on a device line, or memory ran out before the line was checked and nothing
-- was written.
abbrev pub IsUnprinted : List ℕ → Option (List ℕ) → Option (List ℕ) → ShellFault → Type 0
IsUnprinted line old new fault = ((fault ≡ Write) × IsDevice line) ⊎ ((fault ≡ Memory) × (new ≡ old))
