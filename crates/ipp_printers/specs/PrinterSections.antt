-- The sections of a printers file, and the faults of its lines.
use Rattle.std.specs.Prelude.{◌≡◌, ℕ, ◌+◌, ◌<◌, Bool, cond, List, [], ◌∷◌, ◌++◌, slice_get, take, Option, None, Some, ⊤}
use Rattle.std.specs.List.{list_any}
use Rattle.std.specs.Option.{option_and_then}
use Rattle.ipp_printers.specs.MediaNames.{same}
use Rattle.ipp_printers.specs.PropertyKinds.{keyword_of}
use Rattle.ipp_printers.specs.PropertyValues.{kind_of}
use Rattle.ipp_printers.specs.declared.kind.PropertyKind.{PropertyKind}
use Rattle.ipp_printers.specs.declared.property.Property as properties
use Rattle.ipp_printers.specs.declared.fault.LineFault.{LineFault}
use Rattle.ipp_printers.specs.declared.fault.LineFault.TheVariants.{QueueTwice, PropertyTwice}
use Rattle.ipp_printers.specs.declared.fault.PrintersFault.{PrintersFault}
use Rattle.ipp_printers.specs.declared.fault.PrintersFault.TheVariants as faults
use Rattle.ipp_printers.specs.declared.line.Line.{Line}
use Rattle.ipp_printers.specs.declared.line.Line.TheVariants.{Blank, Queue, Property, Invalid}

-- ## Sections

-- A queue and the properties of its section.
abbrev pub Section : Type 0
Section = List ℕ × List properties.Property

-- The properties of all printers, and the sections of the queues.
abbrev pub Sections : Type 0
Sections = List properties.Property × List Section

-- A line of a queue begins its section. The lines before the first such line are about all printers.
abbrev pub sections_of : List Line → Sections
sections_of [] = ([], [])
sections_of (Blank ∷ lines) = sections_of lines
sections_of (Invalid fault ∷ lines) = sections_of lines
sections_of (Property property ∷ lines) = (property ∷ (sections_of lines).0, (sections_of lines).1)
sections_of (Queue name ∷ lines) = ([], (name, (sections_of lines).0) ∷ (sections_of lines).1)

-- ## The fault of a line after these sections

abbrev pub is_named : List ℕ → Section → Bool
is_named name section = same section.0 name

abbrev pub is_of : PropertyKind → properties.Property → Bool
is_of kind property = same (keyword_of (kind_of property)) (keyword_of kind)

-- The properties of the last section.
abbrev pub last_of : List properties.Property → List Section → List properties.Property
last_of all [] = all
last_of all (section ∷ sections) = last_of section.1 sections

abbrev pub fault_after : Sections → Line → Option LineFault
fault_after sections Blank = None
fault_after sections (Invalid fault) = Some fault
fault_after sections (Queue name) = cond (list_any (is_named name) sections.1) (Some QueueTwice) None
fault_after sections (Property property) = cond (list_any (is_of (kind_of property)) (last_of sections.0 sections.1)) (Some PropertyTwice) None

-- The fault of the line at this index, from 0.
abbrev pub fault_at : List Line → ℕ → Option LineFault
fault_at lines index = option_and_then (fault_after (sections_of (take index lines))) (slice_get lines index)

-- No line has a fault.
abbrev pub HasNoFault : List Line → Type 0
HasNoFault lines = (index : ℕ) → fault_at lines index ≡ None

-- The line with this number, from 1, has this fault, and no earlier line has one.
abbrev pub IsFirstFault : List Line → ℕ → LineFault → Type 0
IsFirstFault lines number fault =
    (index : ℕ) × (number ≡ index + 1) × (fault_at lines index ≡ Some fault) × ((before : ℕ) → before < index → fault_at lines before ≡ None)

abbrev pub IsFault : PrintersFault → List Line → Type 0
IsFault (faults.Line number fault) lines = IsFirstFault lines number fault
IsFault faults.Memory lines = ⊤

-- ## Between the lines of a text. Internal: no caller needs it.

-- A further property of the last section.
abbrev pub onto_section : properties.Property → Section → List Section → List Section
onto_section property section [] = (section.0, section.1 ++ property ∷ []) ∷ []
onto_section property section (next ∷ sections) = section ∷ onto_section property next sections

abbrev pub onto_last : properties.Property → List properties.Property → List Section → Sections
onto_last property all [] = (all ++ property ∷ [], [])
onto_last property all (section ∷ sections) = (all, onto_section property section sections)

abbrev pub with_line : Sections → Line → Sections
with_line sections (Queue name) = (sections.0, sections.1 ++ (name, []) ∷ [])
with_line sections (Property property) = onto_last property sections.0 sections.1
with_line sections line = sections
