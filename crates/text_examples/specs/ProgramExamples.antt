-- Examples of lists of programs.
use Prim.Native.String.{String}
use Rattle.std.specs.Prelude.{◌≡◌, ℕ, Bool, true, false, List, [], ◌∷◌, map, Option, None, Some}
use Rattle.std.specs.Option.{option_map}
use Rattle.program_lists.specs.declared.line.Listed.{Listed}
use Rattle.program_lists.specs.declared.line.ListedProgram.{ListedProgram}
use Rattle.program_lists.specs.Programs.{Programs, programs_in, reads, program_named, no_programs}
use Rattle.text_examples.specs.Written.{text}

-- A program with or without a first word, and the same under a name.
abbrev pub bare : String → ListedProgram
bare path = record { path = text path; word = None; keeps_user = false }

abbrev pub worded : String → String → ListedProgram
worded path word = record { path = text path; word = Some (text word); keeps_user = false }

-- The same program, which keeps the user of the spooler.
abbrev pub kept : ListedProgram → ListedProgram
kept program = record program { keeps_user = true }

abbrev pub named : {K : Type 0} → String → ListedProgram → Listed K
named name program = record { name = text name; program = program }

-- A list with only these filters, and one with only these backends.
abbrev pub filters : List (String × ListedProgram) → Programs
filters list = record no_programs { filters = map (λ (p : String × ListedProgram). named p.0 p.1) list }

abbrev pub backends : List (String × ListedProgram) → Programs
backends list = record no_programs { backends = map (λ (p : String × ListedProgram). named p.0 p.1) list }

-- A text that is read, and the programs in it.
abbrev pub found : String × Programs → Bool × Programs
found row = (reads (text row.0), programs_in (text row.0))

abbrev pub wanted : String × Programs → Bool × Programs
wanted row = (true, row.1)

abbrev pub AreRead : List (String × Programs) → Type 0
AreRead rows = map found rows ≡ map wanted rows

abbrev pub AreRefused : List String → Type 0
AreRefused rows = map (λ (written : String). reads (text written)) rows ≡ map (λ (written : String). false) rows

-- Blanks, empty lines and remarks.
abbrev pub SilentRows : Type 0
SilentRows = AreRead (("", no_programs) ∷ (" ~||# filter|~# x y|#", no_programs) ∷ [])

abbrev pub FilterRows : Type 0
FilterRows = AreRead (
    ("filter f /bin/f", filters (("f", bare "/bin/f") ∷ []))
    ∷ (" filter~f  /bin/f  w=1~# last|", filters (("f", worded "/bin/f" "w=1") ∷ []))
    ∷ ("filter f /f#1 w#2|", filters (("f", worded "/f#1" "w#2") ∷ []))
    ∷ ("filter f /f #w", filters (("f", bare "/f") ∷ []))
    ∷ ("filter f /f$", filters (("f", bare "/f$") ∷ []))
    ∷ [])

abbrev pub BackendRows : Type 0
BackendRows = AreRead (
    ("backend b /b|backend a /a x|", backends (("b", bare "/b") ∷ ("a", worded "/a" "x") ∷ []))
    ∷ ("backend ipp+usb.1-x /b", backends (("ipp+usb.1-x", bare "/b") ∷ []))
    ∷ ("root-backend lpd /l|backend b /b root|root-backend c /c root", backends (("lpd", kept (bare "/l")) ∷ ("b", worded "/b" "root") ∷ ("c", kept (worded "/c" "root")) ∷ []))
    ∷ [])

-- A name may occur in each kind.
abbrev pub SideRows : Type 0
SideRows = AreRead (
    ("filter a /b|backend a /b|side /b|", record { filters = named "a" (bare "/b") ∷ []; backends = named "a" (bare "/b") ∷ []; side = Some (bare "/b") })
    ∷ ("side /s w", record no_programs { side = Some (worded "/s" "w") })
    ∷ [])

-- Invalid lines.
abbrev pub UnreadRows : Type 0
UnreadRows = AreRefused (
    "$|" ∷ "filter f /f$|filter f$ /g"
    ∷ "filter" ∷ "filter f" ∷ "filter f f" ∷ "filter f /a=b" ∷ "filter f /f w x" ∷ "filter f # /f" ∷ "filter f+ /f" ∷ "Filter f /f"
    ∷ "backend 1b /b" ∷ "backend B /b" ∷ "backend b: /b"
    ∷ "root-backend lpd" ∷ "root-backend lpd /l w x" ∷ "root-filter f /f" ∷ "Root-backend lpd /l"
    ∷ "side" ∷ "side s" ∷ "side /s w x"
    ∷ "filter f /f|frobnicate" ∷ "fil#ter f /f"
    ∷ [])

-- A second line for the same name, or a second `side` line.
abbrev pub TwiceRows : Type 0
TwiceRows = AreRefused ("side /s|side /s" ∷ "filter f /f|filter f /f" ∷ "backend b /f||backend b /g w" ∷ "backend b /b|root-backend b /b" ∷ [])

-- The path of the program with this name.
abbrev pub path_named : {K : Type 0} → List (Listed K) → String → Option (List ℕ)
path_named list name = option_map (λ (p : ListedProgram). p.path) (program_named (text name) list)

abbrev pub list : Programs
list = programs_in (text "filter a /1|filter b /2|backend b /3|")

-- A name finds its own program.
abbrev pub NamedRows : Type 0
NamedRows = map (path_named list.filters) ("a" ∷ "b" ∷ "c" ∷ "" ∷ []) ≡ Some (text "/1") ∷ Some (text "/2") ∷ None ∷ None ∷ []

abbrev pub NamedBackendRows : Type 0
NamedBackendRows = map (path_named list.backends) ("b" ∷ "a" ∷ []) ≡ Some (text "/3") ∷ None ∷ []

abbrev pub NoneNamedRows : Type 0
NoneNamedRows = path_named no_programs.filters "a" ≡ None
