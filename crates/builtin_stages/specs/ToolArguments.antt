-- The meaning of the arguments.
use Rattle.std.specs.Prelude.{ℕ, cond, codes, List, [], ◌∷◌, Option, None, Some}
use Rattle.std.specs.Option.{option_map}
use Rattle.std.specs.Str.{bytes_eq}
use Rattle.builtin_stages.specs.ToolNumbers.{ranged}
use Rattle.builtin_stages.specs.declared.words.Backend.{Backend}
use Rattle.builtin_stages.specs.declared.words.Backend.TheVariants.{AppSocket, Meet, SideAsk, SpoolFile}
use Rattle.builtin_stages.specs.declared.words.Filter.{Filter}
use Rattle.builtin_stages.specs.declared.words.Filter.TheVariants.{PrnCount, TextToPrn}

-- ---- the tools

abbrev pub filter_name : Filter → List ℕ
filter_name TextToPrn = codes "texttoprn"
filter_name PrnCount = codes "prncount"

abbrev pub backend_name : Backend → List ℕ
backend_name SpoolFile = codes "spoolfile"
backend_name Meet = codes "meet"
backend_name SideAsk = codes "sideask"
backend_name AppSocket = codes "appsocket"

abbrev pub filter_of : List ℕ → Option Filter
filter_of name =
    cond (bytes_eq name (filter_name TextToPrn)) (Some TextToPrn)
    (cond (bytes_eq name (filter_name PrnCount)) (Some PrnCount)
    None)

abbrev pub backend_of : List ℕ → Option Backend
backend_of name =
    cond (bytes_eq name (backend_name SpoolFile)) (Some SpoolFile)
    (cond (bytes_eq name (backend_name Meet)) (Some Meet)
    (cond (bytes_eq name (backend_name SideAsk)) (Some SideAsk)
    (cond (bytes_eq name (backend_name AppSocket)) (Some AppSocket)
    None)))

-- ---- the document of a job

-- The file of this name, or standard input, and the number of copies.
pub record Printed : Type 0 where
  pub file : Option (List ℕ)
  pub copies : ℕ

abbrev pub once : Printed
once = record { file = None; copies = 1 }

abbrev pub times : List ℕ → ℕ → Printed
times name count = record { file = Some name; copies = count }

-- A job's number, user, title, copies, options and optionally the name of its document's file (filter(7)). Only a file is printed more than
-- once.
abbrev pub document_of : List (List ℕ) → Option Printed
document_of (number ∷ user ∷ title ∷ copies ∷ options ∷ []) = option_map (λ count. once) (ranged 1 9999 copies)
document_of (number ∷ user ∷ title ∷ copies ∷ options ∷ name ∷ []) = option_map (times name) (ranged 1 9999 copies)
document_of words = None

-- ---- all arguments, starting with the program's name

pub data Request : Type 0 where
  filter : Filter → Printed → Request
  backend : Backend → Printed → Request
  device_line : Backend → Request
  through : List ℕ → List (List ℕ) → Request
  side_end : List ℕ → Request
  version : Request

abbrev pub backend_asked : Backend → List (List ℕ) → Option Request
backend_asked tool [] = Some (device_line tool)
backend_asked tool (word ∷ words) = option_map (backend tool) (document_of (word ∷ words))

-- The file of a chain and a job, or the file alone, for no devices.
abbrev pub through_asked : List (List ℕ) → Option Request
through_asked [] = None
through_asked (file ∷ []) = Some (through file [])
through_asked (file ∷ word ∷ words) = option_map (λ document. through file (word ∷ words)) (document_of (word ∷ words))

abbrev pub side_end_asked : List (List ℕ) → Option Request
side_end_asked (socket ∷ []) = Some (side_end socket)
side_end_asked words = None

abbrev pub version_asked : List (List ℕ) → Option Request
version_asked [] = Some version
version_asked (word ∷ words) = None

-- A filter with its job, a backend with its job or alone, a chain with its job or alone, the end of a session, or the version.
abbrev pub asked_by : Option Filter → Option Backend → List ℕ → List (List ℕ) → Option Request
asked_by (Some tool) other name words = option_map (filter tool) (document_of words)
asked_by None (Some tool) name words = backend_asked tool words
asked_by None None name words =
    cond (bytes_eq name (codes "through")) (through_asked words)
    (cond (bytes_eq name (codes "side-end")) (side_end_asked words)
    (cond (bytes_eq name (codes "--version")) (version_asked words)
    None))

abbrev pub asked_of : List (List ℕ) → Option Request
asked_of (program ∷ name ∷ words) = asked_by (filter_of name) (backend_of name) name words
asked_of words = None
