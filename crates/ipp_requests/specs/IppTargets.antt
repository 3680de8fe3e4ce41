-- The targets of requests (RFC 8011 4.1.5): printers and jobs, named by URIs.
use Rattle.std.specs.Prelude.{ℕ, Bool, false, ◌||◌, ◌&&◌, ◌==◌, cond, nat_eq, nat_le, List, [], ◌∷◌, codes, Option, Some, None, Result, Ok, Err}
use Rattle.std.specs.List.{before_first, after_first}
use Rattle.std.specs.Cmp.Lexicographic.{pointwise}
use Rattle.line_words.specs.DecimalNumbers.{decimal}
use Rattle.spool_types.specs.Values.{is_queue_name}
use Rattle.ipp_names.specs.declared.statuses.Status.{Status}
use Rattle.ipp_names.specs.declared.statuses.Status.TheVariants.{BadRequest, NotFound}
use Rattle.ipp_values.specs.declared.message.Attribute.{Attribute}
use Rattle.ipp_requests.specs.declared.syntax.Syntax.TheVariants.{Uri}
use Rattle.ipp_requests.specs.declared.targets.Printer.{Printer}
use Rattle.ipp_requests.specs.declared.targets.Printer.TheVariants.{Default, Named}
use Rattle.ipp_requests.specs.declared.targets.Printers.{Printers}
use Rattle.ipp_requests.specs.declared.targets.Printers.TheVariants.{All, One}
use Rattle.ipp_requests.specs.declared.targets.JobTarget.{JobTarget}
use Rattle.ipp_requests.specs.declared.targets.JobTarget.TheVariants.{Number, NumberOf, CurrentOf}
use Rattle.ipp_requests.specs.IppAttributes.{◌>>=◌, text_at, number_at}

abbrev pub is_word : List ℕ → List ℕ → Bool
is_word word other = pointwise nat_eq word other

-- ## Paths of URIs

abbrev pub is_slash : ℕ → Bool
is_slash b = b == 47

-- The part before the first slash, and what follows the slash.
abbrev pub first_part : List ℕ → List ℕ
first_part text = before_first is_slash text

abbrev pub later_parts : List ℕ → List ℕ
later_parts text = after_first is_slash text

-- The schemes of IPP (RFC 8010 4, RFC 7472) and of HTTP, in lower case.
abbrev pub is_scheme : List ℕ → Bool
is_scheme text = is_word text (codes "ipp:") || (is_word text (codes "ipps:") || (is_word text (codes "http:") || is_word text (codes "https:")))

abbrev pub begins_with_slash : List ℕ → Bool
begins_with_slash [] = false
begins_with_slash (b ∷ bs) = is_slash b

-- The path without its first slash (RFC 3986 3): SCHEME://AUTHORITY/PATH. Any authority is that of the server.
abbrev pub path_of : List ℕ → Option (List ℕ)
path_of uri = cond (is_scheme (first_part uri) && begins_with_slash (later_parts uri)) (Some (later_parts (later_parts (later_parts uri)))) None

-- ## Printers

abbrev pub named_printer : List ℕ → Option Printers
named_printer name = cond (is_queue_name name) (Some (One (Named name))) None

-- The service has the paths /, /printers and /jobs, and a printer /printers/NAME.
abbrev pub is_service : List ℕ → Bool
is_service kind = is_word kind (codes "") || (is_word kind (codes "printers") || is_word kind (codes "jobs"))

abbrev pub printers_by : List ℕ → List ℕ → Option Printers
printers_by kind name =
    cond (is_word name (codes "")) (cond (is_service kind) (Some All) None)
    (cond (is_word kind (codes "printers")) (named_printer name) None)

-- /ipp/print is the default printer, and /ipp/print/NAME another one (PWG 5100.12).
abbrev pub everywhere_by : List ℕ → List ℕ → Option Printers
everywhere_by kind name =
    cond (is_word kind (codes "print"))
    (cond (is_word name (codes "")) (Some (One Default)) (named_printer name))
    None

abbrev pub everywhere_path : List ℕ → Option Printers
everywhere_path path = everywhere_by (first_part path) (later_parts path)

abbrev pub printers_at : List ℕ → Option Printers
printers_at path = cond (is_word (first_part path) (codes "ipp")) (everywhere_path (later_parts path)) (printers_by (first_part path) (later_parts path))

-- A path that is no printer's is not found.
abbrev pub found : {A : Type 0} → Option A → Result A Status
found None = Err NotFound
found (Some x) = Ok x

-- A text that is no such URI is a bad request, and so is a message without it.
abbrev pub given : {A : Type 0} → Option A → Result A Status
given None = Err BadRequest
given (Some x) = Ok x

abbrev pub printers_in : List ℕ → Result Printers Status
printers_in uri = do
  path ← given (path_of uri)
  found (printers_at path)

abbrev pub printers_of : List Attribute → Result Printers Status
printers_of attributes = do
  uri ← text_at Uri (codes "printer-uri") attributes
  uri ← given uri
  printers_in uri

-- Operations on one printer do not take the whole service.
abbrev pub only_one : Printers → Option Printer
only_one All = None
only_one (One printer) = Some printer

abbrev pub printer_of : List Attribute → Result Printer Status
printer_of attributes = do
  printers ← printers_of attributes
  found (only_one printers)

-- ## Jobs

abbrev pub above_zero : Option ℕ → Option ℕ
above_zero None = None
above_zero (Some n) = cond (nat_le 1 n) (Some n) None

abbrev pub job_number : List ℕ → Option ℕ
job_number word = above_zero (decimal 2147483647 word)

-- The path /jobs/N.
abbrev pub job_at : List ℕ → Option ℕ
job_at path = cond (is_word (first_part path) (codes "jobs")) (job_number (later_parts path)) None

abbrev pub job_in : List ℕ → Result JobTarget Status
job_in uri = do
  path ← given (path_of uri)
  job ← found (job_at path)
  Ok (Number job)

-- An integer is at most 2,147,483,647. 0 is the current job (CUPS).
abbrev pub job_with : Printers → ℕ → JobTarget
job_with printers number = cond (nat_le 1 number && nat_le number 2147483647) (NumberOf printers number) (CurrentOf printers)

abbrev pub job_by_number : List Attribute → Result JobTarget Status
job_by_number attributes = do
  number ← number_at 0 (codes "job-id") attributes
  number ← given number
  printers ← printers_of attributes
  Ok (job_with printers number)

abbrev pub job_by : List Attribute → Option (List ℕ) → Result JobTarget Status
job_by attributes None = job_by_number attributes
job_by attributes (Some uri) = job_in uri

-- By job-uri, or by printer-uri and job-id.
abbrev pub job_of : List Attribute → Result JobTarget Status
job_of attributes = do
  uri ← text_at Uri (codes "job-uri") attributes
  job_by attributes uri
