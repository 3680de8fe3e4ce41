-- The values of a printer's attributes that follow from several facts.
use Rattle.std.specs.Prelude.{ℕ, ◌+◌, Bool, true, false, ◌&&◌, ◌||◌, not, cond, nat_eq, List, [], ◌∷◌, ◌++◌, codes, filter, Option, None, Some, is_some, unwrap_or}
use Rattle.std.specs.Fmt.{decimal}
use Rattle.std.specs.List.{flat_map, list_any, starts_with}
use Rattle.ipp_names.specs.declared.printer_states.PrinterState.{PrinterState}
use Rattle.ipp_names.specs.declared.printer_states.PrinterState.TheVariants as states
use Rattle.ipp_printers.specs.declared.property.Property.{Property}
use Rattle.mime_costs.specs.declared.conversion.Conversion.{Conversion}
use Rattle.mime_costs.specs.LeastWalk.{least_walk}
use Rattle.ipp_values.specs.declared.value.Value.{Value}
use Rattle.requested_attributes.specs.AttributeGroups.{is_empty, is_same}
use Rattle.printer_answers.specs.PrinterMedia.{has_color, has_duplex, info, location, resolutions}
use Rattle.printer_answers.specs.declared.facts.PrinterFacts.{PrinterFacts}
use Rattle.ipp_answers.specs.declared.facts.Server.{Server}

-- ## States (RFC 8011, 5.4.11 and 5.4.12)

-- A printer that processes a job is not stopped before the job has ended.
abbrev pub printer_state : PrinterFacts → PrinterState
printer_state f = cond (is_some f.printing) states.Processing (cond f.stopped states.Stopped states.Idle)

-- `paused`, or `moving-to-paused` while a job is still processing.
abbrev pub pause_word : Bool → List ℕ
pause_word busy = cond busy (codes "moving-to-paused") (codes "paused")

abbrev pub with_word : List ℕ → List (List ℕ) → List (List ℕ)
with_word word words = cond (list_any (is_same word) words) words (words ++ word ∷ [])

abbrev pub with_pause : Bool → Bool → List (List ℕ) → List (List ℕ)
with_pause stopped busy words = cond stopped (with_word (pause_word busy) words) words

abbrev pub or_none : List (List ℕ) → List (List ℕ)
or_none words = cond (is_empty words) (codes "none" ∷ []) words

-- The reasons that the service reports, and that the printer is paused.
abbrev pub printer_reasons : PrinterFacts → List (List ℕ)
printer_reasons f = or_none (with_pause f.stopped (is_some f.printing) f.reasons)

-- The jobs that wait or are processing. Jobs without a whole document are not among them.
abbrev pub queued_jobs : PrinterFacts → ℕ
queued_jobs f = f.waiting + cond (is_some f.printing) 1 0

-- ## Texts

-- A text, or another one if it is empty.
abbrev pub text_or : List ℕ → List ℕ → List ℕ
text_or other text = cond (is_empty text) other text

-- The operator's text about the queue, or that of the file of printers. Without both it is the queue's name.
abbrev pub info_for : List Property → PrinterFacts → List ℕ
info_for d f = text_or (unwrap_or (info d) f.name) f.info

abbrev pub location_for : List Property → PrinterFacts → List ℕ
location_for d f = text_or (unwrap_or (location d) []) f.location

abbrev pub security : Server → List ℕ
security s = cond s.is_secure (codes "tls") (codes "none")

-- ## Formats

abbrev pub octet_stream : List ℕ
octet_stream = codes "application/octet-stream"

-- A type that clients may use: not octets, which are always first, and none of the types between the filters of CUPS.
abbrev pub is_told : List ℕ → Bool
is_told format = not (is_same format octet_stream) && not (starts_with nat_eq format (codes "application/vnd.cups-"))

-- Whether a chain of conversions leads from a type to another one.
abbrev pub leads_to : List Conversion → List ℕ → List ℕ → Bool
leads_to convs to from = is_some (least_walk convs from to)

-- Octets, whose type the service detects, and the types from which a chain of filters leads to the type of the queue.
abbrev pub formats_of : PrinterFacts → List (List ℕ)
formats_of f = octet_stream ∷ filter is_told f.formats.items

abbrev pub pwg_raster : List ℕ
pwg_raster = codes "image/pwg-raster"

abbrev pub urf : List ℕ
urf = codes "image/urf"

-- These values if the printer takes the format, otherwise none.
abbrev pub for_format : List ℕ → PrinterFacts → List Value → List Value
for_format format f values = cond (list_any (is_same format) f.formats.items) values []

-- PWG 5102.4.
abbrev pub pwg_types : List Property → List (List ℕ)
pwg_types d = codes "black_1" ∷ codes "sgray_8" ∷ cond (has_color d) (codes "srgb_8" ∷ []) []

-- The resolutions, joined by hyphens.
abbrev pub joined : List ℕ → List ℕ
joined [] = []
joined (first ∷ rest) = decimal first ++ flat_map (λ n. 45 ∷ decimal n) rest

abbrev pub urf_resolutions : List ℕ → List (List ℕ)
urf_resolutions numbers = cond (is_empty numbers) [] ((codes "RS" ++ joined numbers) ∷ [])

-- The capabilities of Apple Raster: its version, copies, gray, color, the resolutions, and duplex.
abbrev pub urf_words : List Property → List (List ℕ)
urf_words d =
    codes "V1.4" ∷ codes "CP1" ∷ codes "W8" ∷ cond (has_color d) (codes "SRGB24" ∷ []) []
    ++ urf_resolutions (resolutions d) ++ cond (has_duplex d) (codes "DM1" ∷ []) []

-- ## Capabilities

-- The bits of CUPS: 4 prints in black, 8 in color, 16 on both sides, 64 copies, 128 collates.
abbrev pub printer_type : List Property → ℕ
printer_type d = 196 + cond (has_color d) 8 0 + cond (has_duplex d) 16 0

-- PWG 5100.13.
abbrev pub color_modes : List Property → List (List ℕ)
color_modes d = codes "auto" ∷ cond (has_color d) (codes "color" ∷ []) [] ++ codes "monochrome" ∷ []

-- RFC 8011, 5.2.8.
abbrev pub sides : List Property → List (List ℕ)
sides d = codes "one-sided" ∷ cond (has_duplex d) (codes "two-sided-long-edge" ∷ codes "two-sided-short-edge" ∷ []) []
