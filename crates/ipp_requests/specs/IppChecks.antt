-- The checks of a request before its operation (RFC 8011 4.1), in their order.
use Rattle.std.specs.Prelude.{ℕ, ℤ, pos, negsuc, Bool, false, not, ◌&&◌, ◌||◌, ◌==◌, cond, nat_le, List, [], ◌∷◌, codes, Option, Some, None, Result, Ok, Err}
use Rattle.std.specs.List.{list_any}
use Rattle.std.specs.Option.{is_some, is_none}
use Rattle.ipp_names.specs.declared.operations.Operation.{Operation}
use Rattle.ipp_names.specs.declared.operations.Operation.TheVariants as operation
use Rattle.ipp_names.specs.declared.statuses.Status.{Status}
use Rattle.ipp_names.specs.declared.statuses.Status.TheVariants.{BadRequest, CharsetNotSupported, OperationNotSupported, VersionNotSupported}
use Rattle.ipp_names.specs.IppOperations.{operation_of}
use Rattle.ipp_values.specs.declared.message.Version.{Version}
use Rattle.ipp_values.specs.declared.message.Message.{Message}
use Rattle.ipp_values.specs.declared.message.Group.{Group}
use Rattle.ipp_values.specs.declared.message.Attribute.{Attribute}
use Rattle.ipp_values.specs.declared.tags.GroupTag.TheVariants as tags
use Rattle.ipp_values.specs.Messages.{has_tag, is_named}
use Rattle.ipp_requests.specs.declared.syntax.Syntax.{Syntax}
use Rattle.ipp_requests.specs.declared.syntax.Syntax.TheVariants.{Charset, NaturalLanguage}
use Rattle.ipp_requests.specs.declared.needs.TargetKind.{TargetKind}
use Rattle.ipp_requests.specs.declared.needs.TargetKind.TheVariants.{APrinter, AJob, NoTarget}
use Rattle.ipp_requests.specs.IppSyntaxes.{text_of_syntax}
use Rattle.ipp_requests.specs.IppAttributes.{named, only, read_by, text_at}
use Rattle.ipp_requests.specs.IppTargets.{is_word}

-- IPP/1.0 to 1.1 and 2.0 to 2.2. Another minor version is accepted (RFC 8011 4.1.8).
abbrev pub is_known_version : Version → Bool
is_known_version version = version.major == 1 || version.major == 2

-- From 1 (RFC 8011 4.1.2).
abbrev pub is_request_id : ℤ → Bool
is_request_id (pos n) = nat_le 1 n
is_request_id (negsuc n) = false

-- ## Attributes

-- The operation attributes are the first group (RFC 8011 4.1.3).
abbrev pub attributes_in : List Group → List Attribute
attributes_in [] = []
attributes_in (group ∷ groups) = cond (has_tag tags.Operation group) group.attributes []

abbrev pub attributes_of : Message → List Attribute
attributes_of m = attributes_in m.groups

-- The attribute has this name, and exactly one value, of this syntax.
abbrev pub is_text : Syntax → List ℕ → Attribute → Bool
is_text syntax name attribute = is_named name attribute && is_some (read_by (text_of_syntax syntax) (only attribute.values))

abbrev pub begins_with_language : List Attribute → Bool
begins_with_language [] = false
begins_with_language (language ∷ attributes) = is_text NaturalLanguage (codes "attributes-natural-language") language

-- The charset comes first and the natural language second (RFC 8011 4.1.4.1).
abbrev pub begins_with_both : List Attribute → Bool
begins_with_both [] = false
begins_with_both (charset ∷ attributes) = is_text Charset (codes "attributes-charset") charset && begins_with_language attributes

-- The charsets that every server supports (RFC 8011 4.1.4.1); the values are in lower case (RFC 8011 5.1.8).
abbrev pub is_known_charset : Result (Option (List ℕ)) Status → Bool
is_known_charset (Ok (Some charset)) = is_word charset (codes "utf-8") || is_word charset (codes "us-ascii")
is_known_charset (Ok None) = false
is_known_charset (Err status) = false

abbrev pub has_known_charset : List Attribute → Bool
has_known_charset attributes = is_known_charset (text_at Charset (codes "attributes-charset") attributes)

abbrev pub is_same : List ℕ → List ℕ → Bool
is_same name other = is_word other name

-- An attribute has the name of an earlier one, or one of the names that were seen before.
abbrev pub repeats : List (List ℕ) → List Attribute → Bool
repeats seen [] = false
repeats seen (attribute ∷ attributes) = list_any (is_same attribute.name) seen || repeats (attribute.name ∷ seen) attributes

-- A group has two attributes with one name (RFC 8011 4.1.3).
abbrev pub repeats_a_name : Group → Bool
repeats_a_name group = repeats [] group.attributes

-- ## Targets

-- The target that an operation needs (RFC 8011 4.1.5).
abbrev pub target_kind : Operation → TargetKind
target_kind operation.PrintJob = APrinter
target_kind operation.ValidateJob = APrinter
target_kind operation.CreateJob = APrinter
target_kind operation.SendDocument = AJob
target_kind operation.CancelJob = AJob
target_kind operation.GetJobAttributes = AJob
target_kind operation.GetJobs = APrinter
target_kind operation.GetPrinterAttributes = APrinter
target_kind operation.HoldJob = AJob
target_kind operation.ReleaseJob = AJob
target_kind operation.PausePrinter = APrinter
target_kind operation.ResumePrinter = APrinter
target_kind operation.PurgeJobs = APrinter
target_kind operation.SetJobAttributes = AJob
target_kind operation.EnablePrinter = APrinter
target_kind operation.DisablePrinter = APrinter
target_kind operation.CancelJobs = APrinter
target_kind operation.CancelMyJobs = APrinter
target_kind operation.CloseJob = AJob
target_kind operation.IdentifyPrinter = APrinter
target_kind operation.CupsGetDefault = NoTarget
target_kind operation.CupsGetPrinters = NoTarget
target_kind operation.CupsGetClasses = NoTarget
target_kind operation.CupsAcceptJobs = APrinter
target_kind operation.CupsRejectJobs = APrinter

abbrev pub is_there : List ℕ → List Attribute → Bool
is_there name attributes = is_some (named name attributes)

abbrev pub lacks : TargetKind → List Attribute → Bool
lacks APrinter attributes = not (is_there (codes "printer-uri") attributes)
lacks AJob attributes =
    not (is_there (codes "job-uri") attributes || (is_there (codes "printer-uri") attributes && is_there (codes "job-id") attributes))
lacks NoTarget attributes = false

-- An operation that is not offered needs no target: the operation itself is refused.
abbrev pub lacks_target : Option Operation → List Attribute → Bool
lacks_target None attributes = false
lacks_target (Some operation) attributes = lacks (target_kind operation) attributes

-- ## The table

-- A check fails if its test is true. The status of the first one that fails is the answer.
abbrev pub first_failed : List (Bool × Status) → Option Status
first_failed [] = None
first_failed ((fails, status) ∷ checks) = cond fails (Some status) (first_failed checks)

abbrev pub checks : Message → List (Bool × Status)
checks m =
    (not (is_known_version m.version), VersionNotSupported)
    ∷ (not (is_request_id m.request_id), BadRequest)
    ∷ (not (begins_with_both (attributes_of m)), BadRequest)
    ∷ (list_any repeats_a_name m.groups, BadRequest)
    ∷ (lacks_target (operation_of m.code) (attributes_of m), BadRequest)
    ∷ (not (has_known_charset (attributes_of m)), CharsetNotSupported)
    ∷ (is_none (operation_of m.code), OperationNotSupported)
    ∷ []

abbrev pub fault_of : Message → Option Status
fault_of m = first_failed (checks m)
