-- A request has passed each check.
use Rattle.std.proofs.Common.{◌≡◌, Bool, true, false, not, cond, Option, None, Some, Ok, refl, is_some, is_none}
use Rattle.std.specs.List.{list_any}
use Rattle.ipp_names.specs.declared.operations.Operation.{Operation}
use Rattle.ipp_names.specs.declared.statuses.Status.{Status}
use Rattle.ipp_names.specs.declared.statuses.Status.TheVariants.{BadRequest, CharsetNotSupported, OperationNotSupported, VersionNotSupported}
use Rattle.ipp_names.specs.IppOperations.{operation_of}
use Rattle.ipp_values.specs.declared.message.Message.{Message}
use Rattle.ipp_requests.specs.declared.request.Request.{Request}
use Rattle.ipp_requests.specs.IppChecks.{attributes_of, begins_with_both, fault_of, has_known_charset, is_known_version, is_request_id, lacks_target, repeats_a_name}
use Rattle.ipp_requests.specs.IppRequests.{request_of, unless_fault}

no_fault : (fault : Option Status) (m : Message) (r : Request) → unless_fault fault m ≡ Ok r → fault ≡ None
no_fault None m r is = refl
no_fault (Some status) m r is = cc

first_passes : (fails : Bool) (status : Status) (others : Option Status) → cond fails (Some status) others ≡ None → fails ≡ false
first_passes true status others is = cc
first_passes false status others is = refl

others_pass : (fails : Bool) (status : Status) (others : Option Status) → cond fails (Some status) others ≡ None → others ≡ None
others_pass true status others is = cc
others_pass false status others is = is

holds : (b : Bool) → not b ≡ false → b ≡ true
holds true is = refl
holds false is = cc

is_there : (operation : Option Operation) → is_none operation ≡ false → is_some operation ≡ true
is_there None is = cc
is_there (Some operation) is = refl

-- ## The checks from each on

abbrev from_operation : Message → Option Status
from_operation m = cond (is_none (operation_of m.code)) (Some OperationNotSupported) None

abbrev from_charset : Message → Option Status
from_charset m = cond (not (has_known_charset (attributes_of m))) (Some CharsetNotSupported) (from_operation m)

abbrev from_target : Message → Option Status
from_target m = cond (lacks_target (operation_of m.code) (attributes_of m)) (Some BadRequest) (from_charset m)

abbrev from_repeats : Message → Option Status
from_repeats m = cond (list_any repeats_a_name m.groups) (Some BadRequest) (from_target m)

abbrev from_language : Message → Option Status
from_language m = cond (not (begins_with_both (attributes_of m))) (Some BadRequest) (from_repeats m)

abbrev from_number : Message → Option Status
from_number m = cond (not (is_request_id m.request_id)) (Some BadRequest) (from_language m)

number_passes : (m : Message) (r : Request) → request_of m ≡ Ok r → from_number m ≡ None
number_passes m r is = others_pass (not (is_known_version m.version)) VersionNotSupported (from_number m) (no_fault (fault_of m) m r is)

language_passes : (m : Message) (r : Request) → request_of m ≡ Ok r → from_language m ≡ None
language_passes m r is = others_pass (not (is_request_id m.request_id)) BadRequest (from_language m) (number_passes m r is)

target_passes : (m : Message) (r : Request) → request_of m ≡ Ok r → from_target m ≡ None
target_passes m r is =
    others_pass (list_any repeats_a_name m.groups) BadRequest (from_target m)
    (others_pass (not (begins_with_both (attributes_of m))) BadRequest (from_repeats m) (language_passes m r is))

charset_passes : (m : Message) (r : Request) → request_of m ≡ Ok r → from_charset m ≡ None
charset_passes m r is = others_pass (lacks_target (operation_of m.code) (attributes_of m)) BadRequest (from_charset m) (target_passes m r is)

operation_passes : (m : Message) (r : Request) → request_of m ≡ Ok r → from_operation m ≡ None
operation_passes m r is = others_pass (not (has_known_charset (attributes_of m))) CharsetNotSupported (from_operation m) (charset_passes m r is)

-- ## Each check

pub known_version : (m : Message) (r : Request) → request_of m ≡ Ok r → is_known_version m.version ≡ true
known_version m r is =
    holds (is_known_version m.version) (first_passes (not (is_known_version m.version)) VersionNotSupported (from_number m) (no_fault (fault_of m) m r is))

pub valid_number : (m : Message) (r : Request) → request_of m ≡ Ok r → is_request_id m.request_id ≡ true
valid_number m r is =
    holds (is_request_id m.request_id) (first_passes (not (is_request_id m.request_id)) BadRequest (from_language m) (number_passes m r is))

pub both_first : (m : Message) (r : Request) → request_of m ≡ Ok r → begins_with_both (attributes_of m) ≡ true
both_first m r is =
    holds (begins_with_both (attributes_of m))
    (first_passes (not (begins_with_both (attributes_of m))) BadRequest (from_repeats m) (language_passes m r is))

pub has_target : (m : Message) (r : Request) → request_of m ≡ Ok r → lacks_target (operation_of m.code) (attributes_of m) ≡ false
has_target m r is = first_passes (lacks_target (operation_of m.code) (attributes_of m)) BadRequest (from_charset m) (target_passes m r is)

pub known_charset : (m : Message) (r : Request) → request_of m ≡ Ok r → has_known_charset (attributes_of m) ≡ true
known_charset m r is =
    holds (has_known_charset (attributes_of m))
    (first_passes (not (has_known_charset (attributes_of m))) CharsetNotSupported (from_operation m) (charset_passes m r is))

pub is_offered : (m : Message) (r : Request) → request_of m ≡ Ok r → is_some (operation_of m.code) ≡ true
is_offered m r is =
    is_there (operation_of m.code) (first_passes (is_none (operation_of m.code)) OperationNotSupported None (operation_passes m r is))
