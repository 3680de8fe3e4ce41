-- The request of a message, or the status of its first fault.
use Rattle.std.specs.Prelude.{List, codes, Option, Some, None, Result, Ok, Err}
use Rattle.ipp_names.specs.declared.operations.Operation.{Operation}
use Rattle.ipp_names.specs.declared.statuses.Status.{Status}
use Rattle.ipp_names.specs.declared.statuses.Status.TheVariants.{OperationNotSupported}
use Rattle.ipp_names.specs.IppOperations.{operation_of}
use Rattle.ipp_values.specs.declared.message.Message.{Message}
use Rattle.ipp_values.specs.declared.message.Attribute.{Attribute}
use Rattle.ipp_requests.specs.declared.syntax.Syntax.TheVariants.{Name}
use Rattle.ipp_requests.specs.declared.request.Request.{Request}
use Rattle.ipp_requests.specs.IppAttributes.{◌>>=◌, text_at}
use Rattle.ipp_requests.specs.IppChecks.{attributes_of, fault_of}
use Rattle.ipp_requests.specs.IppActions.{action_of}

abbrev pub request_by : Operation → List Attribute → Message → Result Request Status
request_by operation attributes m = do
  user ← text_at Name (codes "requesting-user-name") attributes
  action ← action_of operation attributes m
  Ok (record { user = user; action = action })

-- The last check has failed if the operation is not offered.
abbrev pub offered : Option Operation → Message → Result Request Status
offered None m = Err OperationNotSupported
offered (Some operation) m = request_by operation (attributes_of m) m

abbrev pub unless_fault : Option Status → Message → Result Request Status
unless_fault None m = offered (operation_of m.code) m
unless_fault (Some status) m = Err status

abbrev pub request_of : Message → Result Request Status
request_of m = unless_fault (fault_of m) m
