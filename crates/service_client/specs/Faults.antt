-- The faults of a connection.
use Rattle.service_client.specs.declared.connection.ConnectionFault.{ConnectionFault}
use Rattle.service_client.specs.declared.connection.ConnectionFault.TheVariants.{Lost, Memory}
use Rattle.service_client.specs.declared.fault.TakeFault.{TakeFault}
use Rattle.service_client.specs.declared.fault.TakeFault.TheVariants as takings

-- After a reply without a command the connection counts as lost.
abbrev pub fault_of : TakeFault → ConnectionFault
fault_of takings.Memory = Memory
fault_of takings.Unasked = Lost
