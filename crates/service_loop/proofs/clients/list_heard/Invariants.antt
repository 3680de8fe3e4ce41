-- The clients listed so far, and then the remaining ones, are all clients.
use Rattle.std.proofs.Common.{◌≡◌, ◌++◌, map}
use Rattle.service_loop.specs.AdmissionViews.{heard_at, heard_of}
use Rattle.service_loop.proofs.clients.list_heard.Given as goal

abbrev pub invariant-loop-key : goal.invariant-loop-key
invariant-loop-key g l = l.list.items ++ map heard_at l.key-iterator ≡ heard_of l.slots
