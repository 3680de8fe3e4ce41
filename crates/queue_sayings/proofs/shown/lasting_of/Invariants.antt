-- The lasting reasons so far.
use Rattle.std.proofs.Common.{◌≡◌, take}
use Rattle.std.specs.Prelude.{filter}
use Rattle.queue_sayings.specs.QueueSayings.{is_lasting}
use Rattle.queue_sayings.proofs.shown.lasting_of.Given as goal

abbrev pub invariant-loop-reason : goal.invariant-loop-reason
invariant-loop-reason l = l.lasting.items ≡ filter is_lasting (take l.reason-index l.reasons)
