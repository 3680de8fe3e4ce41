use Rattle.std.proofs.Common.{◌≡◌, ◌-◌}
use Rattle.ipp_codec.specs.Reading.{values_at}
use Rattle.ipp_codec.specs.ReadSteps.{before}
use Rattle.ipp_codec.proofs.reading.values_at.Given as goal

abbrev pub invariant-loop : goal.invariant-loop
invariant-loop l = before l.values (values_at (l.most - l.counter) l.place l.rest) ≡ before l.fn.values (values_at l.most l.fn.start l.octets)
