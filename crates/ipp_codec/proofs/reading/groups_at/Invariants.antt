use Rattle.std.proofs.Common.{◌≡◌, ◌-◌}
use Rattle.ipp_codec.specs.Reading.{groups_at}
use Rattle.ipp_codec.specs.ReadSteps.{before}
use Rattle.ipp_codec.proofs.reading.groups_at.Given as goal

abbrev pub invariant-loop : goal.invariant-loop
invariant-loop l = before l.groups (groups_at l.most (l.most - l.counter) l.rest) ≡ before l.fn.groups (groups_at l.most l.most l.octets)
