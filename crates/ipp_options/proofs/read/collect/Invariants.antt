-- The settings so far, and the other attributes.
use Rattle.std.proofs.Common.{◌≡◌, drop}
use Rattle.ipp_options.specs.JobSettings.{with_all, settings_of}
use Rattle.ipp_options.proofs.read.collect.Given as goal

abbrev pub invariant-loop-attribute : goal.invariant-loop-attribute
invariant-loop-attribute l = with_all l.printer l.fidelity l.now l.settings (drop l.attribute-index l.attributes) ≡ settings_of l.printer l.fidelity l.now l.attributes
