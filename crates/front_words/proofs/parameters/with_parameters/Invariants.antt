-- The command so far, with the remaining parameters.
use Rattle.std.proofs.Common.{◌≡◌, drop}
use Rattle.clap.specs.Words.{app_of}
use Rattle.front_words.specs.CommandParameters.{with_parameters}
use Rattle.front_words.proofs.parameters.with_parameters.Given as goal

abbrev pub invariant-loop-parameter : goal.invariant-loop-parameter
invariant-loop-parameter l = with_parameters (app_of l.command) (drop l.parameter-index l.parameters) ≡ with_parameters (app_of l.initial.command) l.parameters
