-- The last value among the options so far counts, unless a later one follows.
use Rattle.std.proofs.Common.{◌≡◌, drop}
use Rattle.std.specs.Option.{option_map}
use Rattle.device_options.specs.DeviceOptions.{last_value, or_else}
use Rattle.device_options.proofs.last_value.Given as goal

abbrev pub invariant-loop-option : goal.invariant-loop-option
invariant-loop-option l =
    or_else (last_value l.name (drop l.option-index l.options)) (option_map (λ value. value.now) l.found) ≡ last_value l.name l.options
