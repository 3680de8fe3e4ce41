use Rattle.std.proofs.Common.{◌≡◌, ◌++◌, map}
use Rattle.form_urlencoded.specs.Form.{raw_pairs}
use Rattle.device_uri.specs.UriOptions.{option_of}
use Rattle.device_uri.proofs.options.read_options.Given as goal

abbrev pub invariant-loop-name : goal.invariant-loop-name
invariant-loop-name l = l.options.items ++ map option_of (raw_pairs l.name-iterator.input.now) ≡ map option_of (raw_pairs l.query)
