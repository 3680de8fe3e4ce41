use Rattle.std.proofs.Common.{◌≡◌, ◌≤◌}
use Rattle.form_urlencoded.specs.Form.{raw_pairs}
use Rattle.device_uri.specs.UriOptions.{is_bad}
use Rattle.device_uri.proofs.OptionLaws.{is_bad_after}
use Rattle.device_uri.proofs.options.has_bad_pair.Given as goal

abbrev pub invariant-loop-name : goal.invariant-loop-name
invariant-loop-name l = (l.count ≤ 64) × (is_bad_after l.count (raw_pairs l.name-iterator.input.now) ≡ is_bad (raw_pairs l.query))
