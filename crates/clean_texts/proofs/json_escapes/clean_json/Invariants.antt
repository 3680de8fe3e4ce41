use Rattle.std.proofs.Common.{◌≡◌, string_bytes, flat_map}
use Rattle.clean_texts.specs.JsonEscapes.{json_bytes}
use Rattle.clean_texts.proofs.json_escapes.clean_json.Given as goal

abbrev pub invariant-loop-c : goal.invariant-loop-c
invariant-loop-c l = string_bytes l.cleaned ≡ flat_map json_bytes l.yielded
