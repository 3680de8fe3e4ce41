-- The words so far are tallied.
use Rattle.std.proofs.Common.{◌≡◌}
use Rattle.std.specs.Prelude.{IfSome}
use Rattle.std.specs.List.{filter_map}
use Rattle.std.specs.Option.{option_copied}
use Rattle.stderr_lines.specs.AttributeLines.{attribute_of, attribute_effects}
use Rattle.stderr_lines.specs.EffectDrafts.{IsLineText}
use Rattle.stderr_lines.specs.Rests.{words_behind, rest_weight}
use Rattle.stderr_lines.specs.Tallies.{keep_all}
use Rattle.stderr_lines.proofs.attributes.add_attributes.Given as goal

abbrev pub invariant-loop-rest : goal.invariant-loop-rest
invariant-loop-rest l = record {
  same : keep_all l.tally (filter_map attribute_of (words_behind (option_copied l.rest))) ≡ keep_all l.initial.tally (attribute_effects l.text);
  text : IfSome (option_copied l.rest) (λ r. IsLineText r);
}

abbrev pub decreases-loop-rest : goal.decreases-loop-rest
decreases-loop-rest l = rest_weight (option_copied l.rest)
