use Rattle.std.proofs.Common.{ap, ◌∙◌}
use Rattle.std.specs.Option.{option_map}
use Rattle.spool_types.specs.Values.{is_attribute_name}
use Rattle.stderr_lines.specs.EffectDrafts.{effect_of}
use Rattle.stderr_lines.proofs.LineLaws.{no_pair, value_text}
use Rattle.stderr_lines.proofs.TextLaws.{attribute_name, no_attribute_name}
use Rattle.stderr_lines.proofs.attributes.attribute_draft.Goals as goal

pub returns-in_err-name-2-clause-effect : goal.returns-in_err-name-2-clause-effect
returns-in_err-name-2-clause-effect c =
    ap (option_map effect_of) c.from_residual-in_err-name-2.ensures
    ∙ no_pair c.args.word.now c.in_ok-name.name.now c.in_ok-name.value.now c.in_ok-name.ensures (no_attribute_name c.in_ok-name.name.now c.in_err-name-2.ensures)

pub returns-clause-sound : goal.returns-clause-sound
returns-clause-sound c =
    let (allowed, same) = attribute_name c.in_ok-name.name.now c.in_ok-name-2.name.now c.in_ok-name-2.ensures in
    (ap is_attribute_name same ∙ allowed, value_text c.args.word.now c.in_ok-name.name.now c.in_ok-name.value.now c.in_ok-name.ensures c.requires)
