use Rattle.std.proofs.Common.{ap, sym, ◌∙◌}
use Rattle.std.proofs.lemmas.List.{take_all}
use Rattle.std.proofs.lemmas.List.Folds.{flat_map-map}
use Rattle.std.specs.List.{flat_map}
use Rattle.mime_lines.specs.LineFields.{line_of}
use Rattle.mime_costs.specs.ConversionFiles.{conversion_of, taken, refused}
use Rattle.mime_costs.proofs.reading.read_lines.Goals as goal

pub returns-clause-conversions : goal.returns-clause-conversions
returns-clause-conversions c =
    c.loop-line.invariant.conversions
    ∙ ap (flat_map (λ line. taken (conversion_of (line_of line)))) (take_all c.loop-line.line-index c.deref-line-items.result.now c.loop-line-test.false ∙ c.deref-line-items.ensures.value)
    ∙ sym (flat_map-map (λ line. taken (conversion_of line)) line_of c.in_ok-joined_lines.field-0.items)
    ∙ ap (flat_map (λ line. taken (conversion_of line))) c.in_ok-joined_lines.ensures.value

pub returns-clause-warnings : goal.returns-clause-warnings
returns-clause-warnings c =
    c.loop-line.invariant.warnings
    ∙ ap (flat_map (λ line. refused line.number (conversion_of (line_of line)))) (take_all c.loop-line.line-index c.deref-line-items.result.now c.loop-line-test.false ∙ c.deref-line-items.ensures.value)
    ∙ sym (flat_map-map (λ line. refused line.number (conversion_of line)) line_of c.in_ok-joined_lines.field-0.items)
    ∙ ap (flat_map (λ line. refused line.number (conversion_of line))) c.in_ok-joined_lines.ensures.value
