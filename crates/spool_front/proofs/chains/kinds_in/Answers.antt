use Rattle.std.proofs.Common.{◌++◌, ap, sym, ◌∙◌}
use Rattle.std.proofs.lemmas.List.{take_all}
use Rattle.std.proofs.lemmas.List.Folds.{flat_map-map}
use Rattle.std.specs.Prelude.{codes}
use Rattle.std.specs.List.{flat_map}
use Rattle.mime_lines.specs.LineFields.{line_of}
use Rattle.spool_types.specs.Values.{media_in}
use Rattle.spool_front.specs.ReachableTypes.{kind_of, listed}
use Rattle.spool_front.proofs.chains.kinds_in.Goals as goal

pub returns : goal.returns
returns c =
    c.loop-line.invariant
    ∙ ap (λ kinds. listed (media_in (codes "application/octet-stream")) ++ kinds)
    (ap (flat_map (λ line. kind_of (line_of line))) (take_all c.loop-line.line-index c.deref-line-items.result.now c.loop-line-test.false ∙ c.deref-line-items.ensures.value)
    ∙ sym (flat_map-map kind_of line_of c.in_ok-joined_lines.field-0.items)
    ∙ ap (flat_map kind_of) c.in_ok-joined_lines.ensures.value)
