use Rattle.std.proofs.Common.{[], ◌∷◌, ◌+◌, ◌++◌, ap, sym, ◌∙◌, drop, map, append_assoc}
use Rattle.std.proofs.lemmas.List.{drop_more}
use Rattle.mime_lines.specs.LineFields.{line_of}
use Rattle.mime_rules.specs.RuleLines.{alternatives_in, warnings_in}
use Rattle.mime_rules.specs.RuleFields.{alternative_of}
use Rattle.mime_rules.proofs.LineLaws.{alternatives_more, warnings_more}
use Rattle.mime_rules.proofs.types.read_lines.Goals as goal

pub loop-line-preserved : goal.loop-line-preserved
loop-line-preserved c =
    let i = c.loop-line.line-index in
    let lines = c.args.lines.now in
    let all = map alternative_of c.loop-line.alternatives.items in
    let told = c.loop-line.warnings.items in
    let line = line_of c.line-item.result in
    let rest = map line_of (drop (i + 1) lines) in
    let here = ap (map line_of) (drop_more lines i c.line-item.result c.loop-line-test.true) ∙ ap (λ x. line_of x ∷ rest) (sym c.line-item.is) in
    record {
      types =
          ap (λ v. v ++ alternatives_in rest) c.in_ok-add_line.ensures.types
          ∙ append_assoc all (alternatives_in (line ∷ [])) (alternatives_in rest)
          ∙ sym (ap (λ l. all ++ alternatives_in l) here ∙ ap (λ v. all ++ v) (alternatives_more line rest))
          ∙ c.loop-line.invariant.types;
      warnings =
          ap (λ v. v ++ warnings_in rest) c.in_ok-add_line.ensures.warnings
          ∙ append_assoc told (warnings_in (line ∷ [])) (warnings_in rest)
          ∙ sym (ap (λ l. told ++ warnings_in l) here ∙ ap (λ v. told ++ v) (warnings_more line rest))
          ∙ c.loop-line.invariant.warnings;
    }
