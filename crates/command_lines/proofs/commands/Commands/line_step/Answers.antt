use Rattle.std.proofs.Common.{◌≡◌, ◌+◌, ap, take, drop, ◌∙◌}
use Rattle.command_lines.specs.declared.command.Mode.TheVariants.{Line}
use Rattle.command_lines.specs.PendingCommands.{Pending}
use Rattle.command_lines.specs.CommandGrammar.{kind_of}
use Rattle.command_lines.proofs.StepLaws.{is, takes_line}
use Rattle.command_lines.proofs.commands.Commands.line_step.Goals as goal

pub returns-in_ok-kind-in-Some-clause-ok : goal.returns-in_ok-kind-in-Some-clause-ok
returns-in_ok-kind-in-Some-clause-ok c =
    let p = c.args.self.now in
    let at = c.in-Some.at in
    let kind = c.in_ok-kind-in-Some.kind in
    let same : (c.line_end.new.self).held ≡ p.held = ap (λ (v : Pending). v.held) c.line_end.ensures.same in
    let k : kind ≡ kind_of (take at p.held) = c.in_ok-kind-in-Some.ensures ∙ ap (λ l. kind_of (take at l)) (c.held.ensures ∙ same) in
    let r : c.advance.new.self ≡ is Line (drop (at + 1) p.held) =
    c.advance.ensures ∙ ap (λ (v : Pending). is v.mode (drop (at + 1) v.held)) c.line_end.ensures.same ∙ ap (λ m. is m (drop (at + 1) p.held)) c.requires in
    takes_line p c.advance.new.self c.kind_step.new.self at kind c.kind_step.result c.requires c.in-Some.ensures.at c.in-Some.ensures.line k r c.kind_step.ensures
