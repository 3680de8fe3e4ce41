use Rattle.std.proofs.Common.{◌≡◌, ◌+◌, [], ap, drop, ◌∙◌}
use Rattle.command_lines.specs.declared.command.Mode.TheVariants.{Line, Skip}
use Rattle.command_lines.specs.PendingCommands.{Pending}
use Rattle.command_lines.proofs.StepLaws.{is, drops_rest, ends_rest}
use Rattle.command_lines.proofs.commands.Commands.skip_step.Goals as goal

pub returns-in-Some : goal.returns-in-Some
returns-in-Some c =
    let p = c.args.self.now in
    let e : c.enter.new.self ≡ is Line (drop (c.in-Some.at + 1) p.held) =
    c.enter.ensures ∙ ap (λ (v : Pending). record v { mode = Line }) c.advance.ensures ∙ ap (λ (v : Pending). is Line (drop (c.in-Some.at + 1) v.held)) c.line_end.ensures.same in
    ends_rest p _ c.in-Some.at c.requires c.in-Some.ensures.at c.in-Some.ensures.line e

pub returns-in-None : goal.returns-in-None
returns-in-None c =
    let p = c.args.self.now in
    let e : c.drop_held.new.self ≡ is Skip [] =
    c.drop_held.ensures ∙ ap (λ (v : Pending). is v.mode []) c.line_end.ensures.same ∙ ap (λ m. is m []) c.requires in
    drops_rest p _ c.requires c.in-None.ensures.none e
