use Rattle.std.proofs.Common.{◌≡◌, ◌-◌, ◌≤◌, [], arith, ap, length, ◌∙◌}
use Rattle.command_lines.specs.declared.command.Mode.TheVariants.{Counting}
use Rattle.command_lines.specs.PendingCommands.{Pending}
use Rattle.command_lines.proofs.StepLaws.{is, counts}
use Rattle.command_lines.proofs.commands.Commands.counting_step.Goals as goal

pub returns-then-here-end : goal.returns-then-here-end
returns-then-here-end c =
    let p = c.args.self.now in
    let n = c.args.left in
    let le : length p.held ≤ n = omega (arith, ap length c.held-here.ensures) in
    let e : c.enter.new.self ≡ is (Counting (n - length p.held)) [] =
    c.enter.ensures ∙ ap (λ (v : Pending). is (Counting (n - length c.held-here.result.now)) v.held) c.drop_held.ensures ∙ ap (λ l. is (Counting (n - length l)) []) c.held-here.ensures in
    counts p _ n c.requires le e
