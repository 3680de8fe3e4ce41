use Rattle.std.proofs.Common.{◌≡◌, [], true, false, arith, ap, length, ◌∙◌, sym}
use Rattle.command_lines.specs.declared.command.Mode.TheVariants.{Skip}
use Rattle.command_lines.specs.PendingCommands.{Pending}
use Rattle.command_lines.specs.ReaderSteps.{starts_remark}
use Rattle.command_lines.proofs.StepLaws.{is, drops_remark, drops_long}
use Rattle.command_lines.proofs.commands.Commands.part_step.Goals as goal

pub returns-then-starts_remark : goal.returns-then-starts_remark
returns-then-starts_remark c =
    let p = c.args.self.now in
    let first : starts_remark p.held ≡ true = ap starts_remark (sym c.held.ensures) ∙ sym c.starts_remark.ensures ∙ c.if-starts_remark.true in
    let e : c.enter.new.self ≡ is Skip [] = c.enter.ensures ∙ ap (λ (v : Pending). record v { mode = Skip }) c.drop_held.ensures in
    drops_remark p _ c.requires.line c.requires.part first e

pub returns-then-held-gt-LONGEST_LINE : goal.returns-then-held-gt-LONGEST_LINE
returns-then-held-gt-LONGEST_LINE c =
    let e : c.enter-then-held-gt-LONGEST_LINE.new.self ≡ is Skip [] = c.enter-then-held-gt-LONGEST_LINE.ensures ∙ ap (λ (v : Pending). record v { mode = Skip }) c.drop_held-then-held-gt-LONGEST_LINE.ensures in
    let p = c.args.self.now in
    let first : starts_remark p.held ≡ false = ap starts_remark (sym c.held.ensures) ∙ sym c.starts_remark.ensures ∙ c.if-starts_remark.false in
    drops_long p _ c.requires.line c.requires.part first (omega (arith, ap length c.held-2.ensures)) e
