-- The first command.
use Rattle.std.proofs.Common.{refl}
use Rattle.command_lines.specs.Steps.{GivesOne}
use Rattle.client_reader.proofs.Gives.{gives_command}
use Rattle.client_reader.proofs.reader.Reader.next.Goals as goal

pub returns-in-Some-clause-ok : goal.returns-in-Some-clause-ok
returns-in-Some-clause-ok c = λ asks a.
    let given : GivesOne c.args.self.now.commands c.in-Some.command c.next.new.self = rw c.in-Some.is at c.in_ok-command.ensures.ok in
    gives_command c.line_by_line.ensures c.args.self.now _ c.in-Some.command given.leads refl refl asks a
