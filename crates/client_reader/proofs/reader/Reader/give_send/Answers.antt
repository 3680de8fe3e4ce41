-- At most the bytes that the send needs.
use Rattle.std.proofs.Common.{arith}
use Rattle.client_reader.proofs.Gives.{send_on}
use Rattle.client_reader.proofs.reader.Reader.give_send.Goals as goal

pub returns-clause-ok : goal.returns-clause-ok
returns-clause-ok c = λ asks a. send_on c.line_by_line.ensures c.args.self.now _ c.requires.partial c.args.count c.requires.wanted c.requires.some c.min.result
    (omega (arith, c.args.self.now.text.ok.0)) (record { commands = c.in_ok-give.ensures.commands; text = c.in_ok-give.ensures.text; within = c.in_ok-give.ensures.within }) asks a
