-- All of the text is passed on.
use Rattle.std.proofs.Common.{arith}
use Rattle.client_reader.proofs.Gives.{front_on}
use Rattle.client_reader.proofs.reader.Reader.give_front.Goals as goal

pub returns-clause-ok : goal.returns-clause-ok
returns-clause-ok c = λ asks a. front_on c.line_by_line.ensures c.args.self.now _ c.requires.partial c.requires.wanted c.requires.begins c.requires.none c.requires.long c.len-count.result
    (omega (arith, c.args.self.now.text.ok.0)) (record { commands = c.in_ok-give.ensures.commands; text = c.in_ok-give.ensures.text; within = c.in_ok-give.ensures.within }) asks a
