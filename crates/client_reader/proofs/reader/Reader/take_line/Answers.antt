-- A word of the service, or a line that is none.
use Rattle.std.proofs.Common.{take, sym, ap, ◌∙◌}
use Rattle.client_reader.specs.Asks.{own_of}
use Rattle.client_reader.proofs.Gives.{line_word, line_on}
use Rattle.client_reader.proofs.reader.Reader.take_line.Goals as goal

pub returns-in-Some-clause-ok : goal.returns-in-Some-clause-ok
returns-in-Some-clause-ok c = λ asks a. line_word c.line_by_line.ensures c.args.self.now _ c.requires.partial c.requires.wanted c.requires.begins c.args.at
    (record { within = c.requires.at; before = c.requires.before; there = c.requires.there }) c.in-Some.word
    (ap (λ l. own_of (take c.args.at l)) (sym c.deref.ensures.value) ∙ sym c.in_ok-own.ensures ∙ c.in-Some.is) c.skip.ensures.commands c.skip.ensures.text c.skip.ensures.within asks a

pub returns-in_ok-give-in-None-clause-ok : goal.returns-in_ok-give-in-None-clause-ok
returns-in_ok-give-in-None-clause-ok c = λ asks a. line_on c.line_by_line.ensures c.args.self.now _ c.requires.partial c.requires.wanted c.requires.begins c.args.at
    (record { within = c.requires.at; before = c.requires.before; there = c.requires.there })
    (ap (λ l. own_of (take c.args.at l)) (sym c.deref.ensures.value) ∙ sym c.in_ok-own.ensures ∙ c.in-None.is) (record { commands = c.in_ok-give-in-None.ensures.commands; text = c.in_ok-give-in-None.ensures.text; within = c.in_ok-give-in-None.ensures.within }) asks a
