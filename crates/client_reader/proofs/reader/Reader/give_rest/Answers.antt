-- Up to the line feed, or all of it.
use Rattle.std.proofs.Common.{◌≡◌, false, arith, sym}
use Rattle.command_lines.specs.TextLines.{has_lf}
use Rattle.client_reader.proofs.Gives.{IsLine, rest_on, rest_to_end}
use Rattle.client_reader.proofs.reader.Reader.give_rest.Goals as goal

pub returns-in_ok-give-in-Some-clause-ok : goal.returns-in_ok-give-in-Some-clause-ok
returns-in_ok-give-in-Some-clause-ok c = λ asks a.
    let is : IsLine c.deref.result.now c.in-Some.at = record { within = c.in-Some.ensures.at; before = c.in-Some.ensures.before; there = c.in-Some.ensures.there } in
    rest_to_end c.line_by_line.ensures c.args.self.now _ c.requires.partial c.requires.wanted c.requires.within c.in-Some.at (rw (sym c.deref.ensures.value) is) (record { commands = c.in_ok-give-in-Some.ensures.commands; text = c.in_ok-give-in-Some.ensures.text; within = c.in_ok-give-in-Some.ensures.within }) asks a

pub returns-in_ok-give-in-None-clause-ok : goal.returns-in_ok-give-in-None-clause-ok
returns-in_ok-give-in-None-clause-ok c = λ asks a.
    let none : has_lf c.deref.result.now ≡ false = c.in-None.ensures.none in
    rest_on c.line_by_line.ensures c.args.self.now _ c.requires.partial c.requires.wanted c.requires.within (rw (sym c.deref.ensures.value) none) c.len-count.result
    (omega (arith, c.args.self.now.text.ok.0)) (record { commands = c.in_ok-give-in-None.ensures.commands; text = c.in_ok-give-in-None.ensures.text; within = c.in_ok-give-in-None.ensures.within }) asks a
