use Rattle.std.proofs.Common.{sym, ◌∙◌}
use Rattle.filter_args.proofs.PairLaws.{some_from}
use Rattle.filter_args.proofs.WordLaws.{word_fault_told}
use Rattle.filter_args.proofs.options.word_fault.Goals as goal

pub returns : goal.returns
returns c = λ options.
    c.pair_fault.ensures ∙ word_fault_told options c.args.word.now (some_from c.args.word.now (sym c.is_empty.ensures ∙ c.if-is_empty.false))
