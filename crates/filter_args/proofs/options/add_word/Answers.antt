use Rattle.std.proofs.Common.{sym, ◌∙◌}
use Rattle.filter_args.specs.OptionFields.{pairs_of}
use Rattle.filter_args.proofs.PairLaws.{some_from, with_word-put}
use Rattle.filter_args.proofs.WordLaws.{word_fault_told}
use Rattle.filter_args.proofs.options.add_word.Goals as goal

pub read_pair-requires : goal.read_pair-requires
read_pair-requires c =
    word_fault_told (pairs_of c.args.pairs.now.entries) c.args.word.now (some_from c.args.word.now (sym c.is_empty.ensures ∙ c.if-is_empty.false)) ∙ c.requires

pub returns : goal.returns
returns c = record {
  value =
      with_word-put c.args.pairs.now.entries _ c.args.word.now c.in_ok-name.name c.in_ok-name.value
      (some_from c.args.word.now (sym c.is_empty.ensures ∙ c.if-is_empty.false)) c.in_ok-name.ensures c.in_ok-insert.ensures.entries;
}
