-- The word and the rest after the bytes so far.
use Rattle.std.proofs.Common.{◌≡◌, ◌++◌, take, drop}
use Rattle.line_words.specs.declared.quoting.Quoting.TheVariants.{Bare}
use Rattle.filter_args.specs.OptionTexts.{word_here, after_word}
use Rattle.filter_args.proofs.reading.split_word.Given as goal

abbrev pub invariant-loop-i : goal.invariant-loop-i
invariant-loop-i l = record {
  word : take l.i l.bytes ++ word_here l.place (drop l.i l.bytes) ≡ word_here Bare l.bytes;
  rest : after_word l.place (drop l.i l.bytes) ≡ after_word Bare l.bytes;
}
