-- The options so far, and the options of the rest of the text.
use Rattle.std.proofs.Common.{◌≡◌, true, length}
use denote.Text.{Utf8}
use denote.Shadow.{shadow}
use Rattle.filter_args.specs.Pairs.{are_options}
use Rattle.filter_args.specs.OptionTexts.{words_of, pairs_in, joined, reading}
use Rattle.filter_args.specs.OptionFields.{pairs_of}
use Rattle.filter_args.proofs.options.Options.parse.Given as goal

abbrev pub invariant-loop-rest : goal.invariant-loop-rest
invariant-loop-rest l = record {
  utf8 : shadow (Utf8 l.rest);
  options : are_options (pairs_of l.pairs.entries) ≡ true;
  read : joined (pairs_of l.pairs.entries) (pairs_in (words_of l.rest)) ≡ reading l.text;
}

abbrev pub decreases-loop-rest : goal.decreases-loop-rest
decreases-loop-rest l = length l.rest
