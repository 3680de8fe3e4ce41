-- The words so far have no error. The rest of the text determines the result.
use Rattle.std.proofs.Common.{◌≡◌, List, length}
use denote.Text.{Utf8}
use denote.Shadow.{shadow}
use Rattle.filter_args.specs.Pairs.{Pair}
use Rattle.filter_args.specs.OptionTexts.{words_of, pairs_in, joined, reading}
use Rattle.filter_args.proofs.options.first_fault.Given as goal

abbrev pub invariant-loop-rest : goal.invariant-loop-rest
invariant-loop-rest l = record {
  utf8 : shadow (Utf8 l.rest);
  read : (qs : List Pair) × (joined qs (pairs_in (words_of l.rest)) ≡ reading l.text);
}

abbrev pub decreases-loop-rest : goal.decreases-loop-rest
decreases-loop-rest l = length l.rest
