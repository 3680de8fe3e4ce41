-- The text so far and the text of the rest are the whole text.
use Rattle.std.proofs.Common.{◌≡◌, ◌++◌, string_bytes}
use Rattle.filter_args.specs.Printing.{escaped, printed_value}
use Rattle.filter_args.proofs.printing.push_value.Given as goal

abbrev pub invariant-loop-c : goal.invariant-loop-c
invariant-loop-c l = string_bytes l.text ++ escaped l.c-iterator.rest.now ≡ string_bytes l.fn.text ++ printed_value l.value
