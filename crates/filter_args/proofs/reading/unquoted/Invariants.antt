-- The value so far and the value of the rest are the whole value.
use Rattle.std.proofs.Common.{◌≡◌, ◌++◌, string_bytes}
use Rattle.line_words.specs.declared.quoting.Quoting.TheVariants.{Bare}
use Rattle.line_words.specs.Quoting.{said}
use Rattle.filter_args.proofs.reading.unquoted.Given as goal

abbrev pub invariant-loop-c : goal.invariant-loop-c
invariant-loop-c l = string_bytes l.value ++ said l.place l.c-iterator.rest.now ≡ said Bare l.raw
