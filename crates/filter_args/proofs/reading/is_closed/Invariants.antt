-- The rest of the value ends in the same state.
use Rattle.std.proofs.Common.{◌≡◌}
use Rattle.line_words.specs.declared.quoting.Quoting.TheVariants.{Bare}
use Rattle.line_words.specs.Quoting.{place_after}
use Rattle.filter_args.proofs.reading.is_closed.Given as goal

abbrev pub invariant-loop-c : goal.invariant-loop-c
invariant-loop-c l = place_after l.place l.c-iterator.rest.now ≡ place_after Bare l.raw
