-- The text so far, and the remaining pairs.
use Rattle.std.proofs.Common.{◌≡◌, ◌++◌, string_bytes, flat_map}
use Rattle.filter_args.specs.Printing.{after_blank, printed}
use Rattle.filter_args.specs.OptionFields.{pairs_of}
use Rattle.filter_args.proofs.options.Options.print.Given as goal

abbrev pub invariant-loop-name : goal.invariant-loop-name
invariant-loop-name l = string_bytes l.text ++ flat_map after_blank (pairs_of l.name-iterator) ≡ printed l.self
