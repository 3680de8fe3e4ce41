-- The options so far, each followed by a blank.
use Rattle.std.proofs.Common.{◌≡◌, take}
use Rattle.std.specs.Prelude.{string_bytes}
use Rattle.std.specs.List.{flat_map}
use Rattle.spool_front.specs.JobDrafts.{option_text}
use Rattle.spool_front.proofs.draft.options_of.Given as goal

abbrev pub invariant-loop-option : goal.invariant-loop-option
invariant-loop-option l = string_bytes l.options ≡ flat_map (λ option. option_text option.now) (take l.option-index l.option-items)
