-- The words not yet read, with the selection so far.
use Rattle.std.proofs.Common.{◌≡◌, length, map}
use Rattle.line_words.specs.WordFields.{bytes_of}
use Rattle.service_texts.specs.Selections.{all_jobs, selection_in}
use Rattle.service_texts.proofs.selection.selection_in.Given as goal

abbrev pub invariant-loop-rest : goal.invariant-loop-rest
invariant-loop-rest l = selection_in l.selection (map bytes_of l.rest) ≡ selection_in all_jobs (map bytes_of l.words)

abbrev pub decreases-loop-rest : goal.decreases-loop-rest
decreases-loop-rest l = length l.rest
