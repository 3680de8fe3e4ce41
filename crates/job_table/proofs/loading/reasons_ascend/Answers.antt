-- All neighbours were compared.
use Rattle.std.proofs.Common.{rules}
use Rattle.std.proofs.lemmas.List.Sorted.{answers_always}
use Rattle.row_effects.specs.QueueReasons.{word_of}
use Rattle.job_table.proofs.Ascending.{is_lower, ascends_as}
use Rattle.job_table.proofs.loading.reasons_ascend.Goals as goal

pub returns : goal.returns
returns c = ascends_as word_of c.args.reasons.now c.is_sorted_by.result
    (c.is_sorted_by.ensures.cases (is_lower word_of) (answers_always _ _ _ (λ f a r g called. search rules)))
