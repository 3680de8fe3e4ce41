use Rattle.std.proofs.Common.{sym, ◌∙◌}
use Rattle.spool_runtime.proofs.LeftoverLaws.{no_first, first_parts, no_second, two_parts, no_third, all_parts, other_kind, no_numbers, named}
use Rattle.spool_runtime.proofs.leftovers.child_of.Goals as goal

pub returns-in_err-kind : goal.returns-in_err-kind
returns-in_err-kind c = rw c.from_residual.ensures (no_first _ c.in_err-kind.ensures.cases)

pub returns-in_err-job : goal.returns-in_err-job
returns-in_err-job c =
    let one = first_parts _ (c.in_ok-kind.kind, c.in_ok-kind.rest) c.in_ok-kind.ensures.cases in
    rw c.from_residual-in_err-job.ensures (no_second _ _ _ one c.in_err-job.ensures.cases)

pub returns-in_err-attempt : goal.returns-in_err-attempt
returns-in_err-attempt c =
    let one = first_parts _ (c.in_ok-kind.kind, c.in_ok-kind.rest) c.in_ok-kind.ensures.cases in
    let two = two_parts _ _ _ (c.in_ok-job.job, c.in_ok-job.rest) one c.in_ok-job.ensures.cases in
    rw c.from_residual-in_err-attempt.ensures (no_third _ _ _ _ two c.in_err-attempt.ensures.cases)

pub returns-in_err-file : goal.returns-in_err-file
returns-in_err-file c =
    let one = first_parts _ (c.in_ok-kind.kind, c.in_ok-kind.rest) c.in_ok-kind.ensures.cases in
    let two = two_parts _ _ _ (c.in_ok-job.job, c.in_ok-job.rest) one c.in_ok-job.ensures.cases in
    let all = all_parts _ _ _ _ (c.in_ok-attempt.attempt, c.in_ok-attempt.stage) two c.in_ok-attempt.ensures.cases in
    rw c.from_residual-in_err-file.ensures (other_kind _ _ _ _ _ all c.in_err-file.ensures)

pub returns-then-has_numbers : goal.returns-then-has_numbers
returns-then-has_numbers c =
    let one = first_parts _ (c.in_ok-kind.kind, c.in_ok-kind.rest) c.in_ok-kind.ensures.cases in
    let two = two_parts _ _ _ (c.in_ok-job.job, c.in_ok-job.rest) one c.in_ok-job.ensures.cases in
    let all = all_parts _ _ _ _ (c.in_ok-attempt.attempt, c.in_ok-attempt.stage) two c.in_ok-attempt.ensures.cases in
    named _ _ _ _ _ _ all c.in_ok-file.ensures (sym c.has_numbers.ensures ∙ c.if-has_numbers.true)

pub returns-else-has_numbers : goal.returns-else-has_numbers
returns-else-has_numbers c =
    let one = first_parts _ (c.in_ok-kind.kind, c.in_ok-kind.rest) c.in_ok-kind.ensures.cases in
    let two = two_parts _ _ _ (c.in_ok-job.job, c.in_ok-job.rest) one c.in_ok-job.ensures.cases in
    let all = all_parts _ _ _ _ (c.in_ok-attempt.attempt, c.in_ok-attempt.stage) two c.in_ok-attempt.ensures.cases in
    no_numbers _ _ _ _ _ all (sym c.has_numbers.ensures ∙ c.if-has_numbers.false)
