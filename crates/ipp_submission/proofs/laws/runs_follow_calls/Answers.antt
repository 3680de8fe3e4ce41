-- Each event is defined by the call.
use Rattle.std.proofs.Common.{◌≡◌, ◌==◌, ℕ, Bool, true, false, cond, List, length, refl, ap, ◌∙◌}
use Rattle.ipp_submission.specs.JobParts.{closes_with_last, is_ready, is_taking}
use Rattle.ipp_submission.specs.JobRuns.{JobRun, all_read, last_piece_at, piece_at}
use Rattle.ipp_submission.proofs.laws.runs_follow_calls.Goals as goal

-- One of two runs, by a test whose outcome is known.
first_of : (b : Bool) (x y : JobRun) → b ≡ true → cond b x y ≡ x
first_of b x y is = ap (λ (t : Bool). cond t x y) is

second_of : (b : Bool) (x y : JobRun) → b ≡ false → cond b x y ≡ y
second_of b x y is = ap (λ (t : Bool). cond t x y) is

progress_of : (b : Bool) (x y : JobRun) → (cond b x y).progress ≡ cond b x.progress y.progress
progress_of true x y = refl
progress_of false x y = refl

pub returns-clause-heard : goal.returns-clause-heard
returns-clause-heard c w = refl

pub returns-clause-lost : goal.returns-clause-lost
returns-clause-lost c w = refl

pub returns-clause-deserted : goal.returns-clause-deserted
returns-clause-deserted c w = refl

pub returns-clause-supplied : goal.returns-clause-supplied
returns-clause-supplied c w piece rest is some ready =
    ap (λ (left : List (List ℕ)). (piece_at w left).progress) is
    ∙ ap (λ (v : JobRun). v.progress) (first_of (is_ready w.progress) _ w ready ∙ second_of (length piece == 0) w _ some)

pub returns-clause-supplied_last : goal.returns-clause-supplied_last
returns-clause-supplied_last c w piece is some ready closes =
    ap (λ (left : List (List ℕ)). (last_piece_at w left).progress) is
    ∙ ap (λ (v : JobRun). v.progress)
    (first_of (is_ready w.progress) _ w ready ∙ first_of (closes_with_last w.progress) _ w closes ∙ second_of (length piece == 0) w _ some)

pub returns-clause-begun : goal.returns-clause-begun
returns-clause-begun c w pieces given prints ready = ap (λ (v : JobRun). v.progress) (first_of (is_ready w.progress) _ w ready)

pub returns-clause-ended : goal.returns-clause-ended
returns-clause-ended c w ready read =
    ap (λ (v : JobRun). v.progress) (first_of (is_ready w.progress) _ w ready ∙ first_of (all_read w) _ w read)

pub returns-clause-gave_up : goal.returns-clause-gave_up
returns-clause-gave_up c w = progress_of (is_taking w.progress.stage) _ w
