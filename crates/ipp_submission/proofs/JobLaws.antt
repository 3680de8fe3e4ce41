-- The invariant of a submission of several documents.
use Rattle.std.proofs.Common.{◌≡◌, ℕ, zero, suc, ◌≤◌, Bool, true, false, cond, ◌==◌, ◌&&◌, ltb, List, [], ◌∷◌, ◌++◌, length, get_or, set, refl, ap, sym, ◌∙◌, subst, arith, true≢false}
use Rattle.std.proofs.lemmas.Bool.{eqb-true}
use Rattle.std.specs.List.{list_all}
use Rattle.front_submission.specs.declared.step.End.{End}
use Rattle.front_submission.specs.declared.step.End.TheVariants.{Accepted}
use Rattle.front_submission.specs.declared.step.Step.{Step}
use Rattle.front_submission.specs.declared.step.Step.TheVariants.{Creating, Ended}
use Rattle.front_submission.specs.declared.reply.Reply.TheVariants.{Later, Denied, Unclear}
use Rattle.front_submission.specs.SubmissionSteps.{most_tries, status, request, heard, lost, supplied, unread, deserted}
use Rattle.front_submission.specs.Service.{Service, Other, Makes, Cancels, Purges, Part, Neither, after_other, reply_to, reply_to_part}
use Rattle.front_submission.specs.SubmissionRuns.{SubmissionRun, Event, ArePieces, end_of, happens, is_none, joined, read_at, run, start}
use Rattle.front_submission.specs.SubmissionRuns as runs
use Rattle.ipp_submission.specs.declared.stage.Stage.{Stage}
use Rattle.ipp_submission.specs.declared.stage.Stage.TheVariants as stages
use Rattle.ipp_submission.specs.declared.stage.Move.{Move}
use Rattle.ipp_submission.specs.declared.stage.Move.TheVariants.{Stay, CloseNext, UndoNext, UndoThis}
use Rattle.ipp_submission.specs.JobParts.{all_accepted, closes_with_last, closing_at, current, part_at, is_accepted, is_closed, is_ended, is_reading, is_ready, is_taking, move_after, next_part}
use Rattle.ipp_submission.specs.JobRuns.{JobEvent, JobRun, Each, IsAccepted, IsUnclosed, IsWhole, Pairs, ClosedAtMostOnce, Served, ServedUnheard, ServedUnclear, PartServed, PartServedUnheard, PartServedUnclear, Lost, LeftUnclear, PutOff, TurnedDown, Deserted, Meanwhile, Piece, LastPiece, Begins, Ends, GivesUp, all_read, begins, job_end, job_happens, job_run, job_start, last_piece_at, moved_run, moving, now, piece_at, stepped, submission_at, told, undone, with_event, with_last, with_submissions}
use Rattle.ipp_submission.proofs.PairLaws.{all_append, all_get, all_map, all_set, pairs_append, pairs_change, pairs_get, pairs_map, pairs_map_all, pairs_set}
use Rattle.ipp_submission.proofs.StepLaws.{IsEarlyStep, accepted_end, early_deserted, early_heard, early_lost, early_supplied, early_unread, read_end, read_keeps, read_last, read_step, read_whole, unclosed_part, unclosed_served}

-- ## Statements about one part

-- The submission has the step that the progress states.
abbrev pub Agrees : Bool → Step → SubmissionRun → Type 0
Agrees holds step w = (w.step ≡ step) × (w.holds ≡ holds)

-- It is a submission of this document.
pub record IsRunOf (pieces : List (List ℕ)) (w : SubmissionRun) : Type 0 where
  pub holds : Bool
  pub given : ℕ
  pub prints : Bool
  pub events : List Event
  pub is : w ≡ end_of pieces holds given prints events

abbrev pub IsEarly : SubmissionRun → Type 0
IsEarly w = IsEarlyStep w.step × IsUnclosed w

run_more : (events : List Event) (event : Event) (w : SubmissionRun) → run (events ++ event ∷ []) w ≡ happens (run events w) event
run_more [] event w = refl
run_more (first ∷ events) event w = run_more events event (happens w first)

run_of_more : (event : Event) (pieces : List (List ℕ)) (w : SubmissionRun) → IsRunOf pieces w → IsRunOf pieces (happens w event)
run_of_more event pieces w h = record {
  holds = h.holds;
  given = h.given;
  prints = h.prints;
  events = h.events ++ event ∷ [];
  is = ap (λ (v : SubmissionRun). happens v event) h.is ∙ sym (run_more h.events event (start pieces h.holds h.given h.prints));
}

holds_keep : (w : SubmissionRun) (event : Event) → (happens w event).holds ≡ w.holds
holds_keep w runs.Served = refl
holds_keep w runs.ServedUnheard = refl
holds_keep w runs.ServedUnclear = refl
holds_keep w (runs.PartServed part closes) = refl
holds_keep w (runs.PartServedUnheard part closes) = refl
holds_keep w (runs.PartServedUnclear part closes) = refl
holds_keep w runs.Lost = refl
holds_keep w runs.LeftUnclear = refl
holds_keep w (runs.PutOff closes) = refl
holds_keep w (runs.TurnedDown closes) = refl
holds_keep w (runs.Reads end) = (read_keeps w end w.step w.rest).holds
holds_keep w runs.CannotRead = refl
holds_keep w runs.GivesUp = refl
holds_keep w (runs.Meanwhile other) = refl

whole_keeps : (w : SubmissionRun) (event : Event) → IsWhole w → IsWhole (happens w event)
whole_keeps w runs.Served h = h
whole_keeps w runs.ServedUnheard h = h
whole_keeps w runs.ServedUnclear h = h
whole_keeps w (runs.PartServed part closes) h = h
whole_keeps w (runs.PartServedUnheard part closes) h = h
whole_keeps w (runs.PartServedUnclear part closes) h = h
whole_keeps w runs.Lost h = h
whole_keeps w runs.LeftUnclear h = h
whole_keeps w (runs.PutOff closes) h = h
whole_keeps w (runs.TurnedDown closes) h = h
whole_keeps w (runs.Reads end) h = (read_keeps w end w.step w.rest).whole h
whole_keeps w runs.CannotRead h = h
whole_keeps w runs.GivesUp h = h
whole_keeps w (runs.Meanwhile other) h = h

-- ## The invariant

-- Before the end of the last document no job is closed. After it each document is whole.
abbrev pub Kept : Stage → Bool → List SubmissionRun → Type 0
Kept stages.Taking false ws = Each IsEarly ws
Kept stages.Taking true ws = ⊥
Kept stages.Closing false ws = ⊥
Kept stages.Closing true ws = Each IsWhole ws
Kept stages.Undoing false ws = Each IsEarly ws
Kept stages.Undoing true ws = Each IsWhole ws

pub record IsGood (w : JobRun) : Type 0 where
  pub agrees : Pairs (Agrees w.progress.holds) w.progress.parts w.submissions
  pub reached : Pairs IsRunOf w.documents w.submissions
  pub kept : Kept w.progress.stage w.whole w.submissions

kept_set : (stage : Stage) (whole : Bool) (ws : List SubmissionRun) (i : ℕ) (d new : SubmissionRun) → IsEarly d → IsWhole d →
    (IsEarly (get_or ws i d) → IsEarly new) → (IsWhole (get_or ws i d) → IsWhole new) → Kept stage whole ws → Kept stage whole (set ws i new)
kept_set stages.Taking false ws i d new de dw early whole k = all_set IsEarly ws i new k (early (all_get IsEarly ws i d k de))
kept_set stages.Taking true ws i d new de dw early whole k = absurd k
kept_set stages.Closing false ws i d new de dw early whole k = absurd k
kept_set stages.Closing true ws i d new de dw early whole k = all_set IsWhole ws i new k (whole (all_get IsWhole ws i d k dw))
kept_set stages.Undoing false ws i d new de dw early whole k = all_set IsEarly ws i new k (early (all_get IsEarly ws i d k de))
kept_set stages.Undoing true ws i d new de dw early whole k = all_set IsWhole ws i new k (whole (all_get IsWhole ws i d k dw))

kept_undoing : (stage : Stage) (whole : Bool) (ws : List SubmissionRun) → Kept stage whole ws → Kept stages.Undoing whole ws
kept_undoing stages.Taking false ws k = k
kept_undoing stages.Taking true ws k = absurd k
kept_undoing stages.Closing false ws k = absurd k
kept_undoing stages.Closing true ws k = k
kept_undoing stages.Undoing false ws k = k
kept_undoing stages.Undoing true ws k = k

kept_more : (stage : Stage) (whole : Bool) (ws : List SubmissionRun) (new : SubmissionRun) → is_taking stage ≡ true → IsEarly new →
    Kept stage whole ws → Kept stage whole (ws ++ new ∷ [])
kept_more stages.Taking false ws new t e k = all_append IsEarly ws new k e
kept_more stages.Taking true ws new t e k = absurd k
kept_more stages.Closing whole ws new t e k = absurd (true≢false (sym t))
kept_more stages.Undoing whole ws new t e k = absurd (true≢false (sym t))

-- The part at a number, and its submission.
agree_at : (w : JobRun) (i : ℕ) → IsGood w → Agrees w.progress.holds (part_at w.progress i) (submission_at w i)
agree_at w i good = pairs_get (Agrees w.progress.holds) w.progress.parts w.submissions i _ _ good.agrees (refl, refl)

-- An event changes a submission, and its part has the same step as the submission then.
agrees_more : (w : JobRun) (i : ℕ) (event : Event) (step : Step) → IsGood w → (happens (submission_at w i) event).step ≡ step →
    Pairs (Agrees w.progress.holds) (set w.progress.parts i step) (with_event w i event)
agrees_more w i event step good is =
    pairs_set (Agrees w.progress.holds) w.progress.parts w.submissions i step (happens (submission_at w i) event) good.agrees
    (is, holds_keep (submission_at w i) event ∙ (agree_at w i good).1)

reached_more : (w : JobRun) (i : ℕ) (event : Event) → IsGood w → Pairs IsRunOf w.documents (with_event w i event)
reached_more w i event good =
    pairs_change IsRunOf w.documents w.submissions i (start [] w.progress.holds 0 false) (λ v. happens v event) (run_of_more event) good.reached

kept_event : (w : JobRun) (i : ℕ) (event : Event) → IsGood w → (IsEarly (submission_at w i) → IsEarly (happens (submission_at w i) event)) →
    Kept w.progress.stage w.whole (with_event w i event)
kept_event w i event good early =
    kept_set w.progress.stage w.whole w.submissions i (start [] w.progress.holds 0 false) (happens (submission_at w i) event) (tt, refl) refl early
    (whole_keeps (submission_at w i) event) good.kept

-- ## Moves

undoing_good : (w : JobRun) (i : ℕ) → IsGood w →
    IsGood (record {
      progress = record { parts = set w.progress.parts i (unread (part_at w.progress i)); at = i; stage = stages.Undoing; holds = w.progress.holds };
      documents = w.documents;
      submissions = with_event w i runs.CannotRead;
      whole = w.whole;
    })
undoing_good w i good = record {
  agrees = agrees_more w i runs.CannotRead _ good (ap (λ (s : Step). unread s) (agree_at w i good).0);
  reached = reached_more w i runs.CannotRead good;
  kept = kept_undoing w.progress.stage w.whole _ (kept_event w i runs.CannotRead good (λ e. (early_unread _ e.0, e.1)));
}

whole_at : (w : JobRun) (i : ℕ) → Each IsWhole w.submissions → (submission_at w i).rest ≡ []
whole_at w i all = all_get IsWhole w.submissions i (start [] w.progress.holds 0 false) all refl

-- The submission of a whole document is read to its end.
end_read : (v : SubmissionRun) (step : Step) (holds : Bool) → v.rest ≡ [] → Agrees holds step v → (happens v (runs.Reads false)).step ≡ supplied step 0 false holds
end_read v step holds none agrees =
    ap (λ (rest : List (List ℕ)). (read_at v false v.step rest).step) none ∙ read_end v v.step
    ∙ ap (λ (s : Step). supplied s 0 false v.holds) agrees.0 ∙ ap (λ (b : Bool). supplied step 0 false b) agrees.1

closing_good : (w : JobRun) (i : ℕ) (whole : Bool) → whole ≡ true → IsGood w → Each IsWhole w.submissions →
    IsGood (record {
      progress = record {
        parts = set w.progress.parts i (supplied (part_at w.progress i) 0 false w.progress.holds);
        at = i;
        stage = stages.Closing;
        holds = w.progress.holds;
      };
      documents = w.documents;
      submissions = with_event w i (runs.Reads false);
      whole = whole;
    })
closing_good w i whole is good all = record {
  agrees = agrees_more w i (runs.Reads false) _ good (end_read (submission_at w i) _ _ (whole_at w i all) (agree_at w i good));
  reached = reached_more w i (runs.Reads false) good;
  kept = subst (λ (b : Bool). Kept stages.Closing b (with_event w i (runs.Reads false))) (sym is)
      (all_set IsWhole w.submissions i (happens (submission_at w i) (runs.Reads false)) all (whole_keeps (submission_at w i) (runs.Reads false) (whole_at w i all)));
}

-- In the stage in which jobs are closed each document is whole.
record AllWhole (whole : Bool) (ws : List SubmissionRun) : Type 0 where
  pub is : whole ≡ true
  pub all : Each IsWhole ws

closing_whole : (whole : Bool) (ws : List SubmissionRun) → Kept stages.Closing whole ws → AllWhole whole ws
closing_whole false ws k = absurd k
closing_whole true ws k = record { is = refl; all = k }

-- Jobs are closed only in that stage.
abbrev AllowsMove : Move → JobRun → Type 0
AllowsMove Stay w = Unit {0}
AllowsMove CloseNext w = AllWhole w.whole w.submissions
AllowsMove UndoNext w = Unit {0}
AllowsMove UndoThis w = Unit {0}

one_allowed : (b : Bool) (x y : Move) (w : JobRun) → AllowsMove x w → AllowsMove y w → AllowsMove (cond b x y) w
one_allowed true x y w f g = f
one_allowed false x y w f g = g

stage_allows : (stage : Stage) (step : Step) (w : JobRun) → Kept stage w.whole w.submissions → AllowsMove (move_after stage step) w
stage_allows stages.Taking step w k = one_allowed (is_ended step) _ _ w tt tt
stage_allows stages.Closing step w k = one_allowed (is_closed step) _ _ w (closing_whole w.whole w.submissions k) (one_allowed (is_ended step) _ _ w tt tt)
stage_allows stages.Undoing step w k = one_allowed (is_reading step) _ _ w tt (one_allowed (is_ended step) _ _ w tt tt)

next_good : (b : Bool) (w : JobRun) → IsGood w → AllWhole w.whole w.submissions →
    IsGood (record {
      progress = cond b (closing_at w.progress (suc w.progress.at)) w.progress;
      documents = w.documents;
      submissions = cond b (with_event w (suc w.progress.at) (runs.Reads false)) w.submissions;
      whole = w.whole;
    })
next_good true w good all = closing_good w (suc w.progress.at) w.whole all.is good all.all
next_good false w good all = record { agrees = good.agrees; reached = good.reached; kept = good.kept }

moving_good : (w : JobRun) (move : Move) → AllowsMove move w → IsGood w → IsGood (moving w move)
moving_good w Stay allows good = record { agrees = good.agrees; reached = good.reached; kept = good.kept }
moving_good w CloseNext allows good = next_good (ltb (suc w.progress.at) (length w.progress.parts)) w good allows
moving_good w UndoNext allows good = undoing_good w (next_part w.progress) good
moving_good w UndoThis allows good = undoing_good w w.progress.at good

moved_good : (w : JobRun) → IsGood w → IsGood (moved_run w)
moved_good w good =
    moving_good w (move_after w.progress.stage (current w.progress)) (stage_allows w.progress.stage (current w.progress) w good.kept) good

-- ## Events

stepped_good : (w : JobRun) (event : Event) (step : Step) → IsGood w → (happens (now w) event).step ≡ step →
    (IsEarly (now w) → IsEarly (happens (now w) event)) → IsGood (stepped w event step)
stepped_good w event step good is early = record {
  agrees = agrees_more w w.progress.at event step good is;
  reached = reached_more w w.progress.at event good;
  kept = kept_event w w.progress.at event good early;
}

told_good : (w : JobRun) (event : Event) (step : Step) → IsGood w → (happens (now w) event).step ≡ step →
    (IsEarly (now w) → IsEarly (happens (now w) event)) → IsGood (told w event step)
told_good w event step good is early = moved_good (stepped w event step) (stepped_good w event step good is early)

other_closes : (z : Service) (other : Other) → (after_other z other).closes ≡ z.closes
other_closes z Makes = refl
other_closes z (Cancels job) = refl
other_closes z (Purges job) = refl

meanwhile_good : (w : JobRun) (part : ℕ) (other : Other) → IsGood w → IsGood (with_submissions w (with_event w part (runs.Meanwhile other)))
meanwhile_good w part other good = record {
  agrees = pairs_change (Agrees w.progress.holds) w.progress.parts w.submissions part (start [] w.progress.holds 0 false)
      (λ v. happens v (runs.Meanwhile other)) (λ x y k. k) good.agrees;
  reached = reached_more w part (runs.Meanwhile other) good;
  kept = kept_event w part (runs.Meanwhile other) good (λ e. (e.0, other_closes (submission_at w part).service other ∙ e.1));
}

-- One of two runs.
one_good : (b : Bool) (x y : JobRun) → (b ≡ true → IsGood x) → (b ≡ false → IsGood y) → IsGood (cond b x y)
one_good true x y f g = f refl
one_good false x y f g = g refl

-- The next piece is read.
piece_step : (v : SubmissionRun) (piece : List ℕ) (rest : List (List ℕ)) → v.rest ≡ piece ∷ rest →
    (happens v (runs.Reads false)).step ≡ supplied v.step (length piece) false v.holds
piece_step v piece rest is = ap (λ (r : List (List ℕ)). (read_at v false v.step r).step) is ∙ read_step v v.step piece rest

piece_early : (v : SubmissionRun) (piece : List ℕ) (rest : List (List ℕ)) → v.rest ≡ piece ∷ rest → (length piece == 0) ≡ false →
    IsEarly v → IsEarly (happens v (runs.Reads false))
piece_early v piece rest is some e = (
  subst IsEarlyStep (sym (piece_step v piece rest is)) (early_supplied v.step (length piece) v.holds some e.0),
  ap (λ (z : Service). z.closes) (read_keeps v false v.step v.rest).service ∙ e.1,
)

both_left : (a b : Bool) → (a && b) ≡ true → a ≡ true
both_left true b h = refl
both_left false b h = h

both_right : (a b : Bool) → (a && b) ≡ true → b ≡ true
both_right true b h = h
both_right false b h = absurd (true≢false (sym h))

piece_good : (w : JobRun) (rest : List (List ℕ)) → (now w).rest ≡ rest → IsGood w → IsGood (piece_at w rest)
piece_good w [] is good = good
piece_good w (piece ∷ rest) is good =
    one_good (is_ready w.progress) _ w
    (λ _. one_good (length piece == 0) w _ (λ _. good)
    (λ some. stepped_good w (runs.Reads false) _ good
    (piece_step (now w) piece rest is ∙ ap (λ (s : Step). supplied s (length piece) false (now w).holds) (agree_at w w.progress.at good).0
    ∙ ap (λ (b : Bool). supplied (current w.progress) (length piece) false b) (agree_at w w.progress.at good).1)
    (piece_early (now w) piece rest is some)))
    (λ _. good)

-- The only document is whole if its last piece was read.
only_whole : (holds : Bool) (parts : List Step) (ws : List SubmissionRun) (i : ℕ) (d new : SubmissionRun) (piece : List ℕ) → Pairs (Agrees holds) parts ws →
    (length parts == 1) ≡ true → d.rest ≡ [] → (get_or ws i d).rest ≡ piece ∷ [] → IsWhole new → Each IsWhole (set ws i new)
only_whole holds [] ws i d new piece h one none is whole = absurd (true≢false (sym one))
only_whole holds (part ∷ []) [] i d new piece h one none is whole = absurd h
only_whole holds (part ∷ []) (w ∷ []) zero d new piece h one none is whole = (whole, tt)
only_whole holds (part ∷ []) (w ∷ []) (suc i) d new piece h one none is whole = absurd (not_empty (sym none ∙ is))
  where
    not_empty : [] ≡ piece ∷ [] → ⊥
    not_empty e = absurd (cc)
only_whole holds (part ∷ []) (w ∷ (v ∷ ws)) i d new piece h one none is whole = absurd h.1
only_whole holds (part ∷ (other ∷ parts)) ws i d new piece h one none is whole =
    let single : length (part ∷ (other ∷ parts)) ≡ 1 = eqb-true (length (part ∷ (other ∷ parts))) 1 one in absurd (omega arith)

with_last_good : (w : JobRun) (piece : List ℕ) → (now w).rest ≡ piece ∷ [] → is_ready w.progress ≡ true → closes_with_last w.progress ≡ true → IsGood w →
    IsGood (with_last w piece)
with_last_good w piece is ready closes good = record {
  agrees = agrees_more w w.progress.at (runs.Reads true) _ good step_is;
  reached = reached_more w w.progress.at (runs.Reads true) good;
  kept = only_whole w.progress.holds w.progress.parts w.submissions w.progress.at (start [] w.progress.holds 0 false) (happens (now w) (runs.Reads true)) piece
      good.agrees (both_left (length w.progress.parts == 1) _ closes) refl is whole;
}
  where
    at : Agrees w.progress.holds (current w.progress) (now w)
    at = agree_at w w.progress.at good

    step_is : (happens (now w) (runs.Reads true)).step ≡ supplied (current w.progress) (length piece) true w.progress.holds
    step_is =
        ap (λ (r : List (List ℕ)). (read_at (now w) true (now w).step r).step) is ∙ read_last (now w) (now w).step piece
        ∙ ap (λ (s : Step). supplied s (length piece) true (now w).holds) at.0 ∙ ap (λ (b : Bool). supplied (current w.progress) (length piece) true b) at.1

    whole : IsWhole (happens (now w) (runs.Reads true))
    whole =
        ap (λ (r : List (List ℕ)). (read_at (now w) true (now w).step r).rest) is
        ∙ read_whole (now w) (now w).step piece
        (ap (λ (s : Step). is_reading s) at.0 ∙ both_right (is_taking w.progress.stage) (is_reading (current w.progress)) ready)

last_good : (w : JobRun) (rest : List (List ℕ)) → (now w).rest ≡ rest → IsGood w → IsGood (last_piece_at w rest)
last_good w [] is good = good
last_good w (piece ∷ []) is good =
    one_good (is_ready w.progress) _ w
    (λ ready. one_good (closes_with_last w.progress) _ w
    (λ closes. one_good (length piece == 0) w _ (λ _. good) (λ _. with_last_good w piece is ready closes good)) (λ _. good))
    (λ _. good)
last_good w (piece ∷ (next ∷ rest)) is good = good

begins_good : (w : JobRun) (pieces : List (List ℕ)) (given : ℕ) (prints : Bool) → is_taking w.progress.stage ≡ true → IsGood w →
    IsGood (begins w pieces given prints)
begins_good w pieces given prints taking good = record {
  agrees = pairs_append (Agrees w.progress.holds) w.progress.parts w.submissions (Creating most_tries) (start pieces w.progress.holds given prints)
      good.agrees (refl, refl);
  reached = pairs_append IsRunOf w.documents w.submissions pieces (start pieces w.progress.holds given prints) good.reached
      (record { holds = w.progress.holds; given = given; prints = prints; events = []; is = refl });
  kept = kept_more w.progress.stage w.whole w.submissions (start pieces w.progress.holds given prints) taking (tt, refl) good.kept;
}

none_left : (rest : List (List ℕ)) → is_none rest ≡ true → rest ≡ []
none_left [] h = refl
none_left (piece ∷ rest) h = absurd (true≢false (sym h))

all_whole : (ws : List SubmissionRun) → list_all (λ run. is_none run.rest) ws ≡ true → Each IsWhole ws
all_whole [] h = tt
all_whole (w ∷ ws) h = (none_left w.rest (both_left (is_none w.rest) _ h), all_whole ws (both_right (is_none w.rest) _ h))

undone_good : (w : JobRun) → IsGood w → IsGood (undone w)
undone_good w good = record {
  agrees = good.agrees;
  reached = good.reached;
  kept = kept_undoing w.progress.stage w.whole w.submissions good.kept;
}

-- The request of the part in progress is executed.
served_early : (v : SubmissionRun) (step : Step) → IsEarlyStep step → IsEarly v → IsEarly (runs.done v step)
served_early v step early e = (early, unclosed_served v.service v.piece v.step e.0 e.1)

partly_early : (v : SubmissionRun) (part : Part) (closes : Bool) (step : Step) → IsEarlyStep step → IsEarly v → IsEarly (runs.partly_done v part closes step)
partly_early v part closes step early e = (early, unclosed_part v.service part closes v.piece v.step e.0 e.1)

step_of : (w : JobRun) → IsGood w → (now w).step ≡ current w.progress
step_of w good = (agree_at w w.progress.at good).0

job_good : (w : JobRun) (event : JobEvent) → IsGood w → IsGood (job_happens w event)
job_good w Served good =
    told_good w runs.Served _ good (ap (λ (s : Step). heard s (reply_to (now w).service (now w).piece (request s))) (step_of w good))
    (λ e. served_early (now w) _ (early_heard (now w).step _ e.0) e)
job_good w ServedUnheard good =
    told_good w runs.ServedUnheard _ good (ap (λ (s : Step). lost s) (step_of w good)) (λ e. served_early (now w) _ (early_lost (now w).step e.0) e)
job_good w ServedUnclear good =
    told_good w runs.ServedUnclear _ good (ap (λ (s : Step). heard s Unclear) (step_of w good))
    (λ e. served_early (now w) _ (early_heard (now w).step Unclear e.0) e)
job_good w (PartServed part closes) good =
    told_good w (runs.PartServed part closes) _ good
    (ap (λ (s : Step). heard s (reply_to_part (now w).service part closes (now w).piece (request s))) (step_of w good))
    (λ e. partly_early (now w) part closes _ (early_heard (now w).step _ e.0) e)
job_good w (PartServedUnheard part closes) good =
    told_good w (runs.PartServedUnheard part closes) _ good (ap (λ (s : Step). lost s) (step_of w good))
    (λ e. partly_early (now w) part closes _ (early_lost (now w).step e.0) e)
job_good w (PartServedUnclear part closes) good =
    told_good w (runs.PartServedUnclear part closes) _ good (ap (λ (s : Step). heard s Unclear) (step_of w good))
    (λ e. partly_early (now w) part closes _ (early_heard (now w).step Unclear e.0) e)
job_good w Lost good = told_good w runs.Lost _ good (ap (λ (s : Step). lost s) (step_of w good)) (λ e. (early_lost (now w).step e.0, e.1))
job_good w LeftUnclear good =
    told_good w runs.LeftUnclear _ good (ap (λ (s : Step). heard s Unclear) (step_of w good)) (λ e. (early_heard (now w).step Unclear e.0, e.1))
job_good w (PutOff closes) good =
    told_good w (runs.PutOff closes) _ good (ap (λ (s : Step). heard s Later) (step_of w good))
    (λ e. partly_early (now w) Neither closes _ (early_heard (now w).step Later e.0) e)
job_good w (TurnedDown closes) good =
    told_good w (runs.TurnedDown closes) _ good (ap (λ (s : Step). heard s Denied) (step_of w good))
    (λ e. partly_early (now w) Neither closes _ (early_heard (now w).step Denied e.0) e)
job_good w Deserted good =
    told_good w runs.GivesUp _ good (ap (λ (s : Step). deserted s) (step_of w good)) (λ e. (early_deserted (now w).step e.0, e.1))
job_good w (Meanwhile part other) good = meanwhile_good w part other good
job_good w Piece good = piece_good w (now w).rest refl good
job_good w LastPiece good = last_good w (now w).rest refl good
job_good w (Begins pieces given prints) good =
    one_good (is_ready w.progress) _ w
    (λ ready. begins_good w pieces given prints (both_left (is_taking w.progress.stage) (is_reading (current w.progress)) ready) good) (λ _. good)
job_good w Ends good =
    one_good (is_ready w.progress) _ w
    (λ _. one_good (all_read w) _ w (λ read. closing_good w 0 true refl good (all_whole w.submissions read)) (λ _. good)) (λ _. good)
job_good w GivesUp good = one_good (is_taking w.progress.stage) _ w (λ _. moved_good (undone w) (undone_good w good)) (λ _. good)

run_good : (events : List JobEvent) (w : JobRun) → IsGood w → IsGood (job_run events w)
run_good [] w good = good
run_good (event ∷ events) w good = run_good events (job_happens w event) (job_good w event good)

pub end_good : (pieces : List (List ℕ)) (holds : Bool) (given : ℕ) (prints : Bool) (events : List JobEvent) → IsGood (job_end pieces holds given prints events)
end_good pieces holds given prints events =
    run_good events (job_start pieces holds given prints)
    (record { agrees = ((refl, refl), tt); reached = (record { holds = holds; given = given; prints = prints; events = []; is = refl }, tt); kept = ((tt, refl), tt) })

-- ## The clauses

unclosed_kept : (stage : Stage) (whole : Bool) (ws : List SubmissionRun) → whole ≡ false → Kept stage whole ws → Each IsUnclosed ws
unclosed_kept stages.Taking false ws is k = all_map IsEarly IsUnclosed ws (λ w e. e.1) k
unclosed_kept stages.Taking true ws is k = absurd k
unclosed_kept stages.Closing false ws is k = absurd k
unclosed_kept stages.Closing true ws is k = absurd (true≢false is)
unclosed_kept stages.Undoing false ws is k = all_map IsEarly IsUnclosed ws (λ w e. e.1) k
unclosed_kept stages.Undoing true ws is k = absurd (true≢false is)

whole_kept : (stage : Stage) (whole : Bool) (ws : List SubmissionRun) → whole ≡ true → Kept stage whole ws → Each IsWhole ws
whole_kept stages.Taking false ws is k = absurd (true≢false (sym is))
whole_kept stages.Taking true ws is k = absurd k
whole_kept stages.Closing false ws is k = absurd k
whole_kept stages.Closing true ws is k = k
whole_kept stages.Undoing false ws is k = absurd (true≢false (sym is))
whole_kept stages.Undoing true ws is k = k

pub unclosed_before : (w : JobRun) → IsGood w → w.whole ≡ false → Each IsUnclosed w.submissions
unclosed_before w good is = unclosed_kept w.progress.stage w.whole w.submissions is good.kept

pub whole_after : (w : JobRun) → IsGood w → w.whole ≡ true → Each IsWhole w.submissions
whole_after w good is = whole_kept w.progress.stage w.whole w.submissions is good.kept

-- What holds at the end of each submission of one document.
abbrev pub AtMostOnce : Type 0
AtMostOnce = (pieces : List (List ℕ)) (holds : Bool) (given : ℕ) (prints : Bool) (events : List Event) → ArePieces pieces →
    length (end_of pieces holds given prints events).service.closes ≤ 1

abbrev pub OnceAccepted : Type 0
OnceAccepted = (pieces : List (List ℕ)) (holds : Bool) (given : ℕ) (prints : Bool) (events : List Event) (end : End) → ArePieces pieces →
    (end_of pieces holds given prints events).step ≡ Ended end → status end ≡ 0 →
    ((end_of pieces holds given prints events).service.closes ≡ joined pieces ∷ []) × ((end_of pieces holds given prints events).service.prints ≡ true)

once_of : AtMostOnce → (pieces : List (List ℕ)) (w : SubmissionRun) → IsRunOf pieces w → ClosedAtMostOnce pieces w
once_of law pieces w h are = subst (λ (v : SubmissionRun). length v.service.closes ≤ 1) (sym h.is) (law pieces h.holds h.given h.prints h.events are)

pub once_each : AtMostOnce → (w : JobRun) → IsGood w → Pairs ClosedAtMostOnce w.documents w.submissions
once_each law w good = pairs_map IsRunOf ClosedAtMostOnce w.documents w.submissions (once_of law) good.reached

abbrev HasAccepted : SubmissionRun → Type 0
HasAccepted w = is_accepted w.step ≡ true

accepted_all : (holds : Bool) (parts : List Step) (ws : List SubmissionRun) → Pairs (Agrees holds) parts ws → list_all is_accepted parts ≡ true → Each HasAccepted ws
accepted_all holds [] [] h is = tt
accepted_all holds [] (w ∷ ws) h is = absurd h
accepted_all holds (part ∷ parts) [] h is = absurd h
accepted_all holds (part ∷ parts) (w ∷ ws) h is = (
  ap (λ (s : Step). is_accepted s) h.0.0 ∙ both_left (is_accepted part) _ is,
  accepted_all holds parts ws h.1 (both_right (is_accepted part) _ is),
)

accepted_at : OnceAccepted → (pieces : List (List ℕ)) (w : SubmissionRun) → IsRunOf pieces w → HasAccepted w → IsAccepted pieces w
accepted_at law pieces w h is are =
    let end : (job : ℕ) × (w.step ≡ Ended (Accepted job)) = accepted_end w.step is in
    subst (λ (v : SubmissionRun). (v.service.closes ≡ joined pieces ∷ []) × (v.service.prints ≡ true)) (sym h.is)
    (law pieces h.holds h.given h.prints h.events (Accepted end.0) are (ap (λ (v : SubmissionRun). v.step) (sym h.is) ∙ end.1) refl)

pub accepted_each : OnceAccepted → (w : JobRun) → IsGood w → all_accepted w.progress ≡ true → Pairs IsAccepted w.documents w.submissions
accepted_each law w good is =
    pairs_map_all IsRunOf IsAccepted HasAccepted w.documents w.submissions (accepted_at law) good.reached
    (accepted_all w.progress.holds w.progress.parts w.submissions good.agrees is)
