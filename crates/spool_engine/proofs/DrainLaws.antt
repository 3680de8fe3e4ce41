-- The number of rounds of a drain, and its reply.
use Rattle.std.proofs.Common.{◌≡◌, ℕ, zero, suc, ◌+◌, ◌<◌, List, [], ◌∷◌, ◌++◌, length, refl, ap, sym, ◌∙◌, subst, arith, true, false, Bool, Result, Ok, Err}
use Rattle.print_rounds.specs.RunStates.{RunState}
use Rattle.print_rounds.specs.declared.outcome.Round.{Round}
use Rattle.print_rounds.specs.declared.outcome.RoundFault.{RoundFault}
use Rattle.spool_engine.specs.Script.{round_text, drain_text}
use Rattle.spool_engine.specs.EventSteps.{Setting}
use Rattle.spool_engine.specs.EngineRounds.{Ran, IsRan, AreRan, AreAll, AreRun, IsRest, is_last, results_of, counts_in, with_counts, rounds_run, line_told, round_line, drain_line}

-- No round is idle or has a fault, so others follow.
abbrev pub AreBusy : {D : Type 0} → List (Ran D) → Type 0
AreBusy [] = Unit {0}
AreBusy (r ∷ rs) = (is_last r.result ≡ false) × AreBusy rs

pub ran_more : {D : Type 0} (v : Setting D) (s m : RunState D) (rs : List (Ran D)) (r : Ran D) → AreRan v s rs m → IsRan v m r → AreRan v s (rs ++ r ∷ []) r.next
ran_more v s m [] r h k = (subst (λ x. IsRan v x r) h k, refl)
ran_more v s m (q ∷ rs) r h k = (h.0, ran_more v q.next m rs r h.1 k)

pub busy_more : {D : Type 0} (rs : List (Ran D)) (r : Ran D) → AreBusy rs → is_last r.result ≡ false → AreBusy (rs ++ r ∷ [])
busy_more [] r h is = (is, tt)
busy_more (q ∷ rs) r h is = (h.0, busy_more rs r h.1 is)

pub length_more : {X : Type 0} (xs : List X) (x : X) → length (xs ++ x ∷ []) ≡ length xs + 1
length_more [] x = refl
length_more (y ∷ xs) x = omega (arith, length_more xs x)

rest_as : (b c : Bool) (rs : List (Result Round RoundFault)) (Rest : Type 0) → b ≡ c → IsRest c rs Rest → IsRest b rs Rest
rest_as b c rs Rest e h = subst (λ x. IsRest x rs Rest) (sym e) h

-- Their number is the greatest allowed.
pub all_at : {D : Type 0} (n : ℕ) (rs : List (Ran D)) → AreBusy rs → length rs ≡ n → AreAll n (results_of rs)
all_at zero [] h e = refl
all_at zero (r ∷ rs) h e = absurd (omega (arith, e))
all_at (suc n) [] h e = absurd (omega (arith, e))
all_at (suc n) (r ∷ rs) h e = rest_as (is_last r.result) false (results_of rs) (AreAll n (results_of rs)) h.0 (all_at n rs h.1 (omega (arith, e)))

-- The last round ends the drain.
pub all_last : {D : Type 0} (n : ℕ) (rs : List (Ran D)) (r : Ran D) → AreBusy rs → length rs < n → is_last r.result ≡ true → AreAll n (results_of (rs ++ r ∷ []))
all_last zero rs r h less is = absurd (omega (arith, less))
all_last (suc n) [] r h less is = rest_as (is_last r.result) true [] (AreAll n []) is refl
all_last (suc n) (q ∷ rs) r h less is = rest_as (is_last q.result) false (results_of (rs ++ r ∷ [])) (AreAll n (results_of (rs ++ r ∷ []))) h.0 (all_last n rs r h.1 (omega (arith, less)) is)

-- ## Their number

abbrev ok_or : {X E : Type 0} → X → Result X E → X
ok_or d (Ok x) = x
ok_or d (Err f) = d

one_more : (q : Result (List Round) RoundFault) (r : Result Round RoundFault) (n : ℕ) → is_last r ≡ false → rounds_run q ≡ Ok n → rounds_run (with_counts r q) ≡ Ok (suc n)
one_more (Ok rounds) (Ok round) n is h = ap (λ k. Ok (suc (ok_or 0 k))) h
one_more (Err fault) (Ok round) n is h = cc
one_more q (Err fault) n is h = cc

fault_behind : (q : Result (List Round) RoundFault) (r : Result Round RoundFault) (f : RoundFault) → is_last r ≡ false → q ≡ Err f → with_counts r q ≡ Err f
fault_behind q (Ok round) f is h = ap (with_counts (Ok round)) h
fault_behind q (Err fault) f is h = cc

-- All rounds are busy.
pub run_busy : {D : Type 0} (rs : List (Ran D)) → AreBusy rs → rounds_run (counts_in (results_of rs)) ≡ Ok (length rs)
run_busy [] h = refl
run_busy (r ∷ rs) h = one_more (counts_in (results_of rs)) r.result (length rs) h.0 (run_busy rs h.1)

-- An idle round follows.
pub run_more : {D : Type 0} (rs : List (Ran D)) (r : Ran D) (round : Round) → AreBusy rs → r.result ≡ Ok round → rounds_run (counts_in (results_of (rs ++ r ∷ []))) ≡ Ok (suc (length rs))
run_more [] r round h is = ap (λ q. rounds_run (with_counts q (Ok []))) is
run_more (q ∷ rs) r round h is = one_more (counts_in (results_of (rs ++ r ∷ []))) q.result (suc (length rs)) h.0 (run_more rs r round h.1 is)

-- A round with a fault follows.
pub counts_fault : {D : Type 0} (rs : List (Ran D)) (r : Ran D) (f : RoundFault) → AreBusy rs → r.result ≡ Err f → counts_in (results_of (rs ++ r ∷ [])) ≡ Err f
counts_fault [] r f h is = ap (λ q. with_counts q (Ok [])) is
counts_fault (q ∷ rs) r f h is = fault_behind (counts_in (results_of (rs ++ r ∷ []))) q.result f h.0 (counts_fault rs r f h.1 is)

-- ## Their reply

-- One round.
one_all : (b : Bool) → IsRest b [] (AreAll 0 [])
one_all true = refl
one_all false = refl

pub one_run : {D : Type 0} (v : Setting D) (s : RunState D) (r : Ran D) (reply : List ℕ) → IsRan v s r → reply ≡ line_told round_text (counts_in (r.result ∷ [])) → AreRun v 1 round_text s (r ∷ []) r.next reply
one_run v s r reply h is = record { each = (h, refl); all = one_all (is_last r.result); text = is }

pub round_told : (q : Result Round RoundFault) → line_told round_text (counts_in (q ∷ [])) ≡ round_line q
round_told (Ok round) = refl
round_told (Err fault) = refl

-- The rounds of a drain.
pub drain_told : (q : Result (List Round) RoundFault) → line_told drain_text q ≡ drain_line (rounds_run q)
drain_told (Ok rounds) = refl
drain_told (Err fault) = refl

-- A text that equals the line equals the reply, if they are equal.
pub as_told : (said reply line : List ℕ) → reply ≡ line → said ≡ line → said ≡ reply
as_told said reply line e h = h ∙ sym e
