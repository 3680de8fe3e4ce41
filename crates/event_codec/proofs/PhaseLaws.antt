-- A phase that is read has these bytes as its code, and the code of a phase is read as this phase.
use Rattle.std.proofs.Common.{◌≡◌, ℕ, ◌^◌, ◌<◌, Bool, true, eqb, List, ◌++◌, Ok, refl, ap, subst, ◌∙◌, arith, inl, inr}
use Rattle.std.specs.Int.{w8, w64, to_be_bytes}
use Rattle.std.proofs.lemmas.Bool.{eqb-true}
use Rattle.spool_types.specs.declared.phase.Hold.{Hold}
use Rattle.spool_types.specs.declared.phase.Hold.TheVariants.{Free, Indefinite, Until}
use Rattle.spool_types.specs.declared.phase.HoldReason.{HoldReason}
use Rattle.spool_types.specs.declared.phase.HoldReason.TheVariants.{Unspecified, Authentication, Backend}
use Rattle.spool_types.specs.declared.phase.AbortReason.{AbortReason}
use Rattle.spool_types.specs.declared.phase.AbortReason.TheVariants.{FilterFailed, BackendFailed, RetryLimit, AttemptLost, NoFilter}
use Rattle.spool_types.specs.declared.phase.Phase.{Phase}
use Rattle.spool_types.specs.declared.phase.Phase.TheVariants.{Incoming, Waiting, Processing, Completed, Canceled, Aborted}
use Rattle.spool_types.specs.Limits.{greatest_moment}
use Rattle.field_codec.specs.declared.fault.CodecFault.TheVariants.{Range}
use Rattle.event_codec.specs.Spelling.{flag_code, IsIn}
use Rattle.event_codec.specs.RowSpelling.{hold_reason_number, holding_code, abort_reason_number, waiting_code, phase_code, IsHolding, IsWaitingFor}
use Rattle.event_codec.specs.EventReading.{◌>>=◌, number_at, ranged_at, flag_at}
use Rattle.event_codec.specs.RowReading.{hold_reason_of, indefinite_at, until_moment_at, kind_of_holding, holding_at, abort_reason_of, incoming_at, waiting_at, processing_at, aborted_at, kind_of_phase, phase_at}
use Rattle.event_codec.proofs.FieldLaws.{IsBytes, bind_ok, done, ok_is, Takes, Takes-then, Reads, got, again-then, again-step, again-last, ok_as}
use Rattle.event_codec.proofs.FilterLaws.{Anything, chosen, refused, reads_byte}
use Rattle.event_codec.proofs.HoldLaws.{reads_flag, reads_moment}
use Rattle.event_codec.proofs.ExitLaws.{Byte, of_byte}
use Rattle.event_codec.proofs.EventLaws.{nested3, reads_stage_number}

-- ---- reasons

-- The value that a number was mapped to has that number.
is_number : {A : Type 0} (number : A → ℕ) (n k : ℕ) (q p : A) → eqb n k ≡ true → k ≡ number q → done q ≡ Ok p → n ≡ number p
is_number number n k q p e h same = eqb-true n k e ∙ h ∙ ap number (ok_is q p same)

hold_reason_ok : (n : ℕ) (p : HoldReason) → hold_reason_of n ≡ Ok p → n ≡ hold_reason_number p
unfolding hold_reason_of
hold_reason_ok n p e =
    elim (chosen (eqb n 0) (Ok Unspecified) _ (Ok p) e) [
      | inl h ↦ is_number hold_reason_number n 0 Unspecified p h.0 refl h.1
      | inr h ↦ elim (chosen (eqb n 1) (Ok Authentication) _ (Ok p) h.1) [
        | inl i ↦ is_number hold_reason_number n 1 Authentication p i.0 refl i.1
        | inr i ↦ elim (chosen (eqb n 2) (Ok Backend) _ (Ok p) i.1) [
          | inl j ↦ is_number hold_reason_number n 2 Backend p j.0 refl j.1
          | inr j ↦ absurd (refused Range p j.1)
        ]
      ]
    ]

hold_reason_again : (p : HoldReason) → hold_reason_of (hold_reason_number p) ≡ Ok p
unfolding hold_reason_of
hold_reason_again Unspecified = refl
hold_reason_again Authentication = refl
hold_reason_again Backend = refl

hold_reason_small : (p : HoldReason) → hold_reason_number p < 2 ^ 8
hold_reason_small Unspecified = omega arith
hold_reason_small Authentication = omega arith
hold_reason_small Backend = omega arith

abort_reason_ok : (n : ℕ) (p : AbortReason) → abort_reason_of n ≡ Ok p → n ≡ abort_reason_number p
unfolding abort_reason_of
abort_reason_ok n p e =
    elim (chosen (eqb n 0) (Ok FilterFailed) _ (Ok p) e) [
      | inl h ↦ is_number abort_reason_number n 0 FilterFailed p h.0 refl h.1
      | inr h ↦ elim (chosen (eqb n 1) (Ok BackendFailed) _ (Ok p) h.1) [
        | inl i ↦ is_number abort_reason_number n 1 BackendFailed p i.0 refl i.1
        | inr i ↦ elim (chosen (eqb n 2) (Ok RetryLimit) _ (Ok p) i.1) [
          | inl j ↦ is_number abort_reason_number n 2 RetryLimit p j.0 refl j.1
          | inr j ↦ elim (chosen (eqb n 3) (Ok AttemptLost) _ (Ok p) j.1) [
            | inl k ↦ is_number abort_reason_number n 3 AttemptLost p k.0 refl k.1
            | inr k ↦ elim (chosen (eqb n 4) (Ok NoFilter) _ (Ok p) k.1) [
              | inl l ↦ is_number abort_reason_number n 4 NoFilter p l.0 refl l.1
              | inr l ↦ absurd (refused Range p l.1)
            ]
          ]
        ]
      ]
    ]

abort_reason_again : (p : AbortReason) → abort_reason_of (abort_reason_number p) ≡ Ok p
unfolding abort_reason_of
abort_reason_again FilterFailed = refl
abort_reason_again BackendFailed = refl
abort_reason_again RetryLimit = refl
abort_reason_again AttemptLost = refl
abort_reason_again NoFilter = refl

abort_reason_small : (p : AbortReason) → abort_reason_number p < 2 ^ 8
abort_reason_small FilterFailed = omega arith
abort_reason_small BackendFailed = omega arith
abort_reason_small RetryLimit = omega arith
abort_reason_small AttemptLost = omega arith
abort_reason_small NoFilter = omega arith

-- ---- holds

record Held (bytes : List ℕ) (x : Hold) (rest : List ℕ) : Type 0 where
  taken : Takes bytes (holding_code x) rest
  legal : IsHolding x

-- The hold that was read is the expected one.
held_as : (bytes : List ℕ) (y : Hold) (after : List ℕ) (x : Hold) (rest : List ℕ) → done {A = Hold × List ℕ} (y, after) ≡ Ok (x, rest) → Held bytes y after → Held bytes x rest
held_as bytes y after x rest same this = ok_as (λ (z : Hold × List ℕ). Held bytes z.0 z.1) (y, after) (x, rest) same this

indefinite_take : (bytes after : List ℕ) (x : Hold) (rest : List ℕ) → Takes bytes (to_be_bytes w8 1) after → indefinite_at after ≡ Ok (x, rest) → Held bytes x rest
unfolding indefinite_at
indefinite_take bytes after x rest t e =
    let a = got (number_at w8) (to_be_bytes w8) Byte reads_byte after (λ n. hold_reason_of n.0 >>= λ reason. Ok (Indefinite reason, n.1)) (x, rest) t.rest_fits e in
    let c = bind_ok (hold_reason_of a.value) (λ reason. Ok (Indefinite reason, a.rest)) (x, rest) a.then in
    let taken : Takes after (to_be_bytes w8 (hold_reason_number c.value)) a.rest = subst (λ (n : ℕ). Takes after (to_be_bytes w8 n) a.rest) (hold_reason_ok a.value c.value c.was) a.taken in
    held_as bytes (Indefinite c.value) a.rest x rest c.then (record { taken = Takes-then bytes (to_be_bytes w8 1) after (to_be_bytes w8 (hold_reason_number c.value)) a.rest t taken; legal = tt })

until_take : (bytes after : List ℕ) (x : Hold) (rest : List ℕ) → Takes bytes (to_be_bytes w8 2) after → until_moment_at after ≡ Ok (x, rest) → Held bytes x rest
unfolding until_moment_at
until_take bytes after x rest t e =
    let a = got (ranged_at 0 greatest_moment w64) (to_be_bytes w64) (IsIn 0 greatest_moment) reads_moment after (λ moment. Ok (Until moment.0, moment.1)) (x, rest) t.rest_fits e in
    held_as bytes (Until a.value) a.rest x rest a.then (record { taken = Takes-then bytes (to_be_bytes w8 2) after (to_be_bytes w64 a.value) a.rest t a.taken; legal = a.legal })

kind_of_hold_take : (bytes : List ℕ) (kind : ℕ) (after : List ℕ) (x : Hold) (rest : List ℕ) → Takes bytes (to_be_bytes w8 kind) after → kind_of_holding kind after ≡ Ok (x, rest) → Held bytes x rest
unfolding kind_of_holding
kind_of_hold_take bytes kind after x rest t e =
    elim (chosen (eqb kind 0) (Ok (Free, after)) _ (Ok (x, rest)) e) [
      | inl h ↦ held_as bytes Free after x rest h.1 (record { taken = of_byte bytes kind 0 after t h.0; legal = tt })
      | inr h ↦ elim (chosen (eqb kind 1) (indefinite_at after) _ (Ok (x, rest)) h.1) [
        | inl i ↦ indefinite_take bytes after x rest (of_byte bytes kind 1 after t i.0) i.1
        | inr i ↦ elim (chosen (eqb kind 2) (until_moment_at after) _ (Ok (x, rest)) i.1) [
          | inl j ↦ until_take bytes after x rest (of_byte bytes kind 2 after t j.0) j.1
          | inr j ↦ absurd (refused Range (x, rest) j.1)
        ]
      ]
    ]

holding_takes : (bytes : List ℕ) (x : Hold) (rest : List ℕ) → IsBytes bytes → holding_at bytes ≡ Ok (x, rest) → Takes bytes (holding_code x) rest × IsHolding x
unfolding holding_at
holding_takes bytes x rest fits e =
    let a = got (number_at w8) (to_be_bytes w8) Byte reads_byte bytes (λ kind. kind_of_holding kind.0 kind.1) (x, rest) fits e in
    let d = kind_of_hold_take bytes a.value a.rest x rest a.taken a.then in
    (d.taken, d.legal)

indefinite_again : (reason : HoldReason) (rest : List ℕ) → indefinite_at (to_be_bytes w8 (hold_reason_number reason) ++ rest) ≡ Ok (Indefinite reason, rest)
unfolding indefinite_at
indefinite_again reason rest =
    again-last (number_at w8) (to_be_bytes w8) Byte reads_byte (hold_reason_number reason) rest (λ n. hold_reason_of n.0 >>= λ r. Ok (Indefinite r, n.1)) (hold_reason_small reason)
    ∙ rw (hold_reason_again reason) refl

until_again : (m : ℕ) (rest : List ℕ) → IsIn 0 greatest_moment m → until_moment_at (to_be_bytes w64 m ++ rest) ≡ Ok (Until m, rest)
unfolding until_moment_at
until_again m rest h = again-last (ranged_at 0 greatest_moment w64) (to_be_bytes w64) (IsIn 0 greatest_moment) reads_moment m rest (λ moment. Ok (Until moment.0, moment.1)) h

holding_again : (x : Hold) (rest : List ℕ) → IsHolding x → holding_at (holding_code x ++ rest) ≡ Ok (x, rest)
unfolding holding_at kind_of_holding
holding_again Free rest h = again-last (number_at w8) (to_be_bytes w8) Byte reads_byte 0 rest (λ kind. kind_of_holding kind.0 kind.1) (omega arith)
holding_again (Indefinite reason) rest h =
    again-then (number_at w8) (to_be_bytes w8) Byte reads_byte 1 (to_be_bytes w8 (hold_reason_number reason)) rest (λ kind. kind_of_holding kind.0 kind.1) (omega arith)
    ∙ indefinite_again reason rest
holding_again (Until m) rest h =
    again-then (number_at w8) (to_be_bytes w8) Byte reads_byte 2 (to_be_bytes w64 m) rest (λ kind. kind_of_holding kind.0 kind.1) (omega arith)
    ∙ until_again m rest h

reads_holding : Reads holding_at holding_code IsHolding
reads_holding = record { takes = holding_takes; again = holding_again }

-- ---- phases

-- The attempt and the stages of a processing job.
pub record IsNewest (attempts stages attempt stage of_all : ℕ) : Type 0 where
  pub newest : attempt ≡ attempts
  pub stage_is : IsIn 1 16 stage
  pub all : of_all ≡ stages

abbrev pub IsPhaseFor : ℕ → ℕ → Phase → Type 0
IsPhaseFor attempts stages (Incoming hold) = IsHolding hold
IsPhaseFor attempts stages (Waiting hold not_before first) = IsWaitingFor hold not_before
IsPhaseFor attempts stages (Processing attempt stage of_all) = IsNewest attempts stages attempt stage of_all
IsPhaseFor attempts stages Completed = Unit {0}
IsPhaseFor attempts stages Canceled = Unit {0}
IsPhaseFor attempts stages (Aborted reason) = Unit {0}

record Phased (attempts stages : ℕ) (bytes : List ℕ) (x : Phase) (rest : List ℕ) : Type 0 where
  taken : Takes bytes (phase_code x) rest
  legal : IsPhaseFor attempts stages x

phased_as : (a n : ℕ) (bytes : List ℕ) (y : Phase) (after : List ℕ) (x : Phase) (rest : List ℕ) → done {A = Phase × List ℕ} (y, after) ≡ Ok (x, rest) → Phased a n bytes y after → Phased a n bytes x rest
phased_as a n bytes y after x rest same this = ok_as (λ (z : Phase × List ℕ). Phased a n bytes z.0 z.1) (y, after) (x, rest) same this

incoming_take : (a n : ℕ) (bytes after : List ℕ) (x : Phase) (rest : List ℕ) → Takes bytes (to_be_bytes w8 0) after → incoming_at after ≡ Ok (x, rest) → Phased a n bytes x rest
unfolding incoming_at
incoming_take a n bytes after x rest t e =
    let h = got holding_at holding_code IsHolding reads_holding after (λ hold. Ok (Incoming hold.0, hold.1)) (x, rest) t.rest_fits e in
    phased_as a n bytes (Incoming h.value) h.rest x rest h.then (record { taken = Takes-then bytes (to_be_bytes w8 0) after (holding_code h.value) h.rest t h.taken; legal = h.legal })

waiting_take : (a n : ℕ) (bytes after : List ℕ) (x : Phase) (rest : List ℕ) → Takes bytes (to_be_bytes w8 1) after → waiting_at after ≡ Ok (x, rest) → Phased a n bytes x rest
unfolding waiting_at
waiting_take a n bytes after x rest t e =
    let h = got holding_at holding_code IsHolding reads_holding after _ (x, rest) t.rest_fits e in
    let m = got (ranged_at 0 greatest_moment w64) (to_be_bytes w64) (IsIn 0 greatest_moment) reads_moment h.rest _ (x, rest) h.taken.rest_fits h.then in
    let f = got flag_at flag_code Anything reads_flag m.rest _ (x, rest) m.taken.rest_fits m.then in
    let two = Takes-then after (holding_code h.value) h.rest (to_be_bytes w64 m.value) m.rest h.taken m.taken in
    let all = Takes-then after (holding_code h.value ++ to_be_bytes w64 m.value) m.rest (flag_code f.value) f.rest two f.taken in
    phased_as a n bytes (Waiting h.value m.value f.value) f.rest x rest f.then (record {
      taken = Takes-then bytes (to_be_bytes w8 1) after (waiting_code h.value m.value f.value) f.rest t all;
      legal = record { held = h.legal; moment = m.legal };
    })

processing_take : (a n : ℕ) (bytes after : List ℕ) (x : Phase) (rest : List ℕ) → Takes bytes (to_be_bytes w8 2) after → processing_at a n after ≡ Ok (x, rest) → Phased a n bytes x rest
unfolding processing_at
processing_take a n bytes after x rest t e =
    let s = got (ranged_at 1 16 w8) (to_be_bytes w8) (IsIn 1 16) reads_stage_number after (λ stage. Ok (Processing a stage.0 n, stage.1)) (x, rest) t.rest_fits e in
    phased_as a n bytes (Processing a s.value n) s.rest x rest s.then (record {
      taken = Takes-then bytes (to_be_bytes w8 2) after (to_be_bytes w8 s.value) s.rest t s.taken;
      legal = record { newest = refl; stage_is = s.legal; all = refl };
    })

aborted_take : (a n : ℕ) (bytes after : List ℕ) (x : Phase) (rest : List ℕ) → Takes bytes (to_be_bytes w8 5) after → aborted_at after ≡ Ok (x, rest) → Phased a n bytes x rest
unfolding aborted_at
aborted_take a n bytes after x rest t e =
    let b = got (number_at w8) (to_be_bytes w8) Byte reads_byte after (λ m. abort_reason_of m.0 >>= λ reason. Ok (Aborted reason, m.1)) (x, rest) t.rest_fits e in
    let c = bind_ok (abort_reason_of b.value) (λ reason. Ok (Aborted reason, b.rest)) (x, rest) b.then in
    let taken : Takes after (to_be_bytes w8 (abort_reason_number c.value)) b.rest = subst (λ (m : ℕ). Takes after (to_be_bytes w8 m) b.rest) (abort_reason_ok b.value c.value c.was) b.taken in
    phased_as a n bytes (Aborted c.value) b.rest x rest c.then (record { taken = Takes-then bytes (to_be_bytes w8 5) after (to_be_bytes w8 (abort_reason_number c.value)) b.rest t taken; legal = tt })

kind_of_phase_take : (a n : ℕ) (bytes : List ℕ) (kind : ℕ) (after : List ℕ) (x : Phase) (rest : List ℕ) → Takes bytes (to_be_bytes w8 kind) after → kind_of_phase a n kind after ≡ Ok (x, rest) → Phased a n bytes x rest
unfolding kind_of_phase
kind_of_phase_take a n bytes kind after x rest t e =
    elim (chosen (eqb kind 0) (incoming_at after) _ (Ok (x, rest)) e) [
      | inl h ↦ incoming_take a n bytes after x rest (of_byte bytes kind 0 after t h.0) h.1
      | inr h ↦ elim (chosen (eqb kind 1) (waiting_at after) _ (Ok (x, rest)) h.1) [
        | inl i ↦ waiting_take a n bytes after x rest (of_byte bytes kind 1 after t i.0) i.1
        | inr i ↦ elim (chosen (eqb kind 2) (processing_at a n after) _ (Ok (x, rest)) i.1) [
          | inl j ↦ processing_take a n bytes after x rest (of_byte bytes kind 2 after t j.0) j.1
          | inr j ↦ elim (chosen (eqb kind 3) (Ok (Completed, after)) _ (Ok (x, rest)) j.1) [
            | inl k ↦ phased_as a n bytes Completed after x rest k.1 (record { taken = of_byte bytes kind 3 after t k.0; legal = tt })
            | inr k ↦ elim (chosen (eqb kind 4) (Ok (Canceled, after)) _ (Ok (x, rest)) k.1) [
              | inl l ↦ phased_as a n bytes Canceled after x rest l.1 (record { taken = of_byte bytes kind 4 after t l.0; legal = tt })
              | inr l ↦ elim (chosen (eqb kind 5) (aborted_at after) _ (Ok (x, rest)) l.1) [
                | inl o ↦ aborted_take a n bytes after x rest (of_byte bytes kind 5 after t o.0) o.1
                | inr o ↦ absurd (refused Range (x, rest) o.1)
              ]
            ]
          ]
        ]
      ]
    ]

phase_takes : (a n : ℕ) (bytes : List ℕ) (x : Phase) (rest : List ℕ) → IsBytes bytes → phase_at a n bytes ≡ Ok (x, rest) → Takes bytes (phase_code x) rest × IsPhaseFor a n x
unfolding phase_at
phase_takes a n bytes x rest fits e =
    let b = got (number_at w8) (to_be_bytes w8) Byte reads_byte bytes (λ kind. kind_of_phase a n kind.0 kind.1) (x, rest) fits e in
    let d = kind_of_phase_take a n bytes b.value b.rest x rest b.taken b.then in
    (d.taken, d.legal)

incoming_again : (hold : Hold) (rest : List ℕ) → IsHolding hold → incoming_at (holding_code hold ++ rest) ≡ Ok (Incoming hold, rest)
unfolding incoming_at
incoming_again hold rest h = again-last holding_at holding_code IsHolding reads_holding hold rest _ h

waiting_again : (hold : Hold) (m : ℕ) (first : Bool) (rest : List ℕ) → IsWaitingFor hold m → waiting_at (waiting_code hold m first ++ rest) ≡ Ok (Waiting hold m first, rest)
unfolding waiting_at
waiting_again hold m first rest h =
    ap (λ (t : List ℕ). waiting_at (t ++ rest)) (nested3 (holding_code hold) (to_be_bytes w64 m) (flag_code first)) ∙
    again-step holding_at holding_code IsHolding reads_holding hold (to_be_bytes w64 m ++ flag_code first) rest _ _ h.held
    (again-step (ranged_at 0 greatest_moment w64) (to_be_bytes w64) (IsIn 0 greatest_moment) reads_moment m (flag_code first) rest _ _ h.moment
    (again-last flag_at flag_code Anything reads_flag first rest _ tt))

processing_again : (a n attempt stage of_all : ℕ) (rest : List ℕ) → IsNewest a n attempt stage of_all → processing_at a n (to_be_bytes w8 stage ++ rest) ≡ Ok (Processing attempt stage of_all, rest)
unfolding processing_at
processing_again a n attempt stage of_all rest h =
    again-last (ranged_at 1 16 w8) (to_be_bytes w8) (IsIn 1 16) reads_stage_number stage rest (λ s. Ok (Processing a s.0 n, s.1)) h.stage_is
    ∙ rw (h.newest, h.all) refl

aborted_again : (reason : AbortReason) (rest : List ℕ) → aborted_at (to_be_bytes w8 (abort_reason_number reason) ++ rest) ≡ Ok (Aborted reason, rest)
unfolding aborted_at
aborted_again reason rest =
    again-last (number_at w8) (to_be_bytes w8) Byte reads_byte (abort_reason_number reason) rest (λ n. abort_reason_of n.0 >>= λ r. Ok (Aborted r, n.1)) (abort_reason_small reason)
    ∙ rw (abort_reason_again reason) refl

phase_again : (a n : ℕ) (x : Phase) (rest : List ℕ) → IsPhaseFor a n x → phase_at a n (phase_code x ++ rest) ≡ Ok (x, rest)
unfolding phase_at kind_of_phase
phase_again a n (Incoming hold) rest h =
    again-then (number_at w8) (to_be_bytes w8) Byte reads_byte 0 (holding_code hold) rest (λ kind. kind_of_phase a n kind.0 kind.1) (omega arith)
    ∙ incoming_again hold rest h
phase_again a n (Waiting hold m first) rest h =
    again-then (number_at w8) (to_be_bytes w8) Byte reads_byte 1 (waiting_code hold m first) rest (λ kind. kind_of_phase a n kind.0 kind.1) (omega arith)
    ∙ waiting_again hold m first rest h
phase_again a n (Processing attempt stage of_all) rest h =
    again-then (number_at w8) (to_be_bytes w8) Byte reads_byte 2 (to_be_bytes w8 stage) rest (λ kind. kind_of_phase a n kind.0 kind.1) (omega arith)
    ∙ processing_again a n attempt stage of_all rest h
phase_again a n Completed rest h = again-last (number_at w8) (to_be_bytes w8) Byte reads_byte 3 rest (λ kind. kind_of_phase a n kind.0 kind.1) (omega arith)
phase_again a n Canceled rest h = again-last (number_at w8) (to_be_bytes w8) Byte reads_byte 4 rest (λ kind. kind_of_phase a n kind.0 kind.1) (omega arith)
phase_again a n (Aborted reason) rest h =
    again-then (number_at w8) (to_be_bytes w8) Byte reads_byte 5 (to_be_bytes w8 (abort_reason_number reason)) rest (λ kind. kind_of_phase a n kind.0 kind.1) (omega arith)
    ∙ aborted_again reason rest

pub reads_phase : (a n : ℕ) → Reads (phase_at a n) phase_code (IsPhaseFor a n)
reads_phase a n = record { takes = phase_takes a n; again = phase_again a n }
