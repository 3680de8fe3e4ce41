-- Nothing of a document is left to read only if its end was read.
use Rattle.std.proofs.Common.{◌≡◌, ℕ, ◌<◌, ◌⊎◌, inl, inr, Bool, true, false, cond, not, ◌&&◌, ◌==◌, ◌+◌, refl, ap, sym, ◌∙◌, subst, arith, List, Option, None, Some}
use Rattle.front_submission.specs.declared.step.Step.{Step}
use Rattle.front_submission.specs.declared.step.Step.TheVariants.{Creating, Finding, Clearing, Reading, Sending, Measuring, Holding, Closing, Checking, Canceling, Ended}
use Rattle.front_submission.specs.declared.reply.Own.{Own}
use Rattle.front_submission.specs.declared.reply.Reply.{Reply}
use Rattle.front_submission.specs.declared.reply.Reply.TheVariants.{Created, Sent, Closed, Done, Jobs, Job, Gone, Later, NotIncoming, Denied, Unclear}
use Rattle.front_submission.specs.declared.reply.Shown.{Shown}
use Rattle.front_submission.specs.declared.reply.Shown.TheVariants.{Arriving, WasClosed, NoFilters, NeverClosed}
use Rattle.front_submission.specs.declared.step.Cause.{Cause}
use Rattle.front_submission.specs.SubmissionSteps.{heard, lost, deserted, unread, supplied, after_create, after_find, own_found, one_of, first_of, sent_first, sent_all, after_send, shown_sent, after_measure, after_cancel}
use Rattle.front_submission.specs.SubmissionSteps.{request}
use Rattle.front_submission.specs.declared.step.Request.TheVariants.{Read}
use Rattle.std.specs.Io.KnownBytes.{IsAtEnd}
use Rattle.spool_front.specs.DocumentPieces.{rest_of}
use Rattle.spool_front.specs.declared.document.Document.{Document}
use Rattle.spool_front.specs.Submissions.{IsAnswered, IsSupplied, is_behind}

either : (b : Bool) (x y : Step) → is_behind x ≡ false → is_behind y ≡ false → is_behind (cond b x y) ≡ false
either true x y p q = p
either false x y p q = q

created : (tries : ℕ) (reply : Reply) → is_behind (after_create tries reply) ≡ false
created tries Later = either (tries == 0) _ _ refl refl
created tries reply = refl

one : (own : Option Own) (another : Option ℕ) → is_behind (one_of own another) ≡ false
one own (Some another) = refl
one None None = refl
one (Some own) None = either (own.size == 0) _ _ refl refl

found : (reply : Reply) → is_behind (after_find reply) ≡ false
found (Jobs jobs) = one jobs.own jobs.another
found reply = refl

-- After a piece that is not the last one, something is left to read.
first : (job size piece new : ℕ) → is_behind (sent_first job size piece false new) ≡ false
first job size piece new = either (new == size + first_of piece) _ _ refl refl

sent : (job size piece tries : ℕ) (reply : Reply) → is_behind (after_send job size piece false tries reply) ≡ false
sent job size piece tries (Sent new) = either (new == size + piece) _ _ refl (first job size piece new)
sent job size piece tries Later = either (tries == 0) _ _ refl refl
sent job size piece tries reply = refl

shown : (job size piece : ℕ) (told : Shown) → is_behind (shown_sent job size piece false told) ≡ false
shown job size piece (Arriving new) = either (new == size) _ _ refl (either (new == size + piece) _ _ refl (first job size piece new))
shown job size piece told = refl

measured : (job size piece : ℕ) (reply : Reply) → is_behind (after_measure job size piece false reply) ≡ false
measured job size piece (Job told) = shown job size piece told
measured job size piece reply = refl

sent_behind : (job size piece : ℕ) (last : Bool) (tries : ℕ) (reply : Reply) → is_behind (after_send job size piece last tries reply) ≡ true → last ≡ true
sent_behind job size piece true tries reply h = refl
sent_behind job size piece false tries reply h = sym (sent job size piece tries reply) ∙ h

measured_behind : (job size piece : ℕ) (last : Bool) (reply : Reply) → is_behind (after_measure job size piece last reply) ≡ true → last ≡ true
measured_behind job size piece true reply h = refl
measured_behind job size piece false reply h = sym (measured job size piece reply) ∙ h

canceled : (job : ℕ) (cause : Cause) (reply : Reply) → is_behind (after_cancel job cause reply) ≡ false
canceled job cause Done = refl
canceled job cause reply = refl

pub heard_behind : (step : Step) (reply : Reply) → is_behind (heard step reply) ≡ true → is_behind step ≡ true
heard_behind (Creating tries) reply h = sym (created tries reply) ∙ h
heard_behind Finding reply h = sym (found reply) ∙ h
heard_behind (Sending job size piece last tries) reply h = sent_behind job size piece last tries reply h
heard_behind (Measuring job size piece last) reply h = measured_behind job size piece last reply h
heard_behind (Canceling job cause) reply h = sym (canceled job cause reply) ∙ h
heard_behind (Clearing job) reply h = h
heard_behind (Reading job size) reply h = h
heard_behind (Holding job size tries) reply h = refl
heard_behind (Closing job size tries again) reply h = refl
heard_behind (Checking job size) reply h = refl
heard_behind (Ended end) reply h = h

pub lost_behind : (step : Step) → is_behind (lost step) ≡ true → is_behind step ≡ true
lost_behind (Closing job size tries again) h = refl
lost_behind (Creating tries) h = h
lost_behind (Clearing job) h = h
lost_behind (Sending job size piece last tries) h = h
lost_behind step h = h

pub unread_behind : (step : Step) → is_behind (unread step) ≡ true → is_behind step ≡ true
unread_behind (Reading job size) h = h
unread_behind step h = h

pub deserted_behind : (step : Step) → is_behind (deserted step) ≡ true → is_behind step ≡ true
deserted_behind (Ended end) h = h
deserted_behind (Holding job size tries) h = refl
deserted_behind (Closing job size tries again) h = refl
deserted_behind (Checking job size) h = refl
deserted_behind (Measuring job size piece true) h = refl
deserted_behind (Measuring job size piece false) h = h
deserted_behind (Sending job size piece true tries) h = refl
deserted_behind (Sending job size piece false tries) h = h
deserted_behind (Canceling job cause) h = h
deserted_behind step h = h

-- The piece that was read is the last one, or has no bytes.
none_read : (job size piece : ℕ) (holds : Bool) → is_behind (supplied (Reading job size) piece false holds) ≡ true → piece ≡ 0
none_read job size piece holds h = grind arith

supplied_reading : (job size piece : ℕ) (last holds : Bool) → is_behind (supplied (Reading job size) piece last holds) ≡ true → (piece ≡ 0) ⊎ (last ≡ true)
supplied_reading job size piece true holds h = inr refl
supplied_reading job size piece false holds h = inl (none_read job size piece holds h)

pub supplied_behind : (step : Step) (piece : ℕ) (last holds : Bool) → is_behind (supplied step piece last holds) ≡ true
    → (is_behind step ≡ true) ⊎ ((piece ≡ 0) ⊎ (last ≡ true))
supplied_behind (Reading job size) piece last holds h = inr (supplied_reading job size piece last holds h)
supplied_behind step piece last holds h = inl h

pub answered_behind : (step next : Step) → IsAnswered step next → is_behind next ≡ true → is_behind step ≡ true
answered_behind step next (inl (reply, is)) h = heard_behind step reply (ap is_behind (sym is) ∙ h)
answered_behind step next (inr (inl is)) h = lost_behind step (ap is_behind (sym is) ∙ h)
answered_behind step next (inr (inr (inl is))) h = deserted_behind step (ap is_behind (sym is) ∙ h)
answered_behind step next (inr (inr (inr is))) h = lost_behind step (deserted_behind (lost step) (ap is_behind (sym is) ∙ h))

-- If a piece is read, something is left to read.
reads : (step : Step) (size : ℕ) → request step ≡ Read size → is_behind step ≡ true → ⊥
reads (Reading job at) size is h = cc
reads (Creating tries) size is h = cc
reads (Sending job at piece last tries) size is h = cc
reads (Measuring job at piece last) size is h = cc
reads (Holding job at tries) size is h = cc
reads (Closing job at tries again) size is h = cc
reads (Checking job at) size is h = cc
reads (Ended end) size is h = cc
reads step size is h = cc

pub read_behind : (P : Type 0) (step next : Step) (size count : ℕ) (last holds : Bool) → request step ≡ Read size → IsSupplied step count last holds next
    → (next ≡ unread step) ⊎ (count < 131071 → last ≡ true) → (next ≡ unread step) ⊎ (last ≡ true → P) → is_behind next ≡ true → P
read_behind P step next size count last holds reading (inr is) short at_end h = absurd (reads step size reading (unread_behind step (ap is_behind (sym is) ∙ h)))
read_behind P step next size count last holds reading (inl is) (inl unread_is) at_end h =
    absurd (reads step size reading (unread_behind step (ap is_behind (sym unread_is) ∙ h)))
read_behind P step next size count last holds reading (inl is) (inr short) (inl unread_is) h =
    absurd (reads step size reading (unread_behind step (ap is_behind (sym unread_is) ∙ h)))
read_behind P step next size count last holds reading (inl is) (inr short) (inr p) h =
    elim (supplied_behind step count last holds (ap is_behind (sym is) ∙ h)) [
      | inl behind ↦ absurd (reads step size reading behind)
      | inr (inl none) ↦ p (short (omega (arith, none)))
      | inr (inr ends) ↦ p ends
    ]

-- The same of a document and a step that are these.
pub moved : {S : Type 0} (left : S → Option (List ℕ)) (step next : Step) (document new : Document S) → step ≡ next → document ≡ new
    → (is_behind next ≡ true → IsAtEnd (rest_of (left new.source) new)) → is_behind step ≡ true → IsAtEnd (rest_of (left document.source) document)
moved {S} left step next document new same other h behind =
    subst (λ (d : Document S). IsAtEnd (rest_of (left d.source) d)) (sym other) (h (sym (ap is_behind same) ∙ behind))
