-- Laws on what a queue shows.
use Rattle.std.proofs.Common.{◌≡◌, ℕ, Bool, true, false, ◌&&◌, cond, List, [], ◌∷◌, Option, None, refl, ap, sym, ◌∙◌}
use Rattle.std.specs.Prelude.{filter, is_some}
use Rattle.client_standing.specs.ClientStanding.{ClientStanding, sees_all}
use Rattle.command_lines.specs.Replies.{queue_text}
use Rattle.job_table.specs.Attempts.{busy_of}
use Rattle.spool_types.specs.State.{State}
use Rattle.spool_types.specs.declared.rows.QueueRow.{QueueRow}
use Rattle.queue_sayings.specs.QueueSayings.{has_spoken, has_spoken_at, is_lasting, shown_message, shown_queue_line, shown_reasons, shown_row}

pub silent : (c : ClientStanding) (s : State) (q : QueueRow) → busy_of s q.name ≡ None → shown_queue_line c s q ≡ queue_text false (record q { reasons = filter is_lasting q.reasons; message = [] })
silent c s q idle = ap (λ (o : Option ℕ). queue_text (is_some o) (shown_row c (has_spoken_at s o) q)) idle

-- The message is hidden, whether an attempt has spoken or not.
hidden : (spoken sees : Bool) (message : List ℕ) → sees ≡ false → cond (spoken && sees) message [] ≡ []
hidden true sees message none = ap (λ (b : Bool). cond b message []) none
hidden false sees message none = refl

pub same_line : (c : ClientStanding) (s : State) (q : QueueRow) (message : List ℕ) → sees_all c ≡ false → shown_queue_line c s (record q { message = message }) ≡ shown_queue_line c s q
same_line c s q message none =
    let spoken = has_spoken s q.name in
    let line : List ℕ → List ℕ = λ shown. queue_text (is_some (busy_of s q.name)) (record q { reasons = shown_reasons spoken q.reasons; message = shown }) in
    ap line (hidden spoken (sees_all c) message none ∙ sym (hidden spoken (sees_all c) q.message none))

pub everything : (c : ClientStanding) (message : List ℕ) → sees_all c ≡ true → shown_message c true message ≡ message
everything c message sees = ap (λ (b : Bool). cond b message []) sees

filtered_twice : (p : List ℕ → Bool) (xs : List (List ℕ)) → filter p (filter p xs) ≡ filter p xs
filtered_twice p [] = refl
filtered_twice p (x ∷ xs) =
    (elim (p x) as (λ b. p x ≡ b → filter p (cond b (x ∷ filter p xs) (filter p xs)) ≡ cond b (x ∷ filter p xs) (filter p xs)) [
      | true ↦ λ is. ap (λ (b : Bool). cond b (x ∷ filter p (filter p xs)) (filter p (filter p xs))) is ∙ ap (λ (ys : List (List ℕ)). x ∷ ys) (filtered_twice p xs)
      | false ↦ λ is. filtered_twice p xs
    ]) refl

pub lasting : (spoken : Bool) (reasons : List (List ℕ)) → filter is_lasting (shown_reasons spoken reasons) ≡ filter is_lasting reasons
lasting true reasons = refl
lasting false reasons = filtered_twice is_lasting reasons
