-- Lives of a spool, in order.
use Rattle.std.proofs.Common.{◌≡◌, ⊎_elim, ℕ, ◌+◌, ◌-◌, List, [], ◌∷◌, ◌++◌, take, drop, refl, sym, subst, ap, ◌∙◌, arith, append_assoc}
use Rattle.std.proofs.Math.Seq.{take-add}
use Rattle.std.proofs.lemmas.List.{append-nil}
use Rattle.spool_types.specs.declared.event.Event.{Event}
use Rattle.spool_types.specs.declared.event.Event.TheVariants.{Reopen}
use Rattle.spool_types.specs.declared.version.Version.{Version}
use Rattle.spool_types.specs.State.{State, nothing_in}
use Rattle.job_table.specs.EventFold.{after_one, after_all}
use Rattle.job_table.specs.Legal.{IsLegal}
use Rattle.spool_core.specs.Driving.{documents_after}
use Rattle.spool_core.specs.Image.{HasTable, documents_after_one}
use Rattle.spool_core.specs.SpoolLives.{Life, KeepsAcknowledged, next_table, next_documents, after_lives, documents_after_lives, history_of, later_events}
use Rattle.spool_core.proofs.DriveLaws.{documents_after-append}

after_all-append : (s : State) (es ds : List Event) → after_all s (es ++ ds) ≡ after_all (after_all s es) ds
after_all-append s [] ds = refl
after_all-append s (e ∷ es) ds = after_all-append (after_one s e) es ds

pub one_history : (s : State) (lives : List Life) → after_lives s lives ≡ after_all s (history_of lives)
one_history s [] = refl
one_history s (l ∷ ls) = one_history (next_table s l) ls ∙ sym (after_all-append s (take l.left l.events) (Reopen ∷ history_of ls))

-- An opening sends nothing.
reopen_sends : (s : State) (documents : ℕ → List ℕ) → documents_after_one s documents Reopen ≡ documents
reopen_sends s documents = λ i j. append-nil (documents j) i

pub one_history_sends : (s : State) (documents : ℕ → List ℕ) (lives : List Life) → documents_after_lives s documents lives ≡ documents_after s documents (history_of lives)
one_history_sends s documents [] = refl
one_history_sends s documents (l ∷ ls) =
    let left = take l.left l.events in
    one_history_sends (next_table s l) (next_documents s documents l) ls
    ∙ ap (λ (ds : ℕ → List ℕ). documents_after (next_table s l) ds (history_of ls)) (sym (reopen_sends (after_all s left) (next_documents s documents l)))
    ∙ sym (documents_after-append s documents left (Reopen ∷ history_of ls))

-- The table of an image is legal, because the empty table is, and so is each table that results from events.
pub legal_found : ((v : Version) → IsLegal (nothing_in v)) → ((s : State) (events : List Event) → IsLegal s → IsLegal (after_all s events)) → (s : State) (image : List ℕ) → HasTable s image → IsLegal s
legal_found begins stays s image has =
    subst IsLegal (sym has.history.table)
    (stays has.history.start has.history.events (⊎_elim (λ none. subst IsLegal (sym none.1) (begins has.version)) (λ listed. listed.0.legal) has.history.stand))

history_splits : (l : Life) (ls : List Life) → KeepsAcknowledged l → history_of (l ∷ ls) ≡ take l.acknowledged l.events ++ later_events l ls
history_splits l ls keeps =
    let all : l.left ≡ l.acknowledged + (l.left - l.acknowledged) = omega (arith, keeps) in
    let first : take l.left l.events ≡ take l.acknowledged l.events ++ take (l.left - l.acknowledged) (drop l.acknowledged l.events) =
    ap (λ (n : ℕ). take n l.events) all ∙ take-add l.acknowledged (l.left - l.acknowledged) l.events in
    ap (λ (es : List Event). es ++ Reopen ∷ history_of ls) first
    ∙ append_assoc (take l.acknowledged l.events) (take (l.left - l.acknowledged) (drop l.acknowledged l.events)) (Reopen ∷ history_of ls)

-- The table after all lives is one after the acknowledged events of the first life.
pub after_acknowledged : (s : State) (l : Life) (ls : List Life) → KeepsAcknowledged l
    → after_lives s (l ∷ ls) ≡ after_all (after_all s (take l.acknowledged l.events)) (later_events l ls)
after_acknowledged s l ls keeps =
    one_history s (l ∷ ls) ∙ ap (after_all s) (history_splits l ls keeps) ∙ after_all-append s (take l.acknowledged l.events) (later_events l ls)

-- The same holds for the table after further events.
pub further : (s : State) (l : Life) (ls : List Life) (more : List Event) → KeepsAcknowledged l
    → after_all (after_lives s (l ∷ ls)) more ≡ after_all (after_all s (take l.acknowledged l.events)) (later_events l ls ++ more)
further s l ls more keeps =
    ap (λ (t : State). after_all t more) (after_acknowledged s l ls keeps)
    ∙ sym (after_all-append (after_all s (take l.acknowledged l.events)) (later_events l ls) more)
