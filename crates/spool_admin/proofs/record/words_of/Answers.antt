-- One more word is one more line.
use Rattle.std.proofs.Common.{◌≡◌, ◌∙◌, ◌++◌, ◌∷◌, ◌+◌, ◌<◌, List, ℕ, [], ap, append_assoc, get_or, length, map, refl, sym, take}
use Rattle.std.specs.Borrow.{Bor}
use Rattle.std.proofs.lemmas.List.{map-append, take_more}
use Rattle.clap.specs.Words.{Text}
use Rattle.spool_admin.specs.Record.{lines_of}
use Rattle.spool_admin.proofs.record.words_of.Goals as goal

one_more : (words : List Text) (word : Text) → lines_of (words ++ (word ∷ [])) ≡ lines_of words ++ (word ++ (10 ∷ []))
one_more [] word = refl
one_more (first ∷ words) word = ap (λ (t : List ℕ). first ++ (10 ∷ t)) (one_more words word) ∙ sym (append_assoc first (10 ∷ lines_of words) (word ++ (10 ∷ [])))

one_longer : (into : Text) (queues : List (Bor Text)) (i : ℕ) (d : Bor Text) (old new : List ℕ) → i < length queues
    → old ≡ lines_of (into ∷ map (λ queue. queue.now) (take i queues)) → new ≡ old ++ ((get_or queues i d).now ++ (10 ∷ []))
    → new ≡ lines_of (into ∷ map (λ queue. queue.now) (take (i + 1) queues))
one_longer into queues i d old new inside was is =
    is ∙ ap (λ (t : List ℕ). t ++ ((get_or queues i d).now ++ (10 ∷ []))) was
    ∙ sym (one_more (into ∷ map (λ queue. queue.now) (take i queues)) (get_or queues i d).now)
    ∙ ap (λ (ws : List Text). lines_of (into ∷ ws)) (sym (map-append (λ queue. queue.now) (take i queues) (get_or queues i d ∷ [])))
    ∙ ap (λ (qs : List (Bor Text)). lines_of (into ∷ map (λ queue. queue.now) qs)) (sym (take_more queues i d inside))

pub loop-queue-preserved : goal.loop-queue-preserved
loop-queue-preserved c =
    one_longer c.args.into.now c.args.queues.now c.loop-queue.queue-index _ _ _ c.loop-queue-test.true c.loop-queue.invariant c.in_ok-push_line-2.ensures
