-- The entry of the queue is removed, and put again.
use Rattle.std.proofs.Common.{ap, Bool, cond, inl, inr, List, Option, ℕ, Some, sym, ◌∙◌}
use Rattle.std.specs.Cmp.Lexicographic.{slice_cmp}
use Rattle.std.specs.Ordering.{eq_by_cmp, nat_cmp}
use Rattle.event_records.specs.SeenTimes.{queue_time}
use Rattle.event_records.proofs.SeenLaws.{put_after}
use Rattle.event_records.proofs.seen.Seen.see_queue.Goals as goal

pub returns-in-Some : goal.returns-in-Some
returns-in-Some c =
    let same : List ℕ → Bool = λ q. eq_by_cmp (slice_cmp nat_cmp) c.args.name.now q in
    elim c.put_queue.ensures [
      | inl put ↦ inl (λ q.
          put q
          ∙ ap (λ (o : Option ℕ). cond (same q) (Some c.in-Some.now) o) (c.forget_queue.ensures q)
          ∙ put_after (same q) c.in-Some.now (queue_time c.args.self.now q)
          ∙ ap (λ (t : Option ℕ). cond (same q) t (queue_time c.args.self.now q)) (sym c.in-Some.is))
      | inr kept ↦ inr (λ q. kept q ∙ c.forget_queue.ensures q)
    ]
