-- The entry of the queue is put, and no other changes.
use Rattle.std.proofs.Common.{ap, cond, inl, inr, List, ℕ, Some, ◌∙◌}
use Rattle.std.specs.BTreeMap.{get, is_at}
use Rattle.std.specs.Cmp.Lexicographic.{slice_cmp}
use Rattle.std.specs.Map.{lookup}
use Rattle.std.specs.Ordering.{nat_cmp}
use Rattle.event_records.proofs.SeenLaws.{by_result}
use Rattle.event_records.proofs.seen.Seen.put_queue.Goals as goal

pub returns : goal.returns
returns c =
    elim (by_result c.insert.result _ _ c.insert.ensures.updates c.insert.ensures.err) [
      | inl put ↦ inl (λ q. put.0 q ∙ ap (λ (key : List ℕ). cond (is_at (slice_cmp nat_cmp key) q) (Some c.args.now) (get (slice_cmp nat_cmp) c.args.self.now.queues q)) c.in-Ok.ensures.cases)
      | inr same ↦ inr (λ q. ap (λ es. lookup (is_at (slice_cmp nat_cmp q)) es) same)
    ]
