use Rattle.builtin_stages.proofs.ResultLaws.{one_copy}
use Rattle.builtin_stages.proofs.results.write_copies.Goals as goal

pub copies-preserved : goal.copies-preserved
copies-preserved g c = one_copy _ _ _ _ _ _ _ _ _ _ c.copies.invariant (rw c.in_ok-reader.ensures.whole at c.in_ok-count.ensures.wrote) c.in_ok-feeds.ensures.sum
