use Rattle.std.proofs.Common.{refl}
use Rattle.spool_types.specs.Busy.{is_of}
use Rattle.spool_types.specs.State.{queue_at}
use Rattle.queue_edits.proofs.Edits.{jobs_after, others_after, own_after, target_after}
use Rattle.queue_edits.specs.QueueEdits.{changed}
use Rattle.std.specs.Option.{option_map}
use Rattle.queue_edits.proofs.laws.only_that_queue_changes.Goals as goal

pub returns : goal.returns
returns c = record {
  queue = λ name ch s legal. own_after name ch s legal (queue_at s name) refl;
  others = λ name other ch s legal apart. others_after name ch s legal other apart (queue_at s name) refl;
  jobs = λ name ch s j. jobs_after (option_map (changed ch) (queue_at s name)) s j;
  types = λ name ch s j r legal free at goes. target_after name ch s legal free j r at goes (is_of name r) refl;
}
