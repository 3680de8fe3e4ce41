-- The table after an edit of a queue, and why an edit is refused.
use Rattle.std.specs.Prelude.{ℕ, List, Option}
use Rattle.spool_types.specs.State.{State}
use Rattle.queue_edits.specs.QueueEdits.{after_change, after_removal}
use Rattle.queue_edits.specs.EditRefusals.{change_refusal, removal_refusal}
use Rattle.queue_edits.specs.declared.refusals.EditRefusal.{EditRefusal}
use Rattle.spool_admin.specs.declared.edit.QueueEdit.{QueueEdit}
use Rattle.spool_admin.specs.declared.edit.QueueEdit.TheVariants.{Set, Remove}

abbrev pub after_edit : List ℕ → QueueEdit → State → State
after_edit name (Set change) s = after_change name change s
after_edit name (Remove purge) s = after_removal name s

abbrev pub edit_refusal : List ℕ → QueueEdit → State → Option EditRefusal
edit_refusal name (Set change) s = change_refusal name change s
edit_refusal name (Remove purge) s = removal_refusal name purge s
