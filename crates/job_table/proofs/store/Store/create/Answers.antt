-- The row is appended, because no job has a number above the highest.
use Rattle.std.proofs.Common.{◌≡◌, ◌<◌, ◌≤◌, ◌++◌, ◌∷◌, [], length, sym, ap, subst, ◌∙◌, arith}
use Rattle.std.specs.Prelude.{All}
use Rattle.std.specs.List.{insert}
use Rattle.spool_types.specs.Limits.{greatest_number}
use Rattle.spool_types.specs.declared.rows.JobRow.{JobRow}
use Rattle.job_rows.specs.NumberedRows.{Listed}
use Rattle.job_table.specs.Contents.{Contents, places_at}
use Rattle.job_table.specs.TableFields.{contents_of}
use Rattle.job_table.specs.Step.{creation, after, refusal_of}
use Rattle.job_table.proofs.Above.{insert_last}
use Rattle.job_table.proofs.Accepted.{accepted_create}
use Rattle.job_table.proofs.Legal.{keeps_creation, legal_after}
use Rattle.job_table.proofs.Numbered.{each_below, end_gap, numbers_pushed}
use Rattle.job_table.proofs.Rooms.{room_seen}
use Rattle.job_table.proofs.Steps.{reply_creation, below_new, create_state, create_ordered, create_room, create_places}
use Rattle.job_table.proofs.store.Store.create.Goals as goal

-- The end of the rows is the position at which a search would insert the row.
at_end : (old new : Listed) (row : JobRow) → new.items ≡ old.items ++ row ∷ [] → new.items ≡ insert old.items (length old.items) row
at_end old new row items = items ∙ sym (insert_last old.items row)

pub push-requires-clause-room : goal.push-requires-clause-room
push-requires-clause-room c = subst (λ v. 0 < v.room.jobs) (sym c.self.view_is) c.requires.room

pub push-requires-clause-above : goal.push-requires-clause-above
push-requires-clause-above c =
    let number = ap (λ j. j.id) c.new_job_row.ensures.row in
    let new = accepted_create (contents_of c.self.inside).state c.args.job c.args.by (ap (λ v. refusal_of v.state (creation c.args.job c.args.by)) c.self.view_is ∙ c.requires.accepted) in
    subst (λ k. All (λ n. n < k) c.self.inside.jobs.numbers) (sym number)
    (subst (All (λ n. n < c.args.job.job)) (sym c.self.invariant.own) (each_below c.self.inside.jobs.items c.args.job.job (below_new c.self.inside c.self.invariant c.args.job.job new)))

pub invariant_of-self : goal.invariant_of-self
invariant_of-self c =
    let new = accepted_create (contents_of c.self.inside).state c.args.job c.args.by (ap (λ v. refusal_of v.state (creation c.args.job c.args.by)) c.self.view_is ∙ c.requires.accepted) in
    rw c.get-self-inside.ensures.value (create_ordered c.self.inside c.self.invariant c.args.job c.args.by c.new_job_row.result c.new_job_row.ensures.row c.push.new.self (length c.self.inside.jobs.items)
    (end_gap c.self.inside.jobs.items c.args.job.job (below_new c.self.inside c.self.invariant c.args.job.job new))
    (at_end c.self.inside.jobs c.push.new.self c.new_job_row.result c.push.ensures.items)
    (numbers_pushed c.self.inside.jobs c.push.new.self c.new_job_row.result c.self.invariant.own c.push.ensures.numbers c.push.ensures.items)
    (subst (λ n. n ≤ greatest_number) c.get-self-inside.ensures.value c.get-self-inside.ensures.at_most)
    c.new_job_row.ensures.room c.new_job_row.ensures.places
    (legal_after (contents_of c.self.inside).state (creation c.args.job c.args.by) (keeps_creation c.args.job c.args.by) (ap (λ v. refusal_of v.state (creation c.args.job c.args.by)) c.self.view_is ∙ c.requires.accepted) c.self.invariant.legal))

pub returns-clause-state : goal.returns-clause-state
returns-clause-state c =
    let new = accepted_create (contents_of c.self.inside).state c.args.job c.args.by (ap (λ v. refusal_of v.state (creation c.args.job c.args.by)) c.self.view_is ∙ c.requires.accepted) in
    rw c.get-self-inside.ensures.value (create_state c.self.inside c.self.invariant c.args.job c.args.by c.new_job_row.result c.new_job_row.ensures.row c.push.new.self (length c.self.inside.jobs.items)
    (end_gap c.self.inside.jobs.items c.args.job.job (below_new c.self.inside c.self.invariant c.args.job.job new))
    (at_end c.self.inside.jobs c.push.new.self c.new_job_row.result c.push.ensures.items))
    ∙ ap (λ v. after v.state (creation c.args.job c.args.by)) c.self.view_is

pub returns-clause-reply : goal.returns-clause-reply
returns-clause-reply c = sym (reply_creation c.args.self.now.state c.args.job c.args.by)

pub returns-clause-room : goal.returns-clause-room
returns-clause-room c =
    let new = accepted_create (contents_of c.self.inside).state c.args.job c.args.by (ap (λ v. refusal_of v.state (creation c.args.job c.args.by)) c.self.view_is ∙ c.requires.accepted) in
    room_seen c.self.view_is
    (create_room c.self.inside c.self.invariant c.args.job c.args.by c.new_job_row.result c.new_job_row.ensures.row c.push.new.self (length c.self.inside.jobs.items)
    (end_gap c.self.inside.jobs.items c.args.job.job (below_new c.self.inside c.self.invariant c.args.job.job new))
    (at_end c.self.inside.jobs c.push.new.self c.new_job_row.result c.push.ensures.items)
    (omega (arith, c.push.ensures.room)) c.new_job_row.ensures.room)

pub returns-clause-places : goal.returns-clause-places
returns-clause-places c = λ j lives.
    let new = accepted_create (contents_of c.self.inside).state c.args.job c.args.by (ap (λ v. refusal_of v.state (creation c.args.job c.args.by)) c.self.view_is ∙ c.requires.accepted) in
    create_places c.self.inside c.self.invariant c.args.job c.args.by c.new_job_row.result c.new_job_row.ensures.row c.push.new.self (length c.self.inside.jobs.items)
    (end_gap c.self.inside.jobs.items c.args.job.job (below_new c.self.inside c.self.invariant c.args.job.job new))
    (at_end c.self.inside.jobs c.push.new.self c.new_job_row.result c.push.ensures.items) c.self.invariant.legal new
    c.new_job_row.ensures.places j
    ∙ ap (λ (v : Contents). places_at v j) c.self.view_is
