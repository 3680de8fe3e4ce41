-- An event about an existing queue leaves the jobs unchanged, and so the lanes and the timetable.
use Rattle.std.proofs.Common.{◌≡◌, None, sym, ap, subst, ◌∙◌}
use Rattle.spool_types.specs.Sent.{sent_by, with_placed}
use Rattle.job_table.specs.Contents.{Contents, places_at}
use Rattle.job_table.specs.Legal.{IsLegal}
use Rattle.job_table.specs.Step.{refusal_of, after}
use Rattle.job_table.proofs.Held.{held_stays, stepped, stays_about}
use Rattle.job_table.proofs.Legal.{keeps_each, legal_after}
use Rattle.job_table.proofs.Moves.{Stays}
use Rattle.job_table.proofs.table.Table.change.Goals as goal

pub invariant_of-self : goal.invariant_of-self
invariant_of-self c =
    let s = c.self.inside.store.state in
    let t = c.commit.new.self.state in
    let e = c.args.event in
    let accepted : refusal_of s e ≡ None = ap (λ v. refusal_of v.state e) c.self.view_is ∙ c.requires.prepared.accepted in
    let after_it : t ≡ after s e = (stepped s e t c.commit.result accepted c.commit.ensures.step).0 in
    let stays : Stays s t = subst (Stays s) (sym after_it) (stays_about s e c.requires.about c.requires.one (sym c.in-None.ensures)) in
    held_stays c.self.inside c.commit.new.self stays
    (subst IsLegal (sym after_it) (legal_after s e (keeps_each c.queues_stay_in_order.ensures.stays e) accepted c.self.invariant.legal)) c.self.invariant

pub returns-in-None-clause-places : goal.returns-in-None-clause-places
returns-in-None-clause-places c = λ j lives. c.commit.ensures.places j lives ∙ ap (λ (v : Contents). with_placed (places_at v j) c.args.at j (sent_by c.args.event)) c.self.view_is
