-- The late jobs are canceled, and then the moment is set in each lane.
use Rattle.std.proofs.Common.{◌≡◌, ℕ, ◌<◌, ◌≤◌, [], cond, length, get_or, sym, ap, subst, ◌∙◌, arith, rules}
use Rattle.std.specs.FinMap as finite
use Rattle.std.specs.Ordering.{nat_cmp, is_lt}
use Rattle.std.proofs.lemmas.List.{with_items_is}
use Rattle.spool_types.specs.State.{State, job_at}
use Rattle.job_table.specs.Contents.{Contents}
use Rattle.job_table.specs.Lanes.{IsAdvanced, AreLanes}
use Rattle.job_table.specs.Legal.{IsLegal}
use Rattle.job_table.proofs.Held.{legal_then}
use Rattle.job_table.proofs.Redated.{agenda_as}
use Rattle.job_table.proofs.Seats.{lanes_advanced}
use Rattle.job_table.proofs.Timely.{timely_as}
use Rattle.job_table.proofs.table.Table.clock.Goals as goal

no_earlier : (a b : ℕ) → a ≤ cond (is_lt (nat_cmp b a)) a b
no_earlier a b = grind (arith, rules)

pub advance_each-requires : goal.advance_each-requires
advance_each-requires c = λ i d lt.
    let old = c.self.inside.lanes.items in
    let within : i < length old = subst (λ ls. i < length ls) c.deref_mut.ensures.value lt in
    let was : (get_or old i d).index.moment ≡ c.self.inside.store.state.moment = (c.self.invariant.lanes.each i [] d within).moment in
    let before : c.self.inside.store.state.moment ≡ c.args.self.now.state.moment = ap (λ (v : Contents). v.state.moment) c.self.view_is ∙ ap (λ (s : State). s.moment) c.cancel_late.ensures.state in
    let first = c.now.ensures in
    let now = c.max-now.ensures in
    let later : c.now.result ≤ c.max-now.result = subst (λ n. c.now.result ≤ n) (sym now) (no_earlier c.now.result c.args.moment) in
    rw c.deref_mut.ensures.value (omega (arith, was, before, first, later))

pub invariant_of-self : goal.invariant_of-self
invariant_of-self c =
    let s = c.self.inside.store.state in
    let t = c.advance.new.self.state in
    let old = c.self.inside.lanes.items in
    let new = c.advance_each.new.lanes in
    let same = c.advance.ensures.state in
    let count : length new ≡ length old = c.advance_each.ensures.count ∙ ap length c.deref_mut.ensures.value in
    let moment : c.max-now.result ≡ t.moment = sym (ap (λ (u : State). u.moment) same) in
    record {
      legal = subst IsLegal (sym same) (legal_then s c.max-now.result c.self.invariant.legal);
      lanes = subst (AreLanes t c.self.inside.vacant) (sym (with_items_is c.self.inside.lanes new (count ∙ sym c.self.inside.lanes.ok.0)))
          (lanes_advanced s c.self.inside.vacant old new c.self.invariant.lanes count t
          (ap (λ (u : State). finite.keys u.queues) same) (λ k. ap (λ (u : State). job_at u k) same)
          (λ i d lt. subst (λ n. IsAdvanced n (get_or old i d) (get_or new i d)) moment
          (subst (λ ls. IsAdvanced c.max-now.result (get_or ls i d) (get_or new i d)) c.deref_mut.ensures.value (c.advance_each.ensures.each i d lt))));
      timely = timely_as (job_at s) (job_at t) c.self.inside.timetable (λ k. ap (λ (u : State). job_at u k) same) c.self.invariant.timely;
      spare = c.self.invariant.spare;
      agenda = agenda_as (job_at s) (job_at t) c.self.inside.agenda (λ k. ap (λ (u : State). job_at u k) same) c.self.invariant.agenda;
      vacancies = c.self.invariant.vacancies;
    }
