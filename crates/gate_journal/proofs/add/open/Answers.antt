use Rattle.std.proofs.Common.{[], ◌∷◌, ◌++◌, inl, inr, ⊎_elim, sym, ◌∙◌, ap, subst}
use Rattle.std.specs.Option.{option_map}
use Rattle.spool_disk.specs.Disk.{overwritten}
use Rattle.spool_disk.proofs.Moments.{runs_on, weaker_run, at_return}
use Rattle.spool_disk.proofs.Ranges.{told, tells_still, both_ok}
use Rattle.gate_journal.specs.Entries.{HasEntries}
use Rattle.gate_journal.specs.Staged.{IsBeforeOrAll}
use Rattle.gate_journal.proofs.Steps.{torn_gate}
use Rattle.gate_journal.proofs.add.open.Goals as goal

pub returns-clause-settled : goal.returns-clause-settled
returns-clause-settled g c =
    both_ok c.persist.result c.persist.ensures.written c.persist.ensures.durable (λ written synced base place payloads staged keeps.
    let has = told _ keeps.tells in
    let tells = written ∙ ap (option_map (overwritten c.args.gate (165 ∷ []))) (c.sync.ensures.same.bytes ∙ has.1) in
    let opened = keeps.behind (overwritten c.args.gate (165 ∷ []) has.0) (ap (option_map (overwritten c.args.gate (165 ∷ []))) has.1) in
    record {
      tells = tells_still _ _ _ c.persist.ensures.changes.bytes (subst (λ b. Rattle.std.specs.Prelude.IsSome b) (sym c.sync.ensures.same.bytes) keeps.tells);
      each = λ b now. subst (HasEntries base (payloads ++ staged)) (sym (synced (overwritten c.args.gate (165 ∷ []) has.0) tells b now)) opened;
      gate_at = keeps.place_at;
    })

pub returns-clause-any_moment : goal.returns-clause-any_moment
returns-clause-any_moment g c base place payloads staged keeps =
    let v = g.D.Disk.device in
    let mid = c.sync.new.self in
    let has = told _ keeps.tells in
    let opened = keeps.behind (overwritten c.args.gate (165 ∷ []) has.0) (ap (option_map (overwritten c.args.gate (165 ∷ []))) has.1) in
    runs_on v c.args.disk.now mid c.persist.new.disk (IsBeforeOrAll base payloads staged) _
    (weaker_run v c.args.disk.now mid (IsBeforeOrAll base payloads staged) _ c.sync.ensures.same.images (λ b left. inl (keeps.each b left)))
    c.persist.ensures.changes.images
    (λ b o.
    let was = keeps.each o.0 (at_return v g.met.D.Disk.lawful c.args.disk.now mid _ c.sync.ensures.same.images o.0 o.1) in
    let is = c.in_ok-sync.ensures.durable has.0 (c.sync.ensures.same.bytes ∙ has.1) o.0 o.1 in
    ⊎_elim (λ stays. inl stays) (λ now. inr (subst (HasEntries base (payloads ++ staged)) (sym (now ∙ ap (overwritten c.args.gate (165 ∷ [])) is)) opened))
    (torn_gate base payloads c.args.gate keeps.gate_at o.0 b was o.2))
