use Rattle.std.proofs.Common.{rules, ◌≡◌, IfSome, true, subst, sym}
use Rattle.std.specs.Map.Iter.{deref_pair}
use Rattle.std.proofs.lemmas.Cmp.{nat_cmp_total}
use Rattle.std.proofs.lemmas.Map.Iter.{btree_map_turn}
use Rattle.ipp_tasks.specs.ParkedJobs.{is_late}
use Rattle.ipp_tasks.proofs.parked.Parked.late.Goals as goal

-- A look-up of the number finds the entry that the loop has reached.
pub returns-then-seconds-saturating_add : goal.returns-then-seconds-saturating_add
returns-then-seconds-saturating_add c =
    let turn =
    btree_map_turn deref_pair c.loop-number.yielded c.into_iter-number-iterator.result c.loop-number.number-iterator c.next.new.self c.next.result
    (c.in-Some.number, c.in-Some.job) c.loop-number.yielded_by c.in-Some.is c.next.ensures.steps nat_cmp_total c.args.self.now.jobs (search rules)
    (search rules) in
    subst (λ job. IfSome job (λ it. is_late c.args.seconds it ≡ true)) (sym turn.1) (search rules)
