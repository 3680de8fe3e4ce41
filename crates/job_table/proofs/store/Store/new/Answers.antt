-- The maps of no rows are empty.
use Rattle.std.proofs.Common.{map, refl, sym, ap, subst, arith}
use Rattle.std.specs.Ordering.{nat_cmp}
use Rattle.std.specs.Cmp.Lexicographic.{slice_cmp}
use Rattle.job_table.specs.Legal.{IsLegal}
use Rattle.job_table.specs.TableRows.{place_entry}
use Rattle.job_table.proofs.Rows.{map_none}
use Rattle.job_table.proofs.Legal.{legal_nothing}
use Rattle.job_table.proofs.store.Store.new.Goals as goal

pub returns-clause-state : goal.returns-clause-state
returns-clause-state c = rw (c.new.ensures.items, c.new-2.ensures.items) (λ i. record { queues = map_none (slice_cmp nat_cmp) i; jobs = map_none nat_cmp i; highest = 0; moment = 0; version = c.args.version })

pub invariant_of-result-2 : goal.invariant_of-result-2
invariant_of-result-2 c = record {
  queues = rw c.new.ensures.items refl;
  jobs = rw c.new-2.ensures.items refl;
  own = rw (c.new-2.ensures.items, c.new-2.ensures.numbers) refl;
  highest = omega arith;
  documents = rw c.new-2.ensures.items tt;
  legal = subst IsLegal (sym (returns-clause-state c)) (legal_nothing c.args.version);
}

pub returns-clause-places : goal.returns-clause-places
returns-clause-places c = ap (map place_entry) c.new-2.ensures.items
