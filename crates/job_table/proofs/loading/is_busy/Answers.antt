-- The test of the jobs is the test of their rows.
use Rattle.std.proofs.Common.{◌≡◌, ◌&&◌, ◌||◌, Bool, List, [], ◌∷◌, map, rules, tests, refl, sym, ap, ◌∙◌}
use Rattle.std.specs.List.{list_any}
use Rattle.std.proofs.lemmas.Iterator.Consumers.{YieldsList-from_first}
use Rattle.std.proofs.lemmas.Iterator.Search.{any_from_yields_List}
use Rattle.spool_types.specs.State.{job_of}
use Rattle.spool_types.specs.Phases.{is_processing}
use Rattle.spool_types.specs.Busy.{is_of}
use Rattle.job_table.proofs.loading.is_busy.Goals as goal

any_map : {X Y : Type 0} (p : X → Bool) (f : Y → X) (ys : List Y) → list_any p (map f ys) ≡ list_any (λ y. p (f y)) ys
any_map p f [] = refl
any_map p f (y ∷ ys) = ap (λ b. p (f y) || b) (any_map p f ys)

pub returns : goal.returns
returns c =
    any_from_yields_List (λ r. is_of c.args.queue.now (job_of r) && is_processing (job_of r).phase) _ _ _ c.any.ensures.ran
    (YieldsList-from_first (λ x. x.now) (λ rest. rest) c.args.rows.now.items c.iter.ensures.rows) (λ x b q k. search (rules, tests))
    ∙ sym (any_map (λ r. is_of c.args.queue.now r && is_processing r.phase) job_of c.args.rows.now.items)
