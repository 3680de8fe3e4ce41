-- One more step, or a fault after the steps so far.
use Rattle.std.proofs.Common.{[], ◌∷◌, ◌++◌, ◌∙◌, refl, Ok, Err}
use Rattle.engine_reserve.proofs.ServingLaws.{one_at, whole_more, whole_none, whole_stop}
use Rattle.engine_reserve.proofs.serving.serve_whole.Goals as goal

pub commands-init : goal.commands-init
commands-init g c = record { mime = refl; place = refl; served = ([], whole_none _ _ _ _ _) }

pub commands-preserved : goal.commands-preserved
commands-preserved g c =
    let (ts, h) = c.commands.invariant.served in
    let (t, one) = c.in-Ok.ensures.served in
    let gives = rw c.in-Ok-Some.field-0-is at c.in-Ok-Some.ensures.ok in
    record {
      mime = c.in-Ok.ensures.mime ∙ c.commands.invariant.mime;
      place = c.in-Ok.ensures.place ∙ c.commands.invariant.place;
      served = (ts ++ t ∷ [], whole_more _ _ (Ok tt) _ _ _ _ _ _ ts t _ _ _ _ h gives (one_at _ _ _ _ _ _ _ _ _ _ _ _ _ c.commands.invariant.mime c.commands.invariant.place one));
    }

pub returns-in-Err-answer-clause-served : goal.returns-in-Err-answer-clause-served
returns-in-Err-answer-clause-served g c =
    let (ts, h) = c.commands.invariant.served in
    let (t, one) = c.in-Err-answer.ensures.served in
    let gives = rw c.in-Ok-Some.field-0-is at c.in-Ok-Some.ensures.ok in
    (ts ++ t ∷ [], whole_more _ _ (Err c.in-Err-answer.fault) _ _ _ _ _ _ ts t _ _ _ _ h gives (one_at _ _ _ _ _ _ _ _ _ _ _ _ _ c.commands.invariant.mime c.commands.invariant.place one))

pub returns-in-Err-clause-served : goal.returns-in-Err-clause-served
returns-in-Err-clause-served g c =
    let (ts, h) = c.commands.invariant.served in
    (ts, whole_stop _ _ _ _ _ _ _ ts _ _ h c.in-Err.ensures.err)
