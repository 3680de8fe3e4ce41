-- One more lane.
use Rattle.std.proofs.Common.{◌<◌, length, get_or, subst, ◌∙◌, arith}
use Rattle.std.proofs.lemmas.List.{length-set, get_or_default}
use Rattle.job_table.specs.Lanes.{IsAdvanced}
use Rattle.job_table.proofs.Lanes.{set_done, set_rest}
use Rattle.job_table.proofs.lane.advance_each.Goals as goal

pub loop-at-preserved : goal.loop-at-preserved
loop-at-preserved c =
    let now = c.loop-at.lanes in
    let within : c.loop-at.at < length now = omega (arith, c.loop-at-test.true, c.loop-at.auto.lanes) in
    let new = c.advance.new.self in
    let step : IsAdvanced c.args.moment (get_or now c.loop-at.at c.index-lanes-at.result) new = record { lane = c.advance.ensures.lane; live = c.advance.ensures.live; moment = c.advance.ensures.moment; reserved = c.advance.ensures.reserved } in
    record {
      count = length-set now c.loop-at.at new ∙ c.loop-at.invariant.count;
      done = set_done (IsAdvanced c.args.moment) c.args.lanes.now now c.loop-at.at new within c.loop-at.invariant.done
          (λ d. subst (λ x. IsAdvanced c.args.moment x new) (get_or_default now c.loop-at.at c.index-lanes-at.result d within ∙ c.loop-at.invariant.rest c.loop-at.at d (omega arith)) step);
      rest = set_rest (IsAdvanced c.args.moment) c.args.lanes.now now c.loop-at.at new within c.loop-at.invariant.rest;
    }
