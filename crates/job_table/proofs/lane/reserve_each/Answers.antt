-- One more lane.
use Rattle.std.proofs.Common.{◌+◌, ◌<◌, ◌≤◌, length, get_or, subst, ◌∙◌, arith}
use Rattle.std.proofs.lemmas.List.{length-set, get_or_default}
use Rattle.job_table.specs.Lanes.{IsSameLane}
use Rattle.job_table.proofs.Lanes.{set_all, set_done, same_then}
use Rattle.job_table.proofs.lane.reserve_each.Goals as goal

pub returns-in_err-reserve-clause-each : goal.returns-in_err-reserve-clause-each
returns-in_err-reserve-clause-each c =
    let now = c.loop-at.lanes in
    let within : c.loop-at.at < length now = omega (arith, c.loop-at-test.true, c.loop-at.auto.lanes) in
    let new = c.reserve.new.self in
    let step : IsSameLane (get_or now c.loop-at.at c.index-lanes-at.result) new = record { lane = c.reserve.ensures.lane; live = c.reserve.ensures.live; moment = c.reserve.ensures.moment; reserved = c.reserve.ensures.kept } in
    set_all IsSameLane c.args.lanes.now now c.loop-at.at new within c.loop-at.invariant.each
    (λ d was. same_then _ _ _ was (subst (λ x. IsSameLane x new) (get_or_default now c.loop-at.at c.index-lanes-at.result d within) step))

pub loop-at-preserved : goal.loop-at-preserved
loop-at-preserved c =
    let now = c.loop-at.lanes in
    let within : c.loop-at.at < length now = omega (arith, c.loop-at-test.true, c.loop-at.auto.lanes) in
    let new = c.reserve.new.self in
    let step : IsSameLane (get_or now c.loop-at.at c.index-lanes-at.result) new = record { lane = c.reserve.ensures.lane; live = c.reserve.ensures.live; moment = c.reserve.ensures.moment; reserved = c.reserve.ensures.kept } in
    record {
      count = length-set now c.loop-at.at new ∙ c.loop-at.invariant.count;
      each = set_all IsSameLane c.args.lanes.now now c.loop-at.at new within c.loop-at.invariant.each
          (λ d was. same_then _ _ _ was (subst (λ x. IsSameLane x new) (get_or_default now c.loop-at.at c.index-lanes-at.result d within) step));
      room = set_done (λ x y. y.live + 1 ≤ y.reserved) now now c.loop-at.at new within c.loop-at.invariant.room
          (λ d. omega (arith, c.in_ok-reserve.ensures.room, c.reserve.ensures.live));
    }
