-- The bytes written so far, and then some more.
use Rattle.std.proofs.Common.{◌≡◌, ◌≤◌, false, refl, arith}
use Rattle.service_loop.specs.AdmissionViews.{unread}
use Rattle.service_loop.proofs.ProgressLaws.{fewer_by, given_then, heard_none, heard_then}
use Rattle.service_loop.proofs.ClientStepLaws.{delivers_none, delivers_then, goes_none}
use Rattle.service_loop.proofs.client.Client.give.Goals as goal

pub loop-self-init : goal.loop-self-init
loop-self-init g c = record {
  delivers = delivers_none _ _ _ (goes_none _ _);
  kept = refl;
  marked = λ marked. marked;
  fewer = omega arith;
  heard = heard_none c.args.now c.args.self.now;
}

pub loop-self-preserved : goal.loop-self-preserved
loop-self-preserved g c =
    let so_far = c.loop-self.invariant in
    let wrote = c.write_some.ensures in
    let less : unread c.write_some.new.self ≤ unread c.loop-self.self = fewer_by _ _ (c.write_some.new.self.writable ≡ false) (wrote.some c.if-not-write_some.false) in
    record {
      delivers = delivers_then _ _ _ _ so_far.delivers wrote.delivers;
      kept = given_then c.args.self.now c.loop-self.self c.write_some.new.self so_far.kept wrote.kept;
      marked = λ marked. wrote.marked (so_far.marked marked);
      fewer = omega (arith, so_far.fewer);
      heard = heard_then c.args.now c.args.self.now c.loop-self.self c.write_some.new.self so_far.fewer less so_far.heard wrote.heard;
    }

pub returns-then-not-write_some-clause-delivers : goal.returns-then-not-write_some-clause-delivers
returns-then-not-write_some-clause-delivers g c = delivers_then _ _ _ _ c.loop-self.invariant.delivers c.write_some.ensures.delivers
