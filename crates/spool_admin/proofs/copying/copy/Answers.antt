use Rattle.std.proofs.Common.{◌≡◌, ◌∙◌, ◌+◌, ◌-◌, Some, drop, subst, arith}
use Rattle.spool_disk.proofs.Moments.{twice_still}
use Rattle.spool_admin.proofs.Pieces.{copied, more_told, told_long}
use Rattle.spool_admin.proofs.copying.copy.Goals as goal

pub loop-rest-preserved : goal.loop-rest-preserved
loop-rest-preserved g c =
    let source = g.S.Disk.device in
    let old = c.args.source.now in
    let mid = c.loop-rest.source in
    let done = c.args.count - c.loop-rest.rest in
    let len = c.min-len.result in
    let less : done + len ≡ c.args.count - (c.loop-rest.rest - len) = omega (arith, c.loop-rest.invariant.some, c.min-len.ensures) in
    record {
      some = omega (arith, c.loop-rest.invariant.some);
      still = twice_still source old mid c.copy_piece.new.source g.met.S.Disk.lawful c.loop-rest.invariant.still c.copy_piece.ensures.still;
      fixed = c.copy_piece.ensures.fixed ∙ c.loop-rest.invariant.fixed;
      copied = λ r t tells starts.
          let long = told_long source g.met.S.Disk.lawful old r tells in
          subst (λ n. g.T.Disk.device.bytes c.copy_piece.new.target ≡ Some (copied n (drop c.args.from r) t)) less
          (more_told c.args.from done len r t _ _ (omega (arith, long, c.requires.inside, c.loop-rest.invariant.some, c.min-len.ensures))
          (c.loop-rest.invariant.copied r t tells starts) (c.in_ok-copy_piece.ensures.copied r (c.loop-rest.invariant.still.bytes ∙ tells)));
    }
