use Rattle.std.proofs.Common.{◌≡◌, ◌∙◌, sym}
use Rattle.std.specs.Cmp.Lexicographic.{bytes_decides}
use Rattle.spool_disk.proofs.Moments.{twice_still}
use Rattle.spool_halves.specs.Halves.{IsSameDocument}
use Rattle.spool_halves.proofs.ReadBack.{one_more, same_document}
use Rattle.spool_halves.proofs.reading_back.are_same_documents.Goals as goal

pub loop-job-preserved : goal.loop-job-preserved
loop-job-preserved g c =
    let v = g.S.Disk.device in
    let w = g.T.Disk.device in
    let s = c.args.whole.now.state in
    let p = c.args.part.now.state in
    let whole = c.loop-job.whole in
    let part = c.loop-job.part in
    let here = c.loop-job.invariant in
    let bytes : c.in_ok-there.there.items ≡ c.in_ok-here.here.items =
    sym c.as_slice.ensures.value ∙ (bytes_decides c.as_slice.result.now c.as_slice-in-loop-job.result.now).0 (sym c.eq-same.ensures ∙ c.if-not-same.false)
    ∙ c.as_slice-in-loop-job.ensures.value in
    record {
      whole_state = c.document_of.ensures.state ∙ here.whole_state;
      part_state = c.document_of-in-loop-job.ensures.state ∙ here.part_state;
      whole_held = c.document_of.ensures.held ∙ here.whole_held;
      part_held = c.document_of-in-loop-job.ensures.held ∙ here.part_held;
      whole_still = twice_still v c.args.whole.now.disk whole.disk c.document_of.new.spool.disk g.met.S.Disk.lawful here.whole_still c.document_of.ensures.still;
      part_still = twice_still w c.args.part.now.disk part.disk c.document_of-in-loop-job.new.spool.disk g.met.T.Disk.lawful here.part_still c.document_of-in-loop-job.ensures.still;
      same = λ r t tells_r tells_t.
          one_more (IsSameDocument s p r t) c.args.jobs.now c.loop-job.job-index c.job-item.result c.loop-job-test.true c.job-item.is (here.same r t tells_r tells_t)
          (same_document v w whole part s p c.job-item.result c.in_ok-there.there.items c.in_ok-here.here.items r t here.whole_state here.part_state (here.whole_held ∙ c.requires.whole_settled) (here.part_held ∙ c.requires.part_settled)
          c.in_ok-there.ensures.document c.in_ok-here.ensures.document bytes (here.whole_still.bytes ∙ tells_r) (here.part_still.bytes ∙ tells_t));
    }
