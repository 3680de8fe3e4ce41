use Rattle.std.proofs.Common.{List, sym, subst}
use Rattle.spool_types.specs.declared.event.Event.{Event}
use Rattle.job_table.specs.Apart.{IsPart, own_events}
use Rattle.job_table.specs.EventFold.{accepted, after_all}
use Rattle.spool_halves.proofs.Going.{part_of_half, same_rows}
use Rattle.spool_halves.proofs.laws.halves_go_on.Goals as goal

pub returns : goal.returns
returns c =
    let on = c.queues_stay_apart.ensures.goes_on in
    record {
      part = λ named names s t p name ls lt newest half own part. part_of_half named names s t p ls lt half name own part newest;
      jobs = λ named names s t p name events others j ls lt lp newest half own part same.
          let a = on name s p events ls lp part in
          let b = subst (λ (es : List Event). IsPart name (after_all t (accepted t others)) (after_all p es)) (sym same) (on name t p others lt lp (part_of_half named names s t p ls lt half name own part newest)) in
          (same_rows name (after_all s (accepted s events)) (after_all t (accepted t others)) (after_all p (own_events s name (accepted s events))) a b).0 j;
      queue = λ named names s t p name events others ls lt lp newest half own part same.
          let a = on name s p events ls lp part in
          let b = subst (λ (es : List Event). IsPart name (after_all t (accepted t others)) (after_all p es)) (sym same) (on name t p others lt lp (part_of_half named names s t p ls lt half name own part newest)) in
          (same_rows name (after_all s (accepted s events)) (after_all t (accepted t others)) (after_all p (own_events s name (accepted s events))) a b).1;
    }
