use Rattle.std.proofs.Common.{ap, sym, ◌∙◌}
use Rattle.line_words.specs.Quoting.{place_after}
use Rattle.filter_args.proofs.CharLaws.{place-encode}
use Rattle.filter_args.proofs.reading.is_closed.Goals as goal

pub loop-c-preserved : goal.loop-c-preserved
loop-c-preserved c =
    let place = c.loop-c.place in
    let t = c.next.new.self.rest.now in
    ap (λ q. place_after q t) c.next-place.ensures
    ∙ sym (place-encode place c.in-Some.c t)
    ∙ ap (place_after place) (sym c.in-Some.ensures.steps.0)
    ∙ c.loop-c.invariant
