-- The map contains one more source.
use Rattle.std.proofs.Common.{◌≡◌, suc, ◌+◌, [], ◌∷◌, ◌++◌, length, ap, ◌∙◌, subst, arith, append_assoc, Some}
use Rattle.std.specs.HashMap.{UpdatesBy}
use Rattle.std.specs.Str.{bytes_eq}
use Rattle.mime_costs.specs.SourceIndex.{sources_of, position_in}
use Rattle.mime_costs.proofs.SourceLaws.{one_known}
use Rattle.mime_costs.proofs.links.Sources.of.Goals as goal

pub loop-last-preserved : goal.loop-last-preserved
loop-last-preserved c =
    let (tail, split, known) = c.loop-last.invariant in
    let last = c.in-Some.last.now in
    let before = c.in-Some.before.now in
    let (whole, long) = c.in-Some.ensures.cases in
    let one_more : length c.loop-last.rest.now ≡ suc (length before) = omega (arith, long) in
    let updates = subst (λ source. UpdatesBy (λ x y. bytes_eq x.now y.now) (λ k. bytes_eq source k.now) c.loop-last.positions c.insert.new.self (Some (length before))) c.as_str.ensures.value c.in_ok-insert.ensures.updates in (
      last ∷ tail,
      split ∙ ap (λ front. front ++ tail) whole ∙ append_assoc before (last ∷ []) tail,
      one_known c.loop-last.positions c.insert.new.self (length c.args.conversions.now) (length before) last tail (λ source. known source ∙ ap (λ n. n + position_in (sources_of tail) source) one_more) updates,
    )
