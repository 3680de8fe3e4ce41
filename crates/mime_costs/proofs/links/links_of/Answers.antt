-- One more link, with the positions of the sources.
use Rattle.std.proofs.Common.{ℕ, [], ◌∷◌, ◌++◌, map, take, get_or, ap, sym, ◌∙◌}
use Rattle.std.proofs.lemmas.List.{take_more, map-append}
use Rattle.mime_costs.specs.SourceIndex.{sources_of, position_in, positions_in, link_of}
use Rattle.mime_costs.specs.declared.links.Link.{Link}
use Rattle.mime_costs.specs.declared.links.Positions.{Positions}
use Rattle.mime_costs.proofs.links.links_of.Goals as goal

abbrev linked : ℕ → Positions → Link
linked group next = record { group = group; next = next }

pub loop-conversion-preserved : goal.loop-conversion-preserved
loop-conversion-preserved c =
    let file = c.args.conversions.now in
    let sources = sources_of file in
    let link = link_of sources in
    let i = c.loop-conversion.conversion-index in
    let x = c.conversion-item.result in
    let known = c.in_ok-sources.ensures in
    let group = c.position_of-group.ensures sources known ∙ ap (position_in sources) c.as_str.ensures.value in
    let next = c.in_ok-next.ensures sources known ∙ ap (positions_in sources) c.as_str-in-loop-conversion.ensures.value in
    let one = ap (linked c.position_of-group.result) next ∙ ap (λ g. linked g (positions_in sources x.destination)) group ∙ ap link c.conversion-item.is in
    c.in_ok-push.ensures.items
    ∙ ap (λ links. links ++ linked c.position_of-group.result c.in_ok-next.next ∷ []) c.loop-conversion.invariant
    ∙ ap (λ v. map link (take i file) ++ v ∷ []) one
    ∙ sym (ap (map link) (take_more file i x c.loop-conversion-test.true) ∙ map-append link (take i file) (get_or file i x ∷ []))
