use Rattle.std.proofs.Common.{ℕ, List, [], ◌∷◌, Bool, drop, sym, ◌∙◌, ap, arith, length-drop}
use Rattle.std.proofs.lemmas.List.{take_all}
use Rattle.std.specs.Prelude.{◌&&◌, nat_eq}
use Rattle.std.specs.Cmp.Lexicographic.{pointwise}
use Rattle.spool_areas.specs.Header.{is_version}
use Rattle.spool_areas.proofs.header.is_known.Goals as goal

abbrev are_zeros : List ℕ → Bool
are_zeros bytes = pointwise nat_eq bytes (0 ∷ 0 ∷ 0 ∷ 0 ∷ 0 ∷ 0 ∷ [])

-- The six bytes that are compared are all after the epoch.
pub returns-then-is_version : goal.returns-then-is_version
returns-then-is_version c =
    let header = c.args.header.now in
    c.eq.ensures ∙ ap are_zeros (take_all 6 (drop 10 header) (omega (arith, length-drop 10 header, c.told-header)))
    ∙ ap (λ known. known && are_zeros (drop 10 header)) (sym c.if-is_version.true ∙ c.is_version.ensures ∙ ap is_version c.version_of.ensures)
