use Rattle.std.proofs.Common.{[], ◌∷◌, ap, sym, ◌∙◌, map, None}
use Rattle.std.proofs.lemmas.List.{map-append}
use Rattle.mime_rules.specs.Patterns.{pieces_in}
use Rattle.mime_rules.specs.RuleFields.{piece_of}
use Rattle.mime_rules.proofs.PatternLaws.{with_pieces, with_pieces_append, with_pieces_some, pattern_ends, pattern_breaks}
use Rattle.mime_rules.proofs.pattern.pattern_of.Goals as goal

pub returns-in-None : goal.returns-in-None
returns-in-None c = record {
  value =
      sym c.pieces.invariant
      ∙ ap (with_pieces (map piece_of c.pieces.pieces.items)) (pattern_ends c.pieces.rest.now c.in-None.ensures.cases)
      ∙ with_pieces_some (map piece_of c.pieces.pieces.items);
}

pub returns-in-Err : goal.returns-in-Err
returns-in-Err c = record {
  value =
      pattern_breaks c.in-Err.stop (map piece_of c.pieces.pieces.items) (c.in-Some.b.now ∷ c.in-Some.behind.now) c.args.text.now
      (sym (ap (λ l. with_pieces (map piece_of c.pieces.pieces.items) (pieces_in None l)) c.in-Some.ensures.cases.0) ∙ c.pieces.invariant) c.in-Err.ensures.value;
}

pub pieces-preserved : goal.pieces-preserved
pieces-preserved c =
    let ps = map piece_of c.pieces.pieces.items in
    let rest = pieces_in None c.in-Ok.after.now in
    ap (λ v. with_pieces (map piece_of v) rest) c.in_ok-push-in-Ok.ensures.items
    ∙ ap (λ v. with_pieces v rest) (map-append piece_of c.pieces.pieces.items (c.in-Ok.piece ∷ []))
    ∙ with_pieces_append ps (piece_of c.in-Ok.piece) rest
    ∙ sym (ap (λ l. with_pieces ps (pieces_in None l)) c.in-Some.ensures.cases.0 ∙ ap (with_pieces ps) c.in-Ok.ensures.value)
    ∙ c.pieces.invariant
