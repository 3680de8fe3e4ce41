-- One more word.
use Rattle.std.proofs.Common.{◌∷◌, [], ap, sym, ◌∙◌, arith}
use Rattle.row_effects.specs.QueueReasons.{drop_reasons}
use Rattle.row_effects.proofs.ReasonSteps.{dropped_none, dropped_more}
use Rattle.row_effects.proofs.changes.drop_reasons.Goals as goal

pub loop-word-init : goal.loop-word-init
loop-word-init c = record { items = sym (dropped_none c.args.reasons.now.items); ascending = c.requires; room = omega arith }

pub loop-word-preserved : goal.loop-word-preserved
loop-word-preserved c = record {
  items =
      c.drop_reason.ensures.items
      ∙ ap (drop_reasons (c.word-item.result ∷ [])) c.loop-word.invariant.items
      ∙ dropped_more c.args.words.now c.args.reasons.now.items c.loop-word.word-index c.word-item.result (omega arith) c.word-item.is;
  ascending = c.drop_reason.ensures.ascending;
  room = omega arith;
}
