-- One more word.
use Rattle.std.proofs.Common.{ap, sym, ◌∙◌, arith}
use Rattle.std.proofs.lemmas.List.Sums.{fold_push}
use Rattle.row_effects.specs.QueueReasons.{add_reason}
use Rattle.row_effects.proofs.changes.add_reasons.Goals as goal

pub loop-word-preserved : goal.loop-word-preserved
loop-word-preserved c = record {
  items = c.add_reason.ensures.items ∙ ap (λ words. add_reason words c.in-Some.word) c.loop-word.invariant.items ∙ sym (fold_push add_reason c.args.reasons.now.items c.loop-word.yielded c.in-Some.word);
  ascending = c.add_reason.ensures.ascending;
  room = omega arith;
}
