-- The word at its position is removed, and a word that does not occur changes nothing.
use Rattle.std.proofs.Common.{◌≡◌, true, [], ◌∷◌, sym, subst, ◌∙◌}
use Rattle.row_effects.specs.Keys.{is_ascending}
use Rattle.row_effects.specs.QueueReasons.{word_of}
use Rattle.row_effects.proofs.ReasonSteps.{dropped_place, dropped_absent, ascends_dropped}
use Rattle.row_effects.proofs.changes.drop_reason.Goals as goal

pub returns-in-Ok-clause-items : goal.returns-in-Ok-clause-items
returns-in-Ok-clause-items c =
    c.remove.ensures.items
    ∙ sym (dropped_place c.args.reasons.now.items c.requires c.args.word.now c.in-Ok.at (rw c.deref.ensures.value at c.in-Ok.ensures.found))

pub returns-in-Ok-clause-ascending : goal.returns-in-Ok-clause-ascending
returns-in-Ok-clause-ascending c =
    subst (λ words. is_ascending word_of words ≡ true) (sym (returns-in-Ok-clause-items c)) (ascends_dropped (c.args.word.now ∷ []) c.args.reasons.now.items c.requires)

pub returns-in_default-clause-items : goal.returns-in_default-clause-items
returns-in_default-clause-items c =
    sym (dropped_absent c.args.reasons.now.items c.args.word.now c.in_default.field-0 (rw c.deref.ensures.value at c.in_default.ensures.absent))
