-- A new word is inserted at its gap if there is room, and an existing one changes nothing.
use Rattle.std.proofs.Common.{◌≡◌, true, length, ap, sym, subst, ◌∙◌, arith}
use Rattle.row_effects.specs.Keys.{is_ascending}
use Rattle.row_effects.specs.QueueReasons.{word_of}
use Rattle.row_effects.proofs.Kept.{kept_gap, kept_dropped, ascends_kept}
use Rattle.row_effects.proofs.ReasonSteps.{kept_word}
use Rattle.row_effects.proofs.changes.add_reason.Goals as goal

pub returns-then-len-lt-MOST_KEPT-clause-items : goal.returns-then-len-lt-MOST_KEPT-clause-items
returns-then-len-lt-MOST_KEPT-clause-items c =
    rw c.unwrap.ensures at c.insert.ensures.items
    ∙ sym (kept_gap word_of c.args.reasons.now.items c.args.word c.in-Err.at (rw c.deref.ensures.value at c.in-Err.ensures.absent) (omega (arith, ap length c.deref.ensures.value)))

pub returns-then-len-lt-MOST_KEPT-clause-ascending : goal.returns-then-len-lt-MOST_KEPT-clause-ascending
returns-then-len-lt-MOST_KEPT-clause-ascending c =
    subst (λ words. is_ascending word_of words ≡ true) (sym (returns-then-len-lt-MOST_KEPT-clause-items c)) (ascends_kept word_of c.args.word c.args.reasons.now.items c.requires.ascending)

pub returns-else-len-lt-MOST_KEPT-clause-items : goal.returns-else-len-lt-MOST_KEPT-clause-items
returns-else-len-lt-MOST_KEPT-clause-items c =
    sym (kept_dropped word_of c.args.reasons.now.items c.args.word c.in-Err.at (rw c.deref.ensures.value at c.in-Err.ensures.absent) (omega (arith, ap length c.deref.ensures.value)))

pub returns-in_default-clause-items : goal.returns-in_default-clause-items
returns-in_default-clause-items c =
    sym (kept_word c.args.reasons.now.items c.requires.ascending c.args.word c.in_default.field-0 (rw c.deref.ensures.value at c.in_default.ensures.found))
