-- An attribute replaces the one of its name, or is inserted at its gap if there is room.
use Rattle.std.proofs.Common.{◌≡◌, true, length, ap, sym, subst, ◌∙◌, arith}
use Rattle.row_effects.specs.Keys.{is_ascending}
use Rattle.row_effects.specs.QueueAttributes.{name_of}
use Rattle.row_effects.proofs.Kept.{kept_place, kept_gap, kept_dropped, ascends_kept}
use Rattle.row_effects.proofs.changes.set_attribute.Goals as goal

pub returns-in-Ok-clause-items : goal.returns-in-Ok-clause-items
returns-in-Ok-clause-items c =
    sym (kept_place name_of c.args.attributes.now.items c.requires.ascending c.args.attribute c.in-Ok.at (rw c.deref.ensures.value at c.in-Ok.ensures.found))

pub returns-then-len-lt-MOST_KEPT-clause-items : goal.returns-then-len-lt-MOST_KEPT-clause-items
returns-then-len-lt-MOST_KEPT-clause-items c =
    rw c.unwrap.ensures at c.insert.ensures.items
    ∙ sym (kept_gap name_of c.args.attributes.now.items c.args.attribute c.in-Err.at (rw c.deref.ensures.value at c.in-Err.ensures.absent) (omega (arith, ap length c.deref.ensures.value)))

pub returns-else-len-lt-MOST_KEPT-clause-items : goal.returns-else-len-lt-MOST_KEPT-clause-items
returns-else-len-lt-MOST_KEPT-clause-items c =
    sym (kept_dropped name_of c.args.attributes.now.items c.args.attribute c.in-Err.at (rw c.deref.ensures.value at c.in-Err.ensures.absent) (omega (arith, ap length c.deref.ensures.value)))

pub returns-in-Ok-clause-ascending : goal.returns-in-Ok-clause-ascending
returns-in-Ok-clause-ascending c = subst (λ kept. is_ascending name_of kept ≡ true) (sym (returns-in-Ok-clause-items c)) (ascends_kept name_of c.args.attribute c.args.attributes.now.items c.requires.ascending)

pub returns-then-len-lt-MOST_KEPT-clause-ascending : goal.returns-then-len-lt-MOST_KEPT-clause-ascending
returns-then-len-lt-MOST_KEPT-clause-ascending c = subst (λ kept. is_ascending name_of kept ≡ true) (sym (returns-then-len-lt-MOST_KEPT-clause-items c)) (ascends_kept name_of c.args.attribute c.args.attributes.now.items c.requires.ascending)
