-- Tables after the first of some events.
use Rattle.std.proofs.Common.{◌≡◌, ⊎_elim, ℕ, ◌+◌, List, [], ◌∷◌, ◌++◌, length, take, refl, sym, ap, subst, ◌∙◌, arith, length-append}
use Rattle.std.proofs.Math.Seq.{take-append-add}
use Rattle.std.proofs.lemmas.List.{take-append-le}
use Rattle.spool_types.specs.declared.event.Event.{Event}
use Rattle.spool_types.specs.State.{State}
use Rattle.job_table.specs.EventFold.{after_one, after_all}
use Rattle.spool_core.specs.Image.{HasTable, HasBeforeOrAfterEvent}
use Rattle.print_rounds.specs.Rounds.{HasSomeOf}

pub after_both : (s : State) (es fs : List Event) → after_all s (es ++ fs) ≡ after_all (after_all s es) fs
after_both s [] fs = refl
after_both s (e ∷ es) fs = after_both (after_one s e) es fs

pub none_of : (s : State) (es : List Event) (c : List ℕ) → HasTable s c → HasSomeOf s es c
none_of s es c has = (0, omega arith, omega arith, has)

pub one_of : (s : State) (e : Event) (c : List ℕ) → HasBeforeOrAfterEvent s e c → HasSomeOf s (e ∷ []) c
one_of s e c = ⊎_elim (λ before. none_of s (e ∷ []) c before) (λ after. (1, omega arith, omega arith, after))

-- Some of the first events, and then more.
pub some_first : (s : State) (es fs : List Event) (c : List ℕ) → HasSomeOf s es c → HasSomeOf s (es ++ fs) c
some_first s es fs c (k, low, high, has) =
    (k, low, omega (arith, high, length-append es fs), subst (λ l. HasTable (after_all s l) c) (sym (take-append-le k es fs high)) has)

-- All of the first events, and some more.
pub some_later : (s t : State) (es fs : List Event) (c : List ℕ) → t ≡ after_all s es → HasSomeOf t fs c → HasSomeOf s (es ++ fs) c
some_later s t es fs c is (k, low, high, has) = (
  length es + k,
  omega arith,
  omega (arith, high, length-append es fs),
  subst (λ u. HasTable u c) (ap (λ u. after_all u (take k fs)) is ∙ sym (after_both s es (take k fs)) ∙ ap (after_all s) (sym (take-append-add es fs k))) has,
)
