-- The names of the filters while their ends are noted.
use Rattle.std.proofs.Common.{◌≡◌, ◌∙◌, ℕ, zero, suc, List, [], ◌∷◌, ap, get_or, refl, set}
use Rattle.program_pipes.specs.ChainRuns.{names_of}
use Rattle.program_pipes.specs.declared.ends.FilterEnd.{FilterEnd}

-- Another filter of the same name in the place of one.
pub names_kept : (l : List FilterEnd) (i : ℕ) (f a : FilterEnd) → f ≡ get_or l i f → a.name.now ≡ f.name.now → names_of (set l i a) ≡ names_of l
names_kept [] i f a is same = refl
names_kept (x ∷ l) zero f a is same = ap (λ n. n ∷ names_of l) (same ∙ ap (λ (e : FilterEnd). e.name.now) is)
names_kept (x ∷ l) (suc i) f a is same = ap (λ ns. x.name.now ∷ ns) (names_kept l i f a is same)
