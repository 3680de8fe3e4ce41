-- Rows under names.
use Rattle.std.specs.Prelude.{◌≡◌, ℕ, Bool, true, false, not, cond, List, [], ◌∷◌, refl, Option, None, Some}
use Rattle.std.specs.List.{filter}
use Rattle.std.proofs.Common.{sym, ◌∙◌, ap, subst}
use Rattle.std.proofs.lemmas.Slice.Eq.{bytes_eq-Decides}
use Rattle.service_client.specs.Mirrors.{row_named}
use Rattle.service_client.specs.Replies.{is_word}
use Rattle.service_client.specs.declared.rows.NamedRow.{NamedRow}

-- A row that is not of this name.
abbrev pub is_other : List ℕ → NamedRow → Bool
is_other name row = not (is_word row.name.items name)

-- A name is one word only.
other_word : (a name other : List ℕ) → is_word a name ≡ true → is_word name other ≡ false → is_word a other ≡ false
other_word a name other p q = subst (λ (w : List ℕ). is_word w other ≡ false) (sym ((bytes_eq-Decides a name).0 p)) q

other_name : (a name other : List ℕ) → is_word a name ≡ false → is_word name other ≡ true → is_word a other ≡ false
other_name a name other p q = subst (λ (w : List ℕ). is_word a w ≡ false) ((bytes_eq-Decides name other).0 q) p

chosen : (gone named hit : Bool) (line : List ℕ) (kept all : Option (List ℕ)) → (gone ≡ true → named ≡ false → hit ≡ false) → (gone ≡ false → named ≡ true → hit ≡ false)
    → kept ≡ cond named None all → cond (not gone) (cond hit (Some line) kept) kept ≡ cond named None (cond hit (Some line) all)
chosen true true hit line kept all p q e = e
chosen true false hit line kept all p q e = e ∙ sym (ap (λ (b : Bool). cond b (Some line) all) (p refl refl))
chosen false true hit line kept all p q e = ap (λ (b : Bool). cond b (Some line) kept) (q refl refl) ∙ e
chosen false false hit line kept all p q e = ap (λ (o : Option (List ℕ)). cond hit (Some line) o) e

row_of_choice : (stays : Bool) (row : NamedRow) (rows : List NamedRow) (other : List ℕ) → row_named (cond stays (row ∷ rows) rows) other
    ≡ cond stays (cond (is_word row.name.items other) (Some row.line.items) (row_named rows other)) (row_named rows other)
row_of_choice true row rows other = refl
row_of_choice false row rows other = refl

either_way : (named : Bool) (row : Option (List ℕ)) → row ≡ cond named row row
either_way true row = refl
either_way false row = refl

pub removed : (rows : List NamedRow) (name other : List ℕ) → row_named (filter (is_other name) rows) other ≡ cond (is_word name other) None (row_named rows other)
removed [] name other = either_way (is_word name other) None
removed (row ∷ rows) name other =
    row_of_choice (is_other name row) row (filter (is_other name) rows) other
    ∙ chosen (is_word row.name.items name) (is_word name other) (is_word row.name.items other) row.line.items (row_named (filter (is_other name) rows) other) (row_named rows other)
    (other_word row.name.items name other) (other_name row.name.items name other) (removed rows name other)
