-- A list of values that grows by one for each item of another list.
use Rattle.std.proofs.Common.{◌≡◌, ℕ, ◌+◌, ◌<◌, ◌≤◌, List, [], ◌∷◌, ◌++◌, length, get_or, map, take, ap, sym, ◌∙◌, Vec}
use Rattle.std.specs.declared.alloc.Global.{Global}
use Rattle.std.proofs.lemmas.List.{take_more, take_all, map-append}
use Rattle.serde_json.specs.Data.{Data, array}
use Rattle.serde_json.specs.View.{view, items_of}
use Rattle.serde_json.specs.declared.value.Value.{Value}
use Rattle.serde_json.specs.declared.value.Value.TheVariants.{Array}
use Rattle.serde_json.proofs.Views.{view-Array}

-- The next value was added.
pub one_more : {A : Type 0} (shown : A → Data) (items : List A) (i : ℕ) (item : A) (before after : List Value) (v : Value) → item ≡ get_or items i item → i < length items → map view before ≡ map shown (take i items) → after ≡ before ++ v ∷ [] → view v ≡ shown item → map view after ≡ map shown (take (i + 1) items)
one_more {A = A} shown items i item before after v is lt so_far added seen =
    let taken : take (i + 1) items ≡ take i items ++ item ∷ [] = take_more items i item lt ∙ ap (λ (x : A). take i items ++ x ∷ []) (sym is) in
    ap (map view) added
    ∙ map-append view before (v ∷ [])
    ∙ ap (λ l. l ++ view v ∷ []) so_far
    ∙ ap (λ d. map shown (take i items) ++ d ∷ []) seen
    ∙ sym (map-append shown (take i items) (item ∷ []))
    ∙ ap (map shown) (sym taken)

-- All values were added.
pub all_seen : {A : Type 0} (shown : A → Data) (items : List A) (i : ℕ) (values : Vec Value Global) → length items ≤ i → map view values.items ≡ map shown (take i items) → view (Array values) ≡ array (items_of (map shown items))
all_seen shown items i values le so_far =
    view-Array values
    ∙ ap (λ l. array (items_of l)) so_far
    ∙ ap (λ l. array (items_of (map shown l))) (take_all i items le)
