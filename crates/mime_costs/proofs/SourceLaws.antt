-- The first position of each source, found from the last conversion to the first.
use Rattle.std.proofs.Common.{◌≡◌, ℕ, suc, ◌+◌, Bool, true, false, not, cond, List, [], ◌∷◌, ap, ◌∙◌, arith, Option, Some, unwrap_or}
use Rattle.std.proofs.lemmas.Map.Text.{hash_map_updates_str}
use Rattle.std.specs.HashMap as hash
use Rattle.std.specs.HashMap.{HashMap, get_by}
use Rattle.std.specs.Str.{bytes_eq}
use denote.Ref.{Bor}
use Rattle.mime_costs.specs.Conversions.{same}
use Rattle.mime_costs.specs.SourceIndex.{sources_of, position_in}
use Rattle.mime_costs.specs.declared.conversion.Conversion.{Conversion}

-- A map of n conversions contains the sources of these last ones, at their positions after the first ones.
abbrev pub Known : {S : Type 0} → HashMap (Bor (List ℕ)) ℕ S → ℕ → ℕ → List Conversion → Type 0
Known positions n at tail = (source : List ℕ) → unwrap_or (get_by (λ k. bytes_eq source k.now) positions) n ≡ at + position_in (sources_of tail) source

-- One more conversion in front.
pub one_known : {S : Type 0} (positions more : HashMap (Bor (List ℕ)) ℕ S) (n at : ℕ) (c : Conversion) (tail : List Conversion) → Known positions n (suc at) tail
    → hash.UpdatesBy (λ x y. bytes_eq x.now y.now) (λ k. bytes_eq c.source k.now) positions more (Some at) → Known more n at (c ∷ tail)
one_known positions more n at c tail known updates = λ source.
    ap (λ o. unwrap_or o n) (hash_map_updates_str c.source positions more (Some at) updates source)
    ∙ here (same c.source source) (get_by (λ k. bytes_eq source k.now) positions) (position_in (sources_of tail) source) (known source)
  where
    here : (b : Bool) (old : Option ℕ) (later : ℕ) → unwrap_or old n ≡ suc at + later → unwrap_or (cond b (Some at) old) n ≡ at + cond (not b) (1 + later) 0
    here true old later e = omega arith
    here false old later e = omega (arith, e)
