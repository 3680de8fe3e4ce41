-- The positions of the sources that accept a type. Internal: no caller needs this.
use Rattle.std.specs.Prelude.{◌≡◌, ℕ, suc, ◌≤◌, Bool, ◌||◌, ◌==◌, List, [], ◌∷◌, length, map, unwrap_or}
use Rattle.std.specs.HashMap.{get_by}
use Rattle.std.specs.List.{position_or_len}
use Rattle.std.specs.Str.{bytes_eq}
use Rattle.mime_costs.specs.Conversions.{same, super_source, every_type}
use Rattle.mime_costs.specs.declared.conversion.Conversion.{Conversion}
use Rattle.mime_costs.specs.declared.links.Positions.{Positions}
use Rattle.mime_costs.specs.declared.links.Link.{Link}
use Rattle.mime_costs.specs.declared.links.Sources.{Sources}

abbrev pub source_of : Conversion → List ℕ
source_of c = c.source

abbrev pub sources_of : List Conversion → List (List ℕ)
sources_of file = map source_of file

-- The first position of a source, or the length of the list if it is missing.
abbrev pub position_in : List (List ℕ) → List ℕ → ℕ
position_in sources source = position_or_len (λ other. same other source) sources

-- The positions of the sources that accept a type.
abbrev pub positions_in : List (List ℕ) → List ℕ → Positions
positions_in sources media = record { of_type = position_in sources media; of_super = position_in sources (super_source media); of_any = position_in sources every_type }

abbrev pub takes : Positions → ℕ → Bool
takes positions group = group == positions.of_type || group == positions.of_super || group == positions.of_any

abbrev pub link_of : List (List ℕ) → Conversion → Link
link_of sources c = record { group = position_in sources c.source; next = positions_in sources c.destination }

abbrev pub links_in : List Conversion → List Link
links_in file = map (link_of (sources_of file)) file

-- The line numbers ascend, from n on.
abbrev pub Ascends : ℕ → List Conversion → Type 0
Ascends n [] = Unit {0}
Ascends n (c ∷ file) = (n ≤ c.line) × Ascends (suc c.line) file

-- Each cost is within the range of a cost.
abbrev pub AreCheap : List Conversion → Type 0
AreCheap [] = Unit {0}
AreCheap (c ∷ file) = (c.cost ≤ 10000) × AreCheap file

-- The value contains the first position of each of these sources, and their number.
abbrev pub AreSources : Sources → List (List ℕ) → Type 0
AreSources found sources = (found.count ≡ length sources) × ((source : List ℕ) → unwrap_or (get_by (λ k. bytes_eq source k.now) found.positions) (length sources) ≡ position_in sources source)
