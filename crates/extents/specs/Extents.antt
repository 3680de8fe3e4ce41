-- Extents in order, as those of a document.
use Rattle.std.specs.Prelude.{ℕ, ◌+◌, List, [], ◌∷◌}
use Rattle.extents.specs.declared.extent.Extent.{Extent}

-- The number of bytes of these extents.
abbrev pub size_of : List Extent → ℕ
size_of [] = 0
size_of (x ∷ xs) = x.len + size_of xs
