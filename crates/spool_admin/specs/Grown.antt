-- The table and documents of a larger disk that was made from a spool.
use Rattle.std.specs.Prelude.{ℕ, List, ◌++◌, take, drop}
use Rattle.spool_types.specs.State.{State}
use Rattle.job_table.specs.TableVersions.{raised}
use Rattle.spool_core.specs.Image.{HasDocuments, HasTable, IsReopenedFrom}

-- `count` of these bytes, from offset `from` on, written over the first bytes of the others.
abbrev pub copied_over : ℕ → ℕ → List ℕ → List ℕ → List ℕ
copied_over from count bytes others = take count (drop from bytes) ++ drop count others

-- The image has the table that opening these bytes yields, in the newest version, and each of their documents.
pub record IsGrownFrom (bytes image : List ℕ) : Type 0 where
  pub table : State
  pub opened : IsReopenedFrom table bytes
  pub listed : HasTable (raised table) image
  pub documents : (t : State) (documents : ℕ → List ℕ) → HasTable t bytes → HasDocuments t documents bytes → HasDocuments (raised table) documents image
