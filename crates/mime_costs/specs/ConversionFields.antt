-- The meanings of a value's fields.
use Rattle.std.specs.Prelude.{◌≡◌, ℕ, List, Option, None, Some}
use Rattle.mime_costs.specs.Walks.{Worth, IsReached, IsLeast, IsApart}
use Rattle.mime_costs.specs.SourceIndex.{links_in, Ascends, AreCheap}
use Rattle.mime_costs.specs.declared.conversion.Conversion.{Conversion}
use Rattle.mime_costs.specs.ConversionFiles.{Words}
use Rattle.mime_costs.specs.declared.reading.Words.{Words as Found}
use Rattle.mime_costs.specs.declared.chain.Chain.{Chain}
use Rattle.mime_costs.specs.declared.convs.Convs.TheInside.{Inside}

abbrev pub worth_of_chain : Chain → Worth
worth_of_chain chain = record { cost = chain.cost; lines = chain.lines.items }

-- The result of a search among all walks.
abbrev pub IsAnswer : List Conversion → List ℕ → List ℕ → Option Chain → Type 0
IsAnswer file from to None = IsApart file from to
IsAnswer file from to (Some chain) = IsReached file from to (worth_of_chain chain) × IsLeast file from to (worth_of_chain chain)

-- The words of a line.
abbrev pub words_in : Found → Words
words_in found = record { source = found.source.now; destination = found.destination.now; cost = found.cost.now; filter = found.filter.now }

pub record IsIndexed (convs : Inside) : Type 0 where
  pub linked : convs.links.items ≡ links_in convs.conversions.items
  pub rising : Ascends 1 convs.conversions.items
  pub cheap : AreCheap convs.conversions.items
