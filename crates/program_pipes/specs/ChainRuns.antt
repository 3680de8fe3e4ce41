-- The programs whose ends are known after a chain ran.
use Rattle.std.specs.Prelude.{◌≡◌, ℕ, List, map}
use Rattle.program_pipes.specs.declared.chain.Chain.{Chain}
use Rattle.program_pipes.specs.declared.ends.FilterEnd.{FilterEnd}
use Rattle.program_pipes.specs.declared.ends.ChainEnd.{ChainEnd}

abbrev pub names_of : List FilterEnd → List (List ℕ)
names_of filters = map (λ filter. filter.name.now) filters

-- Each program of the chain has its end, in order.
pub record HasNamesOf (chain : Chain) (end : ChainEnd) : Type 0 where
  pub filters : names_of end.filters.items ≡ map (λ listed. listed.name) chain.filters.now
  pub backend : end.name.now ≡ chain.backend.now.name
