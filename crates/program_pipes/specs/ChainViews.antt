-- Chains as clauses see them.
use Rattle.program_pipes.specs.Chains.{ChainPrograms}
use Rattle.program_pipes.specs.declared.chain.Chain.{Chain}

abbrev pub chain_view : Chain → ChainPrograms
chain_view chain = record { filters = chain.filters.now; backend = chain.backend.now }
