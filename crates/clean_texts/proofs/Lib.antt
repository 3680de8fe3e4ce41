pub mod CleanLemmas
pub mod JsonLemmas
