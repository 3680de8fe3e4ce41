pub mod WalkCosts
