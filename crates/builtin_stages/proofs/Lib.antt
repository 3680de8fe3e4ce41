pub mod ResultLaws
pub mod EndLaws
