pub mod CharLaws
pub mod WordLaws
pub mod PairLaws
pub mod PrintLaws
pub mod ListLaws
