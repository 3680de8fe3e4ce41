pub mod Pieces
pub mod LineLaws
pub mod TextLaws
pub mod StepLaws
pub mod WordLaws
pub mod GrammarLaws
pub mod AskedLaws
