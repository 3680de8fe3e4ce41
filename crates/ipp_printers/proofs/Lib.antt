pub mod PartLaws
pub mod WordLists
pub mod SectionLaws
pub mod LineLaws
