pub mod CheckLaws
pub mod RepeatLaws
