pub mod CauseLaws
pub mod CountLaws
