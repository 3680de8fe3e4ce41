pub mod BlankLaws
pub mod QuoteLaws
pub mod NumberLaws
