pub mod KeptLaws
pub mod PlainLaws
pub mod RangeLaws
pub mod TakenLaws
