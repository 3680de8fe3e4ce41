pub mod Streams
pub mod Orders
pub mod Growth
pub mod RowLaws
pub mod ReplyLaws
pub mod ExchangeLaws
