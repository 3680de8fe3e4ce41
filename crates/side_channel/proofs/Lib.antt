pub mod PacketLaws
pub mod SessionLaws
pub mod RequestLaws
pub mod PieceLaws
