pub mod SlotLaws
pub mod PutLaws
pub mod TicketLaws
pub mod NextLaws
