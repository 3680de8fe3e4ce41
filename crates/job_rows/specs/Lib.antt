pub mod RowPositions
pub mod NumberedRows
pub mod RowSlots
pub mod RowFields
pub mod Lent
