pub mod Orders
pub mod Finishes
pub mod ChildTraces
pub mod MemoryChildren
pub mod StageSlots
pub mod RunnerFields
pub mod Tickets
