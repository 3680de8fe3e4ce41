pub mod QueueEdits
pub mod EditRefusals
