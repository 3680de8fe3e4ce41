pub mod Keys
pub mod QueueReasons
pub mod QueueAttributes
pub mod EffectFold
pub mod Room
pub mod QueueDrafts
