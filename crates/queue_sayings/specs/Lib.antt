pub mod QueueSayings
