pub mod Disk
pub mod File
pub mod Fuse
pub mod Images
pub mod MemoryDisks
