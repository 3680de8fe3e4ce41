pub mod Asks
pub mod ReaderCalls
pub mod AwaitedRequests
