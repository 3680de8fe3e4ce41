pub mod Packets
pub mod SideAnswers
pub mod SideSessions
pub mod Streams
pub mod AnswerFields
pub mod Requests
pub mod SessionPieces
pub mod SessionBytes
