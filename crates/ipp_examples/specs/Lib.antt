pub mod ClientMessages
pub mod RequestExamples
pub mod ExchangeExamples
pub mod HttpExamples
