pub mod RefusalSentences
