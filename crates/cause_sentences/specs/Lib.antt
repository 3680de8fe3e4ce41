pub mod CauseSentences
