pub mod JobExamples
