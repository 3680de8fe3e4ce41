pub mod ProgramWords
pub mod ProgramLines
pub mod Programs
