pub mod ProofNotes
