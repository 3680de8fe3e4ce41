pub mod WaitCauses
