pub mod RowFilling
