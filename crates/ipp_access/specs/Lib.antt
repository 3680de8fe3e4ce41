pub mod IppAccess
