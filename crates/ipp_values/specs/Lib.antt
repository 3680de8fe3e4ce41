pub mod TextLimits
pub mod Opaque
pub mod Tags
pub mod ValueTexts
pub mod Messages
