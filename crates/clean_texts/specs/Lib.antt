pub mod SteeringCharacters
pub mod CleanTexts
pub mod JsonEscapes
