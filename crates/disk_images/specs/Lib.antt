pub mod ImageLaws
pub mod KeptImages
