mod OptionLaws
mod FieldForm
mod LineLaws
