pub mod JoinedLines
pub mod RuleNumbers
pub mod LineFields
