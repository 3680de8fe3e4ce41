pub mod ChallengeNames
pub mod FolderProofs
pub mod KnownUsers
pub mod OperatorRules
pub mod UserLines
