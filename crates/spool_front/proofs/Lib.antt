pub mod Behind
pub mod Pieces
pub mod Replies
pub mod Shares
pub mod MirrorLaws
