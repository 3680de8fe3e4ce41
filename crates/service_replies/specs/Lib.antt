pub mod ServiceReplies
