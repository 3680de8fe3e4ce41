-- The contents of an answer, as its callers see it.
use Rattle.side_channel.specs.SideAnswers.{Content, empty, one, id, Reply}
use Rattle.side_channel.specs.declared.replies.Answer.{Answer}
use Rattle.side_channel.specs.declared.replies.AnswerBody.{AnswerBody}
use Rattle.side_channel.specs.declared.replies.AnswerBody.TheVariants.{Empty, One, Id}

abbrev pub content_of : AnswerBody → Content
content_of Empty = empty
content_of (One b) = one b
content_of (Id bytes) = id bytes.now

abbrev pub reply_of : Answer → Reply
reply_of a = record { command = a.command; status = a.status; content = content_of a.body }
