-- The reply to a piece, from those to its commands.
use Rattle.std.proofs.Common.{◌≡◌, List, [], ◌∷◌, ◌++◌, Option, String}
use Rattle.std.specs.Prelude.{string_bytes}
use Rattle.std.specs.Global.{Global}
use Rattle.front_submission.specs.declared.reply.Reply.{Reply}
use Rattle.service_replies.specs.ServiceReplies.{reply_in}
use Rattle.spool_front.specs.Submissions.{IsHeard, joined_reply, noted}
use Rattle.spool_front.specs.declared.client.Answer.{Answer}

pub two_heard : (rest : List Answer) (first second : Answer) (old new : Option (String Global)) (reply : Reply)
    → reply ≡ joined_reply (reply_in (string_bytes first.last)) (reply_in (string_bytes second.last)) → new ≡ noted second (noted first old)
    → IsHeard ((rest ++ first ∷ []) ++ second ∷ []) old reply new
two_heard [] first second old new reply is refusal = (is, refusal)
two_heard (a ∷ []) first second old new reply is refusal = tt
two_heard (a ∷ b ∷ []) first second old new reply is refusal = tt
two_heard (a ∷ b ∷ c ∷ rest) first second old new reply is refusal = tt
