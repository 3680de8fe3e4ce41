use Rattle.std.proofs.Common.{◌≡◌, List, [], ◌∷◌, ◌++◌, Option, Some, String, ap, cond, subst, sym, ◌∙◌}
use Rattle.std.specs.Global.{Global}
use Rattle.std.specs.Prelude.{string_bytes}
use Rattle.std.specs.Option.{option_to_list}
use Rattle.front_submission.specs.declared.reply.Reply.{Reply}
use Rattle.service_replies.specs.ServiceReplies.{reply_in}
use Rattle.spool_front.specs.Submissions.{IsHeard, is_refusal, joined_reply, noted}
use Rattle.spool_front.specs.declared.client.Answer.{Answer}
use Rattle.spool_front.proofs.Replies.{two_heard}
use Rattle.spool_front.proofs.submit.Submitting.reply_to_sends.Goals as goal

pub returns-in-Some-Some-clause-heard : goal.returns-in-Some-Some-clause-heard
returns-in-Some-Some-clause-heard c =
    let a = c.in-Some-Some.first in
    let b = c.in-Some-Some.second in
    let last = subst (λ (o : Option Answer). c.args.answers.now.items ≡ c.pop-second.new.self.items ++ option_to_list o) c.in-Some-Some.is-1 c.pop-second.ensures.items in
    let before = subst (λ (o : Option Answer). c.pop-second.new.self.items ≡ c.pop-first.new.self.items ++ option_to_list o) c.in-Some-Some.is-0 c.pop-first.ensures.items in
    let items = last ∙ ap (λ (l : List Answer). l ++ b ∷ []) before in
    let reply = c.joined_reply.ensures ∙ ap (λ (r : Reply). joined_reply r c.reply_of-second.result) c.reply_of-first.ensures.reply
    ∙ ap (λ (r : Reply). joined_reply (reply_in (string_bytes a.last)) r) c.reply_of-second.ensures.reply in
    let noted_first = ap (λ s. s.refusal) c.reply_of-first.ensures.refusal
    ∙ ap (λ (r : Reply). cond (is_refusal r) (Some a.last) c.args.self.now.refusal) c.reply_of-first.ensures.reply in
    let noted_second = ap (λ s. s.refusal) c.reply_of-second.ensures.refusal
    ∙ ap (λ (r : Reply). cond (is_refusal r) (Some b.last) c.reply_of-first.new.self.refusal) c.reply_of-second.ensures.reply
    ∙ ap (λ (o : Option (String Global)). noted b o) noted_first in
    subst (λ (l : List Answer). IsHeard l c.args.self.now.refusal c.joined_reply.result c.reply_of-second.new.self.refusal) (sym items)
    (two_heard c.pop-first.new.self.items a b _ _ _ reply noted_second)
