use Rattle.front_texts.proofs.AddLaws.{two_added}
use Rattle.front_texts.proofs.web_page.push_queue.Goals as goal

pub returns : goal.returns
returns c = two_added _ _ _ _ _ c.in_ok-push_queue_front.ensures c.in_ok-push_queue_rest.ensures
