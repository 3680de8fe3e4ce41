use Rattle.front_texts.proofs.AddLaws.{four_added}
use Rattle.front_texts.proofs.web_page.push_head.Goals as goal

pub returns : goal.returns
returns c = four_added _ _ _ _ _ _ _ _ _ c.in_ok-push_opening.ensures c.in_ok-push_style.ensures c.in_ok-push_stamp.ensures c.in_ok-push_limits.ensures
