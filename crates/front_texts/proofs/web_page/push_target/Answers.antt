use Rattle.front_texts.proofs.AddLaws.{three_added}
use Rattle.front_texts.proofs.web_page.push_target.Goals as goal

pub returns : goal.returns
returns c = three_added _ _ _ _ _ _ _ c.in_ok-push_text.ensures c.in_ok-push_escaped.ensures.value c.in_ok-push_text-2.ensures
