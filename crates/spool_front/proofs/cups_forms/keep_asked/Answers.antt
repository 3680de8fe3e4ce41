use Rattle.std.proofs.Common.{rules}
use Rattle.std.proofs.lemmas.Fn.{filter_same}
use Rattle.spool_front.specs.CupsForms.{is_asked}
use Rattle.spool_front.proofs.cups_forms.keep_asked.Goals as goal

pub returns : goal.returns
returns c = filter_same _ (is_asked c.args.asked.now) _ (λ x b f' k. search rules) _ _ c.retain.ensures.filtered
