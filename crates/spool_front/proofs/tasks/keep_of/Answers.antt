use Rattle.std.proofs.Common.{rules}
use Rattle.std.proofs.lemmas.Fn.{filter_same}
use Rattle.std.specs.Option.{option_map}
use Rattle.spool_front.specs.Acts.{is_of}
use Rattle.spool_front.proofs.tasks.keep_of.Goals as goal

pub returns : goal.returns
returns c = filter_same _ (is_of (option_map (λ name. name.now) c.args.queue)) _ (λ x b f' k. search rules) _ _ c.retain.ensures.filtered
