use Rattle.mime_rules.proofs.OrderLaws.{best-some, best-none, best-only}
use Rattle.mime_rules.proofs.laws.best_law.Goals as goal

pub returns : goal.returns
returns c = record { some = best-some; none = best-none; only = best-only }
