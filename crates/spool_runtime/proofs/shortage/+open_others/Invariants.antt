-- Each call opens one descriptor fewer.
use Rattle.spool_runtime.proofs.shortage.+open_others.Given as goal

abbrev pub decreases-open_others : goal.decreases-open_others
decreases-open_others l = l.most
