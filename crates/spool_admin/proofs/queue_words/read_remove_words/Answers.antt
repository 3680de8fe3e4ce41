-- The flag that clap finds is one.
use Rattle.std.proofs.Common.{subst}
use Rattle.clap.specs.Words.{App}
use Rattle.spool_runtime.specs.ProgramArguments.{PassParsers}
use Rattle.spool_admin.proofs.QueueWords.{has_purge}
use Rattle.spool_admin.proofs.queue_words.read_remove_words.Goals as goal

pub remove_in-requires : goal.remove_in-requires
remove_in-requires g c = has_purge c.in-Ok-parse.matches (subst (λ (a : App). PassParsers a c.in-Ok-parse.matches) c.in-Ok.ensures c.in-Ok-parse.ensures.pass)
