-- The words after `queue set` and `queue remove`.
use Rattle.std.proofs.Common.{codes, refl}
use Rattle.clap.specs.declared.parser.matches.ArgMatches.{ArgMatches}
use Rattle.spool_runtime.specs.ProgramArguments.{HasFlag, PassParsers, RefusesOnly}
use Rattle.spool_runtime.specs.declared.options.WordsFault.{WordsFault}
use Rattle.spool_runtime.specs.declared.options.WordsFault.TheVariants.{Refused, Memory}
use Rattle.spool_runtime.proofs.Accepted.{has_flag, has_number}
use Rattle.spool_admin.specs.QueueArguments.{HasNumbers, remove_app, set_app}

pub has_numbers : (m : ArgMatches) → PassParsers set_app m → HasNumbers m
has_numbers m pass = record {
  interval = has_number set_app m (codes "interval") 0 86400 pass (λ none. cc) (refl, refl);
  limit = has_number set_app m (codes "limit") 0 65535 pass (λ none. cc) (refl, refl);
}

pub has_purge : (m : ArgMatches) → PassParsers remove_app m → HasFlag (codes "purge") m
has_purge m pass = has_flag remove_app m (codes "purge") pass (λ none. cc) (refl, refl)

-- If q implies p, a refusal that contradicts p contradicts q.
pub less_refused : (p q : Type 0) (fault : WordsFault) → (q → p) → RefusesOnly p fault → RefusesOnly q fault
less_refused p q (Refused error) more only = λ held. only (more held)
less_refused p q Memory more only = tt
