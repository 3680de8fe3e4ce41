-- The meaning of the words after `queue set` and `queue remove`, as clap parses them.
use Rattle.std.specs.Prelude.{◌≡◌, ◌&&◌, ◌≤◌, ◌⊎◌, Bool, List, Option, None, Some, Result, Ok, Err, IfSome, IsSome, IsSomeAnd, cond, codes, false, is_some, nat_eq, not, true}
use Rattle.std.specs.Cmp.Lexicographic.{pointwise}
use Rattle.std.specs.Option.{option_map}
use Rattle.std.specs.Str.{str_to_ascii_lowercase}
use Rattle.clap.specs.Words.{App, Row, Text, first_of, matches_of, new_app, one_of, with_rule}
use Rattle.clap.specs.declared.parser.matches.ArgMatches.{ArgMatches}
use Rattle.spool_types.specs.declared.phase.Policy.{Policy}
use Rattle.spool_types.specs.declared.phase.Policy.TheVariants.{AbortJob, RetryJob, RetryCurrentJob, StopPrinter}
use Rattle.spool_types.specs.Values.{is_media_type}
use Rattle.device_uri.specs.DeviceUris.{is_device_uri}
use Rattle.queue_edits.specs.declared.change.QueueChange.{QueueChange}
use Rattle.spool_runtime.specs.ProgramArguments.{AreFaultlessFor, HasNumberIn, flag_of, is_told, number_of, option_in, text_option}
use Rattle.spool_runtime.specs.declared.fault.ShellFault.TheVariants.{Memory}
use Rattle.spool_admin.specs.AdminArguments.{needed}
use Rattle.spool_admin.specs.declared.fault.AdminFault.{AdminFault}
use Rattle.spool_admin.specs.declared.fault.AdminFault.TheVariants.{BadMedia, BadUri, Shell}
use Rattle.spool_admin.specs.declared.queue_words.SetWords.{SetWords}
use Rattle.spool_admin.specs.declared.queue_words.RemoveWords.{RemoveWords}

-- `NAME DIR QUEUE`
abbrev pub with_place : Text → App
with_place name = with_rule (with_rule (new_app name) (needed (codes "dir"))) (needed (codes "name"))

-- `set DIR NAME [--uri URI] [--media TYPE] [--policy POLICY] [--interval SECONDS] [--limit N]`
abbrev pub set_app : App
set_app =
    with_rule (with_rule (with_rule (with_rule (with_rule (with_place (codes "spool_admin queue set")) (text_option (codes "uri"))) (text_option (codes "media")))
    (text_option (codes "policy"))) (option_in 0 86400 (codes "interval"))) (option_in 0 65535 (codes "limit"))

-- `remove DIR NAME [--purge]`
abbrev pub remove_app : App
remove_app = with_rule (with_place (codes "spool_admin queue remove")) (flag_of (codes "purge"))

-- The policy with this name.
abbrev pub policy_in : Text → Option Policy
policy_in text =
    cond (pointwise nat_eq text (codes "abort-job")) (Some AbortJob)
    (cond (pointwise nat_eq text (codes "retry-job")) (Some RetryJob)
    (cond (pointwise nat_eq text (codes "retry-current-job")) (Some RetryCurrentJob)
    (cond (pointwise nat_eq text (codes "stop-printer")) (Some StopPrinter)
    None)))

-- The policy of a text, if one is given.
abbrev pub policy_of : Option Text → Option Policy
policy_of None = None
policy_of (Some text) = policy_in text

-- A text that is given is that of a policy.
abbrev pub is_policy : Option Text → Bool
is_policy None = true
is_policy (Some text) = is_some (policy_in text)

-- The values are those found.
pub record IsSet (found : List Row) (words : SetWords) : Type 0 where
  pub dir : first_of (codes "dir") found ≡ Some words.dir.now
  pub name : first_of (codes "name") found ≡ Some words.name.now
  pub uri : option_map (λ text. text.now) words.uri ≡ first_of (codes "uri") found
  pub media : option_map (λ text. text.now) words.media ≡ first_of (codes "media") found
  pub policy : words.policy ≡ policy_of (first_of (codes "policy") found)
  pub interval : words.interval ≡ option_map number_of (one_of (codes "interval") found)
  pub limit : words.limit ≡ option_map number_of (one_of (codes "limit") found)

pub record IsRemove (found : List Row) (words : RemoveWords) : Type 0 where
  pub dir : first_of (codes "dir") found ≡ Some words.dir.now
  pub name : first_of (codes "name") found ≡ Some words.name.now
  pub purge : words.purge ≡ is_told (one_of (codes "purge") found)

-- The numbers are in their ranges.
pub record AreInRange (words : SetWords) : Type 0 where
  pub interval : IfSome words.interval (λ n. n ≤ 86400)
  pub limit : IfSome words.limit (λ n. n ≤ 65535)

-- The option is not given.
abbrev pub lacks : Text → List Row → Bool
lacks name found = not (is_some (first_of name found))

-- No field is given.
abbrev pub is_nothing : List Row → Bool
is_nothing found =
    lacks (codes "uri") found && (lacks (codes "media") found && (lacks (codes "policy") found && (lacks (codes "interval") found && lacks (codes "limit") found)))

-- The policy is one, if it is given, and at least one field is given.
pub record FitSet (found : List Row) : Type 0 where
  pub dir : IsSome (first_of (codes "dir") found)
  pub name : IsSome (first_of (codes "name") found)
  pub policy : is_policy (first_of (codes "policy") found) ≡ true
  pub some : is_nothing found ≡ false

pub record FitRemove (found : List Row) : Type 0 where
  pub dir : IsSome (first_of (codes "dir") found)
  pub name : IsSome (first_of (codes "name") found)

-- Clap finds no fault in the words of this command, and their values fit.
abbrev pub AreTakenFor : App → (List Row → Type 0) → List Text → Type 0
AreTakenFor app fit words = AreFaultlessFor app words × fit (matches_of app words)

-- The result for a policy that is given, or for none.
abbrev pub IsPolicyOf : Option Text → Result (Option Policy) (Unit {0}) → Type 0
IsPolicyOf given (Ok policy) = (policy ≡ policy_of given) × (is_policy given ≡ true)
IsPolicyOf given (Err nothing) = is_policy given ≡ false

-- The numbers found are in their ranges.
pub record HasNumbers (m : ArgMatches) : Type 0 where
  pub interval : HasNumberIn 0 86400 (codes "interval") m
  pub limit : HasNumberIn 0 65535 (codes "limit") m

-- The change has exactly the values of the words. The media type is in lower case.
pub record IsChangeOf (words : SetWords) (change : QueueChange) : Type 0 where
  pub uri : change.uri ≡ option_map (λ text. text.now) words.uri
  pub media : change.media ≡ option_map (λ text. str_to_ascii_lowercase text.now) words.media
  pub policy : change.policy ≡ words.policy
  pub interval : change.interval ≡ words.interval
  pub limit : change.limit ≡ words.limit

-- The URI that is given is not that of a device, or memory ran out.
abbrev pub IsOfUri : Option Text → AdminFault → Type 0
IsOfUri given told = (told ≡ Shell Memory) ⊎ ((told ≡ BadUri) × IsSomeAnd given (λ text. is_device_uri text ≡ false))

-- The media type that is given is not one, or memory ran out.
abbrev pub IsOfMedia : Option Text → AdminFault → Type 0
IsOfMedia given told = (told ≡ Shell Memory) ⊎ ((told ≡ BadMedia) × IsSomeAnd given (λ text. is_media_type (str_to_ascii_lowercase text) ≡ false))

-- A value cannot be that of a queue, or memory ran out.
abbrev pub IsOfChange : SetWords → AdminFault → Type 0
IsOfChange words told = IsOfUri (option_map (λ text. text.now) words.uri) told ⊎ IsOfMedia (option_map (λ text. text.now) words.media) told
