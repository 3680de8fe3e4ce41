-- The meaning of the arguments, as clap reads them.
use Rattle.std.specs.Prelude.{◌≡◌, ◌≤◌, ◌==◌, ◌||◌, ℕ, nat_eq, List, Option, None, Some, IfSome, IsSome, IsSomeAnd, IsTrue, codes, cond, if◌then◌else◌, length}
use Rattle.std.specs.Cmp.Lexicographic.{pointwise}
use Rattle.std.specs.Option.{SomeIff, option_map}
use Rattle.std.specs.Str.Parse.{IsNumeral, digits_value, without_leading_plus}
use Rattle.log.specs.declared.level.Level.{Level}
use Rattle.log.specs.declared.level.Level.TheVariants.{Debug, Error, Info}
use Rattle.client_standing.specs.declared.rules.Trust.{Trust}
use Rattle.client_standing.specs.declared.rules.Trust.TheVariants as trusted
use Rattle.clap.specs.Words.{App, Row, Text, first_of, matches_of, one_of, with_rule}
use Rattle.clap.specs.declared.parser.matches.ArgMatches.{ArgMatches}
use Rattle.spool_runtime.specs.ProgramArguments.{AreFaultlessFor, HasFlag, HasNumberIn, flag_of, is_told, number_or, option_in, size_of, spool_app, text_option}
use Rattle.spool_service.specs.ChildArguments.{AreInChildRange, HasChildNumbers, IsAskedOfChildren, children_fit, with_children}
use Rattle.spool_service.specs.declared.words.ServiceWords.{ServiceWords}

-- ---- the command

-- `[--listen SOCKET] [--mode MODE]`
abbrev pub with_socket : App → App
with_socket app = with_rule (with_rule app (text_option (codes "listen"))) (text_option (codes "mode"))

-- `[--trust TRUST] [--show-all] [--operators GROUP] [--operators-socket SOCKET] [--proofs FOLDER]`
abbrev pub with_roles : App → App
with_roles app =
    with_rule (with_rule (with_rule (with_rule (with_rule app (text_option (codes "trust"))) (flag_of (codes "show-all"))) (text_option (codes "operators")))
    (text_option (codes "operators-socket"))) (text_option (codes "proofs"))

-- `[--keep N] [--room PERCENT] [--children N] [--clients N] [--incoming SECONDS]`
abbrev pub with_bounds : App → App
with_bounds app =
    with_rule (with_rule (with_rule (with_rule (with_rule app (option_in 0 1000000 (codes "keep"))) (option_in 1 90 (codes "room"))) (option_in 1 1000 (codes "children")))
    (option_in 1 1000 (codes "clients"))) (option_in 1 86400 (codes "incoming"))

-- The options of a spool, these, and `[--quiet] [--verbose]`.
abbrev pub service_app : App
service_app =
    with_rule (with_rule (with_children (with_bounds (with_roles (with_socket (spool_app (codes "spool_service")))))) (flag_of (codes "quiet"))) (flag_of (codes "verbose"))

-- ---- the meaning of the values

-- The number that the octal digits represent.
abbrev pub octal_of : Text → ℕ
octal_of text = digits_value 8 (without_leading_plus text)

-- The text is an octal number up to 777.
abbrev pub IsMode : Text → Type 0
IsMode text = IsNumeral 8 (without_leading_plus text) × (octal_of text ≤ 511)

-- The mode that MODE specifies, if it is valid, or 0660 without MODE.
abbrev pub SaysMode : Option Text → Option ℕ → Type 0
SaysMode None mode = mode ≡ Some 432
SaysMode (Some text) mode = SomeIff mode (IsMode text) (octal_of text)

-- `all` or `none`.
abbrev pub trust_in : Text → Option Trust
trust_in text = cond (pointwise nat_eq text (codes "all")) (Some trusted.All) (cond (pointwise nat_eq text (codes "none")) (Some trusted.None) None)

-- All for a socket of its owner alone, or of its owner and its group: 0600 and 0660.
abbrev pub usual_trust : ℕ → Trust
usual_trust mode = cond (mode == 384 || mode == 432) trusted.All trusted.None

-- The trust that TRUST names, if it is valid, or the default for the mode without TRUST.
abbrev pub SaysTrust : Option Text → ℕ → Option Trust → Type 0
SaysTrust None mode said = said ≡ Some (usual_trust mode)
SaysTrust (Some text) mode said = said ≡ trust_in text

-- All lines with `--verbose`, only errors with `--quiet`, and otherwise all but debug lines.
abbrev pub level_of : List Row → Level
level_of found = if is_told (one_of (codes "verbose") found) then Debug else (if is_told (one_of (codes "quiet") found) then Error else Info)

-- The values are those found, or the defaults: 500 ended jobs, 25 percent of the room, 32 children, 256 clients, 900 seconds for incoming jobs.
pub record IsAsked (found : List Row) (words : ServiceWords) : Type 0 where
  pub root : first_of (codes "root") found ≡ Some words.root.now
  pub listen : option_map (λ socket. socket.now) words.listen ≡ first_of (codes "listen") found
  pub mode : SaysMode (first_of (codes "mode") found) (Some words.mode)
  pub trust : SaysTrust (first_of (codes "trust") found) words.mode (Some words.trust)
  pub show_all : words.show_all ≡ is_told (one_of (codes "show-all") found)
  pub operators : option_map (λ group. group.now) words.operators ≡ first_of (codes "operators") found
  pub operators_socket : option_map (λ socket. socket.now) words.operators_socket ≡ first_of (codes "operators-socket") found
  pub proofs : option_map (λ folder. folder.now) words.proofs ≡ first_of (codes "proofs") found
  pub types : option_map (λ file. file.now) words.types ≡ first_of (codes "types") found
  pub convs : option_map (λ file. file.now) words.convs ≡ first_of (codes "convs") found
  pub programs : option_map (λ file. file.now) words.programs ≡ first_of (codes "programs") found
  pub size : words.size ≡ size_of found
  pub keep : words.keep ≡ number_or 500 (one_of (codes "keep") found)
  pub room : words.room ≡ number_or 25 (one_of (codes "room") found)
  pub children : words.children ≡ number_or 32 (one_of (codes "children") found)
  pub clients : words.clients ≡ number_or 256 (one_of (codes "clients") found)
  pub incoming : words.incoming ≡ number_or 900 (one_of (codes "incoming") found)
  pub child : IsAskedOfChildren found words.child
  pub level : words.level ≡ level_of found

-- The values are within their limits.
pub record AreInRange (words : ServiceWords) : Type 0 where
  pub root : length words.root.now ≤ 64
  pub mode : words.mode ≤ 511
  pub size : (4096 ≤ words.size) × (words.size ≤ 1073741824)
  pub keep : words.keep ≤ 1000000
  pub room : (1 ≤ words.room) × (words.room ≤ 90)
  pub children : (1 ≤ words.children) × (words.children ≤ 1000)
  pub clients : (1 ≤ words.clients) × (words.clients ≤ 1000)
  pub incoming : (1 ≤ words.incoming) × (words.incoming ≤ 86400)
  pub child : AreInChildRange words.child

-- `all` or `none`.
abbrev pub IsTrust : Text → Type 0
IsTrust text = IsSome (trust_in text)

-- The values about children fit together and to DIR.
abbrev pub ChildrenFit : List Row → Type 0
ChildrenFit found =
    IfSome (first_of (codes "root") found)
    (λ dir. IsTrue (children_fit (first_of (codes "children-user") found) (number_or 0 (one_of (codes "child-processes") found)) dir))

-- DIR is given and has at most 64 bytes, MODE and TRUST are valid, if they are given, and the values about children fit.
abbrev pub Fit : List Row → Type 0
Fit found =
    IsSomeAnd (first_of (codes "root") found) (λ dir. length dir ≤ 64) × IfSome (first_of (codes "mode") found) IsMode
    × IfSome (first_of (codes "trust") found) IsTrust × ChildrenFit found

-- Clap finds no error in the arguments.
abbrev pub AreFaultless : List Text → Type 0
AreFaultless words = AreFaultlessFor service_app words

-- Clap finds no error in the arguments, and their values fit.
abbrev pub AreTaken : List Text → Type 0
AreTaken words = AreFaultless words × Fit (matches_of service_app words)

-- ---- intermediate steps of reading

-- The numbers found are in their ranges.
pub record HasNumbers (m : ArgMatches) : Type 0 where
  pub size : HasNumberIn 4096 1073741824 (codes "size") m
  pub keep : HasNumberIn 0 1000000 (codes "keep") m
  pub room : HasNumberIn 1 90 (codes "room") m
  pub children : HasNumberIn 1 1000 (codes "children") m
  pub clients : HasNumberIn 1 1000 (codes "clients") m
  pub incoming : HasNumberIn 1 86400 (codes "incoming") m
  pub child : HasChildNumbers m

-- The flags found are flags.
pub record HasFlags (m : ArgMatches) : Type 0 where
  pub show_all : HasFlag (codes "show-all") m
  pub quiet : HasFlag (codes "quiet") m
  pub verbose : HasFlag (codes "verbose") m
