-- The meaning of the command line's words, as clap parses them.
use Rattle.std.specs.Prelude.{◌≡◌, ◌⊎◌, ◌<◌, Some, List, [], ◌∷◌, codes, length, map, true, unwrap_or}
use Rattle.clap.specs.Words.{App, IsUnsignedIn, Row, Rule, Text, all_of, fault_of, first_of, matches_of, new_rule, with_rule}
use Rattle.clap.specs.declared.builder.action.ArgAction.TheVariants.{Append}
use Rattle.clap.specs.declared.builder.value_parser.ValueParser.{ValueParser}
use Rattle.clap.specs.declared.builder.value_parser.ValueParser.TheVariants.{NonEmptyString}
use Rattle.spool_runtime.specs.ProgramArguments.{number_of, versioned_app}
use Rattle.spool_admin.specs.declared.words.Asked.{Asked}
use Rattle.spool_admin.specs.declared.words.Asked.TheVariants.{Grow, Look, Remove, Set, Split}

-- A positional argument.
abbrev pub placed : Text → ValueParser → Rule
placed name parser = record (new_rule name) { value_names = 1; parser = Some parser }

-- A required argument that is not empty.
abbrev pub needed : Text → Rule
needed name = record (placed name NonEmptyString) { required = true }

-- An optional argument with any number of words.
abbrev pub several : Text → Rule
several name = record (placed name NonEmptyString) { action = Some Append }

-- `spool_admin [--version] TASK DIR [WORD..]`
abbrev pub admin_app : App
admin_app =
    with_rule (with_rule (with_rule (versioned_app (codes "spool_admin")) (needed (codes "task"))) (needed (codes "dir"))) (several (codes "rest"))

-- The words after the folder.
abbrev pub rest_of : List Row → List Text
rest_of found = unwrap_or (all_of (codes "rest") found) []

-- ## The request that the words of a task make

abbrev pub IsLook : Text → List Text → Asked → Type 0
IsLook dir rest (Look d) = (d.now ≡ dir) × (rest ≡ [])
IsLook dir rest (Grow d size) = ⊥
IsLook dir rest (Split s) = ⊥
IsLook dir rest (Set words) = ⊥
IsLook dir rest (Remove words) = ⊥

-- A length that a file may have.
abbrev pub IsGrow : Text → List Text → Asked → Type 0
IsGrow dir rest (Look d) = ⊥
IsGrow dir rest (Grow d size) = (d.now ≡ dir) × ((text : Text) × (rest ≡ text ∷ []) × IsUnsignedIn 4096 1073741824 text × (size ≡ number_of text))
IsGrow dir rest (Split s) = ⊥
IsGrow dir rest (Set words) = ⊥
IsGrow dir rest (Remove words) = ⊥

-- Another folder, and at least one queue.
abbrev pub IsSplit : Text → List Text → Asked → Type 0
IsSplit dir rest (Look d) = ⊥
IsSplit dir rest (Grow d size) = ⊥
IsSplit dir rest (Split s) = (s.from.now ≡ dir) × (rest ≡ s.into.now ∷ map (λ queue. queue.now) s.queues.items) × (0 < length s.queues.items)
IsSplit dir rest (Set words) = ⊥
IsSplit dir rest (Remove words) = ⊥

abbrev pub IsFor : Text → Text → List Text → Asked → Type 0
IsFor task dir rest asked =
    ((task ≡ codes "look") × IsLook dir rest asked) ⊎ (((task ≡ codes "grow") × IsGrow dir rest asked) ⊎ ((task ≡ codes "split") × IsSplit dir rest asked))

-- The request that the values make: `look DIR`, `grow DIR BYTES` or `split DIR INTO QUEUE..`
pub record IsAsked (found : List Row) (asked : Asked) : Type 0 where
  pub task : Text
  pub dir : Text
  pub task_is : first_of (codes "task") found ≡ Some task
  pub dir_is : first_of (codes "dir") found ≡ Some dir
  pub words : IsFor task dir (rest_of found) asked

-- ## Words of a task

abbrev pub IsSize : List Text → Type 0
IsSize rest = (text : Text) × (rest ≡ text ∷ []) × IsUnsignedIn 4096 1073741824 text

abbrev pub ArePlaces : List Text → Type 0
ArePlaces rest = (into queue : Text) × ((more : List Text) × (rest ≡ into ∷ queue ∷ more))

abbrev pub IsOfTask : Text → List Text → Type 0
IsOfTask task rest =
    ((task ≡ codes "look") × (rest ≡ [])) ⊎ (((task ≡ codes "grow") × IsSize rest) ⊎ ((task ≡ codes "split") × ArePlaces rest))

-- The values are those of a task.
pub record HasTask (found : List Row) : Type 0 where
  pub task : Text
  pub dir : Text
  pub task_is : first_of (codes "task") found ≡ Some task
  pub dir_is : first_of (codes "dir") found ≡ Some dir
  pub words : IsOfTask task (rest_of found)

-- Clap finds no fault in the words.
abbrev pub AreFaultless : List Text → Type 0
AreFaultless words = fault_of admin_app words ≡ []

-- Clap finds no fault in the words, and they are those of a task.
abbrev pub AreTaken : List Text → Type 0
AreTaken words = AreFaultless words × HasTask (matches_of admin_app words)
