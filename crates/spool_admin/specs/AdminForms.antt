-- The form of a command line, and the request that it makes.
use Rattle.std.specs.Prelude.{List, ◌∷◌, codes, drop, if◌then◌else◌}
use Rattle.std.specs.Str.{bytes_eq}
use Rattle.clap.specs.Words.{Text, matches_of}
use Rattle.spool_runtime.specs.ProgramArguments.{AreFaultlessFor}
use Rattle.spool_admin.specs.AdminArguments.{AreFaultless, AreTaken, IsAsked, admin_app}
use Rattle.spool_admin.specs.QueueArguments.{AreInRange, AreTakenFor, FitRemove, FitSet, IsRemove, IsSet, remove_app, set_app}
use Rattle.spool_admin.specs.declared.words.Asked.{Asked}
use Rattle.spool_admin.specs.declared.words.Asked.TheVariants as asked
use Rattle.spool_admin.specs.declared.words.Form.{Form}
use Rattle.spool_admin.specs.declared.words.Form.TheVariants.{Folder, Remove, Set}

abbrev pub form_of_act : Text → Form
form_of_act act = if bytes_eq act (codes "set") then Set else (if bytes_eq act (codes "remove") then Remove else Folder)

-- `queue set` or `queue remove` after the program's name. All other words are a task on the spool of a folder.
abbrev pub form_of : List Text → Form
form_of (name ∷ task ∷ act ∷ more) = if bytes_eq task (codes "queue") then form_of_act act else Folder
form_of words = Folder

-- The words of this form make this request.
abbrev pub IsAskedIn : Form → List Text → Asked → Type 0
IsAskedIn Folder words done = IsAsked (matches_of admin_app words) done
IsAskedIn Set words (asked.Set found) = IsSet (matches_of set_app (drop 2 words)) found
IsAskedIn Set words done = ⊥
IsAskedIn Remove words (asked.Remove found) = IsRemove (matches_of remove_app (drop 2 words)) found
IsAskedIn Remove words done = ⊥

abbrev pub IsAskedBy : List Text → Asked → Type 0
IsAskedBy words done = IsAskedIn (form_of words) words done

-- Clap finds no fault in the words of this form.
abbrev pub AreFaultlessIn : Form → List Text → Type 0
AreFaultlessIn Folder words = AreFaultless words
AreFaultlessIn Set words = AreFaultlessFor set_app (drop 2 words)
AreFaultlessIn Remove words = AreFaultlessFor remove_app (drop 2 words)

abbrev pub AreFaultlessBy : List Text → Type 0
AreFaultlessBy words = AreFaultlessIn (form_of words) words

-- And their values fit.
abbrev pub AreTakenIn : Form → List Text → Type 0
AreTakenIn Folder words = AreTaken words
AreTakenIn Set words = AreTakenFor set_app FitSet (drop 2 words)
AreTakenIn Remove words = AreTakenFor remove_app FitRemove (drop 2 words)

abbrev pub AreTakenBy : List Text → Type 0
AreTakenBy words = AreTakenIn (form_of words) words

-- The folder of the spool.
abbrev pub dir_of : Asked → Text
dir_of (asked.Look dir) = dir.now
dir_of (asked.Grow dir size) = dir.now
dir_of (asked.Split parts) = parts.from.now
dir_of (asked.Set words) = words.dir.now
dir_of (asked.Remove words) = words.dir.now

-- The folder for the part of a split, or that of the spool.
abbrev pub into_dir_of : Asked → Text
into_dir_of (asked.Split parts) = parts.into.now
into_dir_of done = dir_of done

-- The numbers of a request are in their ranges.
abbrev pub IsInRange : Asked → Type 0
IsInRange (asked.Set words) = AreInRange words
IsInRange done = Unit {0}
