-- The output of the backends (backend(7)).
use Rattle.std.specs.Prelude.{ℕ, List, [], ◌∷◌, ◌++◌, codes, Option}
use Rattle.builtin_stages.specs.Results.{Copied}
use Rattle.builtin_stages.specs.declared.results.Form.TheVariants.{Plain}
use Rattle.builtin_stages.specs.ToolArguments.{backend_name}
use Rattle.builtin_stages.specs.declared.words.Backend.{Backend}
use Rattle.builtin_stages.specs.declared.words.Backend.TheVariants.{AppSocket, Meet, SideAsk, SpoolFile}

abbrev pub device_class : Backend → List ℕ
device_class AppSocket = codes "network "
device_class SpoolFile = codes "file "
device_class Meet = codes "file "
device_class SideAsk = codes "file "

-- `CLASS TOOL "Unknown" "TOOL"` and a line feed
abbrev pub device_line : Backend → List ℕ
device_line tool = device_class tool ++ backend_name tool ++ codes " \"Unknown\" \"" ++ backend_name tool ++ 34 ∷ 10 ∷ []

-- The copies were written unchanged.
pub record Spooled (copies : ℕ) (known old new : Option (List ℕ)) : Type 0 where
  pub feeds : ℕ
  pub wrote : Copied Plain copies known old new feeds
