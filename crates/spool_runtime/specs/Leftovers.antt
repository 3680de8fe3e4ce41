-- The child that a name in the spool's folder belongs to.
use Rattle.std.specs.Prelude.{◌≡◌, ℕ, Bool, true, ◌&&◌, nat_le, List, ◌++◌, length, codes}
use Rattle.std.specs.List.{list_all}
use Rattle.std.specs.Char.{is_ascii_digit}
use Rattle.filter_args.specs.Files.{prefix_of}
use Rattle.filter_args.specs.declared.files.ChildFile.{ChildFile}

-- Only decimal digits, and at least one.
abbrev pub is_number : List ℕ → Bool
is_number text = nat_le 1 (length text) && list_all is_ascii_digit text

abbrev pub are_numbers : List ℕ → List ℕ → List ℕ → Bool
are_numbers job attempt stage = is_number job && is_number attempt && is_number stage

-- The name of this file of the child of this job, attempt and stage.
pub record IsNameOf (name : List ℕ) (file : ChildFile) (job attempt stage : List ℕ) : Type 0 where
  pub name_is : name ≡ prefix_of file ++ codes "-" ++ job ++ codes "-" ++ attempt ++ codes "-" ++ stage
  pub numbers : are_numbers job attempt stage ≡ true

-- The name of no file of a child.
abbrev pub IsNoName : List ℕ → Type 0
IsNoName name = (file : ChildFile) (job attempt stage : List ℕ) → ¬ (IsNameOf name file job attempt stage)
