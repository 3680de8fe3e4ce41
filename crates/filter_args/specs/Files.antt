-- The files of a child, in the spool's folder.
use Rattle.std.specs.Prelude.{ℕ, List, ◌++◌, codes}
use Rattle.std.specs.Fmt.{decimal}
use Rattle.filter_args.specs.declared.files.ChildFile.{ChildFile}
use Rattle.filter_args.specs.declared.files.ChildFile.TheVariants.{Input, Output, Errors, Side}

abbrev pub prefix_of : ChildFile → List ℕ
prefix_of Input = codes "in"
prefix_of Output = codes "out"
prefix_of Errors = codes "err"
prefix_of Side = codes "side"

-- A file in the folder, named by its kind, the job, the attempt and the stage.
abbrev pub file_name : ChildFile → List ℕ → ℕ → ℕ → ℕ → List ℕ
file_name file root job attempt stage =
    root ++ codes "/" ++ prefix_of file ++ codes "-" ++ decimal job ++ codes "-" ++ decimal attempt ++ codes "-" ++ decimal stage
