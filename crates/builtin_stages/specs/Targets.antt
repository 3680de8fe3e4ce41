-- The files that backends write.
use Rattle.std.specs.Prelude.{ℕ, Bool, true, false, ◌&&◌, nat_eq}
use Rattle.builtin_stages.specs.declared.targets.Named.{Named}
use Rattle.builtin_stages.specs.declared.targets.Named.TheVariants.{Nothing, File, Other}

abbrev pub exists : Named → Bool
exists Nothing = false
exists (File owner names) = true
exists Other = true

-- A new file of a user may take the name of nothing, or of a regular file of the same user.
abbrev pub may_be_replaced : Named → ℕ → Bool
may_be_replaced Nothing user = true
may_be_replaced (File owner names) user = nat_eq owner user
may_be_replaced Other user = false

-- A user may write a new file, or the user's own regular file with one name.
abbrev pub may_be_written : Named → ℕ → Bool
may_be_written Nothing user = true
may_be_written (File owner names) user = nat_eq owner user && nat_eq names 1
may_be_written Other user = false
