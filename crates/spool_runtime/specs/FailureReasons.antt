-- The reasons that are reported for a failed stage.
use Rattle.std.specs.Prelude.{ℕ, Bool, true, false, cond, ◌==◌, List, Option, None, Some}
use Rattle.child_pipeline.specs.declared.order.Program.{Program}
use Rattle.child_pipeline.specs.declared.order.Program.TheVariants as programs
use Rattle.spool_types.specs.declared.effect.Effect.{Effect}
use Rattle.spool_types.specs.declared.effect.Effect.TheVariants as effects
use Rattle.spool_types.specs.declared.effect.Exit.{Exit}
use Rattle.spool_types.specs.declared.effect.Exit.TheVariants as exits
use Rattle.spool_runtime.specs.declared.reasons.Reason.{Reason}
use Rattle.spool_runtime.specs.declared.reasons.Reason.TheVariants as reasons

-- The reason for an end that is not a success. An end that was not observed has a cause of its own.
abbrev pub bad_end : Exit → Option Reason
bad_end (exits.Code code) = cond (code == 0) None (Some (reasons.Status code))
bad_end exits.Signal = Some reasons.Signal
bad_end exits.NoStart = None
bad_end exits.Lost = None

abbrev pub is_message : Effect → Bool
is_message (effects.Message level text) = true
is_message _ = false

-- A shortage that may pass in a moment.
abbrev pub may_pass : Reason → Bool
may_pass (reasons.Short shortage) = true
may_pass _ = false

-- The program of a stage.
abbrev pub is_filter : Program → Bool
is_filter (programs.Filter name) = true
is_filter (programs.Backend scheme) = false

abbrev pub name_of : Program → List ℕ
name_of (programs.Filter name) = name
name_of (programs.Backend scheme) = scheme
