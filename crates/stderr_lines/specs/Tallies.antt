-- How effects are tallied, effect by effect. Internal: no caller needs this.
use Rattle.std.specs.Prelude.{◌+◌, ◌-◌, cond, nat_le, List, [], ◌∷◌, ◌++◌}
use Rattle.spool_types.specs.declared.effect.Effect.{Effect}
use Rattle.spool_types.specs.Effects.{effect_size}
use Rattle.stderr_lines.specs.Reports.{counted}
use Rattle.stderr_lines.specs.PendingEffects.{Tally}

abbrev pub keep : Tally → Effect → Tally
keep t e =
    cond (nat_le (effect_size e) t.room)
    (record { effects = t.effects ++ e ∷ []; room = t.room - effect_size e; dropped = t.dropped })
    (record { effects = t.effects; room = 0; dropped = counted (t.dropped + 1) })

abbrev pub keep_all : Tally → List Effect → Tally
keep_all t [] = t
keep_all t (e ∷ es) = keep_all (keep t e) es

-- The same room, and no effects yet.
abbrev pub begun : Tally → Tally
begun t = record t { effects = [] }

-- The effects tallied since are appended.
abbrev pub joined : Tally → Tally → Tally
joined t u = record u { effects = t.effects ++ u.effects }
