-- The report of a text: its effects up to the first that does not fit, and the number of the others.
use Rattle.std.specs.Prelude.{ℕ, ◌-◌, cond, nat_le, min, List, [], ◌∷◌, length}
use Rattle.spool_types.specs.declared.effect.Effect.{Effect}
use Rattle.stderr_lines.specs.declared.lines.Report.{Report}
use Rattle.spool_types.specs.Effects.{effect_size, most_effect_bytes}
use Rattle.stderr_lines.specs.LineEffects.{effects_of}

-- The report of a child's standard error.
pub record Reported : Type 0 where
  pub effects : List Effect
  pub dropped : ℕ

-- A report without the addresses of its effects.
abbrev pub told_by : Report → Reported
told_by r = record { effects = r.effects.items; dropped = r.dropped }

-- The effects before the first whose code does not fit.
abbrev pub fitting : ℕ → List Effect → List Effect
fitting room [] = []
fitting room (e ∷ es) = cond (nat_le (effect_size e) room) (e ∷ fitting (room - effect_size e) es) []

-- The number of dropped effects.
abbrev pub left_out : ℕ → List Effect → ℕ
left_out room es = length es - length (fitting room es)

-- They are counted up to 4,294,967,295.
abbrev pub counted : ℕ → ℕ
counted n = min n 4294967295

-- The report of a text.
abbrev pub report_of : List ℕ → Reported
report_of text = record { effects = fitting most_effect_bytes (effects_of text); dropped = counted (left_out most_effect_bytes (effects_of text)) }
