-- The state of a reader of standard error, and its future report.
use Rattle.std.specs.Prelude.{◌≡◌, ℕ, ◌+◌, List, [], ◌∷◌, ◌++◌}
use Rattle.spool_types.specs.declared.effect.Effect.{Effect}
use Rattle.stderr_lines.specs.LineEffects.{effects_of}
use Rattle.stderr_lines.specs.Reports.{Reported, fitting, left_out, counted}
use Rattle.spool_types.specs.Effects.{most_effect_bytes}

-- Retained effects, the number of bytes left for codes, and the number of dropped effects. Once an effect was dropped, no bytes are left.
pub record Tally : Type 0 where
  pub effects : List Effect
  pub room : ℕ
  pub dropped : ℕ

abbrev pub nothing_kept : Tally
nothing_kept = record { effects = []; room = most_effect_bytes; dropped = 0 }

-- The front of an incomplete line, as far as it is read, and the effects of the lines before it.
pub record Pending : Type 0 where
  pub held : List ℕ
  pub tally : Tally

-- The report if these effects follow.
abbrev pub told_after : Tally → List Effect → Reported
told_after t es = record { effects = t.effects ++ fitting t.room es; dropped = counted (t.dropped + left_out t.room es) }

-- The report if this text follows.
abbrev pub to_come : Pending → List ℕ → Reported
to_come p more = told_after p.tally (effects_of (p.held ++ more))

-- A piece of the text is read: whatever follows it, the report is the same.
abbrev pub Takes : Pending → List ℕ → Pending → Type 0
Takes old piece new = (more : List ℕ) → to_come old (piece ++ more) ≡ to_come new more

-- Pieces are read in order.
abbrev pub TakesAll : Pending → List (List ℕ) → Pending → Type 0
TakesAll old [] new = new ≡ old
TakesAll old (piece ∷ pieces) new = (next : Pending) × Takes old piece next × TakesAll next pieces new

-- The text of these pieces.
abbrev pub joined_pieces : List (List ℕ) → List ℕ
joined_pieces [] = []
joined_pieces (piece ∷ pieces) = piece ++ joined_pieces pieces
