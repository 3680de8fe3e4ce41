-- Examples of the encoding of events.
use Rattle.std.specs.Prelude.{◌≡◌, ℕ, true, false, List, [], ◌∷◌, ◌++◌, map, codes, None, Some, Ok}
use Rattle.spool_types.specs.declared.phase.Policy.TheVariants.{AbortJob}
use Rattle.spool_types.specs.declared.effect.Exit.{Exit}
use Rattle.spool_types.specs.declared.effect.Exit.TheVariants as exits
use Rattle.spool_types.specs.declared.effect.Level.TheVariants.{Emergency, Alert, Critical, Error, Warning, Notice, Info}
use Rattle.spool_types.specs.declared.effect.Effect.{Effect}
use Rattle.spool_types.specs.declared.effect.Effect.TheVariants as effects
use Rattle.spool_types.specs.declared.event.Event.{Event}
use Rattle.spool_types.specs.declared.event.Event.TheVariants as events
use Rattle.event_codec.specs.Spelling.{spelling}
use Rattle.event_codec.specs.EventReading.{reading}
use Rattle.decision_examples.specs.HexBytes.{hex}

-- Each row: the bytes that follow these bytes, and the event that all of them encode.
abbrev pub AreSpelled : List ℕ → List (List ℕ × Event) → Type 0
AreSpelled before rows =
    (map (λ (row : List ℕ × Event). spelling row.1) rows ≡ map (λ (row : List ℕ × Event). before ++ hex row.0) rows)
    × (map (λ (row : List ℕ × Event). reading (before ++ hex row.0)) rows ≡ map (λ (row : List ℕ × Event). Ok row.1) rows)

-- The first stage of the first attempt at job 1.
abbrev pub stage : Exit → List Effect → Event
stage exit said = events.Stage (record { job = 1; attempt = 1; stage = 1; exit = exit; dropped = 0; effects = said })

abbrev pub EventRows : Type 0
EventRows = AreSpelled [] (
    (codes "0A 00 00 00 01", events.Cancel 1)
    ∷ (codes "01 00 01 71 00 03 73 3A 2F 00 03 61 2F 62 00 00 00 00 1E 00 05", events.AddQueue (record { name = codes "q"; uri = codes "s:/"; target = codes "a/b"; policy = AbortJob; interval = 30; limit = 5 }))
    ∷ (codes "05 00 01 71 00 00 00 01 00 01 75 00 00 00 01 32 00 00", events.Create (record { queue = codes "q"; job = 1; user = codes "u"; title = []; copies = 1; priority = 50; options = [] }))
    ∷ (codes "07 00 00 00 01 00 03 61 2F 62 01 00", events.Close (record { job = 1; media = codes "a/b"; filters = Some [] }))
    ∷ (codes "06 00 00 00 01 00 00 00 02 61 62", events.Send 1 (codes "ab"))
    ∷ (codes "0B 00 00 00 00 00 00 03 E8", events.Clock 1000)
    ∷ (codes "09 00 00 00 01", events.Release 1)
    ∷ (codes "08 00 00 00 01 01", events.Hold 1 None)
    ∷ (codes "08 00 00 00 01 02 00 00 00 00 00 00 00 64", events.Hold 1 (Some 100))
    ∷ (codes "03 00 01 71 01", events.SetAccept (codes "q") true)
    ∷ (codes "04 00 01 71 00", events.SetStop (codes "q") false)
    ∷ (codes "02 00 01 71 00 00 00 01 61", events.Info (record { queue = codes "q"; info = []; location = codes "a" }))
    ∷ (codes "0C 00 00 00 01", events.Start 1)
    ∷ (codes "0E 00 00 00 01", events.Abandon 1)
    ∷ (codes "0F", events.Reopen)
    ∷ (codes "10 00 00 00 01", events.Purge 1)
    ∷ (codes "11 00 01 71 00 00 00 01 00 01 75 00 00 00 01 32 00 00 00 00 00 00 00 00 07 D0", events.CreateBy (record { queue = codes "q"; job = 1; user = codes "u"; title = []; copies = 1; priority = 50; options = [] }) 2000)
    ∷ (codes "0D 00 00 00 01 00 00 00 01 01 00 00 00 00 00 00 00 00", stage (exits.Code 0) [])
    ∷ (codes "0D 00 00 00 01 00 00 00 01 01 01 00 00 00 00 00 00", stage exits.Signal [])
    ∷ (codes "0D 00 00 00 01 00 00 00 01 01 00 00 00 00 00 00 00 01 02 00 00 00 09", stage (exits.Code 0) (effects.TotalPages 9 ∷ []))
    ∷ [])

-- The encoding of a stage with status 0 and one effect, up to that effect.
abbrev pub before_effect : List ℕ
before_effect = hex (codes "0D 00 00 00 01 00 00 00 01 01 00 00 00 00 00 00 00 01")

-- That stage with an effect.
abbrev pub with_effect : List ℕ × Effect → List ℕ × Event
with_effect row = (row.0, stage (exits.Code 0) (row.1 ∷ []))

abbrev pub EffectRows : Type 0
EffectRows = AreSpelled before_effect (map with_effect (
    (codes "01 00 00 00 03 00 00 00 02", effects.Pages 3 2)
    ∷ (codes "02 00 00 00 09", effects.TotalPages 9)
    ∷ (codes "03 00 00", effects.SetReasons [])
    ∷ (codes "03 00 02 00 03 61 2E 62 00 01 63", effects.SetReasons (codes "a.b" ∷ codes "c" ∷ []))
    ∷ (codes "04 00 01 00 01 61", effects.AddReasons (codes "a" ∷ []))
    ∷ (codes "05 00 01 00 01 61", effects.DropReasons (codes "a" ∷ []))
    ∷ (codes "06 00 03 61 2D 31 00 03 78 20 79", effects.Attribute (record { name = codes "a-1"; value = codes "x y" }))
    ∷ (codes "06 00 01 61 00 00", effects.Attribute (record { name = codes "a"; value = [] }))
    ∷ (codes "07 00 00 00", effects.Message Emergency [])
    ∷ (codes "07 01 00 01 61", effects.Message Alert (codes "a"))
    ∷ (codes "07 02 00 01 61", effects.Message Critical (codes "a"))
    ∷ (codes "07 03 00 01 61", effects.Message Error (codes "a"))
    ∷ (codes "07 04 00 01 61", effects.Message Warning (codes "a"))
    ∷ (codes "07 05 00 01 61", effects.Message Notice (codes "a"))
    ∷ (codes "07 06 00 02 61 7E", effects.Message Info (codes "a~"))
    ∷ []))
