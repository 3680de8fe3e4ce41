-- The new engine is over the spool that was opened.
use Rattle.std.proofs.Common.{◌≡◌, ◌∙◌, ℕ, List, Option, Some, false, ap}
use Rattle.std.specs.FinMap as finite
use Rattle.std.specs.String.{string_bytes}
use Rattle.child_pipeline.specs.ChildTraces.{ChildTrace}
use Rattle.filter_args.specs.declared.place.Place.{Place}
use Rattle.print_rounds.specs.RunStates.{run_state}
use Rattle.mime_costs.specs.declared.conversion.Conversion.{Conversion}
use Rattle.mime_rules.specs.TypesValue.{TypesValue}
use Rattle.spool_disk.specs.Disk.{DiskView}
use Rattle.spool_core.specs.Image.{IsReopenedFrom}
use Rattle.spool_core.specs.OpenSpools.{OpenSpool}
use Rattle.spool_engine.specs.Mime.{Mime}
use Rattle.spool_engine.specs.EngineRuns.{Engine}
use Rattle.spool_runtime.specs.Serving.{IsOpened, database}
use Rattle.spool_runtime.proofs.serving.open_engine.Goals as goal

abbrev made_of : TypesValue → List Conversion → List ℕ → Mime
made_of types convs locale = record { types = types; convs = convs; locale = locale }

is_database : (m : Mime) (types : TypesValue) (convs : List Conversion) (place : Place) → m.types ≡ types → m.convs ≡ convs → m.locale ≡ string_bytes place.lang
    → m ≡ database types convs place
is_database m types convs place e f h =
    ap (λ (t : TypesValue). made_of t m.convs m.locale) e
    ∙ ap (λ (k : List Conversion). made_of types k m.locale) f
    ∙ ap (λ (l : List ℕ). made_of types convs l) h

opened_so : {D : Type 0} (device : DiskView D) (types : TypesValue) (convs : List Conversion) (place : Place) (told : Option ChildTrace) (disk : D)
    (spool : OpenSpool D) (engine : Engine D) → engine.mime.types ≡ types → engine.mime.convs ≡ convs → engine.mime.locale ≡ string_bytes place.lang → engine.place ≡ place
    → engine.run_state ≡ run_state spool finite.empty told → ((r : List ℕ) → device.bytes disk ≡ Some r → IsReopenedFrom spool.state r)
    → spool.dead ≡ false → IsOpened device (database types convs place) place told disk engine
opened_so {D} device types convs place told disk spool engine e f h at run_state_is table alive = record {
  spool = spool;
  table = table;
  alive = alive;
  run_state_is = run_state_is;
  rules_are = is_database engine.mime types convs place e f h;
  place_is = at;
}

pub returns-in-Ok-clause-opened : goal.returns-in-Ok-clause-opened
returns-in-Ok-clause-opened g c =
    opened_so _ _ _ _ _ _ c.in-Ok.spool c.new.result c.new.ensures.types c.new.ensures.convs c.new.ensures.locale c.new.ensures.place c.new.ensures.run_state
    c.in-Ok.ensures.opened c.in-Ok.ensures.alive
