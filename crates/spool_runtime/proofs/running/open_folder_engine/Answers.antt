-- The engine is the engine that was opened over the folder's disk.
use Rattle.std.specs.Prelude.{Option}
use Rattle.child_pipeline.specs.ChildTraces.{ChildTrace}
use Rattle.filter_args.specs.declared.place.Place.{Place}
use Rattle.spool_disk.specs.Disk.{DiskView}
use Rattle.spool_engine.specs.Mime.{Mime}
use Rattle.spool_engine.specs.EngineRuns.{Engine}
use Rattle.spool_runtime.specs.Serving.{IsOpened, IsSetUp}
use Rattle.spool_runtime.proofs.running.open_folder_engine.Goals as goal

set_up : {D : Type 0} (device : DiskView D) (mime : Mime) (place : Place) (told : Option ChildTrace) (disk : D) (engine : Engine D)
    → IsOpened device mime place told disk engine → IsSetUp mime place told engine
set_up device mime place told disk engine is =
    record { spool = is.spool; alive = is.alive; run_state_is = is.run_state_is; rules_are = is.rules_are; place_is = is.place_is }

pub returns-clause-opened : goal.returns-clause-opened
returns-clause-opened g c = set_up _ _ _ _ _ c.in_ok-engine.engine c.in_ok-engine.ensures.opened
