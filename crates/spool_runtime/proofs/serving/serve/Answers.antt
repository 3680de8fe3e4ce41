-- A run over the engine that was opened.
use Rattle.std.proofs.Common.{◌≡◌, ◌∙◌, ℕ, Bool, List, Option, Result, ap, subst, inl}
use Rattle.child_pipeline.specs.ChildTraces.{ChildTrace}
use Rattle.filter_args.specs.declared.place.Place.{Place}
use Rattle.print_rounds.specs.RunStates.{RunState}
use Rattle.spool_disk.specs.Disk.{DiskView}
use Rattle.spool_engine.specs.Mime.{Mime}
use Rattle.spool_engine.specs.EventSteps.{setting}
use Rattle.spool_engine.specs.EngineRuns.{Engine, CommandStep}
use Rattle.spool_engine.specs.declared.fault.RunFault.{RunFault}
use Rattle.spool_runtime.specs.ProgramEnding.{ending_of}
use Rattle.spool_runtime.specs.Serving.{HasRun, IsOpened, IsRunWith, reserved_area}
use Rattle.spool_runtime.specs.declared.fault.ShellFault.{ShellFault}
use Rattle.spool_runtime.proofs.serving.serve.Goals as goal

has_run : {D : Type 0} (device : DiskView D) (mime : Mime) (place : Place) (told : Option ChildTrace) (reserve : Bool) (reserved : Option ℕ) (disk : D) (known : Option (List ℕ))
    (engine : Engine D) (after : RunState D) (ran : Result (Unit {0}) RunFault) (result : Result (Unit {0}) ShellFault) (old new : Option (List ℕ))
    → IsOpened device mime place told disk engine
    → reserved ≡ reserved_area reserve (device.size disk)
    → ((text : List ℕ) × (turns : List (CommandStep D)) × IsRunWith (setting device engine.mime engine.place) reserved known engine.run_state text turns after ran old new)
    → result ≡ ending_of ran after.spool.dead
    → HasRun device mime place told reserve disk known result old new
has_run {D} device mime place told reserve reserved disk known engine after ran result old new opened is run ends =
    let (text, turns, h) = run in
    record {
      engine = engine;
      after = after;
      text = text;
      turns = turns;
      ran = ran;
      opened = opened;
      run = subst (λ (r : Option ℕ). IsRunWith (setting device mime place) r known engine.run_state text turns after ran old new) is
          (subst (λ (p : Place). IsRunWith (setting device mime p) reserved known engine.run_state text turns after ran old new) opened.place_is
          (subst (λ (m : Mime). IsRunWith (setting device m engine.place) reserved known engine.run_state text turns after ran old new) opened.rules_are h));
      ends = ends;
    }

pub returns : goal.returns
returns g c =
    inl (has_run _ _ _ _ _ _ _ _ c.in-Ok.engine c.run_with-ran.new.engine.run_state c.run_with-ran.result _ _ _ c.in-Ok.ensures.opened
    (c.reserved_area-reserved.ensures ∙ ap (reserved_area c.args.reserve) c.len.ensures) c.run_with-ran.ensures
    (c.ending.ensures ∙ ap (ending_of c.run_with-ran.result) c.met_fault.ensures.dead))
