-- The jobs of the examples.
use Rattle.std.specs.Prelude.{ℕ, true, false, List, [], codes, None}
use Rattle.spool_types.specs.declared.phase.Phase.{Phase}
use Rattle.spool_types.specs.declared.phase.Phase.TheVariants.{Waiting, Processing}
use Rattle.spool_types.specs.declared.phase.Hold.TheVariants.{Free}
use Rattle.spool_types.specs.State.{Job}

abbrev pub lab : List ℕ
lab = codes "lab"

-- A job of this queue, with this number and priority.
abbrev pub job : List ℕ → ℕ → ℕ → Phase → Job
job queue id priority phase = record {
  id = id;
  queue = queue;
  user = codes "ann";
  title = codes "P 1";
  copies = 2;
  priority = priority;
  options = codes "media=A4";
  media = None;
  filters = [];
  attempts = 1;
  pages = 0;
  size = 3;
  phase = phase;
  by = None;
}

-- Jobs that may be started at any moment; the second is marked to be first.
abbrev pub ready : Phase
ready = Waiting Free 0 false

abbrev pub marked : Phase
marked = Waiting Free 0 true

abbrev pub processing : Phase
processing = Processing 1 1 1
