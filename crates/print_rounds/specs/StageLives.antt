-- Lives and histories: what calls do with the stages of attempts over any number of lives of a spool.
use Rattle.std.specs.Prelude.{◌≡◌, ◌||◌, ◌&&◌, ◌==◌, ℕ, Bool, not, true, false, List, [], ◌∷◌, ◌++◌, Option, None, Some, IsTrue}
use Rattle.std.specs.FinMap as finite
use Rattle.spool_types.specs.declared.event.Event.{Event}
use Rattle.spool_types.specs.State.{State, Job, job_at}
use Rattle.job_table.specs.Attempts.{HasNoProcessing, is_in_stage}
use Rattle.job_table.specs.EventFold.{after_all}
use Rattle.job_table.specs.Stages.{Key}
use Rattle.job_table.specs.TableCalls.{IsTableCall}
use Rattle.job_table.specs.TableVersions.{raised}
use Rattle.child_pipeline.specs.StageSlots.{Slots, is_ready}
use Rattle.child_pipeline.specs.ChildTraces.{ChildTrace}
use Rattle.child_pipeline.specs.declared.runner.Slot.{Slot}
use Rattle.print_rounds.specs.RunStates.{RunState}
use Rattle.print_rounds.specs.StageHistory.{IsStageCall, keys_in}

-- ## Calls of a table

-- A set of stages.
abbrev pub Keys : Type 0
Keys = Key → Bool

abbrev pub Has : Keys → Key → Type 0
Has held k = IsTrue (held k)

-- What one call does: its table and held stages at its start, its events and the stages that it starts, its table and held stages at its
-- return, and whether the device has failed by then.
pub record StageCall : Type 0 where
  pub table : State
  pub held : Keys
  pub more : List Event
  pub keys : List Key
  pub table_after : State
  pub held_after : Keys
  pub over : Bool

abbrev pub IsStageCallOf : StageCall → Type 0
IsStageCallOf t = IsTableCall t.table (Has t.held) t.more t.keys t.table_after (Has t.held_after) t.over

-- ## Lives

-- Consecutive calls from this table and these held stages, each from the state that the previous one left. After one is over, none has
-- stages.
abbrev pub AreStageCallsOn : State → Keys → Bool → List StageCall → Type 0
AreStageCallsOn s held over [] = Unit {0}
AreStageCallsOn s held over (t ∷ ts) =
    (t.table ≡ s) × (t.held ≡ held) × IsStageCallOf t × (over ≡ true → t.keys ≡ []) × AreStageCallsOn t.table_after t.held_after (over || t.over) ts

-- The calls of one engine: at least one.
pub record Life : Type 0 where
  pub first : StageCall
  pub later : List StageCall

-- It begins with nothing processing and nothing held.
pub record IsLife (l : Life) : Type 0 where
  pub idle : HasNoProcessing (l.first).table
  pub none : (k : Key) → ¬ (Has (l.first).held k)
  pub turn : IsStageCallOf l.first
  pub turns : AreStageCallsOn (l.first).table_after (l.first).held_after (l.first).over l.later

-- The table that the last of the calls leaves.
abbrev pub last_table : State → List StageCall → State
last_table s [] = s
last_table s (t ∷ ts) = last_table t.table_after ts

abbrev pub end_of : Life → State
end_of l = last_table (l.first).table_after l.later

-- ## Histories

-- Each life begins with the table at the end of the previous life after some further events: the one in progress, and the Reopen of the
-- opening. A checkpoint in progress may have raised the version, so the tables are compared in the newest version.
abbrev pub AreLives : State → List Life → Type 0
AreLives s [] = Unit {0}
AreLives s (l ∷ ls) = IsLife l × ((further : List Event) × (raised (l.first).table ≡ after_all (raised s) further)) × AreLives (end_of l) ls

abbrev pub IsStageHistory : List Life → Type 0
IsStageHistory [] = Unit {0}
IsStageHistory (l ∷ ls) = IsLife l × AreLives (end_of l) ls

-- The stages of all orders, in order.
abbrev pub keys_of_calls : List StageCall → List Key
keys_of_calls [] = []
keys_of_calls (t ∷ ts) = t.keys ++ keys_of_calls ts

abbrev pub keys_of_life : Life → List Key
keys_of_life l = (l.first).keys ++ keys_of_calls l.later

abbrev pub keys_of : List Life → List Key
keys_of [] = []
keys_of (l ∷ ls) = keys_of_life l ++ keys_of ls

-- ## Calls of an engine

abbrev pub is_in_of : Key → Option Job → Bool
is_in_of k None = false
is_in_of k (Some r) = is_in_stage k.attempt k.stage r.phase

abbrev pub is_begun_of : Key → Option (Slot ℕ) → Bool
is_begun_of k None = false
is_begun_of k (Some slot) = slot.attempt == k.attempt && slot.stage == k.stage && not (is_ready slot.progress)

-- The stage that the table has a job in, if it was begun and its end is not reported.
abbrev pub is_held : State → Slots → Keys
is_held s slots k = is_in_of k (job_at s k.job) && is_begun_of k (finite.get slots k.job)

-- A call of an engine as a call of the table.
abbrev pub stage_call_of : {D : Type 0} → RunState D → List Event → RunState D → List Key → StageCall
stage_call_of old more new keys = record {
  table = old.spool.state;
  held = is_held old.spool.state old.slots;
  more = more;
  keys = keys;
  table_after = new.spool.state;
  held_after = is_held new.spool.state new.slots;
  over = new.spool.dead;
}

-- Consecutive calls of one engine, each from the state that the previous one left: the events of each, and the state that it leaves.
abbrev pub AreStageCalls : {D : Type 0} → ChildTrace → RunState D → List (List Event × RunState D) → Type 0
AreStageCalls t old [] = Unit {0}
AreStageCalls t old (c ∷ cs) = (call : IsStageCall t old c.0 c.1) × AreStageCalls call.now c.1 cs

abbrev pub stage_calls_of : {D : Type 0} → (t : ChildTrace) (old : RunState D) (cs : List (List Event × RunState D)) → AreStageCalls t old cs → List StageCall
stage_calls_of t old [] calls = []
stage_calls_of t old (c ∷ cs) calls = stage_call_of old c.0 c.1 (keys_in calls.0.orders) ∷ stage_calls_of calls.0.now c.1 cs calls.1

-- At least one call, as a life.
abbrev pub life_of : {D : Type 0} → (t : ChildTrace) (old : RunState D) (c : List Event × RunState D) (cs : List (List Event × RunState D)) → AreStageCalls t old (c ∷ cs) → Life
life_of t old c cs calls = record { first = stage_call_of old c.0 c.1 (keys_in calls.0.orders); later = stage_calls_of calls.0.now c.1 cs calls.1 }

-- The state that the last of the calls leaves.
abbrev pub last_left : {D : Type 0} → RunState D → List (List Event × RunState D) → RunState D
last_left s [] = s
last_left s (c ∷ cs) = last_left c.1 cs
