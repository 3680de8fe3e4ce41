-- A table without jobs needs no room.
use Rattle.std.proofs.Common.{[], List, ℕ, OnOk, Result, Ok, Err, inl, inr, ⊎_elim}
use Rattle.spool_types.specs.declared.version.Version.TheVariants.{Two}
use Rattle.spool_areas.specs.Header.{newest_version}
use Rattle.spool_types.specs.State.{nothing_in}
use Rattle.spool_disk.specs.Disk.{DiskView}
use Rattle.spool_disk.proofs.Moments.{weaker_run}
use Rattle.spool_areas.specs.Making.{IsNoSpoolOrEmpty, ClosesFirst}
use Rattle.spool_areas.specs.Payloads.{HasVersionAndPayloads}
use Rattle.spool_core.specs.Image.{HasTable, IsNoSpoolOrNothing}
use Rattle.spool_core.proofs.HistoryLaws.{history_none}
use Rattle.spool_core.proofs.IdleLaws.{idle_nothing}
use Rattle.spool_core.proofs.ImageLaws.{has_table}
use Rattle.spool_core.proofs.making.make.Goals as goal

on_ok : {T E A B : Type 0} (r : Result T E) → OnOk r A → (A → B) → OnOk r B
on_ok (Ok x) a f = f a
on_ok (Err e) a f = tt

empty_table : (c : List ℕ) → HasVersionAndPayloads 0 newest_version [] c → HasTable (nothing_in Two) c
empty_table c has = has_table Two 0 [] (nothing_in Two) c (history_none Two) has (λ busy. absurd (busy (idle_nothing Two)))

no_spool_or_nothing : (c : List ℕ) → IsNoSpoolOrEmpty c → IsNoSpoolOrNothing c
no_spool_or_nothing c is = ⊎_elim (λ none. inl none) (λ has. inr (empty_table c has)) is

closes_first : {D : Type 0} (v : DiskView D) (old new : D) → ClosesFirst v old new IsNoSpoolOrEmpty → ClosesFirst v old new IsNoSpoolOrNothing
closes_first v old new (inl run) = inl run
closes_first v old new (inr w) = inr (w.0, w.1, weaker_run v w.0 new IsNoSpoolOrNothing IsNoSpoolOrEmpty w.2 no_spool_or_nothing)

pub returns-clause-made : goal.returns-clause-made
returns-clause-made g c = on_ok c.make.result c.make.ensures.made (λ made told b left. empty_table b (made told b left))

pub returns-clause-any_moment : goal.returns-clause-any_moment
returns-clause-any_moment g c tells = closes_first g.D.Disk.device c.args.disk.now c.make.new.disk (c.make.ensures.any_moment tells)
