-- Rows that are added in order.
use Rattle.spool_types.specs.declared.version.Version.TheVariants.{Two}
use Rattle.std.proofs.Common.{◌≡◌, ℕ, ◌+◌, ◌-◌, ◌<◌, List, [], ◌∷◌, ◌++◌, length, take, drop, map, get_or, Option, None, Some, Ok, Err, Result, refl, sym, subst, ap, ◌∙◌, arith, append_assoc, length-append}
use Rattle.std.proofs.lemmas.List.{map-append, append-nil}
use Rattle.std.specs.List.{AllByRecursion}
use Rattle.spool_types.specs.declared.listing.Row.{Row}
use Rattle.spool_disk.specs.Disk.{DiskView, IsLawful, SameOutside, Tells, ChangesOnly}
use Rattle.spool_disk.proofs.Moments.{no_change, then_changes, still_then, still_changes}
use Rattle.spool_disk.proofs.Ranges.{twice, same_all}
use Rattle.gate_journal.specs.Entries.{records}
use Rattle.gate_journal.proofs.Places.{records-append}
use Rattle.spool_areas.specs.Checkpoint.{area_len, other_base, other_of}
use Rattle.spool_areas.specs.Current.{Current}
use Rattle.spool_areas.specs.AreaFilling.{Change, Fills}
use Rattle.spool_areas.specs.declared.fault.AreaFault.{AreaFault}
use Rattle.spool_areas.specs.declared.fault.AreaFault.TheVariants as areas
use Rattle.spool_areas.specs.declared.fault.ReadFault.{ReadFault}
use Rattle.spool_areas.proofs.Fillings.{fills_now, fills_still}
use Rattle.event_codec.specs.RowSpelling.{row_spelling, IsRowSpellable}
use Rattle.job_table.specs.Contents.{Contents, places_at, places_of}
use Rattle.job_table.specs.Over.{is_over}
use Rattle.spool_types.specs.State.{State}
use Rattle.documents.specs.Documents.{LieIn}
use Rattle.spool_core.specs.SpoolFields.{DocumentsLieIn}
use Rattle.listing_rows.specs.RowFilling.{Filling, filling, records_len, IsChangeOf, MayFill, IsFillingOn, AddsRows}
use Rattle.spool_core.specs.ListingFilling.{TellsBut, IsReadOn}
use Rattle.spool_core.proofs.ImageLaws.{area_on}
use Rattle.spool_types.specs.declared.rows.QueueRow.{QueueRow}
use Rattle.spool_types.specs.declared.listing.Row.TheVariants.{Queue}
use Rattle.spool_core.proofs.ListingLaws.{on_ok, on_err, queues_split}

-- ## Lists of rows

pub all_both : {X : Type 0} (P : X → Type 0) (xs ys : List X) → AllByRecursion P xs → AllByRecursion P ys → AllByRecursion P (xs ++ ys)
all_both P [] ys all more = more
all_both P (x ∷ xs) ys all more = (all.0, all_both P xs ys all.1 more)

pub records_more : (rows more : List Row) → records_len (rows ++ more) ≡ records_len rows + records_len more
records_more rows more =
    let front = map (row_spelling Two) rows in
    let back = map (row_spelling Two) more in
    ap (λ (l : List (List ℕ)). length (records l)) (map-append (row_spelling Two) rows more)
    ∙ ap length (records-append front back) ∙ length-append (records front) (records back)

-- ## A step after another

told_next : (P : List ℕ → List ℕ → Type 0) (o p : Option (List ℕ)) (x : List ℕ) → o ≡ Some x → Tells P o p → (y : List ℕ) × (p ≡ Some y) × P x y
told_next P (Some a) (Some b) x is same = let here : a ≡ x = cc is in (b, refl, subst (λ z. P z b) here same)
told_next P (Some a) None x is same = absurd same
told_next P None p x is same = absurd (cc is)

pub tells_by : {D : Type 0} (v : DiskView D) (a b : Current D) → b.base ≡ a.base → b.end ≡ a.end → ChangesOnly v a.disk b.disk (other_base a) (area_len a) → (r : List ℕ) → TellsBut v a r → TellsBut v b r
tells_by v a b base end changes r is =
    let next = told_next (SameOutside (other_base a) (area_len a)) (v.bytes a.disk) (v.bytes b.disk) is.now is.tells changes.bytes in
    let other : other_base b ≡ other_base a = λ i. other_of (end i - base i) (base i) in
    let len : area_len b ≡ area_len a = λ i. end i - base i in
    record {
      now = next.0;
      tells = next.1;
      same = subst (λ (n : ℕ). SameOutside (other_base b) n r next.0) (sym len)
          (subst (λ (o : ℕ). SameOutside o (area_len a) r next.0) (sym other) (twice (other_base a) (area_len a) r is.now next.0 is.same next.2));
    }

module _ {D : Type 0} (v : DiskView D) (lawful : IsLawful v) where
  module _ (f g : Filling D) (first : IsFillingOn {T = Unit {0}} v f g (Ok tt)) where
    pub other_on : other_base g.areas ≡ other_base f.areas
    other_on = λ i. other_of (first.end i - first.base i) (first.base i)

    pub len_on : area_len g.areas ≡ area_len f.areas
    len_on = λ i. first.end i - first.base i

    pub change_on : (x : Change D) → IsChangeOf x f.areas → IsChangeOf x g.areas
    change_on x is = record { other = is.other ∙ sym other_on; len = is.len ∙ sym len_on }

    changes_on : {e : D} → ChangesOnly v g.areas.disk e (other_base g.areas) (area_len g.areas) → ChangesOnly v g.areas.disk e (other_base f.areas) (area_len f.areas)
    changes_on {e} changes = subst (λ (n : ℕ). ChangesOnly v g.areas.disk e (other_base f.areas) n) len_on (subst (λ (o : ℕ). ChangesOnly v g.areas.disk e o (area_len g.areas)) other_on changes)

    -- Bytes shown except in the other area are still shown after the step.
    pub tells_on : (r : List ℕ) → TellsBut v f.areas r → TellsBut v g.areas r
    tells_on r is = tells_by v f.areas g.areas first.base first.end first.changes r is

    module _ (rows : List Row) (adds : AddsRows v rows f g) where
      pub may_more : (more : List Row) → MayFill v (rows ++ more) f → MayFill v more g
      may_more more may = record {
        alive = first.alive;
        area = area_on f.areas.base f.areas.end (v.size f.areas.disk) g.areas.base g.areas.end (v.size g.areas.disk) first.base first.end first.changes.size may.area;
        behind = omega (arith, may.behind, first.behind, other_on);
        few = first.few;
        room = omega (arith, may.room, adds.place, other_on, len_on, records_more rows more);
      }

      module _ (h : Filling D) where
        pub then_on : {T : Type 0} (r : Result T AreaFault) → IsFillingOn v g h r → IsFillingOn v f h r
        then_on r next = record {
          base = next.base ∙ first.base;
          end = next.end ∙ first.end;
          epoch = next.epoch ∙ first.epoch;
          version = next.version ∙ first.version;
          gate = next.gate ∙ first.gate;
          changes = then_changes v f.areas.disk g.areas.disk h.areas.disk (other_base f.areas) (area_len f.areas) lawful first.changes (changes_on next.changes);
          leaves = λ x others is fills. next.leaves x (others ++ map (row_spelling Two) rows) (change_on x is) (adds.added x others is fills);
          behind = on_ok r next.behind (λ above. omega (arith, above, first.behind));
          few = next.few;
          alive = next.alive;
          counted = on_ok r next.counted (λ same. same ∙ first.counted);
          dead = next.dead;
          cause = on_err r next.cause (λ more. omega (arith, more, first.counted));
        }

        pub then_adds : (more : List Row) → AddsRows v more g h → AddsRows v (rows ++ more) f h
        then_adds more next = record {
          spellable = all_both (IsRowSpellable Two) rows more adds.spellable next.spellable;
          place = omega (arith, adds.place, next.place, records_more rows more);
          added = λ x others is fills.
              subst (Fills v x h.areas.disk h.gate h.block)
              (append_assoc others (map (row_spelling Two) rows) (map (row_spelling Two) more) ∙ ap (λ (l : List (List ℕ)). others ++ l) (sym (map-append (row_spelling Two) rows more)))
              (next.added x (others ++ map (row_spelling Two) rows) (change_on x is) (adds.added x others is fills));
        }

  -- Nothing is added yet.
  pub none_on : (rows : List Row) (f : Filling D) → MayFill v rows f → IsFillingOn {T = Unit {0}} v f f (Ok tt)
  none_on rows f may = record {
    base = refl;
    end = refl;
    epoch = refl;
    version = refl;
    gate = refl;
    changes = still_changes v f.areas.disk f.areas.disk (other_base f.areas) (area_len f.areas) (no_change v f.areas.disk lawful);
    leaves = λ x others is fills. fills_now v lawful x f.areas.disk f.gate f.block others fills;
    behind = omega arith;
    few = may.few;
    alive = may.alive;
    counted = refl;
    dead = tt;
    cause = tt;
  }

  pub none_adds : (f : Filling D) → AddsRows v [] f f
  none_adds f = record {
    spellable = tt;
    place = omega arith;
    added = λ x others is fills. subst (Fills v x f.areas.disk f.gate f.block) (sym (append-nil others)) fills;
  }

  pub may_first : (rows more : List Row) (f : Filling D) → MayFill v (rows ++ more) f → MayFill v rows f
  may_first rows more f may = record { alive = may.alive; area = may.area; behind = may.behind; few = may.few; room = omega (arith, may.room, records_more rows more) }

  -- Rows that are no longer may be added as well.
  pub may_as : (rows others : List Row) (f : Filling D) → records_len others ≡ records_len rows → MayFill v rows f → MayFill v others f
  may_as rows others f same may = record { alive = may.alive; area = may.area; behind = may.behind; few = may.few; room = omega (arith, may.room, same) }

  -- ## A read before a step

  module _ (f g : Filling D) (mid : Current D) (read : IsReadOn {T = Unit {0}} v f.areas mid (Ok tt)) where
    read_other : other_base mid ≡ other_base f.areas
    read_other = λ i. other_of (read.read.end i - read.read.base i) (read.read.base i)

    read_len : area_len mid ≡ area_len f.areas
    read_len = λ i. read.read.end i - read.read.base i

    read_change : (x : Change D) → IsChangeOf x f.areas → IsChangeOf x mid
    read_change x is = record { other = is.other ∙ sym read_other; len = is.len ∙ sym read_len }

    pub read_then : {T : Type 0} (r : Result T AreaFault) → IsFillingOn v (filling mid f.gate f.block) g r → IsFillingOn v f g r
    read_then r next = record {
      base = next.base ∙ read.read.base;
      end = next.end ∙ read.read.end;
      epoch = next.epoch ∙ read.read.epoch;
      version = next.version ∙ read.read.version;
      gate = next.gate ∙ read.read.gate;
      changes = still_then v f.areas.disk mid.disk g.areas.disk (other_base f.areas) (area_len f.areas) lawful read.read.disk
          (subst (λ (n : ℕ). ChangesOnly v mid.disk g.areas.disk (other_base f.areas) n) read_len (subst (λ (o : ℕ). ChangesOnly v mid.disk g.areas.disk o (area_len mid)) read_other next.changes));
      leaves = λ x others is fills. next.leaves x others (read_change x is) (fills_still v lawful x f.areas.disk mid.disk f.gate f.block others read.read.disk fills);
      behind = next.behind;
      few = next.few;
      alive = next.alive;
      counted = on_ok r next.counted (λ same. same ∙ read.counted);
      dead = next.dead;
      cause = on_err r next.cause (λ more. omega (arith, more, read.counted));
    }

    pub read_adds : (rows : List Row) → AddsRows v rows (filling mid f.gate f.block) g → AddsRows v rows f g
    read_adds rows next = record {
      spellable = next.spellable;
      place = next.place;
      added = λ x others is fills. next.added x others (read_change x is) (fills_still v lawful x f.areas.disk mid.disk f.gate f.block others read.read.disk fills);
    }

  -- A read that failed.
  pub read_failed : {T U : Type 0} (f g : Filling D) (e : ReadFault) (fault : AreaFault) → IsReadOn {T = U} v f.areas g.areas (Err e) → IsFillingOn {T = T} v f g (Err fault)
  read_failed f g e fault read = record {
    base = read.read.base;
    end = read.read.end;
    epoch = read.read.epoch;
    version = read.read.version;
    gate = read.read.gate;
    changes = still_changes v f.areas.disk g.areas.disk (other_base f.areas) (area_len f.areas) read.read.disk;
    leaves = λ x others is fills. fills_now v lawful x g.areas.disk f.gate f.block others (fills_still v lawful x f.areas.disk g.areas.disk f.gate f.block others read.read.disk fills);
    behind = tt;
    few = tt;
    alive = tt;
    counted = tt;
    dead = read.dead;
    cause = read.cause;
  }

  -- Bytes that the whole disk shows are shown except in the other area.
  pub tells_all : (a : Current D) (r : List ℕ) → v.bytes a.disk ≡ Some r → TellsBut v a r
  tells_all a r tells = record { now = r; tells = tells; same = same_all (other_base a) (area_len a) r }

-- Documents in the current area are still in it.
pub lie_on : (low high from to : ℕ) (c d : Contents) → from ≡ low → to ≡ high → d.state ≡ c.state → d.places ≡ c.places → DocumentsLieIn low high c → DocumentsLieIn from to d
lie_on low high from to c d is_low is_high same places lie j lives =
    subst (λ (n : ℕ). LieIn n to (places_at d j)) (sym is_low)
    (subst (λ (n : ℕ). LieIn low n (places_at d j)) (sym is_high)
    (subst (LieIn low high) (ap (λ ps. places_of ps j) (sym places)) (lie j (sym (ap (λ (s : State). is_over s j) same) ∙ lives))))

-- The row of the next queue may be added.
pub queue_may : {D : Type 0} (v : DiskView D) → IsLawful v → (qs : List QueueRow) (i : ℕ) (q : QueueRow) → i < length qs → q ≡ get_or qs i q → (f now : Filling D) → IsFillingOn {T = Unit {0}} v f now (Ok tt) → AddsRows v (map (λ x. Queue x) (take i qs)) f now
    → MayFill v (map (λ x. Queue x) qs) f → MayFill v (Queue q ∷ []) now
queue_may v lawful qs i q lt is f now on adds may =
    let rest = map (λ x. Queue x) (drop (i + 1) qs) in
    may_first v lawful (Queue q ∷ []) rest now
    (may_more v lawful f now on (map (λ x. Queue x) (take i qs)) adds (Queue q ∷ rest) (subst (λ (rows : List Row). MayFill v rows f) (queues_split qs i q lt is) may))
