-- Writing a listing to the other area, and its effect.
use Rattle.spool_types.specs.declared.version.Version.TheVariants.{Two}
use Rattle.std.proofs.Common.{◌≡◌, ◌⊎◌, inl, inr, true, false, ℕ, ◌+◌, ◌-◌, ◌<◌, ◌≤◌, List, [], Some, Ok, Err, Result, length, map, refl, sym, subst, ap, ◌∙◌, arith}
use Rattle.std.specs.Prelude.{◌≢◌, ◌↔◌, OnOk, OnErr, IsErrAnd, IsErrOf, IsTrue}
use Rattle.std.proofs.lemmas.Result.{err_from_is_err_and}
use Rattle.std.proofs.lemmas.List.{append-nil}
use Rattle.spool_types.specs.declared.listing.Row.{Row}
use Rattle.spool_disk.specs.Disk.{DiskView, IsLawful, IsSynced, LeavesOnly, ChangesOnly, Blames}
use Rattle.spool_disk.proofs.Moments.{then_changes}
use Rattle.gate_journal.specs.Appends.{kept_room}
use Rattle.spool_areas.specs.Checkpoint.{area_len, other_base, other_of, ChangesOver}
use Rattle.spool_areas.specs.Current.{Current, KeepsPayloads}
use Rattle.spool_areas.specs.AreaFilling.{Change, Fills, change_at}
use Rattle.spool_areas.specs.Header.{newest_version}
use Rattle.spool_areas.specs.Payloads.{HasVersionAndPayloads}
use Rattle.spool_areas.specs.AreaFields.{IsArea}
use Rattle.spool_areas.specs.declared.fault.AreaFault.{AreaFault}
use Rattle.spool_areas.specs.declared.fault.AreaFault.TheVariants as areas
use Rattle.event_codec.specs.RowSpelling.{row_spelling}
use Rattle.job_table.specs.Contents.{Contents}
use Rattle.listing_rows.specs.RowFilling.{Filling, filling, records_len, IsChangeOf, MayFill, IsFillingOn}
use Rattle.spool_core.specs.ListingFilling.{IsListing, IsListingAdded, LeavesListing, LeavesOld, IsFilledOver}
use Rattle.listing_rows.proofs.RowLaws.{fault_disk, lives_on}
use Rattle.spool_core.proofs.AddLaws.{change_on, may_as, may_more, tells_all, tells_by}
use Rattle.spool_core.proofs.ImageLaws.{area_on}

-- Fields of areas that do not change if the areas are not changed over.
abbrev pub IsHeld : {D : Type 0} → Current D → Current D → Type 0
IsHeld old new = (new.base ≡ old.base) × (new.end ≡ old.end) × (new.epoch ≡ old.epoch) × (new.gate ≡ old.gate) × (new.version ≡ old.version)

-- After a plan that succeeded the only fault is the device's.
pub begin_disk : (e : AreaFault) (plan : Result ℕ AreaFault) (first : ℕ) → ((fault : AreaFault) → fault ≢ areas.Disk → (IsErrOf {T = ℕ} (Err e) fault ↔ (plan ≡ Err fault))) → plan ≡ Ok first → IsErrOf {T = ℕ} (Err e) areas.Disk
begin_disk areas.Dead plan first refused is = let no = (refused areas.Dead (λ same. cc same)).0 refl in absurd (cc (no, is))
begin_disk areas.EpochEnd plan first refused is = let no = (refused areas.EpochEnd (λ same. cc same)).0 refl in absurd (cc (no, is))
begin_disk areas.Full plan first refused is = let no = (refused areas.Full (λ same. cc same)).0 refl in absurd (cc (no, is))
begin_disk areas.Disk plan first refused is = refl

-- Before the header is opened.
pub not_over : {D T : Type 0} (v : DiskView D) (c : Contents) (a b : Current D) (e : AreaFault) → ChangesOnly v a.disk b.disk (other_base a) (area_len a) → LeavesOld v a b → IsHeld a b → b.dead ≡ true → v.failures a.disk < v.failures b.disk
    → IsFilledOver {T = T} v c a b (Err e)
not_over v c a b e changes leaves held dead cause = record { changes = changes; leaves = inl leaves; listed = tt; durable = tt; alive = tt; counted = tt; held = held; dead = dead; cause = cause }

-- A fault that is passed on.
pub over_on : {D : Type 0} (v : DiskView D) (c : Contents) (a b : Current D) (e : AreaFault) (Q : AreaFault → Type 0) (r : Result (Unit {0}) AreaFault) → IsErrAnd r Q → IsFilledOver {T = Unit {0}} v c a b (Err e) → IsFilledOver v c a b r
over_on v c a b e Q r is over =
    let p = err_from_is_err_and r is in
    subst (λ (x : Result (Unit {0}) AreaFault). IsFilledOver v c a b x) (sym p.1)
    (record { changes = over.changes; leaves = over.leaves; listed = tt; durable = tt; alive = tt; counted = tt; held = over.held; dead = over.dead; cause = over.cause })

-- The change over has begun.
module _ {D : Type 0} (v : DiskView D) (lawful : IsLawful v) (c : Contents) (a one : Current D) (held : IsHeld a one) (changes : ChangesOnly v a.disk one.disk (other_base a) (area_len a)) (counted : v.failures one.disk ≡ v.failures a.disk)
    (gate : ℕ) (at : gate ≡ other_base a + 16) (block : List ℕ) (empty : block ≡ []) (begun : (payloads : List (List ℕ)) → KeepsPayloads v a payloads → Fills v (change_at a payloads) one.disk (other_base a + 16) [] []) where
  abbrev begins : Filling D
  begins = filling one gate block

  other_one : other_base one ≡ other_base a
  other_one = λ i. other_of (held.1 i - held.0 i) (held.0 i)

  len_one : area_len one ≡ area_len a
  len_one = λ i. held.1 i - held.0 i

  is_change : (payloads : List (List ℕ)) → IsChangeOf (change_at a payloads) one
  is_change payloads = record { other = sym other_one; len = sym len_one }

  fills : (payloads : List (List ℕ)) → KeepsPayloads v a payloads → Fills v (change_at a payloads) one.disk gate block []
  fills payloads keeps =
      subst (λ (n : ℕ). Fills v (change_at a payloads) one.disk n block []) (sym at)
      (subst (λ (l : List ℕ). Fills v (change_at a payloads) one.disk (other_base a + 16) l []) (sym empty) (begun payloads keeps))

  -- Rows may be added if there is room for them.
  pub begin_may : (rows : List Row) → one.dead ≡ false → IsArea a.base a.end (v.size a.disk) → other_base a + 16 + records_len rows + kept_room ≤ other_base a + area_len a → MayFill v rows begins
  begin_may rows alive area room = record {
    alive = alive;
    area = area_on a.base a.end (v.size a.disk) one.base one.end (v.size one.disk) held.0 held.1 changes.size area;
    behind = omega (arith, at, other_one);
    few = omega (arith, ap length empty);
    room = omega (arith, room, at, other_one, len_one, ap length empty);
  }

  changes_then : (d : D) → ChangesOnly v one.disk d (other_base one) (area_len one) → ChangesOnly v a.disk d (other_base a) (area_len a)
  changes_then d more =
      then_changes v a.disk one.disk d (other_base a) (area_len a) lawful changes
      (subst (λ (n : ℕ). ChangesOnly v one.disk d (other_base a) n) len_one (subst (λ (o : ℕ). ChangesOnly v one.disk d o (area_len one)) other_one more))

  -- Adding a row failed.
  pub add_failed : {T U : Type 0} (g : Filling D) (e : AreaFault) → IsFillingOn {T = U} v begins g (Err e) → IsFilledOver {T = T} v c a g.areas (Err e)
  add_failed g e on =
      not_over v c a g.areas e (changes_then g.areas.disk on.changes) (λ payloads keeps. on.leaves (change_at a payloads) [] (is_change payloads) (fills payloads keeps))
      (on.base ∙ held.0, on.end ∙ held.1, on.epoch ∙ held.2, on.gate ∙ held.3, on.version ∙ held.4) on.dead (omega (arith, on.cause, counted))

  -- The listing is added.
  module _ (g : Filling D) (on : IsFillingOn {T = Unit {0}} v begins g (Ok tt)) (l : IsListingAdded v c begins g) where
    abbrev put : List (List ℕ)
    put = map (row_spelling Two) l.rows

    filled : (payloads : List (List ℕ)) → KeepsPayloads v a payloads → Fills v (change_at a payloads) g.areas.disk g.gate g.block put
    filled payloads keeps = l.adds.added (change_at a payloads) [] (is_change payloads) (fills payloads keeps)

    now_change : (payloads : List (List ℕ)) → IsChangeOf (change_at a payloads) g.areas
    now_change payloads = change_on v lawful begins g on (change_at a payloads) (is_change payloads)

    listing_there : IsListing (λ r. v.bytes a.disk ≡ Some r) c l.rows
    listing_there = record {
      spellable = l.listing_is.spellable;
      alike = l.listing_is.alike;
      told = λ r tells. l.listing_is.told r (tells_by v a one held.0 held.1 changes r (tells_all v lawful a r tells));
    }

    held_now : IsHeld a g.areas
    held_now = (on.base ∙ held.0, on.end ∙ held.1, on.epoch ∙ held.2, on.gate ∙ held.3, on.version ∙ held.4)

    -- There is room for the gate after it.
    pub last_may : (rows : List Row) → records_len l.rows ≡ records_len rows → MayFill v rows begins → MayFill v [] g
    last_may rows same may = may_more v lawful begins g on l.rows l.adds [] (subst (λ (x : List Row). MayFill v x begins) (sym (append-nil l.rows)) (may_as v lawful rows l.rows begins same may))

    module _ (b : Current D) (still : IsHeld g.areas b) (more : ChangesOnly v g.areas.disk b.disk (other_base g.areas) (area_len g.areas)) where
      held_last : IsHeld a b
      held_last = (still.0 ∙ held_now.0, still.1 ∙ held_now.1, still.2 ∙ held_now.2, still.3 ∙ held_now.3, still.4 ∙ held_now.4)

      other_last : other_base b ≡ other_base a
      other_last = λ i. other_of (held_last.1 i - held_last.0 i) (held_last.0 i)

      len_last : area_len b ≡ area_len a
      len_last = λ i. held_last.1 i - held_last.0 i

      other_g : other_base g.areas ≡ other_base a
      other_g = λ i. other_of (held_now.1 i - held_now.0 i) (held_now.0 i)

      len_g : area_len g.areas ≡ area_len a
      len_g = λ i. held_now.1 i - held_now.0 i

      changes_last : ChangesOnly v a.disk b.disk (other_base a) (area_len a)
      changes_last =
          then_changes v a.disk g.areas.disk b.disk (other_base a) (area_len a) lawful (changes_then g.areas.disk on.changes)
          (subst (λ (n : ℕ). ChangesOnly v g.areas.disk b.disk (other_base a) n) len_g (subst (λ (o : ℕ). ChangesOnly v g.areas.disk b.disk o (area_len g.areas)) other_g more))

      -- Writing the last rows failed.
      pub write_failed : {T : Type 0} (e : AreaFault)
          → ((x : Change D) (rows : List (List ℕ)) → x.other ≡ other_base g.areas → x.len ≡ area_len g.areas → Fills v x g.areas.disk g.gate g.block rows → LeavesOnly v x.start b.disk (HasVersionAndPayloads x.base x.version x.payloads))
          → b.dead ≡ true → v.failures g.areas.disk < v.failures b.disk → IsFilledOver {T = T} v c a b (Err e)
      write_failed e moment dead cause =
          not_over v c a b e changes_last
          (λ payloads keeps. let is = now_change payloads in moment (change_at a payloads) put is.other is.len (filled payloads keeps)) held_last dead (omega (arith, cause, on.counted, counted))

      module _ (end : ℕ) (place : end ≡ g.gate + length g.block) (same : v.failures b.disk ≡ v.failures g.areas.disk)
          (written : (x : Change D) (rows : List (List ℕ)) → x.other ≡ other_base g.areas → x.len ≡ area_len g.areas → Fills v x g.areas.disk g.gate g.block rows → Fills v x b.disk end [] rows)
          (d : Current D) (last : ChangesOnly v b.disk d.disk (other_base b) (area_len b))
          (moment : (x : Change D) (rows : List (List ℕ)) → x.other ≡ other_base b → x.len ≡ area_len b → Fills v x b.disk end [] rows → ChangesOver v x.start d.disk x.base x.version x.payloads x.other rows) where
        all_written : (payloads : List (List ℕ)) → KeepsPayloads v a payloads → Fills v (change_at a payloads) b.disk end [] put
        all_written payloads keeps = let is = now_change payloads in written (change_at a payloads) put is.other is.len (filled payloads keeps)

        changes_all : ChangesOnly v a.disk d.disk (other_base a) (area_len a)
        changes_all =
            then_changes v a.disk b.disk d.disk (other_base a) (area_len a) lawful changes_last
            (subst (λ (n : ℕ). ChangesOnly v b.disk d.disk (other_base a) n) len_last (subst (λ (o : ℕ). ChangesOnly v b.disk d.disk o (area_len b)) other_last last))

        leaves_listing : LeavesListing v c a d
        leaves_listing = record {
          rows = l.rows;
          listing_is = listing_there;
          over = λ payloads keeps. moment (change_at a payloads) put (sym other_last) (sym len_last) (all_written payloads keeps);
        }

        -- It is unknown whether the header is open.
        pub open_failed : {T : Type 0} (e : AreaFault) → IsHeld b d → d.dead ≡ true → v.failures b.disk < v.failures d.disk → IsFilledOver {T = T} v c a d (Err e)
        open_failed e kept dead cause = record {
          changes = changes_all;
          leaves = inr leaves_listing;
          listed = tt;
          durable = tt;
          alive = tt;
          counted = tt;
          held = (kept.0 ∙ held_last.0, kept.1 ∙ held_last.1, kept.2 ∙ held_last.2, kept.3 ∙ held_last.3, kept.4 ∙ held_last.4);
          dead = dead;
          cause = omega (arith, cause, same, on.counted, counted);
        }

        -- The header is open.
        pub opened : {T : Type 0} (t : T) → (d.base ≡ other_base b) × (d.end ≡ other_base b + area_len b) × (d.epoch ≡ b.epoch + 1) × (d.version ≡ newest_version) × (d.gate ≡ end)
            → ((x : Change D) (rows : List (List ℕ)) → x.other ≡ other_base b → x.len ≡ area_len b → x.new_epoch ≡ b.epoch + 1 → Fills v x b.disk end [] rows → KeepsPayloads v d rows)
            → IsSynced v d.disk → d.dead ≡ false → v.failures d.disk ≡ v.failures b.disk → IsFilledOver v c a d (Ok t)
        opened t changed added durable alive no_more = record {
          changes = changes_all;
          leaves = inr leaves_listing;
          listed = record {
            rows = l.rows;
            listing_is = listing_there;
            changed = record {
              base = changed.0 ∙ other_last;
              end = changed.1 ∙ (λ i. other_last i + len_last i);
              epoch = changed.2 ∙ ap (λ (n : ℕ). n + 1) held_last.2;
              version = changed.3;
              gate = omega (arith, changed.4, place, l.adds.place, at, ap length empty);
            };
            kept = λ payloads keeps. added (change_at a payloads) put (sym other_last) (sym len_last) (ap (λ (n : ℕ). n + 1) (sym held_last.2)) (all_written payloads keeps);
          };
          durable = durable;
          alive = alive;
          counted = omega (arith, no_more, same, on.counted, counted);
          held = tt;
          dead = tt;
          cause = tt;
        }

        -- Any result.
        pub over_by : (r : Result (Unit {0}) AreaFault) → b.dead ≡ false → (IsErrOf r areas.Dead ↔ IsTrue b.dead) → ((fault : AreaFault) → fault ≢ areas.Disk → IsErrOf r fault → fault ≡ areas.Dead)
            → Blames (v.failures b.disk) (v.failures d.disk) (IsErrOf r areas.Disk) → (IsTrue d.dead ↔ (IsTrue b.dead ⊎ IsErrOf r areas.Disk))
            → OnErr r (IsHeld b d)
            → OnOk r ((d.base ≡ other_base b) × (d.end ≡ other_base b + area_len b) × (d.epoch ≡ b.epoch + 1) × (d.version ≡ newest_version) × (d.gate ≡ end))
            → OnOk r ((x : Change D) (rows : List (List ℕ)) → x.other ≡ other_base b → x.len ≡ area_len b → x.new_epoch ≡ b.epoch + 1 → Fills v x b.disk end [] rows → KeepsPayloads v d rows)
            → OnOk r (IsSynced v d.disk) → IsFilledOver v c a d r
        over_by (Ok t) alive dead refused blames dies kept changed added durable = opened t changed added durable (lives_on d.dead b.dead _ alive dies.0 (λ failed. cc failed)) (blames.counted (λ failed. cc failed))
        over_by (Err e) alive dead refused blames dies kept changed added durable =
            let disk = fault_disk {T = Unit {0}} e b.dead refused dead.0 alive in
            open_failed e kept (dies.1 (inr disk)) (blames.failed disk)
