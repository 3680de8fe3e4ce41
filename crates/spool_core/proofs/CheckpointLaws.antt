-- The results of a checkpoint, and their effects.
use Rattle.spool_types.specs.declared.version.Version.TheVariants.{Two}
use Rattle.std.proofs.Common.{◌≡◌, inl, inr, ⊎_elim, ℕ, ◌+◌, ◌-◌, ◌≤◌, Bool, true, false, ◌&&◌, ◌==◌, List, [], ◌∷◌, ◌++◌, Ok, Err, Result, length, map, refl, sym, subst, ap, ◌∙◌, arith, length-append}
use Rattle.std.specs.Prelude.{if◌then◌else◌, nat_le, IsErrOf}
use Rattle.std.proofs.lemmas.Bool.{and_parts, leb-true}
use Rattle.std.proofs.lemmas.Bool.Decides.{nat_tests}
use Rattle.std.specs.FinMap as finite
use Rattle.spool_types.specs.State.{State}
use Rattle.spool_types.specs.declared.listing.Row.{Row}
use Rattle.spool_types.specs.declared.listing.Row.TheVariants.{Head, Queue}
use Rattle.spool_disk.specs.Disk.{DiskView, Blames}
use Rattle.gate_journal.specs.Entries.{records}
use Rattle.gate_journal.specs.Appends.{kept_room}
use Rattle.spool_areas.specs.declared.fault.AreaFault.{AreaFault}
use Rattle.spool_areas.specs.declared.fault.AreaFault.TheVariants as areas
use Rattle.spool_areas.specs.Header.{half, header_len}
use Rattle.spool_areas.specs.Payloads.{gate_after}
use Rattle.spool_areas.specs.Current.{Current}
use Rattle.spool_areas.specs.Checkpoint.{last_epoch, area_len, other_base, has_room, plan_of}
use Rattle.spool_areas.specs.AreaFields.{IsArea}
use Rattle.spool_areas.proofs.Plans.{two_of}
use Rattle.job_table.specs.Listing.{head_of}
use Rattle.event_codec.specs.RowSpelling.{row_spelling}
use Rattle.spool_core.specs.SpoolFields.{open_spool_at}
use Rattle.spool_core.specs.Checkpointing.{blank, listed_payloads, holds_listing, MayList, IsCheckpoint, fault_for}
use Rattle.spool_core.specs.declared.spool.checkpoint_fault.CheckpointFault.{CheckpointFault}
use Rattle.spool_core.specs.declared.spool.checkpoint_fault.CheckpointFault.TheVariants as checkpoint
use Rattle.spool_core.specs.ListingFilling.{rows_of}

-- ## The result of a plan

same_fault : (e f : AreaFault) → ◌≡◌ {A = Result ℕ AreaFault} (Err e) (Err f) → e ≡ f
same_fault e f is = cc is

-- Why rows cannot be put there.
abbrev CauseOf : Bool → Bool → Bool → AreaFault → Type 0
CauseOf dead ended room areas.Dead = dead ≡ true
CauseOf dead ended room areas.EpochEnd = (dead ≡ false) × (ended ≡ true)
CauseOf dead ended room areas.Full = (dead ≡ false) × (ended ≡ false) × (room ≡ false)
CauseOf dead ended room areas.Disk = ⊥

caused : (dead ended room : Bool) (first : ℕ) (fault : AreaFault) → (if dead then Err areas.Dead else if ended then Err areas.EpochEnd else if room then Ok first else Err areas.Full) ≡ Err fault → CauseOf dead ended room fault
caused true ended room first fault is = subst (CauseOf true ended room) (same_fault areas.Dead fault is) refl
caused false true room first fault is = subst (CauseOf false true room) (same_fault areas.EpochEnd fault is) (refl, refl)
caused false false true first fault is = absurd (cc is)
caused false false false first fault is = subst (CauseOf false false false) (same_fault areas.Full fault is) (refl, refl, refl)

passed : (dead ended room : Bool) (first answer : ℕ) → (if dead then Err areas.Dead else if ended then Err areas.EpochEnd else if room then Ok first else Err areas.Full) ≡ Ok answer
    → (dead ≡ false) × (ended ≡ false) × (room ≡ true) × (answer ≡ first)
passed true ended room first answer is = absurd (cc is)
passed false true room first answer is = absurd (cc is)
passed false false true first answer is = (refl, refl, refl, cc is)
passed false false false first answer is = absurd (cc is)

last_is : (n : ℕ) → (n == last_epoch) ≡ true → n ≡ last_epoch
last_is n is = grind (arith, nat_tests)

not_last : (n : ℕ) → (n == last_epoch) ≡ false → ¬ (n ≡ last_epoch)
not_last n is same = grind (arith, nat_tests)

-- ## The room of rows

test_there : (b m x y : ℕ) → m ≡ b + x → nat_le m (b + y) ≡ nat_le x y
test_there b m x y is = grind (arith, nat_tests)

-- The room of rows does not depend on the place of their area.
room_there : (b end gate place : ℕ) (ns : List ℕ) → place ≡ b + gate → has_room (b + end) place ns ≡ has_room end gate ns
room_there b end gate place [] at = refl
room_there b end gate place (n ∷ ns) at = λ i.
    test_there b (place + 5 + n + 7) (gate + 5 + n + 7) end (omega (arith, at)) i
    && room_there b end (gate + 5 + n) (place + 5 + n) ns (omega (arith, at)) i

first_room : (end gate n : ℕ) (ns : List ℕ) → has_room end gate (n ∷ ns) ≡ true → gate + kept_room ≤ end
first_room end gate n ns room =
    let first = leb-true (gate + 5 + n + 7) end (and_parts (nat_le (gate + 5 + n + 7) end) (has_room end (gate + 5 + n) ns) room).0 in
    omega (arith, first)

room_of : (end gate : ℕ) (ps : List (List ℕ)) → gate + kept_room ≤ end → has_room end gate (map length ps) ≡ true → gate + length (records ps) + kept_room ≤ end
room_of end gate [] short room = omega (arith, short)
room_of end gate (p ∷ ps) short room =
    let parts = and_parts (nat_le (gate + 5 + length p + 7) end) (has_room end (gate + 5 + length p) (map length ps)) room in
    let rest = room_of end (gate + 5 + length p) ps (leb-true (gate + 5 + length p + 7) end parts.0) parts.1 in
    omega (arith, rest, length-append p (records ps))

-- A listing that has room leaves the room of one reopening after it.
pub listing_room : (len : ℕ) (s : State) → holds_listing len s ≡ true → gate_after 0 (listed_payloads s (blank s)) + kept_room ≤ len
listing_room len s holds =
    let rows : List Row = map (λ q. Queue q) (finite.values s.queues) ++ rows_of (blank s) (finite.values s.jobs) in
    room_of len header_len (listed_payloads s (blank s)) (first_room len header_len (length (row_spelling Two (Head (head_of s)))) (map length (map (row_spelling Two) rows)) holds) holds

-- ## The result before anything is read

module _ {D : Type 0} (v : DiskView D) (a : Current D) (ends : a.end ≡ a.base + half (v.size a.disk)) (s : State) where
  pub long : area_len a ≡ half (v.size a.disk)
  long = omega (arith, ends)

  room_is : (ns : List ℕ) → has_room (other_base a + area_len a) (other_base a + header_len) ns ≡ has_room (half (v.size a.disk)) header_len ns
  room_is ns = room_there (other_base a) (area_len a) header_len (other_base a + header_len) ns refl ∙ ap (λ (n : ℕ). has_room n header_len ns) long

  -- There is a next epoch, and rows may be put there.
  pub may_list : (ns : List ℕ) (first : ℕ) → plan_of a ns ≡ Ok first → MayList (open_spool_at a s)
  may_list ns first is =
      let both = passed a.dead (a.epoch == last_epoch) (has_room (other_base a + area_len a) (other_base a + header_len) ns) (other_base a + header_len) first is in
      record { alive = both.0; epoch_left = not_last a.epoch both.1 }

  answered : (ns : List ℕ) (fault : AreaFault) → (has_room (half (v.size a.disk)) header_len ns ≡ false → holds_listing (half (v.size a.disk)) s ≡ false)
      → CauseOf a.dead (a.epoch == last_epoch) (has_room (other_base a + area_len a) (other_base a + header_len) ns) fault → IsCheckpoint v (open_spool_at a s) (Err (fault_for fault)) (open_spool_at a s)
  answered ns areas.Dead full is = (is, refl)
  answered ns areas.EpochEnd full is = (is.0, last_is a.epoch is.1, refl)
  answered ns areas.Full full is = (record { alive = is.0; epoch_left = not_last a.epoch is.1 }, full (sym (room_is ns) ∙ is.2), refl)
  answered ns areas.Disk full is = absurd is

  fault_answer : (ns : List ℕ) (fault : AreaFault) → (has_room (half (v.size a.disk)) header_len ns ≡ false → holds_listing (half (v.size a.disk)) s ≡ false) → plan_of a ns ≡ Err fault → IsCheckpoint v (open_spool_at a s) (Err (fault_for fault)) (open_spool_at a s)
  fault_answer ns fault full is =
      answered ns fault full (caused a.dead (a.epoch == last_epoch) (has_room (other_base a + area_len a) (other_base a + header_len) ns) (other_base a + header_len) fault is)

  abbrev listed_lengths : List ℕ
  listed_lengths = map length (listed_payloads s (blank s))

  -- A plan for the listing that fails has the fault that the checkpoint returns.
  pub unlisted_for : (fault : AreaFault) → plan_of a listed_lengths ≡ Err fault → IsCheckpoint v (open_spool_at a s) (Err (fault_for fault)) (open_spool_at a s)
  unlisted_for fault is = fault_answer listed_lengths fault (λ no. no) is

  module _ (first : ℕ) (plan : plan_of a listed_lengths ≡ Ok first) where
    all_passed : (a.dead ≡ false) × ((a.epoch == last_epoch) ≡ false) × (has_room (other_base a + area_len a) (other_base a + header_len) listed_lengths ≡ true) × (first ≡ other_base a + header_len)
    all_passed = passed a.dead (a.epoch == last_epoch) (has_room (other_base a + area_len a) (other_base a + header_len) listed_lengths) (other_base a + header_len) first plan

    pub alive_planned : a.dead ≡ false
    alive_planned = all_passed.0

    -- Rows for which a plan exists have room.
    pub listing_fits : holds_listing (half (v.size a.disk)) s ≡ true
    listing_fits = sym (room_is listed_lengths) ∙ all_passed.2

-- The other area is also on the device.
pub other_area : {D : Type 0} (v : DiskView D) (a : Current D) → IsArea a.base a.end (v.size a.disk) → IsArea (other_base a) (other_base a + area_len a) (v.size a.disk)
other_area v a area =
    let len : a.end - a.base ≡ half (v.size a.disk) = omega (arith, area.end_is) in
    let two = two_of (v.size a.disk) a.base a.end area in
    record {
      end_is = omega (arith, len);
      within = ⊎_elim (λ t. omega (arith, t.1, len)) (λ t. omega (arith, t.1, len)) two;
      one_of_two = ⊎_elim (λ t. inr t.1) (λ t. inl t.1) two;
      least = area.least;
      sized = area.sized;
    }

-- A fault that leaves the disk unchanged is not the device's.
pub blames_none : {D : Type 0} (v : DiskView D) (a : Current D) (s t : State) (f : CheckpointFault) → IsCheckpoint v (open_spool_at a s) (Err f) (open_spool_at a t) → Blames (v.failures a.disk) (v.failures a.disk) (IsErrOf {T = Unit {0}} (Err f) checkpoint.Disk)
blames_none v a s t checkpoint.Dead is = record { later = omega arith; failed = λ same. absurd (cc same); counted = λ no. refl }
blames_none v a s t checkpoint.EpochEnd is = record { later = omega arith; failed = λ same. absurd (cc same); counted = λ no. refl }
blames_none v a s t checkpoint.Memory is = record { later = omega arith; failed = λ same. absurd (cc same); counted = λ no. refl }
blames_none v a s t checkpoint.Full is = record { later = omega arith; failed = λ same. absurd (cc same); counted = λ no. refl }
blames_none v a s t checkpoint.Disk is = absurd (omega (arith, is.cause))
