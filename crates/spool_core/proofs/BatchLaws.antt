-- From the staged payloads of an area to the tables of its images.
use Rattle.std.proofs.Common.{◌≡◌, ◌⊎◌, ◌<◌, ◌≤◌, Bool, inl, inr, ⊎_elim, ℕ, ◌+◌, List, [], ◌∷◌, ◌++◌, Option, None, Some, Result, Ok, length, true, false, refl, sym, subst, ap, ◌∙◌, arith, append_assoc, length-append}
use Rattle.std.specs.Prelude.{IsSome, if◌then◌else◌, ◌==◌}
use Rattle.spool_types.specs.declared.event.Event.{Event}
use Rattle.spool_types.specs.State.{State}
use Rattle.spool_types.specs.Sent.{sent_by, placed_to, with_placed, extent_behind}
use Rattle.extents.specs.declared.extent.Extent.{Extent}
use Rattle.job_table.specs.Attempts.{HasNoProcessing}
use Rattle.job_table.specs.Contents.{Contents, AddsPlaces, places_at, places_of}
use Rattle.job_table.specs.Over.{is_over}
use Rattle.job_table.specs.Step.{after}
use Rattle.documents.specs.Placed.{places_in}
use Rattle.documents.specs.Documents.{joined, LieIn}
use Rattle.documents.proofs.Joined.{kept_one}
use Rattle.documents.proofs.Moved.{history_added}
use Rattle.documents.proofs.Placed.{wider_lie}
use Rattle.gate_journal.specs.Appends.{kept_room}
use Rattle.gate_journal.specs.Entries.{HasEntries, records}
use Rattle.gate_journal.proofs.Places.{records-append}
use Rattle.gate_journal.specs.Staged.{gate_of, shown}
use Rattle.spool_disk.specs.Disk.{DiskView, IsLawful, LeavesOnly, SameOutside}
use Rattle.spool_disk.proofs.Moments.{started, weaker_run, both_runs}
use Rattle.spool_disk.proofs.Ranges.{told}
use Rattle.std.proofs.lemmas.List.{append-nil}
use Rattle.std.proofs.lemmas.Option.{same_Some}
use Rattle.spool_areas.specs.Header.{half, header_len, header_at, version_of, epoch_of}
use Rattle.spool_areas.specs.Payloads.{HasPayloads, HasVersionAndPayloads, gate_after}
use Rattle.spool_areas.specs.Current.{Current, KeepsPayloads}
use Rattle.spool_areas.specs.AreaStages.{KeepsStagedPayloads, HasBeforeOrAll, AreSettled}
use Rattle.spool_areas.specs.PayloadExtents.{bytes_of}
use Rattle.spool_areas.proofs.StagedAreas.{shown_payloads, shown_epoch, shown_same}
use Rattle.spool_core.specs.Folding.{StayOver}
use Rattle.spool_core.specs.History.{IsHistory}
use Rattle.spool_core.specs.Image.{HasTable, HasDocuments, HasWhole}
use Rattle.spool_core.specs.SpoolFields.{Avoid, DocumentsLieIn, KeepsTable, IsOpenSpoolAt, KeepsStagedTable, IsStagedAt}
use Rattle.spool_core.specs.Batch.{IsTableOf, HasBeforeOrAllEvents, HasWholeBeforeOrAll}
use Rattle.spool_core.specs.VersionNumbers.{number_of}
use Rattle.spool_core.proofs.FoldLaws.{with_placed_is}
use Rattle.spool_core.proofs.HistoryLaws.{history_more}
use Rattle.spool_core.proofs.ImageLaws.{IsPayloadOf, IsRoomBehind, has_table, end_in, area_on, is_told, lies_next}
use Rattle.spool_core.proofs.DocumentLaws.{documents_there}
use Rattle.spool_core.proofs.ReadingLaws.{one_table}

module _ {D : Type 0} (v : DiskView D) (lawful : IsLawful v) (areas : Current D) (before : State) (t : Contents) (ends : areas.end ≡ areas.base + half (v.size areas.disk))
    (roomy : ¬ (HasNoProcessing t.state) → areas.gate + kept_room ≤ areas.end) (keeps : KeepsStagedTable v areas before t) where
  first_room : (c : List ℕ) → length c ≡ v.size areas.disk → IsRoomBehind areas.base keeps.payloads before c
  first_room c long processing = omega (arith, keeps.room processing, end_in areas.base areas.end (v.size areas.disk) c ends long, keeps.kept.kept.gate_at)

  all_room : (c : List ℕ) → length c ≡ v.size areas.disk → IsRoomBehind areas.base (keeps.payloads ++ keeps.staged) t.state c
  all_room c long processing = omega (arith, roomy processing, end_in areas.base areas.end (v.size areas.disk) c ends long, keeps.kept.kept.place_at)

  in_version : (payloads : List (List ℕ)) (c : List ℕ) → HasVersionAndPayloads areas.base areas.version payloads c → HasVersionAndPayloads areas.base (number_of keeps.version) payloads c
  in_version payloads c = subst (λ (n : ℕ). HasVersionAndPayloads areas.base n payloads c) keeps.number_is

  -- Each image has the table without the staged events.
  pub shows_before : (c : List ℕ) → v.image areas.disk c → HasTable before c
  shows_before c left =
      has_table keeps.version areas.base keeps.payloads before c keeps.begins
      (record { area = keeps.kept.each c left; version_is = keeps.kept.version c left ∙ keeps.number_is }) (first_room c (lawful.image_size areas.disk c left))

  -- It is the one of the bytes that a read returns.
  pub before_is : (s : State) → IsTableOf v areas.disk s → before ≡ s
  before_is s is = one_table is.0 before s (shows_before is.0 (lawful.reads_image areas.disk is.0 is.1)) is.2

  pub stage_leaves : (new : D) → LeavesOnly v areas.disk new (λ c. length c ≡ v.size areas.disk) → LeavesOnly v areas.disk new (HasVersionAndPayloads areas.base areas.version keeps.payloads) → LeavesOnly v areas.disk new (HasTable before)
  stage_leaves new long run =
      weaker_run v areas.disk new (HasTable before) _
      (both_runs v areas.disk new (λ c. length c ≡ v.size areas.disk) (HasVersionAndPayloads areas.base areas.version keeps.payloads) long run)
      (λ c left. has_table keeps.version areas.base keeps.payloads before c keeps.begins (in_version keeps.payloads c left.1) (first_room c left.0))

  pub settle_leaves : (new : D) → LeavesOnly v areas.disk new (λ c. length c ≡ v.size areas.disk) → LeavesOnly v areas.disk new (HasBeforeOrAll areas.base areas.version keeps.payloads keeps.staged) → LeavesOnly v areas.disk new (HasBeforeOrAllEvents before t.state)
  settle_leaves new long run =
      weaker_run v areas.disk new (HasBeforeOrAllEvents before t.state) _
      (both_runs v areas.disk new (λ c. length c ≡ v.size areas.disk) (HasBeforeOrAll areas.base areas.version keeps.payloads keeps.staged) long run)
      (λ c left. ⊎_elim
      (λ first. inl (has_table keeps.version areas.base keeps.payloads before c keeps.begins (in_version keeps.payloads c first) (first_room c left.0)))
      (λ all. inr (has_table keeps.version areas.base (keeps.payloads ++ keeps.staged) t.state c keeps.history (in_version (keeps.payloads ++ keeps.staged) c all) (all_room c left.0))) left.1)

  -- The documents of the images are those of the bytes.
  documents_in : (r : List ℕ) (documents : ℕ → List ℕ) → v.bytes areas.disk ≡ Some r → HasDocuments before documents r → (c : List ℕ) → HasVersionAndPayloads areas.base areas.version keeps.payloads c → HasDocuments before documents c
  documents_in r documents tells has c left =
      let from = lawful.reads_image areas.disk r tells in
      documents_there areas.base keeps.payloads r c before documents (keeps.kept.each r from) left.area (left.version_is ∙ sym (keeps.kept.version r from)) has

  pub stage_leaves_whole : (new : D) → LeavesOnly v areas.disk new (λ c. length c ≡ v.size areas.disk) → LeavesOnly v areas.disk new (HasVersionAndPayloads areas.base areas.version keeps.payloads)
      → (r : List ℕ) (documents : ℕ → List ℕ) → v.bytes areas.disk ≡ Some r → HasDocuments before documents r → LeavesOnly v areas.disk new (HasWhole before documents)
  stage_leaves_whole new long run r documents tells has =
      weaker_run v areas.disk new (HasWhole before documents) _
      (both_runs v areas.disk new (λ c. length c ≡ v.size areas.disk) (HasVersionAndPayloads areas.base areas.version keeps.payloads) long run)
      (λ c left. (has_table keeps.version areas.base keeps.payloads before c keeps.begins (in_version keeps.payloads c left.1) (first_room c left.0), documents_in r documents tells has c left.1))

  -- The bytes with the held gate open have the table shown.
  pub all_there : (r s : List ℕ) → v.bytes areas.disk ≡ Some r → shown areas.held (v.bytes areas.disk) ≡ Some s → HasVersionAndPayloads areas.base areas.version (keeps.payloads ++ keeps.staged) s
  all_there r s tells is = shown_payloads v lawful areas ends keeps.payloads keeps.staged keeps.kept r s tells is

  pub shown_table : (r s : List ℕ) → v.bytes areas.disk ≡ Some r → shown areas.held (v.bytes areas.disk) ≡ Some s → HasTable t.state s
  shown_table r s tells is =
      let long = (shown_same v lawful areas ends keeps.payloads keeps.staged keeps.kept r s tells is).size in
      has_table keeps.version areas.base (keeps.payloads ++ keeps.staged) t.state s keeps.history (in_version (keeps.payloads ++ keeps.staged) s (all_there r s tells is))
      (all_room s (long ∙ lawful.image_size areas.disk r (lawful.reads_image areas.disk r tells)))

  all_documents : (r s : List ℕ) (documents : ℕ → List ℕ) → v.bytes areas.disk ≡ Some r → shown areas.held (v.bytes areas.disk) ≡ Some s → HasDocuments t.state documents s → (c : List ℕ) → HasVersionAndPayloads areas.base areas.version (keeps.payloads ++ keeps.staged) c → HasDocuments t.state documents c
  all_documents r s documents tells is has c left =
      let from = all_there r s tells is in
      documents_there areas.base (keeps.payloads ++ keeps.staged) s c t.state documents from.area left.area (left.version_is ∙ sym from.version_is) has

  pub settle_leaves_whole : (new : D) → LeavesOnly v areas.disk new (λ c. length c ≡ v.size areas.disk) → LeavesOnly v areas.disk new (HasBeforeOrAll areas.base areas.version keeps.payloads keeps.staged)
      → (r s : List ℕ) (documents sent : ℕ → List ℕ) → v.bytes areas.disk ≡ Some r → shown areas.held (v.bytes areas.disk) ≡ Some s → HasDocuments before documents r → HasDocuments t.state sent s
      → LeavesOnly v areas.disk new (HasWholeBeforeOrAll before documents t.state sent)
  settle_leaves_whole new long run r s documents sent tells is has all_has =
      weaker_run v areas.disk new (HasWholeBeforeOrAll before documents t.state sent) _
      (both_runs v areas.disk new (λ c. length c ≡ v.size areas.disk) (HasBeforeOrAll areas.base areas.version keeps.payloads keeps.staged) long run)
      (λ c left. ⊎_elim
      (λ first. inl (has_table keeps.version areas.base keeps.payloads before c keeps.begins (in_version keeps.payloads c first) (first_room c left.0), documents_in r documents tells has c first))
      (λ all. inr (has_table keeps.version areas.base (keeps.payloads ++ keeps.staged) t.state c keeps.history (in_version (keeps.payloads ++ keeps.staged) c all) (all_room c left.0), all_documents r s sent tells is all_has c all)) left.1)

  -- If nothing has changed, so has no table.
  pub unmoved_before : LeavesOnly v areas.disk areas.disk (HasTable before)
  unmoved_before = started v areas.disk (HasTable before) (λ c left. shows_before c (lawful.only_now areas.disk c left))

  pub unmoved_whole_before : (r : List ℕ) (documents : ℕ → List ℕ) → v.bytes areas.disk ≡ Some r → HasDocuments before documents r → LeavesOnly v areas.disk areas.disk (HasWhole before documents)
  unmoved_whole_before r documents tells has =
      started v areas.disk (HasWhole before documents)
      (λ c left.
      let now = lawful.only_now areas.disk c left in
      (shows_before c now, documents_in r documents tells has c (record { area = keeps.kept.each c now; version_is = keeps.kept.version c now })))

-- Extents that avoid an offset have the same bytes while only that byte changes.
pub avoided : (at : ℕ) (xs : List Extent) (old new : List ℕ) → Avoid at xs → SameOutside at 1 old new → joined new xs ≡ joined old xs
avoided at [] old new clear same = refl
avoided at (x ∷ xs) old new clear same =
    ap (λ (l : List ℕ). l ++ joined new xs) (kept_one x.place (x.place + x.len) at 1 x old new (omega arith) (omega arith) (⊎_elim (λ ends. inl ends) (λ begins. inr (omega (arith, begins))) clear.0) same)
    ∙ ap (λ (l : List ℕ). bytes_of old x ++ l) (avoided at xs old new clear.1 same)

-- Extents before an offset avoid it.
before_avoids : (low at : ℕ) (xs : List Extent) → LieIn low at xs → Avoid at xs
before_avoids low at [] lie = tt
before_avoids low at (x ∷ xs) lie = (inl lie.0.1, before_avoids low at xs lie.1)

avoid_append : (at : ℕ) (xs ys : List Extent) → Avoid at xs → Avoid at ys → Avoid at (xs ++ ys)
avoid_append at [] ys first second = second
avoid_append at (x ∷ xs) ys first second = (first.0, avoid_append at xs ys first.1 second)

-- So does one more extent after it.
avoid_more : (at place j : ℕ) (xs : List Extent) (sends : Option (ℕ × List ℕ)) → at < place → Avoid at xs → Avoid at (with_placed xs place j sends)
avoid_more at place j xs None behind clear = clear
avoid_more at place j xs (Some (k, bytes)) behind clear = either (k == j)
  where
    either : (b : Bool) → Avoid at (if b then xs ++ extent_behind place (length bytes) ∷ [] else xs)
    either true = avoid_append at xs (extent_behind place (length bytes) ∷ []) clear (inr (omega (arith, behind)), tt)
    either false = clear

-- The bytes of a job's places are the same with the held gate open.
pub same_shown : {D : Type 0} (v : DiskView D) (lawful : IsLawful v) (a : Current D) (c : Contents) → IsStagedAt v a c → a.dead ≡ false → (r s : List ℕ) → v.bytes a.disk ≡ Some r → shown a.held (v.bytes a.disk) ≡ Some s
    → (j : ℕ) → is_over c.state j ≡ false → joined s (places_at c j) ≡ joined r (places_at c j)
same_shown v lawful a c stands alive r s tells is j lives =
    let keeps = (stands.table alive (is_told (v.bytes a.disk) r tells)).1 in
    by_gate a.held refl (shown_same v lawful a stands.area.end_is keeps.payloads keeps.staged keeps.kept r s tells is)
  where
    by_gate : (h : Option ℕ) → a.held ≡ h → SameOutside (gate_of a.held a.gate) 1 r s → joined s (places_at c j) ≡ joined r (places_at c j)
    by_gate None held same = avoided a.gate (places_at c j) r s (before_avoids (a.base + header_len) a.gate (places_at c j) (stands.lie j lives)) (subst (λ (h : Option ℕ). SameOutside (gate_of h a.gate) 1 r s) held same)
    by_gate (Some gate) held same = avoided gate (places_at c j) r s ((stands.clear alive gate held).1 j lives) (subst (λ (h : Option ℕ). SameOutside (gate_of h a.gate) 1 r s) held same)

-- ---- the bytes with the held gate open, as a disk of their own

abbrev pub view_of : List ℕ → ℕ → DiskView (Unit {0})
view_of s size = record { bytes = λ d. Some s; size = λ d. size; image = λ d c. c ≡ s; moment = λ d. 0; image_since = λ d t c. c ≡ s; failures = λ d. 0 }

pub lawful_view : (s : List ℕ) (size : ℕ) → length s ≡ size → IsLawful (view_of s size)
lawful_view s size long = record {
  reads_image = λ d r is. sym (same_Some s r is);
  image_size = λ d c is. ap length is ∙ long;
  counts_now = λ d t c later is. is;
  only_now = λ d c is. is;
}

abbrev pub areas_of : {D : Type 0} → Current D → Current (Unit {0})
areas_of a = record { disk = tt; base = a.base; end = a.end; epoch = a.epoch; version = a.version; gate = a.gate; held = None; dead = a.dead }

-- That disk has the table shown.
pub shown_keeps : {D : Type 0} (v : DiskView D) (lawful : IsLawful v) (a : Current D) (c : Contents) → IsStagedAt v a c → a.dead ≡ false → (r s : List ℕ) → v.bytes a.disk ≡ Some r → shown a.held (v.bytes a.disk) ≡ Some s
    → KeepsTable (view_of s (v.size a.disk)) (areas_of a) c
shown_keeps v lawful a c stands alive r s tells is =
    let keeps = (stands.table alive (is_told (v.bytes a.disk) r tells)).1 in
    let there = shown_payloads v lawful a stands.area.end_is keeps.payloads keeps.staged keeps.kept r s tells is in
    record {
      version = keeps.version;
      payloads = keeps.payloads ++ keeps.staged;
      kept = record {
        tells = refl;
        synced = λ x told b left. left ∙ same_Some s x told;
        each = λ b left. subst (HasPayloads a.base (keeps.payloads ++ keeps.staged)) (sym left) there.area;
        epoch = λ b left. ap (λ (l : List ℕ). epoch_of (header_at a.base l)) left ∙ shown_epoch v lawful a stands.area.end_is keeps.payloads keeps.staged keeps.kept r s tells is;
        version = λ b left. ap (λ (l : List ℕ). version_of (header_at a.base l)) left ∙ there.version_is;
        gate_at = keeps.kept.kept.place_at;
      };
      number_is = keeps.number_is;
      history = keeps.history;
      places = keeps.places;
    }

pub shown_size : {D : Type 0} (v : DiskView D) (lawful : IsLawful v) (a : Current D) (c : Contents) → IsStagedAt v a c → a.dead ≡ false → (r s : List ℕ) → v.bytes a.disk ≡ Some r → shown a.held (v.bytes a.disk) ≡ Some s → length s ≡ v.size a.disk
shown_size v lawful a c stands alive r s tells is =
    let keeps = (stands.table alive (is_told (v.bytes a.disk) r tells)).1 in
    (shown_same v lawful a stands.area.end_is keeps.payloads keeps.staged keeps.kept r s tells is).size ∙ lawful.image_size a.disk r (lawful.reads_image a.disk r tells)

-- The bytes of a disk that shows its bytes.
pub told_shown : (held : Option ℕ) (o : Option (List ℕ)) (s : List ℕ) → shown held o ≡ Some s → (r : List ℕ) × (o ≡ Some r)
told_shown None (Some r) s is = (r, refl)
told_shown None None s is = absurd (cc is)
told_shown (Some gate) (Some r) s is = (r, refl)
told_shown (Some gate) None s is = absurd (cc is)

pub settled_bytes : (held : Option ℕ) (o : Option (List ℕ)) → held ≡ None → shown held o ≡ o
settled_bytes None o none = refl
settled_bytes (Some gate) o none = absurd (cc none)

-- An area with one more staged payload has the table after the event, and its documents.
module _ {D : Type 0} (v : DiskView D) (old new : Current D) (c d : Contents) (e : Event) (payload : List ℕ) (at : ℕ) (is : IsPayloadOf c.state e payload) (next : d.state ≡ after c.state e)
    (here : at ≡ old.gate + 5) (adds : AddsPlaces at (sent_by e) c d) (stay : StayOver c.state d.state) where
  pub stages_next : (before : State) → new.base ≡ old.base → new.end ≡ old.end → new.version ≡ old.version → gate_of new.held new.gate ≡ gate_of old.held old.gate → (keeps : KeepsStagedTable v old before c)
      → KeepsStagedPayloads v new keeps.payloads (keeps.staged ++ payload ∷ []) → KeepsStagedTable v new before d
  unfolding history_more
  stages_next before base end version gate keeps more =
      let joined : keeps.payloads ++ keeps.staged ++ payload ∷ [] ≡ keeps.payloads ++ (keeps.staged ++ payload ∷ []) = append_assoc keeps.payloads keeps.staged (payload ∷ []) in
      let h = history_more keeps.version (keeps.payloads ++ keeps.staged) c.state e keeps.history is.spellable is.accepted in
      record {
        version = keeps.version;
        payloads = keeps.payloads;
        staged = keeps.staged ++ payload ∷ [];
        kept = more;
        number_is = version ∙ keeps.number_is;
        begins = keeps.begins;
        room = λ processing. omega (arith, keeps.room processing, gate, end);
        history = record {
          rows = keeps.history.rows;
          events = keeps.history.events ++ e ∷ [];
          start = keeps.history.start;
          spelt = sym joined ∙ ap (λ (p : List ℕ). keeps.payloads ++ keeps.staged ++ p ∷ []) is.payload_is ∙ h.spelt;
          spellable_rows = h.spellable_rows;
          spellable = h.spellable;
          stand = h.stand;
          accepted = h.accepted;
          table = next ∙ h.table;
        };
        places = λ j lives.
            adds j lives
            ∙ with_placed_is (places_at c j) at j (sent_by e)
            ∙ ap (λ (xs : List Extent). xs ++ placed_to at j (sent_by e)) (keeps.places j (stay j lives))
            ∙ ap (λ (n : ℕ). places_in keeps.version old.base keeps.history.rows keeps.history.events j ++ placed_to n j (sent_by e))
            (here ∙ ap (λ (n : ℕ). n + 5) keeps.kept.kept.place_at ∙ ap (λ (ps : List (List ℕ)). gate_after old.base ps + 5) keeps.history.spelt)
            ∙ sym (history_added keeps.version old.base j keeps.history.rows keeps.history.events e)
            ∙ ap (λ (b : ℕ). places_in keeps.version b keeps.history.rows (keeps.history.events ++ e ∷ []) j) (sym base);
      }

  gate_is : (h : Option ℕ) (at_gate held : ℕ) → h ≡ Some held → held ≡ gate_of h at_gate
  gate_is None at_gate held is = absurd (cc is)
  gate_is (Some x) at_gate held is = sym (same_Some x held is)

  clear_next : ((held : ℕ) → old.held ≡ Some held → (held < old.gate) × ((j : ℕ) → is_over c.state j ≡ false → Avoid held (places_at c j))) → DocumentsLieIn (old.base + header_len) old.gate c
      → new.gate ≡ old.gate + 5 + length payload → (held : ℕ) → held ≡ gate_of old.held old.gate → (held < new.gate) × ((j : ℕ) → is_over d.state j ≡ false → Avoid held (places_at d j))
  clear_next clear lie place held is = by_gate old.held refl is
    where
      avoids : held ≤ old.gate → ((j : ℕ) → is_over c.state j ≡ false → Avoid held (places_at c j)) → (held < new.gate) × ((j : ℕ) → is_over d.state j ≡ false → Avoid held (places_at d j))
      avoids before avoid = (
        omega (arith, place, before),
        λ j lives.
            subst (Avoid held) (sym (adds j lives)) (avoid_more held at j (places_at c j) (sent_by e) (omega (arith, here, before)) (avoid j (stay j lives))),
      )

      by_gate : (h : Option ℕ) → old.held ≡ h → held ≡ gate_of h old.gate → (held < new.gate) × ((j : ℕ) → is_over d.state j ≡ false → Avoid held (places_at d j))
      by_gate None none same = avoids (omega (arith, same)) (λ j lives. before_avoids (old.base + header_len) held (places_at c j) (subst (λ (n : ℕ). LieIn (old.base + header_len) n (places_at c j)) (sym same) (lie j lives)))
      by_gate (Some gate) some same =
          let was = clear gate some in
          avoids (omega (arith, same, was.0)) (λ j lives. subst (λ (n : ℕ). Avoid n (places_at c j)) (sym same) (was.1 j lives))

  pub staged_next : IsStagedAt v old c → old.dead ≡ false → (IsSome (v.bytes new.disk) → IsSome (v.bytes old.disk)) → new.base ≡ old.base → new.end ≡ old.end → new.version ≡ old.version → gate_of new.held new.gate ≡ gate_of old.held old.gate → v.size new.disk ≡ v.size old.disk
      → new.gate ≡ old.gate + 5 + length payload → new.gate ≤ new.end → (¬ (HasNoProcessing d.state) → new.gate + kept_room ≤ new.end)
      → ((payloads staged : List (List ℕ)) → KeepsStagedPayloads v old payloads staged → KeepsStagedPayloads v new payloads (staged ++ payload ∷ [])) → IsStagedAt v new d
  staged_next stands alive told base end version gate size place inside roomy more = record {
    area = area_on old.base old.end (v.size old.disk) new.base new.end (v.size new.disk) base end size stands.area;
    behind = omega (arith, stands.behind, base, place);
    inside = inside;
    roomy = roomy;
    lie = subst (λ (n : ℕ). DocumentsLieIn (n + header_len) new.gate d) (sym base)
        (lies_next v old new c d e payload at is next here adds stay (old.base + header_len) new.gate (length payload) refl stands.behind place stands.lie);
    clear = λ now held is. clear_next (stands.clear alive) stands.lie place held (gate_is new.held new.gate held is ∙ gate);
    table = λ now tells. let keeps = stands.table alive (told tells) in (keeps.0, stages_next keeps.0 base end version gate keeps.1 (more keeps.1.payloads keeps.1.staged keeps.1.kept));
  }

-- The areas are at the same places, with the same gates. As long as the device has not failed, they have the same payloads, also the same
-- staged ones.
pub record GoesOn {D : Type 0} (v : DiskView D) (old new : Current D) : Type 0 where
  pub base : new.base ≡ old.base
  pub end : new.end ≡ old.end
  pub version : new.version ≡ old.version
  pub gate : new.gate ≡ old.gate
  pub size : v.size new.disk ≡ v.size old.disk
  pub alive : new.dead ≡ false → old.dead ≡ false
  pub held : new.dead ≡ false → new.held ≡ old.held
  pub told : new.dead ≡ false → IsSome (v.bytes new.disk) → IsSome (v.bytes old.disk)
  pub kept : new.dead ≡ false → (payloads staged : List (List ℕ)) → KeepsStagedPayloads v old payloads staged → KeepsStagedPayloads v new payloads staged

pub same_areas : {D : Type 0} (v : DiskView D) (a : Current D) → GoesOn v a a
same_areas v a = record { base = refl; end = refl; version = refl; gate = refl; size = refl; alive = λ alive. alive; held = λ alive. refl; told = λ alive told. told; kept = λ alive payloads staged keeps. keeps }

pub dead_areas : {D : Type 0} (v : DiskView D) (old new : Current D) → new.base ≡ old.base → new.end ≡ old.end → new.version ≡ old.version → new.gate ≡ old.gate → v.size new.disk ≡ v.size old.disk → new.dead ≡ true → GoesOn v old new
dead_areas v old new base end version gate size dead = record {
  base = base;
  end = end;
  version = version;
  gate = gate;
  size = size;
  alive = λ alive. absurd (cc (dead, alive));
  held = λ alive. absurd (cc (dead, alive));
  told = λ alive told. absurd (cc (dead, alive));
  kept = λ alive payloads staged keeps. absurd (cc (dead, alive));
}

-- They are those of an open spool with the same table.
module _ {D : Type 0} (v : DiskView D) (old new : Current D) (c d : Contents) (on : GoesOn v old new) (same : d.state ≡ c.state) (places : d.places ≡ c.places) where
  staged_table : (before : State) → new.dead ≡ false → KeepsStagedTable v old before c → KeepsStagedTable v new before d
  staged_table before alive keeps =
      let h = keeps.history in
      record {
        version = keeps.version;
        payloads = keeps.payloads;
        staged = keeps.staged;
        kept = on.kept alive keeps.payloads keeps.staged keeps.kept;
        number_is = on.version ∙ keeps.number_is;
        begins = keeps.begins;
        room = λ busy. omega (arith, keeps.room busy, ap (λ (h : Option ℕ). gate_of h new.gate) (on.held alive) ∙ ap (gate_of old.held) on.gate, on.end);
        history = record { rows = h.rows; events = h.events; start = h.start; spelt = h.spelt; spellable_rows = h.spellable_rows; spellable = h.spellable; stand = h.stand; accepted = h.accepted; table = same ∙ h.table };
        places = λ j lives.
            ap (λ ps. places_of ps j) places ∙ keeps.places j (sym (ap (λ (s : State). is_over s j) same) ∙ lives)
            ∙ ap (λ (b : ℕ). places_in keeps.version b h.rows h.events j) (sym on.base);
      }

  pub staged_on : IsStagedAt v old c → IsStagedAt v new d
  staged_on stands = record {
    area = area_on old.base old.end (v.size old.disk) new.base new.end (v.size new.disk) on.base on.end on.size stands.area;
    behind = omega (arith, stands.behind, on.base, on.gate);
    inside = omega (arith, stands.inside, on.gate, on.end);
    roomy = λ busy. omega (arith, stands.roomy (subst (λ (s : State). ¬ (HasNoProcessing s)) same busy), on.gate, on.end);
    lie = λ j lives.
        subst (λ ps. LieIn (new.base + header_len) new.gate (places_of ps j)) (sym places)
        (wider_lie (old.base + header_len) old.gate (new.base + header_len) new.gate (places_at c j) (omega (arith, on.base)) (omega (arith, on.gate))
        (stands.lie j (sym (ap (λ (s : State). is_over s j) same) ∙ lives)));
    clear = λ alive gate held.
        let was = stands.clear (on.alive alive) gate (sym (on.held alive) ∙ held) in
        (omega (arith, was.0, on.gate), λ j lives. subst (λ ps. Avoid gate (places_of ps j)) (sym places) (was.1 j (sym (ap (λ (s : State). is_over s j) same) ∙ lives)));
    table = λ alive told. let keeps = stands.table (on.alive alive) (on.told alive told) in (keeps.0, staged_table keeps.0 alive keeps.1);
  }

-- Settled areas are those of an open spool without staged events.
pub settled_stands : {D : Type 0} (v : DiskView D) (old new : Current D) (c : Contents) → IsStagedAt v old c → old.dead ≡ false → (IsSome (v.bytes new.disk) → IsSome (v.bytes old.disk)) → new.base ≡ old.base → new.end ≡ old.end → new.version ≡ old.version → new.gate ≡ old.gate → v.size new.disk ≡ v.size old.disk
    → ((payloads staged : List (List ℕ)) → KeepsStagedPayloads v old payloads staged → KeepsPayloads v new (payloads ++ staged)) → IsOpenSpoolAt v new c
settled_stands v old new c stands alive told base end version gate size settled = record {
  area = area_on old.base old.end (v.size old.disk) new.base new.end (v.size new.disk) base end size stands.area;
  behind = omega (arith, stands.behind, base, gate);
  inside = omega (arith, stands.inside, gate, end);
  roomy = λ busy. omega (arith, stands.roomy busy, gate, end);
  lie = λ j lives. wider_lie (old.base + header_len) old.gate (new.base + header_len) new.gate (places_at c j) (omega (arith, base)) (omega (arith, gate)) (stands.lie j lives);
  table = λ now tells.
      let keeps = stands.table alive (told tells) in
      record {
        version = keeps.1.version;
        payloads = keeps.1.payloads ++ keeps.1.staged;
        kept = settled keeps.1.payloads keeps.1.staged keeps.1.kept;
        number_is = version ∙ keeps.1.number_is;
        history = keeps.1.history;
        places = λ j lives. keeps.1.places j lives ∙ ap (λ (b : ℕ). places_in keeps.1.version b keeps.1.history.rows keeps.1.history.events j) (sym base);
      };
}

-- Without staged events the areas of an open spool have a list of no staged ones.
module _ {D : Type 0} (v : DiskView D) (lawful : IsLawful v) (a : Current D) (c : Contents) where
  no_staged : a.held ≡ None → (payloads : List (List ℕ)) → a.end ≡ a.base + half (v.size a.disk) → KeepsPayloads v a payloads → (r : List ℕ) → v.bytes a.disk ≡ Some r → KeepsStagedPayloads v a payloads []
  no_staged none payloads ends keeps r tells =
      let left = lawful.reads_image a.disk r tells in
      let long = lawful.image_size a.disk r left in
      let has = keeps.each r left in
      record {
        kept = record {
          tells = keeps.tells;
          each = λ b now. (keeps.each b now).entries;
          behind = λ b is. subst (λ (l : List (List ℕ)). HasEntries (a.base + header_len) l b) (sym (append-nil payloads))
              (keeps.each b (lawful.reads_image a.disk b (subst (λ (h : Option ℕ). shown h (v.bytes a.disk) ≡ Some b) none is))).entries;
          gate_at = ap (λ (h : Option ℕ). gate_of h a.gate) none ∙ keeps.gate_at;
          place_at = keeps.gate_at ∙ ap (λ (l : List (List ℕ)). gate_after a.base l) (sym (append-nil payloads));
        };
        synced = λ is. keeps.synced;
        each = keeps.each;
        epoch = keeps.epoch;
        version = keeps.version;
        inside = omega (arith, keeps.gate_at, has.within, ends, long);
      }

  pub open_staged : AreSettled a → IsOpenSpoolAt v a c → IsStagedAt v a c
  open_staged settled stands = record {
    area = stands.area;
    behind = stands.behind;
    inside = stands.inside;
    roomy = stands.roomy;
    lie = stands.lie;
    clear = λ alive gate held. absurd (cc (settled alive, held));
    table = λ alive tells.
        let none = settled alive in
        let keeps = stands.table alive tells in
        let h = keeps.history in
        let has = told (v.bytes a.disk) tells in (
          c.state,
          record {
            version = keeps.version;
            payloads = keeps.payloads;
            staged = [];
            kept = no_staged none keeps.payloads stands.area.end_is keeps.kept has.0 has.1;
            number_is = keeps.number_is;
            begins = keeps.history;
            room = λ busy. omega (arith, stands.roomy busy, ap (λ (h : Option ℕ). gate_of h a.gate) none);
            history = record { rows = h.rows; events = h.events; start = h.start; spelt = append-nil keeps.payloads ∙ h.spelt; spellable_rows = h.spellable_rows; spellable = h.spellable; stand = h.stand; accepted = h.accepted; table = h.table };
            places = keeps.places;
          },
        );
  }

-- No record is empty.
nothing_more : (payloads staged : List (List ℕ)) → length (records payloads) ≡ length (records (payloads ++ staged)) → staged ≡ []
nothing_more payloads [] same = refl
nothing_more payloads (p ∷ staged) same =
    absurd (omega (arith, same, ap length (records-append payloads (p ∷ staged)), length-append (records payloads) (records (p ∷ staged)), length-append p (records staged)))

-- If no gate is held, nothing is staged, and each image has the table.
pub staged_none : {D : Type 0} (v : DiskView D) (a : Current D) (c : Contents) → IsStagedAt v a c → AreSettled a → IsOpenSpoolAt v a c
staged_none v a c stands settled = record {
  area = stands.area;
  behind = stands.behind;
  inside = stands.inside;
  roomy = stands.roomy;
  lie = stands.lie;
  table = λ alive tells.
      let none = settled alive in
      let keeps = (stands.table alive tells).1 in
      let gate : a.gate ≡ gate_after a.base keeps.payloads = ap (λ (h : Option ℕ). gate_of h a.gate) (sym none) ∙ keeps.kept.kept.gate_at in
      let is = nothing_more keeps.payloads keeps.staged (omega (arith, gate, keeps.kept.kept.place_at)) in
      let all : keeps.payloads ≡ keeps.payloads ++ keeps.staged = sym (append-nil keeps.payloads) ∙ ap (λ (l : List (List ℕ)). keeps.payloads ++ l) (sym is) in
      record {
        version = keeps.version;
        payloads = keeps.payloads ++ keeps.staged;
        kept = record {
          tells = keeps.kept.kept.tells;
          synced = keeps.kept.synced none;
          each = λ b left. subst (λ (l : List (List ℕ)). HasPayloads a.base l b) all (keeps.kept.each b left);
          epoch = keeps.kept.epoch;
          version = keeps.kept.version;
          gate_at = keeps.kept.kept.place_at;
        };
        number_is = keeps.number_is;
        history = keeps.history;
        places = keeps.places;
      };
}
