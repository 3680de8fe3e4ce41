-- Each image has a table or a fault.
use Rattle.std.proofs.Common.{◌≡◌, ◌⊎◌, ◌<◌, ◌≤◌, ◌+◌, ◌-◌, ◌^◌, inl, inr, ⊎_elim, ℕ, zero, suc, Bool, true, false, List, [], ◌∷◌, ◌++◌, Option, None, Some, Result, Ok, Err, length, get_or, take, drop, refl, sym, ap, subst, ◌∙◌, arith}
use Rattle.std.specs.Prelude.{⊤, if◌then◌else◌, ◌&&◌, not, ◌==◌, nat_lt, slice_range}
use Rattle.std.specs.Int.{w32, to_be_bytes}
use Rattle.std.proofs.lemmas.Bool.{cases_lt}
use Rattle.std.proofs.lemmas.Bool.Decides.{Decides-ltb}
use Rattle.std.proofs.lemmas.List.{length-drop, length-take-le}
use Rattle.spool_types.specs.declared.event.Event.{Event}
use Rattle.spool_types.specs.declared.listing.Row.{Row}
use Rattle.spool_types.specs.declared.version.Version.{Version}
use Rattle.spool_types.specs.declared.version.Version.TheVariants.{One, Two}
use Rattle.spool_types.specs.declared.refusal.Refusal.{Refusal}
use Rattle.spool_types.specs.State.{State}
use Rattle.field_codec.specs.declared.fault.CodecFault.{CodecFault}
use Rattle.event_codec.specs.Spelling.{spelling, IsSpellable}
use Rattle.event_codec.specs.RowSpelling.{row_spelling, IsRowSpellable}
use Rattle.event_codec.specs.EventReading.{reading}
use Rattle.event_codec.specs.RowReading.{row_reading}
use Rattle.event_codec.proofs.FieldLaws.{IsBytes, IsBytes-take, IsBytes-drop, wide32}
use Rattle.event_codec.proofs.EventLaws.{reading_takes, reading_again}
use Rattle.event_codec.proofs.RowLaws.{is_found_row, row_reading_again}
use Rattle.gate_journal.specs.Entries.{HasFirst}
use Rattle.gate_journal.specs.FoundEntries.{length_at, entry_at}
use Rattle.gate_journal.specs.Appends.{kept_room}
use Rattle.gate_journal.specs.declared.entry.Found.{Found}
use Rattle.gate_journal.specs.declared.entry.Found.TheVariants.{Entry, End, Damaged as Torn}
use Rattle.gate_journal.proofs.Reading.{goes_on}
use Rattle.job_table.specs.EventFold.{after_all}
use Rattle.job_table.specs.Loading.{Progress, IsWhole, IsPlaced, begin_loading, loaded}
use Rattle.job_table.specs.Step.{refusal_of}
use Rattle.spool_areas.specs.Header.{half, least_area, header_len, header_at, is_open, is_known, epoch_of, version_of, IsVersion, newer, chosen, current_area}
use Rattle.spool_areas.specs.Payloads.{HasPayloads, HasFirstPayloads, gate_after}
use Rattle.spool_areas.specs.declared.fault.OpenFault.{OpenFault}
use Rattle.spool_areas.specs.declared.fault.OpenFault.TheVariants.{NotASpool, Damaged, Memory, Disk}
use Rattle.spool_areas.proofs.Headers.{too_short, by_headers}
use Rattle.spool_areas.proofs.Plans.{current_version}
use Rattle.spool_areas.proofs.Sames.{chosen_is_base}
use Rattle.spool_core.specs.VersionNumbers.{number_of}
use Rattle.spool_core.specs.Image.{HasTable, HasFault, Begins, IsNoNext, AreBytes, area_end}
use Rattle.spool_core.proofs.Decided.{whole_decided, placed_decided, idle_decided}
use Rattle.spool_core.proofs.FoldLaws.{gate_push}
use Rattle.spool_core.proofs.HistoryLaws.{begins_row, begins_event, history_of}
use Rattle.spool_core.proofs.ReadingLaws.{IsNext, IsNextRow, IsNextEvent, same_row, same_event}

-- The image has a table or a fault.
abbrev pub TableOrFault : List ℕ → Type 0
TableOrFault c = ((s : State) × HasTable s c) ⊎ ((f : OpenFault) × HasFault f c)

pub each_byte : (bytes : List ℕ) → AreBytes bytes → IsBytes bytes
each_byte [] are i = omega arith
each_byte (b ∷ bytes) are zero = are.0
each_byte (b ∷ bytes) are (suc i) = each_byte bytes are.1 i

-- ---- whether a payload may come next

not_both : {A B : Type 0} (r : Result A CodecFault) (x : A) (fault : CodecFault) → r ≡ Ok x → r ≡ Err fault → B
not_both r x fault ok err = absurd (cc)

-- The row that a payload encodes, if any.
row_in : (v : Version) (payload : List ℕ) → IsBytes payload → (r : Result Row CodecFault) → row_reading v payload ≡ r
    → ((row : Row) × IsRowSpellable v row × (payload ≡ row_spelling v row)) ⊎ ((row : Row) → IsRowSpellable v row → payload ≡ row_spelling v row → ⊥)
row_in v payload fits (Ok row) is = let found = is_found_row v payload (Ok row) fits is in inl (row, found.0, found.1)
row_in v payload fits (Err fault) is = inr (λ row able spelt. not_both (row_reading v payload) row fault (ap (row_reading v) spelt ∙ row_reading_again v row able) is)

event_in : (payload : List ℕ) → IsBytes payload → (r : Result Event CodecFault) → reading payload ≡ r
    → ((e : Event) × IsSpellable e × (payload ≡ spelling e)) ⊎ ((e : Event) → IsSpellable e → payload ≡ spelling e → ⊥)
event_in payload fits (Ok e) is = let found = reading_takes payload e fits is in inl (e, found.0, found.1)
event_in payload fits (Err fault) is = inr (λ e able spelt. not_both (reading payload) e fault (ap reading spelt ∙ reading_again e able) is)

not_none : {B : Type 0} (o : Option Refusal) (r : Refusal) → o ≡ Some r → o ≡ None → B
not_none o r some none = absurd (cc)

module _ (v : Version) (p : Progress) (events : List Event) (payload : List ℕ) (fits : IsBytes payload) where
  -- A payload that is no row that may come next is an event that may, or neither.
  event_next : ((row : Row) → IsRowSpellable v row → payload ≡ row_spelling v row → events ≡ [] → ¬ (IsPlaced p row)) → IsNext v p events payload ⊎ IsNoNext v p events payload
  event_next no_row = elim (event_in payload fits (reading payload) refl) [
    | inl found ↦ elim (whole_decided p) [
      | inl whole ↦ answer found.0 found.1 found.2 whole (refusal_of (after_all p.state events) found.0) refl
      | inr short ↦ inr (record { no_row = no_row; no_event = λ e able spelt whole accepted. short whole })
    ]
    | inr none ↦ inr (record { no_row = no_row; no_event = λ e able spelt whole accepted. none e able spelt })
  ]
    where
      answer : (e : Event) → IsSpellable e → payload ≡ spelling e → IsWhole p → (o : Option Refusal) → refusal_of (after_all p.state events) e ≡ o → IsNext v p events payload ⊎ IsNoNext v p events payload
      answer e able spelt whole None is = inl (inr (whole, record { event = e; spellable = able; spelt = spelt; accepted = is }))
      answer e able spelt whole (Some r) is = inr (record {
        no_row = no_row;
        no_event = λ d is_able is_spelt again accepted.
            not_none (refusal_of (after_all p.state events) e) r is
            (subst (λ (x : Event). refusal_of (after_all p.state events) x ≡ None) (same_event d e is_able able (sym is_spelt ∙ spelt)) accepted);
      })

  row_next : events ≡ [] → IsNext v p events payload ⊎ IsNoNext v p events payload
  row_next none = elim (row_in v payload fits (row_reading v payload) refl) [
    | inl found ↦ elim (placed_decided p found.0) [
      | inl placed ↦ inl (inl (none, record { row = found.0; spellable = found.1; spelt = found.2; placed = placed }))
      | inr out ↦ event_next (λ row able spelt first placed. out (subst (IsPlaced p) (same_row v row found.0 able found.1 (sym spelt ∙ found.2)) placed))
    ]
    | inr no_row ↦ event_next (λ row able spelt first placed. no_row row able spelt)
  ]

next_decided : (v : Version) (p : Progress) (events : List Event) (payload : List ℕ) → IsBytes payload → IsNext v p events payload ⊎ IsNoNext v p events payload
next_decided v p [] payload fits = row_next v p [] payload fits refl
next_decided v p (e ∷ events) payload fits = event_next v p (e ∷ events) payload fits (λ row able spelt none. absurd (cc))

-- ---- the entry at a gate

by_tests : (a b : Bool) (place n at len : ℕ) → Entry at len ≡ (if a then (if b then Entry (place + 5) n else Torn) else End) → (b ≡ true) × (at ≡ place + 5) × (len ≡ n)
by_tests true true place n at len is = (refl, cc is, cc is)
by_tests true false place n at len is = absurd (cc)
by_tests false b place n at len is = absurd (cc)

module _ (c : List ℕ) (fits : IsBytes c) (base : ℕ) (current : current_area c ≡ Ok base) (v : Version) (version_is : version_of (header_at base c) ≡ number_of v) (inside : base + half (length c) ≤ length c) where
  abbrev end : ℕ
  end = base + half (length c)

  -- The entry has its length encoded, and is before the end.
  record IsEntry (place at len : ℕ) : Type 0 where
    at_is : at ≡ place + 5
    before : at + len < end
    short : len < 2 ^ 32
    spelt : to_be_bytes w32 len ≡ take 4 (drop (place + 1) c)

  is_entry : (place at len : ℕ) → Entry at len ≡ entry_at c end place → IsEntry place at len
  is_entry place at len is =
      let n = length_at c place in
      let told = by_tests (get_or c place 0 == 165) (nat_lt (place + 5 + n) end) place n at len is in
      let less : place + 5 + n < end = (Decides-ltb (place + 5 + n) end).0 told.0 in
      let four = take 4 (drop (place + 1) c) in
      let fit : IsBytes four = IsBytes-take 4 (drop (place + 1) c) (IsBytes-drop (place + 1) c fits) in
      let long : length four ≡ 4 = length-take-le 4 (drop (place + 1) c) (omega (arith, length-drop (place + 1) c, less, inside)) in
      record {
        at_is = told.1;
        before = omega (arith, less, told.1, told.2);
        short = subst (λ (k : ℕ). k < 2 ^ 32) (sym told.2) (wide32.below four fit);
        spelt = ap (to_be_bytes w32) told.2 ∙ wide32.back four long fit;
      }

  -- ---- the payloads end

  finished : (payloads : List (List ℕ)) (p : Progress) (events : List Event) → Begins v payloads p events → HasPayloads base payloads c → TableOrFault c
  finished payloads p events begins area = elim (whole_decided p) [
    | inl whole ↦ ends whole
    | inr short ↦ ⊎_elim (λ none. cut short none) (λ whole. absurd (short whole)) begins.whole
  ]
    where
      cut : ¬ (IsWhole p) → events ≡ [] → TableOrFault c
      cut short none = inr (
        Damaged (gate_after base payloads),
        inr (inr (inl (record {
          base = base;
          version = v;
          payloads = payloads;
          progress = p;
          area = area;
          version_is = version_is;
          begins = subst (Begins v payloads p) none begins;
          short = short;
          gate = refl;
        }))),
      )

      ends : IsWhole p → TableOrFault c
      ends whole =
          let s = after_all p.state events in
          let history = history_of v payloads p events begins whole in
          elim (idle_decided s) [
            | inl idle ↦ inl (s, record { base = base; version = v; payloads = payloads; area = area; version_is = version_is; history = history; room = λ busy. absurd (busy idle) })
            | inr busy ↦ elim (cases_lt (area_end base c) (gate_after base payloads + kept_room)) [
              | inl cramped ↦ inr (
                Damaged (gate_after base payloads),
                inr (inr (inr (record {
                  base = base;
                  version = v;
                  payloads = payloads;
                  table = s;
                  area = area;
                  version_is = version_is;
                  history = history;
                  processing = busy;
                  gate = refl;
                  cramped = cramped;
                }))),
              )
              | inr roomy ↦ inl (s, record { base = base; version = v; payloads = payloads; area = area; version_is = version_is; history = history; room = λ again. roomy })
            ]
          ]

  -- ---- payload after payload

  -- Some payloads, with a gate after them.
  record IsReadTo : Type 0 where
    payloads : List (List ℕ)
    progress : Progress
    events : List Event
    begins : Begins v payloads progress events
    stands : HasFirstPayloads base payloads c

  -- One more payload.
  record IsFurther (from : ℕ) : Type 0 where
    to : IsReadTo
    behind : from < gate_after base to.payloads

  row_more : (payloads : List (List ℕ)) (p : Progress) (payload : List ℕ) → Begins v payloads p [] → IsNextRow v p payload → HasFirstPayloads base (payloads ++ payload ∷ []) c → IsFurther (gate_after base payloads)
  row_more payloads p payload begins row stands = record {
    to = record {
      payloads = payloads ++ payload ∷ [];
      progress = loaded p row.row;
      events = [];
      begins = subst (λ (x : List ℕ). Begins v (payloads ++ x ∷ []) (loaded p row.row) []) (sym row.spelt) (begins_row v payloads p row.row begins row.spellable row.placed);
      stands = stands;
    };
    behind = omega (arith, gate_push base payloads payload);
  }

  event_more : (payloads : List (List ℕ)) (p : Progress) (events : List Event) (payload : List ℕ) → Begins v payloads p events → IsWhole p → IsNextEvent (after_all p.state events) payload → HasFirstPayloads base (payloads ++ payload ∷ []) c → IsFurther (gate_after base payloads)
  event_more payloads p events payload begins whole event stands = record {
    to = record {
      payloads = payloads ++ payload ∷ [];
      progress = p;
      events = events ++ event.event ∷ [];
      begins = subst (λ (x : List ℕ). Begins v (payloads ++ x ∷ []) p (events ++ event.event ∷ [])) (sym event.spelt) (begins_event v payloads p events event.event begins whole event.spellable event.accepted);
      stands = stands;
    };
    behind = omega (arith, gate_push base payloads payload);
  }

  module _ (payloads : List (List ℕ)) (p : Progress) (events : List Event) (begins : Begins v payloads p events) (stands : HasFirstPayloads base payloads c) where
    -- The gate is followed by an entry.
    entry_there : (at len : ℕ) → Entry at len ≡ entry_at c end (gate_after base payloads) → TableOrFault c ⊎ IsFurther (gate_after base payloads)
    entry_there at len is =
        let entry = is_entry (gate_after base payloads) at len is in
        let payload = slice_range c at (at + len) in
        let first : HasFirst (base + header_len) (at + len) (payloads ++ payload ∷ []) c =
        goes_on (base + header_len) (gate_after base payloads) payloads c stands.first end (Entry at len) stands.within inside is (entry.at_is, entry.before) (entry.short, entry.spelt) in
        let more : HasFirstPayloads base (payloads ++ payload ∷ []) c = record {
          current = current;
          first = subst (λ (g : ℕ). HasFirst (base + header_len) g (payloads ++ payload ∷ []) c) first.place_at first;
          within = omega (arith, first.place_at, entry.before);
        } in
        ⊎_elim
        (λ next.
        ⊎_elim
        (λ row. inr (row_more payloads p payload (subst (Begins v payloads p) row.0 begins) row.1 more))
        (λ event. inr (event_more payloads p events payload begins event.0 event.1 more))
        next)
        (λ strange. inl (inr (
          Damaged (gate_after base payloads),
          inr (inl (record {
            base = base;
            version = v;
            payloads = payloads;
            progress = p;
            events = events;
            version_is = version_is;
            begins = begins;
            gate = refl;
            damage = inr (record { payload = payload; stands = more; strange = strange });
          })),
        )))
        (next_decided v p events payload (IsBytes-take (at + len - at) (drop at c) (IsBytes-drop at c fits)))

    -- Whatever follows the gate.
    what_there : (what : Found) → what ≡ entry_at c end (gate_after base payloads) → TableOrFault c ⊎ IsFurther (gate_after base payloads)
    what_there Torn is = inl (inr (
      Damaged (gate_after base payloads),
      inr (inl (record {
        base = base;
        version = v;
        payloads = payloads;
        progress = p;
        events = events;
        version_is = version_is;
        begins = begins;
        gate = refl;
        damage = inl (record { first = stands; torn = sym is });
      })),
    ))
    what_there End is = inl (finished payloads p events begins (record {
      current = current;
      entries = goes_on (base + header_len) (gate_after base payloads) payloads c stands.first end End stands.within inside is tt tt;
      within = stands.within;
    }))
    what_there (Entry at len) is = entry_there at len is

  -- Each payload has a gate, so there are at most as many payloads as bytes up to the end of the area.
  read_on : (left : ℕ) (to : IsReadTo) → end ≤ gate_after base to.payloads + left → TableOrFault c
  read_on zero to bound = absurd (omega (arith, bound, to.stands.within))
  read_on (suc left) to bound =
      ⊎_elim
      (λ done. done)
      (λ further. read_on left further.to (omega (arith, bound, further.behind)))
      (what_there to.payloads to.progress to.events to.begins to.stands (entry_at c end (gate_after base to.payloads)) refl)

  read_all : least_area ≤ half (length c) → TableOrFault c
  read_all long =
      read_on end (record {
        payloads = [];
        progress = begin_loading v;
        events = [];
        begins = record { rows = []; spelt = refl; spellable_rows = tt; spellable = tt; placed = tt; progress = refl; whole = inl refl; accepted = tt };
        stands = record { current = current; first = record { short = tt; place_at = refl; rest = drop (base + header_len) c; stands = refl }; within = omega (arith, long) };
      }) (omega arith)

-- ---- the headers

-- A known number is that of a version.
pub version_there : (base n : ℕ) → IsVersion n → (v : Version) × (n ≡ number_of v)
version_there base n (inl old) = (One, old)
version_there base n (inr new) = (Two, new)

-- The result is neither `Memory` nor `Disk`.
abbrev IsOfHeaders : Result ℕ OpenFault → Type 0
IsOfHeaders (Ok base) = ⊤
IsOfHeaders (Err NotASpool) = ⊤
IsOfHeaders (Err (Damaged place)) = ⊤
IsOfHeaders (Err Memory) = ⊥
IsOfHeaders (Err Disk) = ⊥

one_of : (b : Bool) (x y : Result ℕ OpenFault) → IsOfHeaders x → IsOfHeaders y → IsOfHeaders (if b then x else y)
one_of true x y one other = one
one_of false x y one other = other

newer_of : (second e f : ℕ) → IsOfHeaders (newer second e f)
newer_of second e f = one_of (e == f) (Err NotASpool) _ tt (one_of (nat_lt e f) (Ok second) (Ok 0) tt tt)

chosen_of : (second : ℕ) (header other : List ℕ) → IsOfHeaders (chosen second header other)
chosen_of second header other =
    one_of (is_open header && not (is_known header)) (Err (Damaged 0)) _ tt
    (one_of (is_open other && not (is_known other)) (Err (Damaged second)) _ tt
    (one_of (is_open header && is_open other) (newer second (epoch_of header) (epoch_of other)) _ (newer_of second (epoch_of header) (epoch_of other))
    (one_of (is_open header) (Ok 0) _ tt (one_of (is_open other) (Ok second) (Err NotASpool) tt tt))))

of_headers : (c : List ℕ) → IsOfHeaders (current_area c)
of_headers c =
    one_of (nat_lt (half (length c)) least_area) (Err NotASpool) (chosen (half (length c)) (header_at 0 c) (header_at (half (length c)) c)) tt
    (chosen_of (half (length c)) (header_at 0 c) (header_at (half (length c)) c))

module _ (c : List ℕ) (fits : IsBytes c) where
  err_or_ok : (base : ℕ) (f : OpenFault) → current_area c ≡ Ok base → current_area c ≡ Err f → ⊥
  err_or_ok base f ok err = absurd (cc)

  by_area : (r : Result ℕ OpenFault) → current_area c ≡ r → TableOrFault c
  by_area (Ok base) is = elim (cases_lt (half (length c)) least_area) [
    | inl short ↦ absurd (err_or_ok base NotASpool is (too_short (length c) c refl short))
    | inr long ↦
        let two = chosen_is_base (half (length c)) base (header_at 0 c) (header_at (half (length c)) c)
        (sym (by_headers (length c) c (header_at 0 c) (header_at (half (length c)) c) (chosen (half (length c)) (header_at 0 c) (header_at (half (length c)) c)) refl long refl refl refl) ∙ is) in
        let version = version_there base (version_of (header_at base c)) (current_version base c is) in
        read_all c fits base is version.0 version.1 (⊎_elim (λ first. omega (arith, first)) (λ second. omega (arith, second)) two) long
  ]
  by_area (Err NotASpool) is = inr (NotASpool, is)
  by_area (Err (Damaged place)) is = inr (Damaged place, inl is)
  by_area (Err Memory) is = absurd (subst IsOfHeaders is (of_headers c))
  by_area (Err Disk) is = absurd (subst IsOfHeaders is (of_headers c))

pub table_or_fault_there : (c : List ℕ) → AreBytes c → TableOrFault c
table_or_fault_there c are = by_area c (each_byte c are) (current_area c) refl
