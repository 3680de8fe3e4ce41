-- The rows of a document, piece by piece.
use Rattle.spool_types.specs.declared.version.Version.TheVariants.{Two}
use Rattle.std.proofs.Common.{◌≡◌, ℕ, ◌+◌, ◌-◌, ◌*◌, ◌==◌, if◌then◌else◌, Bool, true, cond, ◌<◌, ◌≤◌, List, [], ◌∷◌, ◌++◌, length, take, drop, map, min, Option, Some, IsSome, Ok, false, replicate, refl, sym, subst, ap, ◌∙◌, arith, append_assoc, length-append, length-drop}
use Rattle.std.proofs.lemmas.List.{map-append, append-nil, take-replicate, drop-replicate, drop-drop, drop_all, length-replicate}
use Rattle.std.proofs.lemmas.Bool.Decides.{nat_tests}
use Rattle.std.specs.Ordering.{nat_cmp}
use Rattle.std.specs.FinMap.{find}
use Rattle.extents.specs.declared.extent.Extent.{Extent}
use Rattle.spool_types.specs.Limits.{longest_send}
use Rattle.spool_types.specs.Sent.{piece_of, placed_to}
use Rattle.spool_types.specs.Phases.{has_ended}
use Rattle.spool_types.specs.State.{State, Job, job_at}
use Rattle.spool_types.specs.declared.listing.Row.{Row}
use Rattle.spool_types.specs.declared.listing.Row.TheVariants.{Job as JobRow, Piece}
use Rattle.spool_disk.specs.Disk.{DiskView, IsLawful}
use Rattle.gate_journal.specs.Entries.{records}
use Rattle.event_codec.specs.RowSpelling.{row_spelling}
use Rattle.job_table.specs.Contents.{Contents, Noted, move_room, places_of}
use Rattle.job_table.specs.DocumentLengths.{document_len}
use Rattle.job_table.specs.Listing.{pieces}
use Rattle.job_table.specs.Over.{is_over, is_over_by}
use Rattle.documents.specs.Documents.{joined}
use Rattle.documents.specs.Placed.{placed_pieces}
use Rattle.documents.proofs.Moved.{spells_pieces}
use Rattle.documents.proofs.Placed.{one_more}
use Rattle.spool_core.specs.Checkpointing.{blank_rows}
use Rattle.listing_rows.specs.RowFilling.{Filling, next_place, records_len, MayFill, IsFillingOn, AddsRows}
use Rattle.spool_core.specs.ListingFilling.{IsAlike, AreAlike, TellsBut, IsPieceAdded, IsPieceNoted, IsDocumentAdded, IsDocumentNoted, IsDue}
use Rattle.spool_core.proofs.AddLaws.{records_more, may_more, may_first, may_as, tells_on, then_adds}
use Rattle.spool_core.proofs.FoldLaws.{with_placed_is}
use Rattle.spool_core.proofs.ListingLaws.{pieces_next}
use Rattle.spool_core.proofs.ReadOn.{some_same}

-- ## Rows that differ in the bytes of their pieces

pub alike_itself : (rows : List Row) → AreAlike rows rows
alike_itself [] = tt
alike_itself (row ∷ rows) = (record { long = refl; placed = λ place j. refl }, alike_itself rows)

pub alike_then : (rows others more too : List Row) → AreAlike rows others → AreAlike more too → AreAlike (rows ++ more) (others ++ too)
alike_then [] [] more too first next = next
alike_then [] (b ∷ others) more too first next = absurd first
alike_then (a ∷ rows) [] more too first next = absurd first
alike_then (a ∷ rows) (b ∷ others) more too first next = (first.0, alike_then rows others more too first.1 next)

pub alike_records : (rows others : List Row) → AreAlike rows others → records_len others ≡ records_len rows
alike_records [] [] are = refl
alike_records [] (b ∷ others) are = absurd are
alike_records (a ∷ rows) [] are = absurd are
alike_records (a ∷ rows) (b ∷ others) are =
    omega (arith, are.0.long, alike_records rows others are.1, length-append (row_spelling Two a) (records (map (row_spelling Two) rows)), length-append (row_spelling Two b) (records (map (row_spelling Two) others)))

alike_piece : (job : ℕ) (part bytes : List ℕ) → length part ≡ length bytes → IsAlike (Piece job part) (Piece job bytes)
alike_piece job part bytes same = record {
  long = omega (arith, same);
  placed = λ place j. ap (λ (n : ℕ). if job == j then record { place = place + 9; len = n } ∷ [] else []) (sym same);
}

-- ## A document with its first pieces added

-- A job, and these pieces of its document.
abbrev pub part_rows : Job → List (List ℕ) → List Row
part_rows row parts = JobRow row ∷ map (λ bytes. Piece row.id bytes) parts

-- The pieces with the first `done` bytes of the document are added, and their places are noted.
pub record IsPartAdded {D : Type 0} (v : DiskView D) (document : List Extent) (row : Job) (done : ℕ) (old : Filling D) (before : Noted) (now : Filling D) (noted : Noted) : Type 0 where
  pub parts : List (List ℕ)
  pub others : List (List ℕ)
  pub left : pieces (replicate (document_len row) 0) ≡ parts ++ pieces (replicate (document_len row - done) 0)
  pub alike : AreAlike (part_rows row parts) (part_rows row others)
  pub told : (r : List ℕ) → TellsBut v old.areas r → pieces (joined r document) ≡ others ++ pieces (drop done (joined r document))
  pub adds : AddsRows v (part_rows row others) old now
  pub places : (j : ℕ) → places_of noted.places j ≡ places_of before.places j ++ placed_pieces Two (next_place old) (part_rows row parts) j
  pub there : (j : ℕ) → IsSome (find nat_cmp j before.places) → IsSome (find nat_cmp j noted.places)
  pub room : (j : ℕ) → (¬ (row.id ≡ j)) → move_room noted j ≡ move_room before j
  pub room_left : document_len row - done ≤ move_room noted row.id * longest_send

-- The job with the document that is due.
pub due_row : {D : Type 0} (v : DiskView D) (table : Contents) (job : ℕ) (f : Filling D) (due : IsDue v table job f) (r : Job) → job_at table.state job ≡ Some r → due.row ≡ r
due_row v table job f due r there = some_same due.row r (sym due.there ∙ there)

-- The number of a job whose document has bytes is not over.
pub lives_here : (s : State) (j : ℕ) (r : Job) → job_at s j ≡ Some r → 0 < document_len r → is_over s j ≡ false
lives_here s j r there some = ap (is_over_by s.highest j) there ∙ by_ended (has_ended r.phase) some
  where
    by_ended : (b : Bool) → 0 < cond b 0 r.size → b ≡ false
    by_ended true some = absurd (omega (arith, some))
    by_ended false some = refl

all_left : (n : ℕ) → n - 0 ≡ n
all_left n = omega arith

-- The row of the job is added.
pub part_begun : {D : Type 0} (v : DiskView D) (row : Job) (document : List Extent) (old now : Filling D) (noted : Noted) → AddsRows v (JobRow row ∷ []) old now → document_len row ≤ move_room noted row.id * longest_send
    → IsPartAdded v document row 0 old noted now noted
part_begun v row document old now noted adds room = record {
  parts = [];
  others = [];
  left = ap (λ (n : ℕ). pieces (replicate n 0)) (sym (all_left (document_len row)));
  alike = alike_itself (part_rows row []);
  told = λ r told. refl;
  adds = adds;
  places = λ j. sym (append-nil (places_of noted.places j));
  there = λ j there. there;
  room = λ j apart. refl;
  room_left = omega (arith, room);
}

zeros_next : (n : ℕ) → 0 < n → pieces (replicate n 0) ≡ replicate (min n longest_send) 0 ∷ pieces (replicate (n - min n longest_send) 0)
zeros_next n some =
    let zeros : List ℕ = replicate n 0 in
    let size : length zeros ≡ n = length-replicate n 0 in
    pieces_next zeros (omega (arith, size, some))
    ∙ (λ i. take (min (size i) longest_send) zeros ∷ pieces (drop (min (size i) longest_send) zeros))
    ∙ (λ i. take-replicate (min n longest_send) n 0 (omega arith) i ∷ pieces (drop-replicate (min n longest_send) n 0 i))

pub other_test : (k j : ℕ) → (¬ (k ≡ j)) → (k == j) ≡ false
other_test k j apart = grind (arith, nat_tests)

same_test : (k : ℕ) → (k == k) ≡ true
same_test k = grind (arith, nat_tests)

rows_push : (row : Job) (parts : List (List ℕ)) (b : List ℕ) → part_rows row (parts ++ b ∷ []) ≡ part_rows row parts ++ Piece row.id b ∷ []
rows_push row parts b = ap (λ (l : List Row). JobRow row ∷ l) (map-append (λ bytes. Piece row.id bytes) parts (b ∷ []))

module _ {D : Type 0} (v : DiskView D) (lawful : IsLawful v) (document : List Extent) (row : Job) (done count : ℕ) (old : Filling D) (before : Noted) (now : Filling D) (noted : Noted)
    (on : IsFillingOn {T = Unit {0}} v old now (Ok tt)) (p : IsPartAdded v document row done old before now noted) (within : done < document_len row) (is : count ≡ min (document_len row - done) longest_send) where
  abbrev zeros : List ℕ
  zeros = replicate count 0

  long_zeros : length zeros ≡ count
  long_zeros = length-replicate {A = ℕ} count 0

  next_piece : pieces (replicate (document_len row) 0) ≡ p.parts ++ (zeros ∷ pieces (replicate (document_len row - done - count) 0))
  next_piece =
      p.left
      ∙ ap (λ (l : List (List ℕ)). p.parts ++ l)
      (zeros_next (document_len row - done) (omega (arith, within)) ∙ (λ i. replicate (sym is i) 0 ∷ pieces (replicate (document_len row - done - sym is i) 0)))

  pub room_there : 0 < move_room noted row.id
  room_there = omega (arith, p.room_left, within)

  abbrev some_piece : Row
  some_piece = Piece row.id zeros

  abbrev rest_rows : List Row
  rest_rows = map (λ bytes. Piece row.id bytes) (pieces (replicate (document_len row - done - count) 0))

  all_rows : blank_rows row ≡ part_rows row p.parts ++ (some_piece ∷ rest_rows)
  all_rows = ap (part_rows row) next_piece ∙ ap (λ (l : List Row). JobRow row ∷ l) (map-append (λ bytes. Piece row.id bytes) p.parts (zeros ∷ pieces (replicate (document_len row - done - count) 0)))

  same_long : records_len (part_rows row p.others) ≡ records_len (part_rows row p.parts)
  same_long = alike_records (part_rows row p.parts) (part_rows row p.others) p.alike

  -- The next piece may be added.
  pub piece_may : MayFill v (blank_rows row) old → MayFill v (some_piece ∷ []) now
  piece_may may =
      let rest = some_piece ∷ rest_rows in
      let long : records_len (part_rows row p.others ++ rest) ≡ records_len (blank_rows row) =
      records_more (part_rows row p.others) rest ∙ ap (λ (n : ℕ). n + records_len rest) same_long ∙ sym (records_more (part_rows row p.parts) rest) ∙ ap records_len (sym all_rows) in
      may_first v lawful (some_piece ∷ []) rest_rows now
      (may_more v lawful old now on (part_rows row p.others) p.adds rest (may_as v lawful (blank_rows row) (part_rows row p.others ++ rest) old long may))

  module _ (next : Filling D) (after : Noted) (f : IsPieceAdded v document row.id done count now next) (n : IsPieceNoted row.id count (next_place now) noted after)
      (whole : (r : List ℕ) → TellsBut v old.areas r → length (joined r document) ≡ document_len row) where
    rows_more : part_rows row (p.parts ++ zeros ∷ []) ≡ part_rows row p.parts ++ some_piece ∷ []
    rows_more = rows_push row p.parts zeros

    told_more : (r : List ℕ) → TellsBut v old.areas r → pieces (joined r document) ≡ (p.others ++ f.bytes ∷ []) ++ pieces (drop (done + count) (joined r document))
    told_more r told =
        let all = joined r document in
        let rest = drop done all in
        let long : length rest ≡ document_len row - done = omega (arith, whole r told, length-drop done all) in
        let cut : min (length rest) longest_send ≡ count = omega (arith, long, is) in
        p.told r told
        ∙ ap (λ (l : List (List ℕ)). p.others ++ l)
        (pieces_next rest (omega (arith, long, within))
        ∙ (λ i. take (cut i) rest ∷ pieces (drop (cut i) rest))
        ∙ (λ i. sym (f.told r (tells_on v lawful old now on r told)) i ∷ pieces (drop-drop count done all i)))
        ∙ sym (append_assoc p.others (f.bytes ∷ []) (pieces (drop (done + count) all)))

    places_more : (j : ℕ) → places_of after.places j ≡ places_of before.places j ++ placed_pieces Two (next_place old) (part_rows row p.parts ++ some_piece ∷ []) j
    places_more j =
        let rows = part_rows row p.parts in
        let sends : Option (ℕ × List ℕ) = Some (row.id, zeros) in
        let at : next_place now ≡ next_place old + records_len rows = omega (arith, p.adds.place, same_long) in
        n.noted zeros j (long_zeros)
        ∙ with_placed_is (places_of noted.places j) (next_place now + 5) j sends
        ∙ (λ i. p.places j i ++ placed_to (at i + 5) j sends)
        ∙ append_assoc (places_of before.places j) (placed_pieces Two (next_place old) rows j) (placed_to (next_place old + records_len rows + 5) j sends)
        ∙ ap (λ (l : List Extent). places_of before.places j ++ l) (sym (one_more (row_spelling Two) piece_of (spells_pieces Two) (next_place old) rows some_piece j))

    pub part_next : IsPartAdded v document row (done + count) old before next after
    part_next =
        let rows = part_rows row p.parts in
        record {
          parts = p.parts ++ zeros ∷ [];
          others = p.others ++ f.bytes ∷ [];
          left = next_piece ∙ ap (λ (m : ℕ). p.parts ++ (zeros ∷ pieces (replicate m 0))) less ∙ sym (append_assoc p.parts (zeros ∷ []) (pieces (replicate (document_len row - (done + count)) 0)));
          alike = subst (λ (l : List Row). AreAlike l (part_rows row (p.others ++ f.bytes ∷ []))) (sym rows_more)
              (subst (AreAlike (rows ++ some_piece ∷ [])) (sym (rows_push row p.others f.bytes))
              (alike_then rows (part_rows row p.others) (some_piece ∷ []) (Piece row.id f.bytes ∷ []) p.alike (alike_piece row.id zeros f.bytes (long_zeros ∙ sym f.long), tt)));
          told = told_more;
          adds = subst (λ (l : List Row). AddsRows v l old next) (sym (rows_push row p.others f.bytes))
              (then_adds v lawful old now on (part_rows row p.others) p.adds next (Piece row.id f.bytes ∷ []) f.adds);
          places = λ j. places_more j ∙ ap (λ (l : List Row). places_of before.places j ++ placed_pieces Two (next_place old) l j) (sym rows_more);
          there = λ j there. n.there j (p.there j there);
          room = λ j apart. n.room j ∙ ap (λ t. if t then move_room noted j - 1 else move_room noted j) (other_test row.id j apart) ∙ p.room j apart;
          room_left = omega (arith, p.room_left, n.room row.id ∙ ap (λ t. if t then move_room noted row.id - 1 else move_room noted row.id) (same_test row.id), is);
        }
      where
        less : document_len row - done - count ≡ document_len row - (done + count)
        less = omega arith

-- The document is complete.
module _ {D : Type 0} (v : DiskView D) (document : List Extent) (row : Job) (done : ℕ) (old : Filling D) (before : Noted) (now : Filling D) (noted : Noted)
    (p : IsPartAdded v document row done old before now noted) (end : document_len row ≤ done) where
  none_left : document_len row - done ≡ 0
  none_left = omega (arith, end)

  parts_all : pieces (replicate (document_len row) 0) ≡ p.parts
  parts_all = p.left ∙ ap (λ (n : ℕ). p.parts ++ pieces (replicate n 0)) none_left ∙ append-nil p.parts

  rows_all : part_rows row p.parts ≡ blank_rows row
  rows_all = ap (part_rows row) (sym parts_all)

  pub part_whole : ((r : List ℕ) → TellsBut v old.areas r → length (joined r document) ≡ document_len row) → IsDocumentAdded v document row old now
  part_whole whole = record {
    rows = part_rows row p.others;
    alike = subst (λ (l : List Row). AreAlike l (part_rows row p.others)) rows_all p.alike;
    told = λ r told. ap (part_rows row) (sym (p.told r told ∙ ap (λ (l : List ℕ). p.others ++ pieces l) (drop_all done (joined r document) (omega (arith, whole r told, end))) ∙ append-nil p.others));
    adds = p.adds;
  }

  pub part_noted : IsDocumentNoted row (next_place old) before noted
  part_noted = record {
    noted = λ j. p.places j ∙ ap (λ (l : List Row). places_of before.places j ++ placed_pieces Two (next_place old) l j) rows_all;
    there = p.there;
    room = p.room;
  }
