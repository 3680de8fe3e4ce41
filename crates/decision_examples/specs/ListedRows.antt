-- Examples of the encoding of the rows of a listing.
use Rattle.std.specs.Prelude.{◌≡◌, ℕ, true, false, List, [], ◌∷◌, ◌++◌, map, codes, length, Option, None, Some, Ok}
use Rattle.spool_types.specs.declared.phase.Policy.TheVariants.{AbortJob, StopPrinter}
use Rattle.spool_types.specs.declared.phase.Phase.{Phase}
use Rattle.spool_types.specs.declared.phase.Phase.TheVariants.{Incoming, Waiting, Processing, Completed, Canceled, Aborted}
use Rattle.spool_types.specs.declared.phase.Hold.TheVariants.{Free, Indefinite, Until}
use Rattle.spool_types.specs.declared.phase.HoldReason.TheVariants.{Unspecified, Authentication, Backend}
use Rattle.spool_types.specs.declared.phase.AbortReason.TheVariants.{FilterFailed, BackendFailed, RetryLimit, AttemptLost, NoFilter}
use Rattle.spool_types.specs.declared.version.Version.{Version}
use Rattle.spool_types.specs.declared.version.Version.TheVariants.{One, Two}
use Rattle.spool_types.specs.declared.listing.Row.{Row}
use Rattle.spool_types.specs.declared.listing.Row.TheVariants as rows
use Rattle.event_codec.specs.RowSpelling.{row_spelling}
use Rattle.event_codec.specs.RowReading.{row_reading}
use Rattle.decision_examples.specs.HexBytes.{hex}

-- Each row: the bytes between these bytes, and the row that all of them encode in this version.
abbrev pub AreSpelled : Version → List ℕ → List (List ℕ × Row) → List ℕ → Type 0
AreSpelled version before rows behind =
    (map (λ (row : List ℕ × Row). row_spelling version row.1) rows ≡ map (λ (row : List ℕ × Row). before ++ hex row.0 ++ behind) rows)
    × (map (λ (row : List ℕ × Row). row_reading version (before ++ hex row.0 ++ behind)) rows ≡ map (λ (row : List ℕ × Row). Ok row.1) rows)

-- The head of an empty table, and the greatest possible one.
abbrev pub empty_head : List ℕ
empty_head = codes "40 00 00 00 00 00 00 00 00 00 00 00 00"

-- The least queue.
abbrev pub least_queue : List ℕ
least_queue = codes "41 00 01 71 00 03 73 3A 2F 00 03 61 2F 62 00 00 00 00 1E 00 05 00 00 00 00 01 00 00 00 00 00"

-- The least job in version 1.
abbrev pub least_job : List ℕ
least_job = codes "42 00 00 00 01 00 01 71 00 01 75 00 00 00 01 32 00 00 01 00 03 61 2F 62 00 00 00 00 00 00 00 00 00 00 00 00 00 01 00 00 00 00 00 00 00 00 00 00"

-- In both versions.
abbrev pub unchanged : List (List ℕ × Row)
unchanged = (empty_head, rows.Head (record { highest = 0; moment = 0 }))
    ∷ (codes "40 7F FF FF FF 00 00 03 A3 52 94 40 00", rows.Head (record { highest = 2147483647; moment = 4000000000000 }))
    ∷ (
      least_queue,
      rows.Queue (record {
        name = codes "q";
        uri = codes "s:/";
        target = codes "a/b";
        policy = AbortJob;
        interval = 30;
        limit = 5;
        info = [];
        location = [];
        accepting = true;
        stopped = false;
        message = [];
        reasons = [];
        attributes = [];
      }),
    )
    ∷ (
      codes "41 00 01 71 00 03 73 3A 2F 00 03 61 2F 62 03 00 00 00 00 00 00 00 01 61 00 01 62 00 01 00 01 6D 02 00 01 61 00 03 62 2E 63 02 00 03 61 2D 31 00 03 78 20 79 00 01 62 00 00",
      rows.Queue (record {
        name = codes "q";
        uri = codes "s:/";
        target = codes "a/b";
        policy = StopPrinter;
        interval = 0;
        limit = 0;
        info = codes "a";
        location = codes "b";
        accepting = false;
        stopped = true;
        message = codes "m";
        reasons = codes "a" ∷ codes "b.c" ∷ [];
        attributes = record { name = codes "a-1"; value = codes "x y" } ∷ record { name = codes "b"; value = [] } ∷ [];
      }),
    )
    ∷ (codes "43 00 00 00 01 00 00 00 02 61 62", rows.Piece 1 (codes "ab"))
    ∷ []

abbrev pub UnchangedRows : Type 0
UnchangedRows = AreSpelled One [] unchanged [] × AreSpelled Two [] unchanged []

-- The least job, and its latest start.
abbrev pub waiting_job : Option ℕ → Row
waiting_job by = rows.Job (record {
  id = 1;
  queue = codes "q";
  user = codes "u";
  title = [];
  copies = 1;
  priority = 50;
  options = [];
  media = Some (codes "a/b");
  filters = [];
  attempts = 0;
  pages = 0;
  size = 0;
  phase = Waiting Free 0 false;
  by = by;
})

abbrev pub FirstVersionRows : Type 0
FirstVersionRows = AreSpelled One [] ((least_job, waiting_job None) ∷ []) []

-- No moment, one, and the ends of their range.
abbrev pub MomentRows : Type 0
MomentRows = AreSpelled Two (hex least_job) (
    (codes "00", waiting_job None)
    ∷ (codes "01 00 00 00 00 00 00 07 D0", waiting_job (Some 2000))
    ∷ (codes "01 00 00 00 00 00 00 00 00", waiting_job (Some 0))
    ∷ (codes "01 00 00 03 A3 52 94 40 00", waiting_job (Some 4000000000000))
    ∷ []) []

-- The least number of bytes of a head, a queue and a job in version 2.
abbrev pub LeastRows : Type 0
LeastRows = map (λ row. length (hex row)) (empty_head ∷ least_queue ∷ (least_job ++ codes " 00") ∷ []) ≡ 13 ∷ 31 ∷ 49 ∷ []

-- A job of two attempts, three pages and one filter, up to its phase.
abbrev pub before_phase : List ℕ
before_phase = hex (codes "42 00 00 00 01 00 01 71 00 01 75 00 00 00 01 32 00 00 00 01 00 01 66 00 00 00 02 00 00 00 03 01 00 00 00")

-- This job in a phase, and its latest start.
abbrev pub in_phase : Option ℕ → List ℕ × Phase → List ℕ × Row
in_phase by row = (
  row.0,
  rows.Job (record {
    id = 1;
    queue = codes "q";
    user = codes "u";
    title = [];
    copies = 1;
    priority = 50;
    options = [];
    media = None;
    filters = codes "f" ∷ [];
    attempts = 2;
    pages = 3;
    size = 16777216;
    phase = row.1;
    by = by;
  }),
)

abbrev pub phases : List (List ℕ × Phase)
phases = (codes "00 00", Incoming Free)
    ∷ (codes "00 01 00", Incoming (Indefinite Unspecified))
    ∷ (codes "00 01 01", Incoming (Indefinite Authentication))
    ∷ (codes "00 01 02", Incoming (Indefinite Backend))
    ∷ (codes "00 02 00 00 00 00 00 00 00 64", Incoming (Until 100))
    ∷ (codes "01 00 00 00 00 00 00 00 00 00 00", Waiting Free 0 false)
    ∷ (codes "01 01 02 00 00 00 00 00 00 00 05 01", Waiting (Indefinite Backend) 5 true)
    ∷ (codes "02 01", Processing 2 1 2)
    ∷ (codes "02 10", Processing 2 16 2)
    ∷ (codes "03", Completed)
    ∷ (codes "04", Canceled)
    ∷ (codes "05 00", Aborted FilterFailed)
    ∷ (codes "05 01", Aborted BackendFailed)
    ∷ (codes "05 02", Aborted RetryLimit)
    ∷ (codes "05 03", Aborted AttemptLost)
    ∷ (codes "05 04", Aborted NoFilter)
    ∷ []

-- In both versions, and with a moment.
abbrev pub PhaseRows : Type 0
PhaseRows = AreSpelled One before_phase (map (in_phase None) phases) []
    × AreSpelled Two before_phase (map (in_phase None) phases) (0 ∷ [])
    × AreSpelled Two before_phase (map (in_phase (Some 2000)) phases) (hex (codes "01 00 00 00 00 00 00 07 D0"))
