-- A job's document in an image, and the effect of an event on it.
use Rattle.std.proofs.Common.{◌≡◌, ℕ, List, [], ◌∷◌, ◌++◌, None, refl, sym, subst, ap, ◌∙◌, append_assoc}
use Rattle.std.proofs.lemmas.List.{append-nil}
use Rattle.std.specs.List.{AllByRecursion}
use Rattle.spool_types.specs.declared.event.Event.{Event}
use Rattle.spool_types.specs.declared.listing.Row.{Row}
use Rattle.spool_types.specs.declared.version.Version.{Version}
use Rattle.spool_types.specs.Sent.{sent_by, sent_to, sent, listed_pieces, document_in}
use Rattle.spool_types.specs.State.{State}
use Rattle.job_table.specs.Step.{refusal_of}
use Rattle.event_codec.specs.Spelling.{spelling, IsSpellable}
use Rattle.event_codec.specs.RowSpelling.{IsRowSpellable}
use Rattle.spool_areas.specs.Header.{header_at, version_of}
use Rattle.spool_areas.specs.Payloads.{HasPayloads}
use Rattle.spool_areas.proofs.AreaLaws.{same_payloads}
use Rattle.documents.specs.Documents.{joined}
use Rattle.documents.specs.Placed.{payloads_of, places_in}
use Rattle.documents.proofs.Moved.{history}
use Rattle.spool_core.specs.Folding.{StayOver}
use Rattle.spool_core.specs.VersionNumbers.{number_of}
use Rattle.spool_core.specs.Image.{HasTable, HasDocument, HasDocuments, documents_after_one, unless_refused_sent}
use Rattle.spool_core.proofs.HistoryLaws.{all_more, spelt_more}
use Rattle.spool_core.proofs.ReadingLaws.{one_version, same_members, same_ok}

-- An image has one document of each job.
pub one_document : (j : ℕ) (d e c : List ℕ) → HasDocument j d c → HasDocument j e c → d ≡ e
one_document j d e c a b =
    let same_version = one_version c a.base b.base a.version b.version a.area.current b.area.current a.version_is b.version_is in
    let area : HasPayloads b.base (payloads_of a.version b.rows b.events) c = subst (λ (v : Version). HasPayloads b.base (payloads_of v b.rows b.events) c) same_version b.area in
    let same = same_members a.version a.rows b.rows a.events b.events a.spellable_rows (subst (λ (v : Version). AllByRecursion (IsRowSpellable v) b.rows) same_version b.spellable_rows) a.spellable b.spellable
    (same_payloads a.base b.base c (payloads_of a.version a.rows a.events) (payloads_of a.version b.rows b.events) a.area area) in
    a.document_is ∙ (λ i. document_in (same.0 i) (same.1 i) j) ∙ sym b.document_is

-- It has some document of each job, if it has a table.
pub documents_of : (s : State) (c : List ℕ) → HasTable s c → (documents : ℕ → List ℕ) × HasDocuments s documents c
documents_of s c has = (
  λ j. document_in has.history.rows has.history.events j,
  λ j lives. record {
    base = has.base;
    version = has.version;
    rows = has.history.rows;
    events = has.history.events;
    area = subst (λ (ps : List (List ℕ)). HasPayloads has.base ps c) has.history.spelt has.area;
    version_is = has.version_is;
    spellable_rows = has.history.spellable_rows;
    spellable = has.history.spellable;
    document_is = refl;
  },
)

-- An image with the same payloads in the same version has the same document.
pub document_there : (base : ℕ) (payloads : List (List ℕ)) (r c : List ℕ) (j : ℕ) (d : List ℕ) → HasPayloads base payloads r → HasPayloads base payloads c → version_of (header_at base c) ≡ version_of (header_at base r) → HasDocument j d r → HasDocument j d c
document_there base payloads r c j d from to same has = record {
  base = base;
  version = has.version;
  rows = has.rows;
  events = has.events;
  area = subst (λ (ps : List (List ℕ)). HasPayloads base ps c) (same_payloads base has.base r payloads (payloads_of has.version has.rows has.events) from has.area) to;
  version_is = same ∙ ap (λ (b : ℕ). version_of (header_at b r)) (same_ok _ base has.base from.current has.area.current) ∙ has.version_is;
  spellable_rows = has.spellable_rows;
  spellable = has.spellable;
  document_is = has.document_is;
}

sent_more : (es : List Event) (e : Event) (j : ℕ) → sent es j ++ sent_to j (sent_by e) ≡ sent (es ++ e ∷ []) j
sent_more [] e j = sym (append-nil (sent_to j (sent_by e)))
sent_more (d ∷ es) e j = append_assoc (sent_to j (sent_by d)) (sent es j) (sent_to j (sent_by e)) ∙ ap (λ (l : List ℕ). sent_to j (sent_by d) ++ l) (sent_more es e j)

document_more : (rows : List Row) (es : List Event) (e : Event) (j : ℕ) → document_in rows es j ++ sent_to j (sent_by e) ≡ document_in rows (es ++ e ∷ []) j
document_more rows es e j = append_assoc (listed_pieces rows j) (sent es j) (sent_to j (sent_by e)) ∙ ap (λ (l : List ℕ). listed_pieces rows j ++ l) (sent_more es e j)

-- In an image with one more event the part that it sends follows.
pub document_sent : (base : ℕ) (payloads : List (List ℕ)) (payload : List ℕ) (r c : List ℕ) (e : Event) (j : ℕ) (d : List ℕ) → IsSpellable e → payload ≡ spelling e
    → HasPayloads base payloads r → HasPayloads base (payloads ++ payload ∷ []) c → version_of (header_at base c) ≡ version_of (header_at base r) → HasDocument j d r → HasDocument j (d ++ sent_to j (sent_by e)) c
document_sent base payloads payload r c e j d spellable spelt from to same_version has =
    let same = same_payloads base has.base r payloads (payloads_of has.version has.rows has.events) from has.area in
    record {
      base = base;
      version = has.version;
      rows = has.rows;
      events = has.events ++ e ∷ [];
      area = subst (λ (ps : List (List ℕ)). HasPayloads base ps c) ((λ i. same i ++ spelt i ∷ []) ∙ spelt_more has.version (payloads_of has.version has.rows has.events) has.rows has.events e refl) to;
      version_is = same_version ∙ ap (λ (b : ℕ). version_of (header_at b r)) (same_ok _ base has.base from.current has.area.current) ∙ has.version_is;
      spellable_rows = has.spellable_rows;
      spellable = all_more IsSpellable has.events e has.spellable spellable;
      document_is = ap (λ (l : List ℕ). l ++ sent_to j (sent_by e)) has.document_is ∙ document_more has.rows has.events e j;
    }

-- The document is the contents of the extents that these rows and events have for it.
pub document_held : (v : Version) (base : ℕ) (rows : List Row) (events : List Event) (r : List ℕ) (j : ℕ) (d : List ℕ) → AllByRecursion (IsRowSpellable v) rows → AllByRecursion IsSpellable events
    → HasPayloads base (payloads_of v rows events) r → version_of (header_at base r) ≡ number_of v → HasDocument j d r → d ≡ joined r (places_in v base rows events j)
document_held v base rows events r j d spellable_rows spellable area is has =
    one_document j d (document_in rows events j) r has
    (record { base = base; version = v; rows = rows; events = events; area = area; version_is = is; spellable_rows = spellable_rows; spellable = spellable; document_is = refl })
    ∙ sym (history v base j rows events r area)

-- ---- the documents of a table

pub documents_there : (base : ℕ) (payloads : List (List ℕ)) (r c : List ℕ) (s : State) (documents : ℕ → List ℕ) → HasPayloads base payloads r → HasPayloads base payloads c → version_of (header_at base c) ≡ version_of (header_at base r) → HasDocuments s documents r → HasDocuments s documents c
documents_there base payloads r c s documents from to same has j lives = document_there base payloads r c j (documents j) from to same (has j lives)

pub documents_stay : (s t : State) (documents : ℕ → List ℕ) (c : List ℕ) → StayOver s t → HasDocuments s documents c → HasDocuments t documents c
documents_stay s t documents c stay has j lives = has j (stay j lives)

pub documents_sent : (base : ℕ) (payloads : List (List ℕ)) (payload : List ℕ) (r c : List ℕ) (s t : State) (e : Event) (documents : ℕ → List ℕ) → StayOver s t → refusal_of s e ≡ None → IsSpellable e → payload ≡ spelling e
    → HasPayloads base payloads r → HasPayloads base (payloads ++ payload ∷ []) c → version_of (header_at base c) ≡ version_of (header_at base r) → HasDocuments s documents r → HasDocuments t (documents_after_one s documents e) c
documents_sent base payloads payload r c s t e documents stay accepted spellable spelt from to same has j lives =
    subst (λ (d : List ℕ). HasDocument j d c) (sym (ap (λ o. unless_refused_sent documents e o j) accepted))
    (document_sent base payloads payload r c e j (documents j) spellable spelt from to same (has j (stay j lives)))
