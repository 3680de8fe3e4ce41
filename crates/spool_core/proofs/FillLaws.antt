-- Rows in a block, and their length in bytes.
use Rattle.spool_types.specs.declared.version.Version.TheVariants.{Two}
use Rattle.std.proofs.Common.{◌≡◌, ℕ, zero, suc, ◌+◌, ◌-◌, ◌*◌, ◌/◌, ◌^◌, ◌≤◌, List, [], ◌∷◌, ◌++◌, length, take, drop, map, min, replicate, sym, ap, ◌∙◌, arith, append_assoc, length-append, length-drop}
use Rattle.std.specs.Prelude.{vec_capacity}
use Rattle.std.proofs.lemmas.List.{append-nil, drop_all, length-take, length-take-le, length-replicate, take_at}
use Rattle.std.specs.Int.{w32, to_be_bytes}
use Rattle.std.specs.declared.alloc.Global.{Global}
use Rattle.std.specs.declared.vec.Vec.{Vec}
use Rattle.spool_types.specs.Limits.{longest_send}
use Rattle.spool_types.specs.declared.rows.Job.{Job}
use Rattle.spool_types.specs.declared.listing.Head.{Head as HeadOf}
use Rattle.spool_types.specs.declared.listing.Row.{Row}
use Rattle.spool_types.specs.declared.listing.Row.TheVariants.{Head, Job as JobRow, Piece}
use Rattle.gate_journal.specs.Entries.{records}
use Rattle.spool_areas.specs.AreaFilling.{sum_of}
use Rattle.documents.proofs.Placed.{front_of}
use Rattle.event_codec.specs.RowSpelling.{row_spelling, IsRowSpellable}
use Rattle.job_table.specs.DocumentLengths.{document_len}
use Rattle.job_table.specs.Listing.{parts, pieces}
use Rattle.spool_core.specs.Checkpointing.{blank_rows}
use Rattle.listing_rows.specs.RowFilling.{free_head, records_len, IsPut}
use Rattle.spool_core.specs.Measuring.{IsSumMore}
use Rattle.listing_rows.proofs.RowLaws.{own_len, put_long}
use Rattle.spool_core.proofs.AddLaws.{records_more}

same_front : (job : ℕ) (part bytes : List ℕ) → length part ≡ length bytes → row_spelling Two (Piece job part) ≡ front_of 0x43 job bytes ++ part
same_front job part bytes same = ap (λ (n : ℕ). 0x43 ∷ (to_be_bytes w32 job ++ to_be_bytes w32 n) ++ part) same

-- A piece with bytes that were read into the block after its first fourteen bytes.
module _ (job count start : ℕ) (old new block : Vec ℕ Global) (lent into : List ℕ) (n : ℕ) (is : IsPut (Piece job (replicate count 0)) old new start) (same : lent ≡ new.items) (rest : n ≡ length lent - (start + 14))
    (whole : length into ≡ length (take n (drop (start + 14) lent))) where
  abbrev piece_zeros : List ℕ
  piece_zeros = replicate count 0

  zeros_long : length piece_zeros ≡ count
  zeros_long = length-replicate {A = ℕ} count 0

  lent_long : length lent ≡ start + 14 + count
  lent_long = omega (arith, ap length same, put_long (Piece job piece_zeros) old new start is, is.at, zeros_long)

  pub into_was : length (take n (drop (start + 14) lent)) ≡ count
  into_was = omega (arith, length-take n (drop (start + 14) lent), length-drop (start + 14) lent, lent_long, rest)

  pub into_long : length into ≡ count
  into_long = whole ∙ into_was

  front_is : take (start + 14) lent ≡ old.items ++ (free_head ++ front_of 0x43 job piece_zeros)
  front_is =
      let front = old.items ++ (free_head ++ front_of 0x43 job piece_zeros) in
      let parts : lent ≡ front ++ piece_zeros =
      same ∙ is.put ∙ ap (λ (l : List ℕ). old.items ++ l) (sym (append_assoc free_head (front_of 0x43 job piece_zeros) piece_zeros)) ∙ sym (append_assoc old.items (free_head ++ front_of 0x43 job piece_zeros) piece_zeros) in
      ap (take (start + 14)) parts ∙ take_at front piece_zeros (start + 14) (omega (arith, is.at, length-append old.items (free_head ++ front_of 0x43 job piece_zeros)))

  pub piece_put : block.items ≡ take new.len ((take (start + 14) lent ++ (into ++ drop n (drop (start + 14) lent))) ++ drop (length (take (start + 14) lent ++ (into ++ drop n (drop (start + 14) lent)))) new.items)
      → vec_capacity new ≤ vec_capacity block → IsPut (Piece job into) old block start
  piece_put put spare =
      let front = take (start + 14) lent in
      let all = front ++ (into ++ drop n (drop (start + 14) lent)) in
      let none : drop n (drop (start + 14) lent) ≡ [] = drop_all n (drop (start + 14) lent) (omega (arith, length-drop (start + 14) lent, rest)) in
      let short : all ≡ front ++ into = ap (λ (l : List ℕ). front ++ (into ++ l)) none ∙ ap (λ (l : List ℕ). front ++ l) (append-nil into) in
      let long : length all ≡ new.len = omega (arith, ap length short, length-append front into, length-take-le (start + 14) lent (omega (arith, lent_long)), into_long, lent_long, ap length same, own_len new) in
      let spelled : row_spelling Two (Piece job into) ≡ front_of 0x43 job piece_zeros ++ into = same_front job into piece_zeros (into_long ∙ sym zeros_long) in
      record {
        at = is.at;
        put =
            put ∙ take_at all (drop (length all) new.items) new.len long ∙ short
            ∙ ap (λ (l : List ℕ). l ++ into) front_is
            ∙ append_assoc old.items (free_head ++ front_of 0x43 job piece_zeros) into
            ∙ ap (λ (l : List ℕ). old.items ++ l) (append_assoc free_head (front_of 0x43 job piece_zeros) into ∙ ap (λ (l : List ℕ). free_head ++ l) (sym spelled));
        spare = omega (arith, spare, is.spare);
        short = omega (arith, is.short, into_long, zeros_long);
      }

  pub piece_spellable : IsRowSpellable Two (Piece job piece_zeros) → IsRowSpellable Two (Piece job into)
  piece_spellable spellable = record {
    fields = record { job = spellable.fields.job; length = omega (arith, spellable.fields.length, into_long, zeros_long) };
    legal = omega (arith, spellable.legal, into_long, zeros_long);
  }

-- ## Sums

pub sum_then : (rows more : List Row) (before sum next : ℕ) → IsSumMore rows before sum → IsSumMore more sum next → IsSumMore (rows ++ more) before next
sum_then rows more before sum next first then = omega (arith, first, then, records_more rows more)

pub sum_row : (row : Row) (before sum len : ℕ) → len ≡ length (row_spelling Two row) → sum ≡ min (before + (5 + len)) 18446744073709551615 → IsSumMore (row ∷ []) before sum
sum_row row before sum len is more = omega (arith, is, more, length-append (row_spelling Two row) [])

pub sum_head : (head : HeadOf) → IsSumMore (Head head ∷ []) 0 18
sum_head head = omega (arith, length-append (row_spelling Two (Head head)) [])

pub sum_listed : (rows : List Row) (sum : ℕ) → IsSumMore rows 0 sum → sum ≡ sum_of (map (row_spelling Two) rows)
sum_listed rows sum is = omega (arith, is)

-- ## The pieces of a document

parts_len : (job n : ℕ) (bytes : List ℕ) → length bytes ≤ n * 65536 → records_len (map (λ part. Piece job part) (parts 65536 n bytes)) ≡ length bytes + 14 * n
parts_len job zero bytes le = omega (arith, le)
parts_len job (suc n) bytes le =
    let rest = parts_len job n (drop 65536 bytes) (omega (arith, le, length-drop 65536 bytes)) in
    omega (
      arith,
      le,
      rest,
      length-drop 65536 bytes,
      length-take 65536 bytes,
      length-append (row_spelling Two (Piece job (take 65536 bytes))) (records (map (row_spelling Two) (map (λ part. Piece job part) (parts 65536 n (drop 65536 bytes))))),
    )

pub pieces_len : (job : ℕ) (bytes : List ℕ) → records_len (map (λ part. Piece job part) (pieces bytes)) ≡ length bytes + 14 * ((length bytes + 65535) / 65536)
pieces_len job bytes = parts_len job ((length bytes + 65535) / 65536) bytes (omega arith)

pub job_len : (r : Job) → records_len (blank_rows r) ≡ 5 + length (row_spelling Two (JobRow r)) + (document_len r + 14 * ((document_len r + 65535) / 65536))
job_len r =
    let zeros : List ℕ = replicate (document_len r) 0 in
    let size : length zeros ≡ document_len r = length-replicate (document_len r) 0 in
    let rows = map (λ part. Piece r.id part) (pieces zeros) in
    let rest : records_len rows ≡ document_len r + 14 * ((document_len r + 65535) / 65536) = pieces_len r.id zeros ∙ (λ i. size i + 14 * ((size i + 65535) / 65536)) in
    omega (arith, rest, length-append (row_spelling Two (JobRow r)) (records (map (row_spelling Two) rows)))

pub sum_job : (r : Job) (before sum mid heads next len : ℕ) → len ≡ length (row_spelling Two (JobRow r)) → sum ≡ min (before + (5 + len)) 18446744073709551615 → mid ≡ min (sum + document_len r) (2 ^ 64 - 1)
    → heads ≡ min ((document_len r + 65535) / longest_send * 14) (2 ^ 64 - 1) → next ≡ min (mid + heads) (2 ^ 64 - 1) → IsSumMore (blank_rows r) before next
sum_job r before sum mid heads next len is one two three four = omega (arith, is, one, two, three, four, job_len r)
