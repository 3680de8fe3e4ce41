-- The number of bytes read is the length of the document according to the table.
use Rattle.std.proofs.Common.{◌≡◌, List, ℕ, take, subst, sym, ap, ◌∙◌, arith, Result, Ok, Err}
use Rattle.std.specs.Prelude.{IfOk}
use Rattle.std.proofs.Math.Seq.{take-length}
use Rattle.spool_types.specs.State.{State}
use Rattle.spool_disk.specs.Disk.{DiskView}
use Rattle.spool_core.specs.DocumentReading.{IsDocument, IsPart}
use Rattle.spool_core.specs.OpenSpools.{OpenSpool, len_at}
use Rattle.spool_core.proofs.reading.read_whole.Goals as goal

-- These are all bytes of the document.
whole_part : {D : Type 0} (v : DiskView D) (s : OpenSpool D) (j n : ℕ) (part : List ℕ) → n ≡ len_at s.state j → IsPart v s j 0 n part → IsDocument v s j part
whole_part v s j n part all is =
    subst (IsDocument v s j) (sym (is.part_is ∙ ap (λ (m : ℕ). take m is.document) (all ∙ sym is.is.long) ∙ take-length is.document)) is.is

ok_whole : {X E D : Type 0} (bytes : X → List ℕ) (r : Result X E) (v : DiskView D) (s : OpenSpool D) (j n : ℕ) → n ≡ len_at s.state j → IfOk r (λ x. IsPart v s j 0 n (bytes x)) → IfOk r (λ x. IsDocument v s j (bytes x))
ok_whole bytes (Ok x) v s j n all is = whole_part v s j n (bytes x) all is
ok_whole bytes (Err e) v s j n all is = tt

pub read_front-requires-clause-inside : goal.read_front-requires-clause-inside
read_front-requires-clause-inside g c =
    let table : c.len_of-len.result ≡ len_at c.args.spool.now.state c.args.job = c.len_of-len.ensures ∙ ap (λ (s : State). len_at s c.args.job) c.table.ensures.table in
    omega (arith, table)

pub returns-clause-document : goal.returns-clause-document
returns-clause-document g c =
    let table : c.len_of-len.result ≡ len_at c.args.spool.now.state c.args.job = c.len_of-len.ensures ∙ ap (λ (s : State). len_at s c.args.job) c.table.ensures.table in
    ok_whole (λ x. x.items) c.read_front.result g.D.Disk.device c.args.spool.now c.args.job c.len_of-len.result table c.read_front.ensures.front
