-- Bytes of a document, as a part of a list of the same length.
use Rattle.std.proofs.Common.{◌≡◌, ◌≤◌, ◌+◌, ◌-◌, ◌++◌, ℕ, List, length, take, drop, replicate, None, Some, false, sym, ap, ◌∙◌, subst, arith}
use Rattle.std.proofs.lemmas.List.{length-append, length-replicate, take_at, drop_at}
use Rattle.job_table.specs.Over.{is_over}
use Rattle.spool_disk.specs.Disk.{DiskView}
use Rattle.spool_core.specs.Image.{HasDocument}
use Rattle.spool_core.specs.DocumentReading.{IsPart}
use Rattle.spool_core.specs.OpenSpools.{OpenSpool, len_at, shown_bytes}

module _ {D : Type 0} (v : DiskView D) (s : OpenSpool D) (j at n : ℕ) (part : List ℕ) (held : length part ≡ n) (inside : at + n ≤ len_at s.state j) where
  -- If the disk does not show its bytes, any list with these bytes will do.
  abbrev padding : List ℕ
  padding = replicate (len_at s.state j - (at + n)) 0

  abbrev padded : List ℕ
  padded = replicate at 0 ++ (part ++ padding)

  pub untold_part : shown_bytes v s ≡ None → IsPart v s j at n part
  untold_part none = record {
    document = padded;
    is = record {
      long = omega (arith, inside, held, length-append (replicate at 0) (part ++ padding), length-append part padding, length-replicate {A = ℕ} at 0, length-replicate {A = ℕ} (len_at s.state j - (at + n)) 0);
      own = λ lives bytes kept tells has. absurd (let bad = sym none ∙ tells in cc);
    };
    part_is = sym (ap (take n) (drop_at (replicate at 0) (part ++ padding) at (length-replicate {A = ℕ} at 0)) ∙ take_at part padding n held);
  }

  -- If it shows them, it is the one document that they contain for the job.
  pub told_part : (r whole : List ℕ) → shown_bytes v s ≡ Some r → length whole ≡ len_at s.state j
      → ((document : List ℕ) → HasDocument j document r → is_over s.state j ≡ false → document ≡ whole) → part ≡ take n (drop at whole) → IsPart v s j at n part
  told_part r whole told long holds is = record {
    document = whole;
    is = record {
      long = long;
      own = λ lives bytes kept tells has.
          let same : bytes ≡ r = (let both = sym tells ∙ told in cc) in
          sym (holds kept (subst (HasDocument j kept) same has) lives);
    };
    part_is = is;
  }
