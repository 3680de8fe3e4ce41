-- Documents that are read on both disks.
use Rattle.std.proofs.Common.{◌≡◌, ◌∙◌, ℕ, ◌+◌, ◌<◌, List, [], ◌∷◌, ◌++◌, length, get_or, take, None, Some, sym, ap, subst}
use Rattle.std.specs.List.{AllByRecursion}
use Rattle.std.proofs.lemmas.List.{take_more}
use Rattle.spool_types.specs.State.{State}
use Rattle.spool_disk.specs.Disk.{DiskView}
use Rattle.job_table.specs.Over.{is_over}
use Rattle.spool_core.specs.DocumentReading.{IsDocument}
use Rattle.spool_core.specs.OpenSpools.{OpenSpool}
use Rattle.spool_core.proofs.BatchLaws.{settled_bytes}
use Rattle.spool_halves.specs.Halves.{IsSameDocument}

-- The bytes read are the document of each, so equal bytes are equal documents.
pub same_document : {D E : Type 0} (v : DiskView D) (w : DiskView E) (whole : OpenSpool D) (part : OpenSpool E) (s p : State) (j : ℕ) (a b r t : List ℕ)
    → whole.state ≡ s → part.state ≡ p → whole.held ≡ None → part.held ≡ None → IsDocument v whole j a → IsDocument w part j b → a ≡ b → v.bytes whole.disk ≡ Some r → w.bytes part.disk ≡ Some t
    → IsSameDocument s p r t j
same_document v w whole part s p j a b r t of_s of_p none_s none_p there here same tells_r tells_t = λ over_s over_p d e has_d has_e.
    sym (here.own (ap (λ (x : State). is_over x j) of_p ∙ over_p) t e (settled_bytes part.held (w.bytes part.disk) none_p ∙ tells_t) has_e) ∙ sym same
    ∙ there.own (ap (λ (x : State). is_over x j) of_s ∙ over_s) r d (settled_bytes whole.held (v.bytes whole.disk) none_s ∙ tells_r) has_d

all_append : {X : Type 0} (P : X → Type 0) (xs : List X) (y : X) → AllByRecursion P xs → P y → AllByRecursion P (xs ++ y ∷ [])
all_append P [] y all last = (last, tt)
all_append P (x ∷ xs) y all last = (all.0, all_append P xs y all.1 last)

pub one_more : {X : Type 0} (P : X → Type 0) (xs : List X) (i : ℕ) (x : X) → i < length xs → x ≡ get_or xs i x → AllByRecursion P (take i xs) → P x → AllByRecursion P (take (i + 1) xs)
one_more {X = X} P xs i x lt is all last =
    subst (AllByRecursion P) (sym (take_more xs i x lt ∙ ap (λ (y : X). take i xs ++ y ∷ []) (sym is))) (all_append P (take i xs) x all last)
