-- The effects of the steps of `list`.
use Rattle.std.proofs.Common.{◌≡◌, ℕ, false, List, Option, None, Some, refl}
use Rattle.std.specs.Prelude.{Result, Ok, Err, OnOk, IsSome, is_err}
use Rattle.spool_types.specs.State.{State}
use Rattle.spool_disk.specs.Disk.{DiskView, IsLawful, LeavesOnly}
use Rattle.spool_disk.proofs.Moments.{at_return}
use Rattle.job_table.specs.TableVersions.{raised}
use Rattle.spool_core.specs.Image.{HasDocuments}

-- A property of a value holds if there is no error.
pub from_ok : {T E : Type 0} (result : Result T E) (P : Type 0) → is_err result ≡ false → OnOk result P → P
from_ok (Ok x) P fine said = said
from_ok (Err e) P fine said = cc

-- A value that is returned exists.
pub is_some_of : {T : Type 0} (o : Option T) (x : T) → o ≡ Some x → IsSome o
is_some_of o x is = cc

-- The value, if one exists.
pub some_of : {T : Type 0} (o : Option T) → IsSome o → (x : T) × (o ≡ Some x)
some_of (Some x) some = (x, refl)
some_of None some = cc

-- The documents of any image are those of the bytes, because they were during the checkpoint.
pub kept_documents : {D : Type 0} (v : DiskView D) → IsLawful v → (old new : D) (s : State) (documents : ℕ → List ℕ) (c : List ℕ)
    → IsSome (v.bytes old)
    → ((r : List ℕ) → v.bytes old ≡ Some r → HasDocuments s documents r)
    → ((r : List ℕ) → v.bytes old ≡ Some r → HasDocuments s documents r → LeavesOnly v old new (HasDocuments s documents))
    → v.image new c → HasDocuments (raised s) documents c
kept_documents v lawful old new s documents c told has run now =
    let r = some_of (v.bytes old) told in
    at_return v lawful old new (HasDocuments s documents) (run r.0 r.1 (has r.0 r.1)) c now
