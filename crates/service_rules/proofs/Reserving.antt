-- Events keep the reserve, and jobs can be removed while it is kept.
use Rattle.std.proofs.Common.{◌≡◌, ℕ, ◌+◌, ◌-◌, ◌*◌, ◌≤◌, Bool, true, false, cond, nat_le, List, [], ◌∷◌, length, refl, arith}
use Rattle.std.proofs.lemmas.Bool.Decides.{nat_tests}
use Rattle.service_rules.specs.Reserve.{is_let_in, reserve_of, row_growth}
use Rattle.service_rules.specs.Removals.{AreRemovable, AreShort, Filled, Fits, IsFilled, IsRemovable, IsShort, KeepsReserve, Removal, checkpointed, freeing_cost, journal_of, removed, removed_all, rows_of, with_cancel, with_other, with_room, with_taken}

let_in : (needed kept free : ℕ) → nat_le (needed + kept) free ≡ true → needed + kept ≤ free
let_in needed kept free is = grind (arith, nat_tests)

pub fits_in : (needed kept free : ℕ) → needed + kept ≤ free → nat_le (needed + kept) free ≡ true
fits_in needed kept free is = grind (arith, nat_tests)

-- ## Events

pub taken_keeps : (f : Filled) (cost bytes added new : ℕ) → IsFilled f → is_let_in (journal_of f) cost ≡ true → bytes + new * row_growth ≤ cost →
    added ≤ bytes + new * row_growth → KeepsReserve (with_taken bytes added new f)
taken_keeps f cost bytes added new is passes short less =
    let room : cost + (reserve_of f.size + f.jobs * row_growth) ≤ f.size - f.used = let_in cost (reserve_of f.size + f.jobs * row_growth) (f.size - f.used) passes in
    let within : f.used ≤ f.size = is.within in
    let rows : f.live ≤ f.used + f.jobs * row_growth + f.others = is.rows in
    record {
      is = record { within = omega arith; rows = omega arith };
      kept = omega arith;
    }

pub other_keeps : (f : Filled) (bytes added : ℕ) → KeepsReserve f → f.used + bytes ≤ f.size → KeepsReserve (with_other bytes added f)
other_keeps f bytes added keeps fits =
    let rows : f.live ≤ f.used + f.jobs * row_growth + f.others = keeps.is.rows in
    let kept : f.live + reserve_of f.size ≤ f.size + f.others = keeps.kept in
    record { is = record { within = fits; rows = omega arith }; kept = omega arith }

pub checkpoint_keeps : (f : Filled) → KeepsReserve f → f.live ≤ f.size → KeepsReserve (checkpointed f)
checkpoint_keeps f keeps fits = record { is = record { within = fits; rows = omega arith }; kept = keeps.kept }

-- ## A checkpoint where a record does not fit

module _ (bytes : ℕ) (f : Filled) where
  same_size : (b : Bool) → (cond b f (checkpointed f)).size ≡ f.size
  same_size true = refl
  same_size false = refl

  same_live : (b : Bool) → (cond b f (checkpointed f)).live ≡ f.live
  same_live true = refl
  same_live false = refl

  same_others : (b : Bool) → (cond b f (checkpointed f)).others ≡ f.others
  same_others true = refl
  same_others false = refl

  same_jobs : (b : Bool) → (cond b f (checkpointed f)).jobs ≡ f.jobs
  same_jobs true = refl
  same_jobs false = refl

  then_fits : (reserve : ℕ) → f.live + reserve ≤ f.size + f.others → f.others + bytes ≤ reserve → (b : Bool) → nat_le (f.used + bytes) f.size ≡ b → Fits bytes (cond b f (checkpointed f))
  then_fits reserve kept spare true is = grind (arith, nat_tests)
  then_fits reserve kept spare false is = omega arith

  pub room_fits : (reserve : ℕ) → f.live + reserve ≤ f.size + f.others → f.others + bytes ≤ reserve → Fits bytes (with_room bytes f)
  room_fits reserve kept spare = then_fits reserve kept spare (nat_le (f.used + bytes) f.size) refl

-- ## Removing jobs

-- What a removal keeps, and what it frees.
record Freed (rows : ℕ) (old new : Filled) : Type 0 where
  size : new.size ≡ old.size
  others : new.others ≡ old.others
  live : new.live ≡ old.live - rows
  jobs : new.jobs ≡ old.jobs - 1

module _ (r : Removal) (f : Filled) where
  canceled_size : (with_cancel r f).size ≡ f.size
  canceled_size = same_size r.cancel f (nat_le (f.used + r.cancel) f.size)

  canceled_live : (with_cancel r f).live ≡ f.live
  canceled_live = grind (arith, same_live r.cancel f (nat_le (f.used + r.cancel) f.size))

  canceled_others : (with_cancel r f).others ≡ f.others
  canceled_others = grind (arith, same_others r.cancel f (nat_le (f.used + r.cancel) f.size))

  canceled_jobs : (with_cancel r f).jobs ≡ f.jobs
  canceled_jobs = same_jobs r.cancel f (nat_le (f.used + r.cancel) f.size)

  freed : Freed r.rows f (removed r f)
  freed =
      let c = with_cancel r f in
      let b = nat_le (c.used + r.purge) c.size in
      let size : (with_room r.purge c).size ≡ c.size = same_size r.purge c b in
      let live : (with_room r.purge c).live ≡ c.live = same_live r.purge c b in
      let others : (with_room r.purge c).others ≡ c.others = same_others r.purge c b in
      let jobs : (with_room r.purge c).jobs ≡ c.jobs = same_jobs r.purge c b in
      let size0 : c.size ≡ f.size = canceled_size in
      let live0 : c.live ≡ f.live = canceled_live in
      let others0 : c.others ≡ f.others = canceled_others in
      let jobs0 : c.jobs ≡ f.jobs = canceled_jobs in
      record { size = omega arith; others = omega arith; live = omega arith; jobs = omega arith }

  both_fit : (reserve : ℕ) → f.live + reserve ≤ f.size + f.others → f.others + freeing_cost ≤ reserve → IsShort r → IsRemovable r f
  both_fit reserve kept spare short =
      let c = with_cancel r f in
      let live0 : c.live ≡ f.live = canceled_live in
      let size0 : c.size ≡ f.size = canceled_size in
      let others0 : c.others ≡ f.others = canceled_others in
      let cancel : r.cancel ≤ freeing_cost = short.cancel in
      let purge : r.purge ≤ freeing_cost = short.purge in
      record {
        cancel = room_fits r.cancel f reserve kept (omega arith);
        purge = room_fits r.purge c reserve (omega arith) (omega arith);
      }

all_fit : (reserve : ℕ) (f : Filled) (rs : List Removal) → f.live + reserve ≤ f.size + f.others → f.others + freeing_cost ≤ reserve → AreShort rs → AreRemovable rs f
all_fit reserve f [] kept spare short = tt
all_fit reserve f (r ∷ rs) kept spare short =
    let free = freed r f in
    let size : (removed r f).size ≡ f.size = free.size in
    let others : (removed r f).others ≡ f.others = free.others in
    let live : (removed r f).live ≡ f.live - r.rows = free.live in
    (both_fit r f reserve kept spare short.0, all_fit reserve (removed r f) rs (omega arith) (omega arith) short.1)

pub removable : (f : Filled) (rs : List Removal) → KeepsReserve f → f.others + freeing_cost ≤ reserve_of f.size → AreShort rs → AreRemovable rs f
removable f rs keeps spare short = all_fit (reserve_of f.size) f rs keeps.kept spare short

-- ## What was freed

record FreedAll (rs : List Removal) (old new : Filled) : Type 0 where
  size : new.size ≡ old.size
  live : new.live + rows_of rs ≡ old.live
  jobs : new.jobs ≡ old.jobs - length rs

freed_all : (f : Filled) (rs : List Removal) → rows_of rs ≤ f.live → FreedAll rs f (removed_all rs f)
freed_all f [] within = record { size = refl; live = omega arith; jobs = omega arith }
freed_all f (r ∷ rs) within =
    let free = freed r f in
    let size : (removed r f).size ≡ f.size = free.size in
    let live : (removed r f).live ≡ f.live - r.rows = free.live in
    let jobs : (removed r f).jobs ≡ f.jobs - 1 = free.jobs in
    let rest = freed_all (removed r f) rs (omega arith) in
    let size1 : (removed_all rs (removed r f)).size ≡ (removed r f).size = rest.size in
    let live1 : (removed_all rs (removed r f)).live + rows_of rs ≡ (removed r f).live = rest.live in
    let jobs1 : (removed_all rs (removed r f)).jobs ≡ (removed r f).jobs - length rs = rest.jobs in
    record { size = omega arith; live = omega arith; jobs = omega arith }

pub let_in_again : (f : Filled) (rs : List Removal) (cost : ℕ) → rows_of rs ≤ f.live →
    cost + reserve_of f.size + (f.jobs - length rs) * row_growth + f.live ≤ f.size + rows_of rs → is_let_in (journal_of (checkpointed (removed_all rs f))) cost ≡ true
let_in_again f rs cost within room =
    let all = freed_all f rs within in
    let size : (removed_all rs f).size ≡ f.size = all.size in
    let live : (removed_all rs f).live + rows_of rs ≡ f.live = all.live in
    let jobs : (removed_all rs f).jobs ≡ f.jobs - length rs = all.jobs in
    fits_in cost (reserve_of (removed_all rs f).size + (removed_all rs f).jobs * row_growth) ((removed_all rs f).size - (removed_all rs f).live) (rw (size, jobs) (omega arith))
