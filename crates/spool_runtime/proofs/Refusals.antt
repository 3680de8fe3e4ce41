-- Why arguments are refused.
use Rattle.std.proofs.Common.{◌≡◌, ◌⊎◌, Option, Some, None, [], Bool, true, false, ◌<◌, ◌≤◌, length, subst, inl, inr}
use Rattle.std.proofs.Common.{arith}
use Rattle.std.specs.Prelude.{◌↔◌, IfSome, IsSomeAnd, IsTrue, option_map}
use Rattle.std.specs.Borrow.{Bor}
use Rattle.std.proofs.lemmas.Bool.{cases_lt}
use Rattle.clap.specs.Kinds.{IsAmong, Kinds}
use Rattle.clap.specs.Words.{Text}
use Rattle.clap.specs.declared.error.kind.ErrorKind.{ErrorKind}
use Rattle.clap.specs.declared.error.kind.ErrorKind.TheVariants.{OutOfMemory}
use Rattle.spool_runtime.specs.ProgramArguments.{RefusesOnly}
use Rattle.spool_runtime.specs.declared.options.WordsFault.{WordsFault}
use Rattle.spool_runtime.specs.declared.options.WordsFault.TheVariants.{Refused, Memory}

-- If a proposition is false, the arguments may be refused for it.
pub refuses : (p : Type 0) (fault : WordsFault) → (p → ⊥) → RefusesOnly p fault
refuses p (Refused text) never = never
refuses p Memory never = tt

-- An error other than out of memory has one of the kinds, so there is at least one.
pub refused_by_clap : (kinds : Kinds) (kind : ErrorKind) (fault : WordsFault) → RefusesOnly (kind ≡ OutOfMemory) fault
    → (kind ≡ OutOfMemory) ⊎ IsAmong kind kinds → RefusesOnly (kinds ≡ []) fault
refused_by_clap kinds kind Memory other has = tt
refused_by_clap kinds kind (Refused text) other has = λ empty. elim has [
  | inl memory ↦ other memory
  | inr among ↦ subst (IsAmong kind) empty among
]

-- `is_long` returned that the folder's name is not too long.
pub is_short : (root : Option (Bor Text)) (b : Bool) → (IsTrue b ↔ IsSomeAnd root (λ dir. 64 < length dir.now)) → b ≡ false
    → IfSome (option_map (λ dir. dir.now) root) (λ dir. length dir ≤ 64)
is_short None b iff is = tt
is_short (Some dir) b iff is = elim (cases_lt 64 (length dir.now)) [
  | inl long ↦
      let bad : false ≡ true = rw is at iff.1 long in
      cc
  | inr short ↦ short
]

-- `is_long` returned that it is too long.
pub is_not_short : (root : Option (Bor Text)) → IsSomeAnd root (λ dir. 64 < length dir.now)
    → IfSome (option_map (λ dir. dir.now) root) (λ dir. length dir ≤ 64) → ⊥
is_not_short None long short = absurd long
is_not_short (Some dir) long short = absurd (omega (arith, long, short))
