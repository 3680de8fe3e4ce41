use Rattle.std.proofs.Common.{◌≡◌, Bool, true, false, ◌&&◌, refl, map, subst, inl, inr}
use Rattle.std.specs.Prelude.{◌⊎◌, []}
use Rattle.clap.specs.Kinds.{IsAmong, Kinds}
use Rattle.clap.specs.Simple.{is_simple}
use Rattle.clap.specs.Words.{app_of, fault_of, kind_of}
use Rattle.clap.specs.declared.error.kind.ErrorKind.{ErrorKind}
use Rattle.clap.specs.declared.error.kind.ErrorKind.TheVariants.{OutOfMemory}
use Rattle.front_words.specs.WordFaults.{RefusesOnly}
use Rattle.front_words.specs.declared.fault.WordsFault.{WordsFault}
use Rattle.front_words.specs.declared.fault.WordsFault.TheVariants.{Refused, Memory}
use Rattle.front_words.proofs.options.parse.Goals as goal

both : (a b : Bool) → (a && b) ≡ true → (a ≡ true) × (b ≡ true)
both true b is = (refl, is)
both false b is = cc

-- The kind of an error other than out of memory is in the list, so the list is not empty.
refused_by_clap : (kinds : Kinds) (kind : ErrorKind) (fault : WordsFault) → RefusesOnly (kind ≡ OutOfMemory) fault
    → (kind ≡ OutOfMemory) ⊎ IsAmong kind kinds → RefusesOnly (kinds ≡ []) fault
refused_by_clap kinds kind Memory other has = tt
refused_by_clap kinds kind (Refused text) other has = λ empty. elim has [
  | inl memory ↦ other memory
  | inr among ↦ subst (IsAmong kind) empty among
]

pub returns-in-Ok-clause-found : goal.returns-in-Ok-clause-found
returns-in-Ok-clause-found g c = (c.in-Ok.ensures.ok.2 (both (is_simple (app_of c.args.command.now)) _ c.requires).0).0

pub returns-in-Err-clause-taken : goal.returns-in-Err-clause-taken
returns-in-Err-clause-taken g c =
    let words = map g.S.AsStr.text c.args.words.now in
    refused_by_clap (fault_of (app_of c.args.command.now) words) (kind_of c.in-Err.error) c.words_fault.result c.words_fault.ensures
    (c.in-Err.ensures.kinds c.requires)
