-- The reports of a client's connection.
use Rattle.std.specs.Prelude.{◌≡◌, ℕ, ◌==◌, Bool, true, false, not, List, [], ◌∷◌, ◌++◌, ⊤, Option, None, Some, Result, Ok, Err, IfSome}
use Rattle.std.specs.Io.KnownBytes.{Keeps}
use Rattle.std.specs.IoError.{error_kind}
use Rattle.std.specs.declared.io.Error.{Error}
use Rattle.std.specs.declared.io.ErrorKind.{ErrorKind}
use Rattle.std.specs.declared.io.ErrorKind.TheVariants.{WouldBlock}
use Rattle.client_standing.specs.declared.caller.Proved.{Proved}
use Rattle.client_standing.specs.declared.rules.RoleRules.{RoleRules}

-- A step of a proof of who the client is: a folder was named, or none is offered; or it was examined.
pub data ProofStep : Type 0 where
  named : Option (List ℕ) → ProofStep
  examined : Option Proved → ProofStep

-- The reports that statements about connections use.
pub record ConnectionView (L : Type 0) : Type 0 where
  -- The bytes that it will still bring, or none if it does not report them.
  pub remaining : L → Option (List ℕ)
  -- The bytes that were written to it, or none if it does not report them.
  pub contents : L → Option (List ℕ)
  -- The results of its last read and its last write, or none if it does not report them.
  pub gave : L → Option (Result ℕ Error)
  pub took : L → Option (Result ℕ Error)
  -- The rules for its client, and whether it came by the operators' socket.
  pub rules : L → RoleRules
  pub is_operators : L → Bool
  -- The steps of its client's proofs so far, or none if it does not report them.
  pub proofs : L → Option (List ProofStep)

-- A connection that reports only its rules and its socket.
abbrev pub silent : {L : Type 0} → (L → RoleRules) → (L → Bool) → ConnectionView L
silent rules is_operators = record {
  remaining = λ connection. None;
  contents = λ connection. None;
  gave = λ connection. None;
  took = λ connection. None;
  rules = rules;
  is_operators = is_operators;
  proofs = λ connection. None;
}

-- Nothing was read from it, nothing written to it and nothing proved by it. Its rules and its socket are the same.
pub record IsUntouched {L : Type 0} (view : ConnectionView L) (old new : L) : Type 0 where
  pub remaining : Keeps (view.remaining old) (view.remaining new)
  pub contents : Keeps (view.contents old) (view.contents new)
  pub rules : view.rules new ≡ view.rules old
  pub is_operators : view.is_operators new ≡ view.is_operators old
  pub proofs : view.proofs new ≡ view.proofs old

-- These steps of proofs follow those that it reported before.
abbrev pub AddsProofs : Option (List ProofStep) → Option (List ProofStep) → List ProofStep → Type 0
AddsProofs None new steps = ⊤
AddsProofs (Some before) new steps = new ≡ Some (before ++ steps)

-- A step of a proof was made. Nothing was read from it and nothing written to it.
pub record IsProofStep {L : Type 0} (view : ConnectionView L) (old : L) (step : ProofStep) (new : L) : Type 0 where
  pub remaining : Keeps (view.remaining old) (view.remaining new)
  pub contents : Keeps (view.contents old) (view.contents new)
  pub proofs : AddsProofs (view.proofs old) (view.proofs new) (step ∷ [])

-- A client that came by the operators' socket proves to be an operator.
abbrev pub IsOperatorIf : Bool → Option Proved → Type 0
IsOperatorIf is_operators proved = is_operators ≡ true → IfSome proved (λ who. who.is_operator ≡ true)

-- The last call had this result, if the connection reports it.
abbrev pub CameTo : Option (Result ℕ Error) → Result ℕ Error → Type 0
CameTo told result = IfSome told (λ last. last ≡ result)

abbrev pub is_for_now : ErrorKind → Bool
is_for_now WouldBlock = true
is_for_now kind = false

-- Nothing can be written now.
abbrev pub takes_later : Result ℕ Error → Bool
takes_later (Ok count) = false
takes_later (Err error) = is_for_now (error_kind error)

-- Nothing can be written any more.
abbrev pub takes_no_more : Result ℕ Error → Bool
takes_no_more (Ok count) = count == 0
takes_no_more (Err error) = not (is_for_now (error_kind error))

-- Nothing comes now, or the text has ended.
abbrev pub has_no_more : Result ℕ Error → Bool
has_no_more (Ok count) = count == 0
has_no_more (Err error) = is_for_now (error_kind error)

-- Nothing can be read any more.
abbrev pub is_cut : Result ℕ Error → Bool
is_cut (Ok count) = false
is_cut (Err error) = not (is_for_now (error_kind error))
