-- The faults of an edit that was refused or made.
use Rattle.std.proofs.Common.{◌≡◌, ◌⊎◌, inl, inr, IfErr, Result, Ok, Err}
use Rattle.queue_edits.specs.declared.refusals.EditRefusal.{EditRefusal}
use Rattle.spool_halves.specs.declared.edits.EditFault.TheVariants as edit
use Rattle.spool_admin.specs.AdminFaults.{IsOfEdit, IsOfLoading, of_refusal}
use Rattle.spool_admin.specs.declared.fault.AdminFault.{AdminFault}

pub refused : (told : AdminFault) (cause : EditRefusal) → told ≡ of_refusal cause → IsOfLoading told ⊎ IsOfEdit told
refused told cause is = inr (edit.Refused cause, is)

pub made : {T : Type 0} (result : Result T AdminFault) → IfErr result IsOfEdit → IfErr result (λ fault. IsOfLoading fault ⊎ IsOfEdit fault)
made (Ok value) held = held
made (Err fault) held = inr held
