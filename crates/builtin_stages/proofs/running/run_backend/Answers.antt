use Rattle.std.proofs.Common.{◌≡◌, ℕ, List, Option, Result, Ok, Err, IfErr, OnOk, inl, inr, ap, ◌∙◌, subst}
use Rattle.std.specs.String.{string_bytes}
use Rattle.std.specs.Io.KnownBytes.{Keeps}
use Rattle.builtin_stages.specs.ToolEnding.{BackendEnds, SendingEnds, Tells, fault_status, status_of}
use Rattle.builtin_stages.specs.declared.fault.ToolFault.{ToolFault}
use Rattle.builtin_stages.specs.declared.fault.ToolFault.TheVariants.{Write}
use Rattle.builtin_stages.specs.declared.network.Sending.{Sending}
use Rattle.builtin_stages.specs.declared.words.Backend.TheVariants.{AppSocket, SpoolFile}
use Rattle.builtin_stages.proofs.running.run_backend.Goals as goal

-- The end of `spoolfile`, which has only one fault.
spooled : (ended : Result ℕ ToolFault) (status : ℕ) (shown name : List ℕ) (old new : Option (List ℕ)) → shown ≡ name
    → IfErr ended (λ fault. fault ≡ Write) → status ≡ status_of ended → OnOk ended (Keeps old new) → IfErr ended (λ fault. Tells fault shown old new)
    → BackendEnds SpoolFile name old new status
spooled (Ok given) status shown name old new same only is quiet told = inl quiet
spooled (Err fault) status shown name old new same only is quiet told =
    inr (is ∙ ap fault_status only, subst (λ n. Tells Write n old new) same (subst (λ f. Tells f shown old new) only told))

pub returns-in-SpoolFile : goal.returns-in-SpoolFile
returns-in-SpoolFile g c =
    let told = c.report_end.ensures in
    rw c.in-SpoolFile.is (spooled c.spool-ended.result _ _ _ _ _ c.name.ensures c.spool-ended.ensures told.status told.ok told.fault)

-- The end of `appsocket`, which reports the end of its connection or a fault.
sent : (ended : Result Sending ToolFault) (status : ℕ) (shown name : List ℕ) (old new : Option (List ℕ)) → shown ≡ name
    → SendingEnds ended shown old new status → BackendEnds AppSocket name old new status
sent (Ok s) status shown name old new same ends = inl (record { end = s.end; peer = string_bytes s.peer; sent = s.sent; ended = ends.0; tells = ends.1 })
sent (Err fault) status shown name old new same ends =
    inr (record { fault = fault; ended = ends.0; tells = subst (λ n. Tells fault n old new) same ends.1 })

pub returns-in-AppSocket : goal.returns-in-AppSocket
returns-in-AppSocket g c = rw c.in-AppSocket.is (sent c.send-ended.result _ _ _ _ _ c.name-in-AppSocket.ensures c.report_sending.ensures)
