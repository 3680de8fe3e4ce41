-- The ends of tools.
use Rattle.std.proofs.Common.{◌≡◌, ◌⊎◌, ℕ, true, List, Option, Result, Ok, Err, IfErr, IfOk, OnOk, inl, inr, refl, ap, ◌∙◌, subst}
use Rattle.std.specs.Io.KnownBytes.{Keeps}
use Rattle.std.proofs.KnownBytes.{Appends-kept}
use Rattle.system_reasons.specs.SystemReasons.{HasNoBracket}
use Rattle.builtin_stages.specs.Filters.{FailsAsFilter, Filtered, IsOfFilter}
use Rattle.builtin_stages.specs.Results.{is_read}
use Rattle.builtin_stages.specs.ToolArguments.{Printed}
use Rattle.builtin_stages.specs.ToolEnding.{FilterEnds, Tells, TellsLine, TellsNameless, TellsUnread, document_name, error_line, fault_status, known_of, status_of, unread_line}
use Rattle.builtin_stages.specs.declared.fault.ToolFault.{ToolFault}
use Rattle.builtin_stages.specs.declared.fault.ToolFault.TheVariants.{AfterLast, Chain, ChainFile, Connect, Device, Memory, Partner, Read, Reset, Side, WaitEof, Write}
use Rattle.builtin_stages.specs.declared.words.Filter.{Filter}

-- A line with a reason, or the one without.
pub told : (name reason shown : List ℕ) (old new : Option (List ℕ)) → shown ≡ reason → HasNoBracket reason
    → TellsLine (unread_line name shown) old new ⊎ TellsNameless old new → TellsUnread name old new ⊎ TellsNameless old new
told name reason shown old new same words (inl line) =
    inl (record { reason = reason; words = words; tells = subst (λ r. TellsLine (unread_line name r) old new) same line })
told name reason shown old new same words (inr line) = inr line

pub told_line : (line shown : List ℕ) (old new : Option (List ℕ)) → shown ≡ line → TellsLine shown old new → TellsLine line old new ⊎ TellsNameless old new
told_line line shown old new same told = inl (subst (λ l. TellsLine l old new) same told)

-- A fault is reported by its line.
pub plainly : (fault : ToolFault) (name shown : List ℕ) (old new : Option (List ℕ)) → shown ≡ error_line fault → TellsLine shown old new → Tells fault name old new
plainly (Read error) name shown old new same told = inr (subst (λ l. TellsLine l old new) same told)
plainly Write name shown old new same told = subst (λ l. TellsLine l old new) same told
plainly Device name shown old new same told = subst (λ l. TellsLine l old new) same told
plainly Side name shown old new same told = subst (λ l. TellsLine l old new) same told
plainly Partner name shown old new same told = subst (λ l. TellsLine l old new) same told
plainly Connect name shown old new same told = subst (λ l. TellsLine l old new) same told
plainly Reset name shown old new same told = subst (λ l. TellsLine l old new) same told
plainly WaitEof name shown old new same told = subst (λ l. TellsLine l old new) same told
plainly AfterLast name shown old new same told = subst (λ l. TellsLine l old new) same told
plainly (ChainFile error) name shown old new same told = inr (subst (λ l. TellsLine l old new) same told)
plainly Chain name shown old new same told = subst (λ l. TellsLine l old new) same told
plainly Memory name shown old new same told = subst (λ l. TellsLine l old new) same told

-- A document that cannot be read ends the tool with 1.
unread : (fault : ToolFault) → is_read fault ≡ true → fault_status fault ≡ 1
unread (Read error) is = refl
unread Write is = refl
unread Device is = refl
unread Side is = refl
unread Partner is = refl
unread Connect is = cc
unread Reset is = refl
unread WaitEof is = cc
unread AfterLast is = cc
unread (ChainFile error) is = cc
unread Chain is = cc
unread Memory is = refl

ends_with_1 : (fault : ToolFault) → IsOfFilter fault → fault_status fault ≡ 1
ends_with_1 fault (inl is) = unread fault is
ends_with_1 fault (inr (inl is)) = ap fault_status is
ends_with_1 fault (inr (inr is)) = ap fault_status is

-- The end of a filter, which is reported.
pub reported : (tool : Filter) (d : Printed) (ended : Result ℕ ToolFault) (status : ℕ) (name : List ℕ)
    (input out_old out_new err_old err_mid err_new : Option (List ℕ))
    → IfOk ended (λ given. given ≡ 0)
    → OnOk ended (Filtered tool d.copies (known_of d.file input) out_old out_new err_old err_mid)
    → IfErr ended (λ fault. FailsAsFilter fault err_old err_mid)
    → status ≡ status_of ended → OnOk ended (Keeps err_mid err_new) → IfErr ended (λ fault. Tells fault name err_mid err_new)
    → name ≡ document_name d.file
    → FilterEnds tool d input out_old out_new err_old err_new status
reported tool d (Ok given) status name input out_old out_new err_old err_mid err_new zero filtered fails is quiet tells same =
    inl (
      is ∙ zero,
      record {
        feeds = filtered.feeds;
        printed = filtered.printed;
        told = Appends-kept err_old err_mid err_new _ filtered.told quiet;
      },
    )
reported tool d (Err fault) status name input out_old out_new err_old err_mid err_new zero filtered fails is quiet tells same =
    inr (record {
      fault = fault;
      before = err_mid;
      ended = is ∙ ends_with_1 fault fails.0;
      fails = fails;
      tells = subst (λ n. Tells fault n err_mid err_new) same tells;
    })
