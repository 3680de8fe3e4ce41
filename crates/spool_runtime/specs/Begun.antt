-- Whether a process ignores SIGCHLD, as the system shows it.
use Rattle.std.specs.Prelude.{◌≡◌, ◌⊎◌, ℕ, ◌-◌, Bool, ◌&&◌, ◌==◌, nat_eq, nat_le, List, codes, length, slice_index_or}
use Rattle.std.specs.List.{list_any, slice_split, starts_with}
use Rattle.spool_runtime.specs.declared.fault.ShellFault.{ShellFault}
use Rattle.spool_runtime.specs.declared.fault.ShellFault.TheVariants.{Ignored, Memory}

-- The codes of the odd hexadecimal digits, in lower case.
abbrev pub is_odd : ℕ → Bool
is_odd digit = list_any (λ odd. digit == odd) (codes "13579bdf")

-- The line lists the ignored signals, and SIGCHLD, number 17, is one of them. The fifth digit from the end has the
-- signals 17 to 20, and 17 is its lowest bit.
abbrev pub reports_ignored : List ℕ → Bool
reports_ignored line = nat_le 5 (length line) && starts_with nat_eq line (codes "SigIgn:") && is_odd (slice_index_or line (length line - 5) 0)

-- A line of the text says so.
abbrev pub ignores_in : List ℕ → Bool
ignores_in status = list_any reports_ignored (slice_split (λ b. b == 10) status)

-- The signal is ignored, or memory ran out.
abbrev pub IsOfEnds : ShellFault → Type 0
IsOfEnds fault = (fault ≡ Ignored) ⊎ (fault ≡ Memory)
