-- How the connection to a printer ends (backend(7)).
use Rattle.std.specs.Prelude.{ℕ, Bool, true, false, cond, List, [], ◌++◌, codes, Option, None, Some, Result, Ok, Err}
use Rattle.std.specs.Fmt.{decimal}
use Rattle.std.specs.Str.{bytes_eq}
use Rattle.device_options.specs.DeviceOptions.{last_value}
use Rattle.builtin_stages.specs.declared.fault.ToolFault.{ToolFault}
use Rattle.builtin_stages.specs.declared.fault.ToolFault.TheVariants as faults
use Rattle.builtin_stages.specs.declared.connection_ends.AfterLast.{AfterLast}
use Rattle.builtin_stages.specs.declared.connection_ends.AfterLast.TheVariants.{Done, Retry, Policy}
use Rattle.builtin_stages.specs.declared.connection_ends.EndRules.{EndRules}
use Rattle.builtin_stages.specs.declared.connection_ends.Observed.{Observed}
use Rattle.builtin_stages.specs.declared.connection_ends.Observed.TheVariants.{ClosedEarly, ResetEarly, ClosedFirst, ClosedLast, ResetLate, StillOpen}
use Rattle.builtin_stages.specs.declared.connection_ends.ConnectionEnd.{ConnectionEnd}
use Rattle.builtin_stages.specs.declared.connection_ends.ConnectionEnd.TheVariants.{Printed, PrintedBeforeReset, ClosedTooEarly, ResetTooEarly, NotClosed, FailedByReset, RetryAfterReset}

-- ---- the options of the URI

-- By default the printer must close the connection. Another value is unknown.
abbrev pub waits_of : Option (List ℕ) → Option Bool
waits_of None = Some true
waits_of (Some value) =
    cond (bytes_eq value (codes "true")) (Some true)
    (cond (bytes_eq value (codes "false")) (Some false)
    None)

-- By default the error policy of the queue decides about a reset after the last byte. Another value is unknown.
abbrev pub after_last_of : Option (List ℕ) → Option AfterLast
after_last_of None = Some Policy
after_last_of (Some value) =
    cond (bytes_eq value (codes "done")) (Some Done)
    (cond (bytes_eq value (codes "retry")) (Some Retry)
    None)

-- An unknown value is refused by the name of its option.
abbrev pub rules_with : Option Bool → Option AfterLast → Result EndRules ToolFault
rules_with None after = Err faults.WaitEof
rules_with (Some waits) None = Err faults.AfterLast
rules_with (Some waits) (Some after) = Ok (record { waits = waits; after_last = after })

abbrev pub rules_of : List (List ℕ × List ℕ) → Result EndRules ToolFault
rules_of pairs = rules_with (waits_of (last_value (codes "waiteof") pairs)) (after_last_of (last_value (codes "afterlast") pairs))

-- ---- the end

-- By `waiteof`, `afterlast` and the end that was seen.
abbrev pub end_by : Bool → AfterLast → Observed → ConnectionEnd
end_by waits after ClosedEarly = ClosedTooEarly
end_by waits after ResetEarly = ResetTooEarly
end_by true after ClosedFirst = ClosedTooEarly
end_by false after ClosedFirst = Printed
end_by waits after ClosedLast = Printed
end_by waits Done ResetLate = PrintedBeforeReset
end_by waits Retry ResetLate = RetryAfterReset
end_by waits Policy ResetLate = FailedByReset
end_by true after StillOpen = NotClosed
end_by false after StillOpen = Printed

abbrev pub end_of_connection : EndRules → Observed → ConnectionEnd
end_of_connection rules observed = end_by rules.waits rules.after_last observed

-- The exit status (backend(7)): 6 if the job is to be tried again later, whatever the error policy of the queue is.
abbrev pub connection_status : ConnectionEnd → ℕ
connection_status Printed = 0
connection_status PrintedBeforeReset = 0
connection_status ClosedTooEarly = 1
connection_status ResetTooEarly = 1
connection_status NotClosed = 1
connection_status FailedByReset = 1
connection_status RetryAfterReset = 6

-- ---- the line that reports the end

abbrev pub is_printed : ConnectionEnd → Bool
is_printed Printed = true
is_printed PrintedBeforeReset = false
is_printed ClosedTooEarly = false
is_printed ResetTooEarly = false
is_printed NotClosed = false
is_printed FailedByReset = false
is_printed RetryAfterReset = false

abbrev pub level_of : ConnectionEnd → List ℕ
level_of PrintedBeforeReset = codes "INFO: "
level_of end = codes "ERROR: "

abbrev pub deed_of : ConnectionEnd → List ℕ
deed_of ClosedTooEarly = codes " closed the connection too early, after "
deed_of ResetTooEarly = codes " reset the connection after "
deed_of NotClosed = codes " did not close the connection after all "
deed_of end = codes " reset the connection after all "

abbrev pub outcome_of : ConnectionEnd → List ℕ
outcome_of PrintedBeforeReset = codes " bytes; counted as printed\n"
outcome_of RetryAfterReset = codes " bytes; to be tried again\n"
outcome_of end = codes " bytes\n"

-- These texts around a printer's address and a number of bytes.
unfoldable pub line_of : List ℕ → List ℕ → List ℕ → ℕ → List ℕ → List ℕ
line_of level peer deed sent outcome = level ++ peer ++ deed ++ decimal sent ++ outcome

-- Nothing for a document that was printed.
abbrev pub end_line : ConnectionEnd → List ℕ → ℕ → List ℕ
end_line end peer sent = cond (is_printed end) [] (line_of (level_of end) peer (deed_of end) sent (outcome_of end))
