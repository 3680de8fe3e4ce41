-- Sizes and moments for users.
use Rattle.std.specs.Prelude.{◌≡◌, ℕ, ◌+◌, ◌-◌, ◌/◌, ◌⊎◌, cond, nat_le, List, ◌++◌, codes}
use Rattle.std.specs.Fmt.{decimal}
use Rattle.httpdate.specs.Date.{unix_secs, date_text}
use Rattle.httpdate.specs.declared.date.HttpDate.{HttpDate}

-- The number of units of this size that contain the bytes.
abbrev pub units : ℕ → ℕ → ℕ
units size bytes = (bytes + (size - 1)) / size

abbrev pub size_text : ℕ → List ℕ
size_text bytes =
    cond (nat_le bytes 9999) (decimal bytes ++ codes " B")
    (cond (nat_le (units 1024 bytes) 9999) (decimal (units 1024 bytes) ++ codes " KiB")
    (decimal (units 1048576 bytes) ++ codes " MiB"))

-- The date of a moment, or its seconds.
abbrev pub IsMomentText : ℕ → List ℕ → Type 0
IsMomentText seconds text = ((date : HttpDate) × (unix_secs date ≡ seconds) × (text ≡ date_text date)) ⊎ (text ≡ codes "second " ++ decimal seconds)
