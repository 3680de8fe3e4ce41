-- A hold and a banner are never dropped.
use Rattle.std.specs.Prelude.{◌≡◌, ◌<◌, ◌⊎◌, ℕ, Bool, true, false, List, length, codes, Option, Some, ⊤}
use Rattle.std.specs.List.{AllByRecursion}
use denote.Ref.{Bor}
use Rattle.filter_args.specs.Printing.{printed}
use Rattle.ipp_values.specs.declared.message.Attribute.{Attribute}
use Rattle.ipp_options.specs.HoldValues.{hold_in, hold_time_in}
use Rattle.ipp_options.specs.JobSettings.{must_be_none, are_none, is_refused}
use Rattle.ipp_options.specs.declared.hold.Hold.{Hold}
use Rattle.ipp_options.specs.declared.hold.Hold.TheVariants.{Free}
use Rattle.ipp_options.specs.declared.settings.Settings.{Settings}
use Rattle.ipp_options.specs.declared.read.SettingsFault.{SettingsFault}
use Rattle.ipp_options.specs.declared.read.SettingsFault.TheVariants.{Unsupported, TooLong, Memory}

-- An attribute of a hold asks for no hold, or for this one.
abbrev pub IsAsked : Option Hold → Hold → Type 0
IsAsked asked hold = (asked ≡ Some Free) ⊎ (asked ≡ Some hold)

-- An attribute asks for this hold or for none, for no banner, and for no hold of another kind.
pub record IsKept (now : ℕ) (hold : Hold) (attribute : Bor Attribute) : Type 0 where
  pub word : attribute.now.name ≡ codes "job-hold-until" → IsAsked (hold_in now attribute.now.values) hold
  pub time : attribute.now.name ≡ codes "job-hold-until-time" → IsAsked (hold_time_in attribute.now.values) hold
  pub banner : must_be_none attribute.now.name ≡ true → are_none attribute.now.values ≡ true

-- So does each attribute.
abbrev pub HoldKept : ℕ → List (Bor Attribute) → Hold → Type 0
HoldKept now attributes hold = AllByRecursion (IsKept now hold) attributes

-- Why the settings were refused.
abbrev pub IsFault : SettingsFault → Bool → Settings → Type 0
IsFault (Unsupported attributes) fidelity s = (is_refused fidelity s ≡ true) × (attributes ≡ s.unsupported)
IsFault TooLong fidelity s = (is_refused fidelity s ≡ false) × (2048 < length (printed s.options))
IsFault Memory fidelity s = ⊤
