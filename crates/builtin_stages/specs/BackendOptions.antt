-- The options of a device's URI that the backends use. If an option is repeated, the last one counts.
use Rattle.std.specs.Prelude.{ℕ, Bool, codes, List, Option, None, Some, is_some, unwrap_or}
use Rattle.device_options.specs.DeviceOptions.{last_value}
use Rattle.builtin_stages.specs.ToolNumbers.{ranged}

-- The given number, or the default.
abbrev pub number_in : ℕ → ℕ → Option (List ℕ) → ℕ
number_in most default None = default
number_in most default (Some value) = unwrap_or (ranged 0 most value) default

abbrev pub number_of : List ℕ → ℕ → ℕ → List (List ℕ × List ℕ) → ℕ
number_of name most default pairs = number_in most default (last_value name pairs)

-- The exit status of `spoolfile`.
abbrev pub exit_of : List (List ℕ × List ℕ) → ℕ
exit_of pairs = number_of (codes "exit") 255 0 pairs

-- Whether `spoolfile` replaces the contents of an existing file in place.
abbrev pub replaces_in_place : List (List ℕ × List ℕ) → Bool
replaces_in_place pairs = is_some (last_value (codes "replace") pairs)

-- The seconds that `appsocket` tries to connect, or 0 for the limit of the system.
abbrev pub connect_seconds_of : List (List ℕ × List ℕ) → ℕ
connect_seconds_of pairs = number_of (codes "contimeout") 4294967295 30 pairs

-- The seconds that `appsocket` waits until the printer closes the connection.
abbrev pub end_seconds_of : List (List ℕ × List ℕ) → ℕ
end_seconds_of pairs = number_of (codes "endtimeout") 4294967295 90 pairs

-- How often `meet` checks for its partner.
abbrev pub turns_of : List (List ℕ × List ℕ) → ℕ
turns_of pairs = number_of (codes "turns") 4294967295 20 pairs
