-- The device that the options of a URI describe.
use Rattle.std.specs.Prelude.{ℕ, Bool, true, not, cond, nat_le, List, [], length, codes, unwrap_or, Option, None, Some, Result, Ok, Err}
use Rattle.std.specs.Str.{bytes_eq}
use Rattle.line_words.specs.DecimalNumbers.{decimal}
use Rattle.url.specs.Parts.{Parts}
use Rattle.url.specs.Parser.{parse_url}
use Rattle.url.specs.declared.error.ParseError.{ParseError}
use Rattle.spool_types.specs.Values.{is_uri}
use Rattle.device_options.specs.DeviceOptions.{Pair, last_value, options_or_none}
use Rattle.side_channel.specs.declared.devices.Device.{Device}

-- ---- the options

abbrev pub of_parsed : Result Parts ParseError → List Pair
of_parsed (Ok url) = options_or_none url
of_parsed (Err e) = []

-- The options in a text, or none if it is not a URI.
abbrev pub options_in : List ℕ → List Pair
options_in text = cond (is_uri text) (of_parsed (parse_url None text)) []

-- ---- their values

-- Only `0` is false.
abbrev pub flag_in : Option (List ℕ) → Bool
flag_in None = true
flag_in (Some value) = not (bytes_eq value (codes "0"))

-- A number of at most 255, or 1, which is ONLINE.
abbrev pub state_in : Option (List ℕ) → ℕ
state_in None = 1
state_in (Some value) = unwrap_or (decimal 255 value) 1

-- The bytes, or none if they are too many.
abbrev pub id_in : Option (List ℕ) → List ℕ
id_in None = []
id_in (Some value) = cond (nat_le (length value) 1000) value []

-- ---- the device

abbrev pub device_with : List Pair → Device
device_with options =
    record {
      bidi = flag_in (last_value (codes "bidi") options);
      connected = flag_in (last_value (codes "connected") options);
      state = state_in (last_value (codes "state") options);
      id = id_in (last_value (codes "id") options);
    }

abbrev pub device_in : List ℕ → Device
device_in uri = device_with (options_in uri)
