-- The device that a URI names: a file, or a network printer.
use Rattle.std.specs.Prelude.{◌≡◌, ℕ, ◌⊎◌, List, None, Some, unwrap_or, IsUtf8}
use Rattle.std.specs.String.{string_bytes}
use Rattle.percent_encoding.specs.Percent.{percent_decode}
use Rattle.url.specs.Host.{owned_host}
use Rattle.url.specs.Parts.{Parts, nonempty_host}
use Rattle.device_uri.specs.DeviceUris.{IsBadUri, Reads}
use Rattle.device_options.specs.DeviceOptions.{options_or_none}
use Rattle.builtin_stages.specs.declared.device.Device.{Device}
use Rattle.builtin_stages.specs.declared.printer.Printer.{Printer}

-- The text is a URL, and the file and the options are those of the URL.
pub record IsDevice (device : Device) (text : List ℕ) : Type 0 where
  pub url : Parts
  pub reads : Reads text url
  pub path : string_bytes device.path ≡ percent_decode url.path
  pub options : device.options.items ≡ options_or_none url

-- The text is a URL whose decoded path is not UTF-8.
pub record HasNoPath (text : List ℕ) : Type 0 where
  pub url : Parts
  pub reads : Reads text url
  pub path : ¬ (IsUtf8 (percent_decode url.path))

-- The text is not the URI of a device, or names no file.
abbrev pub IsNoDevice : List ℕ → Type 0
IsNoDevice text = IsBadUri text ⊎ HasNoPath text

-- The text is a URL, and the host, the port (by default 9100) and the options are those of the URL.
pub record IsPrinter (printer : Printer) (text : List ℕ) : Type 0 where
  pub url : Parts
  pub reads : Reads text url
  pub host : nonempty_host url ≡ Some (owned_host printer.host)
  pub port : printer.port ≡ unwrap_or url.port 9100
  pub options : printer.options.items ≡ options_or_none url

-- The text is a URL without a host.
pub record HasNoHost (text : List ℕ) : Type 0 where
  pub url : Parts
  pub reads : Reads text url
  pub host : nonempty_host url ≡ None

-- The text is not the URI of a device, or names no host.
abbrev pub IsNoPrinter : List ℕ → Type 0
IsNoPrinter text = IsBadUri text ⊎ HasNoHost text
