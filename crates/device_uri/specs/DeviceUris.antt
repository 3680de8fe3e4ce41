-- A device's URI, and how it is read.
use Rattle.std.specs.Prelude.{◌≡◌, ℕ, ◌⊎◌, Bool, true, false, ◌&&◌, List, None, Result, Ok, Err, refl}
use Rattle.std.specs.Coded.{Coded, code_by, coded×, coded_list, coded_ℕ}
use Rattle.spool_types.specs.Values.{is_uri}
use Rattle.url.specs.Parts.{Parts, parts_code}
use Rattle.url.specs.Parser.{parse_url, IsOutOfRoom}
use Rattle.url.specs.declared.error.ParseError.{ParseError}

-- The text, and the URL record (URL Standard) that it is read as.
pub record Device : Type 0 where
  pub text : List ℕ
  pub url : Parts

-- How the logic stores it. No clause cites it.
abbrev pub device_code : Coded Device
device_code =
    code_by (List ℕ × Parts) (coded× (coded_list coded_ℕ) parts_code)
    (λ d. (d.text, d.url)) (λ p. record { text = p.0; url = p.1 }) (λ _. refl)

-- The text is within the limits of a queue's URI, and the URL parser without a base reads it as this record.
pub record Reads (text : List ℕ) (url : Parts) : Type 0 where
  pub allowed : is_uri text ≡ true
  pub parsed : parse_url None text ≡ Ok url

-- The same, as a truth value.
abbrev pub is_read : {A E : Type 0} → Result A E → Bool
is_read (Ok url) = true
is_read (Err e) = false

abbrev pub is_device_uri : List ℕ → Bool
is_device_uri text = is_uri text && is_read (parse_url None text)

-- The URL parser rejects the text, and not for its size.
abbrev pub IsRefused : List ℕ → Type 0
IsRefused text = (e : ParseError) × (parse_url None text ≡ Err e) × ¬ (IsOutOfRoom e)

-- The text is beyond the limits, or the URL parser rejects it.
abbrev pub IsBadUri : List ℕ → Type 0
IsBadUri text = (is_uri text ≡ false) ⊎ IsRefused text
