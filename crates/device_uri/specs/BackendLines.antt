-- The line that a backend prints for each device when it runs without arguments (backend(7)).
use Rattle.std.specs.Prelude.{◌≡◌, ℕ, Bool, true, ◌&&◌, not, List, [], ◌++◌}
use Rattle.std.specs.List.{list_any}
use Rattle.spool_types.specs.Values.{is_uri, is_attribute_name}
use Rattle.line_words.specs.Quotes.{is_quote}
use Rattle.device_uri.specs.QuotedFields.{IsBlanks, IsField, IsFieldIfAny}
use Rattle.device_uri.specs.declared.line.DeviceLine.{DeviceLine}

-- 1 to 127 letters, digits and hyphens, as in the name of an attribute.
abbrev pub is_device_class : List ℕ → Bool
is_device_class text = is_attribute_name text

-- A URI without a quote.
abbrev pub is_bare_uri : List ℕ → Bool
is_bare_uri text = is_uri text && not (list_any is_quote text)

-- The line is these fields in order, with blanks between them. The last field, or the last two, may be absent.
pub record IsDeviceLine (fields : DeviceLine) (line : List ℕ) : Type 0 where
  pub blanks : List ℕ
  pub behind_uri : List ℕ
  pub behind_make : List ℕ
  pub behind_info : List ℕ
  pub behind_id : List ℕ
  pub whole : line ≡ fields.class ++ (blanks ++ (fields.uri ++ behind_uri))
  pub class : is_device_class fields.class ≡ true
  pub between : IsBlanks blanks
  pub uri : is_bare_uri fields.uri ≡ true
  pub make : IsField fields.make behind_uri behind_make
  pub info : IsField fields.info behind_make behind_info
  pub id : IsFieldIfAny fields.id behind_info behind_id
  pub location : IsFieldIfAny fields.location behind_id []
