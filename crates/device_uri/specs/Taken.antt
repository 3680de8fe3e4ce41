-- The quoted fields of a line, read in order. Internal: no caller needs this.
use Rattle.std.specs.Prelude.{◌≡◌, ℕ, List, [], Some}
use Rattle.device_uri.specs.DeviceLineReading.{next_field, next_if_any}
use Rattle.device_uri.specs.declared.fields.Fields.{Fields}

-- The line is exactly these fields.
pub record AreFields (fields : Fields) (line : List ℕ) : Type 0 where
  pub behind_make : List ℕ
  pub behind_info : List ℕ
  pub behind_id : List ℕ
  pub make : next_field line ≡ Some (fields.make, behind_make)
  pub info : next_field behind_make ≡ Some (fields.info, behind_info)
  pub id : next_if_any behind_info ≡ Some (fields.id, behind_id)
  pub location : next_if_any behind_id ≡ Some (fields.location, [])
