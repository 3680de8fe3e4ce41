-- The MIME database, by which documents are typed and filters are chosen.
use Rattle.std.specs.Prelude.{◌≡◌, ℕ, List, codes, length, take, unwrap_or, refl}
use Rattle.std.specs.Coded.{Coded, code_by, coded×, coded_list, coded_ℕ}
use Rattle.mime_rules.specs.BestType.{type_of}
use Rattle.mime_rules.specs.RuleFields.{types_of}
use Rattle.mime_rules.specs.TypesValue.{TypesValue, types_code}
use Rattle.mime_costs.specs.LeastWalk.{convs_code}
use Rattle.mime_costs.specs.declared.conversion.Conversion.{Conversion}

pub record Mime : Type 0 where
  pub types : TypesValue
  pub convs : List Conversion
  -- The locale in which documents are typed.
  pub locale : List ℕ

abbrev pub mime_code : Coded Mime
mime_code = code_by (TypesValue × (List Conversion × List ℕ)) (coded× types_code (coded× convs_code (coded_list coded_ℕ)))
    (λ m. (m.types, (m.convs, m.locale))) (λ p. record { types = p.0; convs = p.1.0; locale = p.1.1 }) (λ _. refl)

-- The type of a document for which no rule is true.
abbrev pub unknown_type : List ℕ
unknown_type = codes "application/octet-stream"

-- The type of a document with this name and these bytes.
abbrev pub media_of : Mime → List ℕ → List ℕ → List ℕ
media_of mime name document = unwrap_or (type_of (record { name = name; bytes = document; locale = mime.locale }) (types_of mime.types)) unknown_type

-- The first n bytes determine the type of a document of this length.
abbrev pub IsEnough : Mime → ℕ → ℕ → Type 0
IsEnough mime len n = (name document : List ℕ) → length document ≡ len → media_of mime name (take n document) ≡ media_of mime name document
