-- Which attributes a client asks for (RFC 8011, 4.2.5.1, 4.2.6.1 and 4.3.4.1), and the answer.
use Rattle.std.specs.Prelude.{ℕ, Bool, true, false, ◌||◌, ◌&&◌, not, cond, nat_eq, List, [], ◌∷◌, codes, filter, Option, None, Some}
use Rattle.std.specs.Cmp.Lexicographic.{pointwise}
use Rattle.std.specs.List.{list_any, filter_map}
use Rattle.ipp_values.specs.TextLimits.{is_text}
use Rattle.ipp_values.specs.declared.message.Attribute.{Attribute}
use Rattle.ipp_values.specs.declared.value.Value.{Value}
use Rattle.ipp_values.specs.declared.value.Value.TheVariants.{Keyword}
use Rattle.requested_attributes.specs.declared.groups.AttributeGroup.{AttributeGroup}
use Rattle.requested_attributes.specs.declared.groups.AttributeGroup.TheVariants.{PrinterDescription, JobTemplate, JobDescription, OwnName}
use Rattle.requested_attributes.specs.declared.groups.Asked.{Asked}
use Rattle.requested_attributes.specs.declared.groups.Asked.TheVariants.{These, All, JobIds}

-- ## What is asked for

abbrev pub is_same : List ℕ → List ℕ → Bool
is_same a b = pointwise nat_eq a b

-- A keyword asks for a group of attributes. No keyword asks for the attributes of `OwnName`, except their own names.
abbrev pub asks_group : List ℕ → AttributeGroup → Bool
asks_group word PrinterDescription = is_same word (codes "all") || is_same word (codes "printer-description")
asks_group word JobTemplate = is_same word (codes "all") || is_same word (codes "job-template")
asks_group word JobDescription = is_same word (codes "all") || is_same word (codes "job-description")
asks_group word OwnName = false

-- A value of `requested-attributes` asks for the attribute of this name in this group. Only keywords ask for any.
abbrev pub asks : List ℕ → AttributeGroup → Value → Bool
asks name group (Keyword word) = is_same word name || asks_group word group
asks name group other = false

-- The attributes of a job that Get-Jobs returns if the client names none (RFC 8011, 4.2.6.1).
abbrev pub is_job_id : List ℕ → Bool
is_job_id name = is_same name (codes "job-id") || is_same name (codes "job-uri")

abbrev pub is_wanted : Asked → List ℕ → AttributeGroup → Bool
is_wanted (These values) name group = list_any (asks name group) values.now
is_wanted All name group = asks_group (codes "all") group
is_wanted JobIds name group = is_job_id name

-- ## What is answered

-- A row of the table of attributes: a name, its group, and the values that the facts give it. Without values the attribute is absent.
pub record StatedRow : Type 0 where
  pub name : List ℕ
  pub group : AttributeGroup
  pub values : List Value

abbrev pub row : List ℕ → AttributeGroup → List Value → StatedRow
row name group values = record { name = name; group = group; values = values }

abbrev pub is_wanted_row : Asked → StatedRow → Bool
is_wanted_row asked r = is_wanted asked r.name r.group

abbrev pub is_empty : {T : Type 0} → List T → Bool
is_empty [] = true
is_empty (first ∷ rest) = false

-- The attribute with this name and these values, if there are any and the name is one that an attribute may have.
abbrev pub named_attribute : List ℕ → List Value → Option Attribute
named_attribute name values = cond (not (is_empty values) && is_text 1 255 127 name) (Some (record { name = name; values = values })) None

abbrev pub attribute_of : StatedRow → Option Attribute
attribute_of r = named_attribute r.name r.values

-- The rows that are asked for, in their order, as attributes.
abbrev pub answered : Asked → List StatedRow → List Attribute
answered asked rows = filter_map attribute_of (filter (is_wanted_row asked) rows)
