-- The attributes of a group, each by its name. The first fault decides.
use Rattle.std.specs.Prelude.{ℕ, ℤ, pos, negsuc, Bool, cond, nat_le, List, [], ◌∷◌, find, Option, Some, None, Result, Ok, Err}
use Rattle.std.specs.List.{list_all}
use Rattle.std.specs.Option.{is_some}
use Rattle.ipp_names.specs.declared.statuses.Status.{Status}
use Rattle.ipp_names.specs.declared.statuses.Status.TheVariants.{BadRequest}
use Rattle.ipp_values.specs.declared.message.Attribute.{Attribute}
use Rattle.ipp_values.specs.declared.value.Value.{Value}
use Rattle.ipp_values.specs.declared.value.Value.TheVariants as values
use Rattle.ipp_values.specs.Messages.{is_named}
use Rattle.ipp_requests.specs.declared.syntax.Syntax.{Syntax}
use Rattle.ipp_requests.specs.IppSyntaxes.{keyword_in, text_of_syntax}

-- Steps in order, up to the first fault.
infixl 10 ◌>>=◌
abbrev pub ◌>>=◌ : {A B : Type 0} → Result A Status → (A → Result B Status) → Result B Status
(Ok x) >>= f = f x
(Err status) >>= f = Err status

-- The first attribute with this name.
abbrev pub named : List ℕ → List Attribute → Option Attribute
named name attributes = find (is_named name) attributes

-- ## Attributes with one value

-- The value, if there is exactly one.
abbrev pub only : List Value → Option Value
only [] = None
only (value ∷ []) = Some value
only (value ∷ other ∷ others) = None

abbrev pub read_by : {A : Type 0} → (Value → Option A) → Option Value → Option A
read_by read None = None
read_by read (Some value) = read value

-- Another number of values, or a value of another syntax, is a bad request.
abbrev pub one_of : {A : Type 0} → Option A → Result (Option A) Status
one_of None = Err BadRequest
one_of (Some x) = Ok (Some x)

-- None without the attribute.
abbrev pub one_at : {A : Type 0} → (Value → Option A) → Option Attribute → Result (Option A) Status
one_at read None = Ok None
one_at read (Some attribute) = one_of (read_by read (only attribute.values))

abbrev pub text_at : Syntax → List ℕ → List Attribute → Result (Option (List ℕ)) Status
text_at syntax name attributes = one_at (text_of_syntax syntax) (named name attributes)

abbrev pub boolean_in : Value → Option Bool
boolean_in (values.Boolean b) = Some b
boolean_in _ = None

abbrev pub boolean_at : List ℕ → List Attribute → Result (Option Bool) Status
boolean_at name attributes = one_at boolean_in (named name attributes)

-- An integer from `least`.
abbrev pub from_least : ℕ → ℤ → Option ℕ
from_least least (pos n) = cond (nat_le least n) (Some n) None
from_least least (negsuc n) = None

abbrev pub number_in : ℕ → Value → Option ℕ
number_in least (values.Integer number) = from_least least number
number_in least _ = None

abbrev pub number_at : ℕ → List ℕ → List Attribute → Result (Option ℕ) Status
number_at least name attributes = one_at (number_in least) (named name attributes)

-- ## Attributes with one value or more

abbrev pub values_of : Option Attribute → Option (List Value)
values_of None = None
values_of (Some attribute) = Some attribute.values

abbrev pub values_at : List ℕ → List Attribute → Option (List Value)
values_at name attributes = values_of (named name attributes)

abbrev pub all_at : (Value → Bool) → Option Attribute → Result (Option (List Value)) Status
all_at passes None = Ok None
all_at passes (Some attribute) = cond (list_all passes attribute.values) (Ok (Some attribute.values)) (Err BadRequest)

abbrev pub is_keyword : Value → Bool
is_keyword value = is_some (keyword_in value)

abbrev pub keywords_at : List ℕ → List Attribute → Result (Option (List Value)) Status
keywords_at name attributes = all_at is_keyword (named name attributes)

-- An integer from 1.
abbrev pub is_number : Value → Bool
is_number value = is_some (number_in 1 value)

abbrev pub numbers_at : List ℕ → List Attribute → Result (Option (List Value)) Status
numbers_at name attributes = all_at is_number (named name attributes)
