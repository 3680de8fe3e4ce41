-- The parts of the heads of requests and answers.
use Rattle.std.specs.Prelude.{◌≡◌, ◌⊎◌, ℕ, Bool, true, false, ◌&&◌, cond, nat_eq, nat_le, List, [], ◌∷◌, codes, length, slice_range}
use Rattle.std.specs.Cmp.Lexicographic.{pointwise}
use Rattle.std.specs.Str.{str_eq_ignore_ascii_case}
use Rattle.http1.specs.Fields.{Header}
use Rattle.http_requests.specs.HttpRoutes.{is_ipp_type, is_own_host}
use Rattle.httparse.specs.declared.spans.HeaderSpan.{HeaderSpan}
use Rattle.httparse.specs.declared.spans.Span.{Span}
use Rattle.ipp_access.specs.declared.Place.{Place}
use Rattle.ipp_access.specs.declared.Place.TheVariants.{Network}

-- The bytes of a span, if it lies within the input.
abbrev pub piece : List ℕ → Span → List ℕ
piece input span = cond (nat_le span.start span.end && nat_le span.end (length input)) (slice_range input span.start span.end) []

abbrev pub is_head_method : List ℕ → Bool
is_head_method method = pointwise nat_eq method (codes "HEAD")

-- The value of the first field with this name.
abbrev pub field : List ℕ → List HeaderSpan → List ℕ → List ℕ
field input [] name = []
field input (f ∷ fs) name = cond (str_eq_ignore_ascii_case (piece input f.name) name) (piece input f.value) (field input fs name)

-- The client came over a socket of the file system.
abbrev pub is_local : Place → Bool
is_local Network = false
is_local place = true

-- A request names this machine or came over its own socket, and has the type of IPP.
pub record IsOwn (names : List (List ℕ)) (place : Place) (input : List ℕ) (fields : List HeaderSpan) : Type 0 where
  pub host : (is_local place ≡ true) ⊎ (is_own_host names (field input fields (codes "host")) ≡ true)
  pub media : is_ipp_type (field input fields (codes "content-type")) ≡ true

-- The fields of each answer.
abbrev pub fields_of : List ℕ → List Header
fields_of media =
    (codes "Content-Type", media)
    ∷ (codes "Cache-Control", codes "no-cache")
    ∷ (codes "Content-Security-Policy", codes "default-src 'none'; style-src 'unsafe-inline'")
    ∷ []

abbrev pub closing : List Header → List Header
closing fields = (codes "Connection", codes "close") ∷ fields
