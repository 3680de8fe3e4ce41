-- The routes of requests over HTTP: a row for each check, in their order.
use Rattle.std.specs.Prelude.{ℕ, Bool, true, false, not, ◌||◌, ◌&&◌, ◌==◌, cond, nat_eq, nat_le, List, [], ◌∷◌, codes, length, take, drop, Option, Some, None, Result, Ok, Err}
use Rattle.std.specs.List.{before_first, after_first, list_all, list_any}
use Rattle.std.specs.Cmp.Lexicographic.{pointwise}
use Rattle.std.specs.Str.{str_eq_ignore_ascii_case}
use Rattle.line_words.specs.Blanks.{trimmed}
use Rattle.spool_types.specs.Values.{is_queue_name}
use Rattle.http_requests.specs.declared.head.RequestHead.{RequestHead}
use Rattle.http_requests.specs.declared.route.HttpStatus.{HttpStatus}
use Rattle.http_requests.specs.declared.route.HttpStatus.TheVariants.{Forbidden, NotFound, MethodNotAllowed, LengthRequired, UnsupportedMediaType, NotImplemented}
use Rattle.http_requests.specs.declared.route.Page.{Page}
use Rattle.http_requests.specs.declared.route.Page.TheVariants.{Index, Printer, Icon, Metrics}
use Rattle.http_requests.specs.declared.route.Route.{Route}
use Rattle.http_requests.specs.declared.route.Route.TheVariants.{Operation, Show, Methods}

abbrev pub is_word : List ℕ → List ℕ → Bool
is_word word other = pointwise nat_eq word other

-- ## Host (RFC 9110 7.2)

abbrev pub is_digit : ℕ → Bool
is_digit b = nat_le 48 b && nat_le b 57

-- Nothing, or a colon and digits.
abbrev pub is_port : List ℕ → Bool
is_port [] = true
is_port (b ∷ bs) = (b == 58) && list_all is_digit bs

-- The name in any case, and a port.
abbrev pub is_host : List ℕ → List ℕ → Bool
is_host host name = str_eq_ignore_ascii_case (take (length name) host) name && is_port (drop (length name) host)

abbrev pub is_loopback : List ℕ → Bool
is_loopback host = is_host host (codes "localhost") || (is_host host (codes "127.0.0.1") || is_host host (codes "[::1]"))

-- A name of this machine, so that no page of another site reads answers by a name that leads here.
abbrev pub is_own_host : List (List ℕ) → List ℕ → Bool
is_own_host names host = is_loopback host || list_any (is_host host) names

-- ## Content-Type (RFC 9110 8.3)

-- What precedes the parameters.
abbrev pub media_type : List ℕ → List ℕ
media_type value = before_first (λ b. b == 59) value

-- The type in any case.
abbrev pub is_ipp_type : List ℕ → Bool
is_ipp_type value = str_eq_ignore_ascii_case (trimmed (media_type value)) (codes "application/ipp")

-- ## Pages

abbrev pub is_slash : ℕ → Bool
is_slash b = b == 47

-- The part before the first slash, and what follows the slash.
abbrev pub first_part : List ℕ → List ℕ
first_part path = before_first is_slash path

abbrev pub later_parts : List ℕ → List ℕ
later_parts path = after_first is_slash path

abbrev pub begins_with_slash : List ℕ → Bool
begins_with_slash [] = false
begins_with_slash (b ∷ bs) = is_slash b

abbrev pub without_query : List ℕ → List ℕ
without_query path = before_first (λ b. b == 63) path

-- The path of a target, without its first slash and its query (RFC 9112 3.2.1).
abbrev pub path_of : List ℕ → Option (List ℕ)
path_of target = cond (begins_with_slash target) (Some (without_query (later_parts target))) None

abbrev pub is_list : List ℕ → Bool
is_list kind = is_word kind (codes "") || (is_word kind (codes "printers") || is_word kind (codes "jobs"))

-- /, /printers/ and /jobs/; /icon.png; /metrics.
abbrev pub page_of_kind : List ℕ → Option Page
page_of_kind kind =
    cond (is_list kind) (Some Index)
    (cond (is_word kind (codes "icon.png")) (Some Icon)
    (cond (is_word kind (codes "metrics")) (Some Metrics) None))

-- These, and /printers/NAME.
abbrev pub page_at : List ℕ → Option Page
page_at path =
    cond (is_word (later_parts path) (codes "")) (page_of_kind (first_part path))
    (cond (is_word (first_part path) (codes "printers") && is_queue_name (later_parts path)) (Some Printer) None)

abbrev pub page_in : Option (List ℕ) → Option Page
page_in None = None
page_in (Some path) = page_at path

abbrev pub page_of : List ℕ → Option Page
page_of target = page_in (path_of target)

abbrev pub name_in : Option (List ℕ) → List ℕ
name_in None = []
name_in (Some path) = later_parts path

-- The name of the printer on the page.
abbrev pub printer_of : List ℕ → List ℕ
printer_of target = name_in (path_of target)

-- ## Routes

abbrev pub shown : Option Page → Result Route HttpStatus
shown None = Err NotFound
shown (Some page) = Ok (Show page)

abbrev pub posted : RequestHead → Result Route HttpStatus
posted head = cond (not head.has_body) (Err LengthRequired) (cond (is_ipp_type head.content_type.now) (Ok Operation) (Err UnsupportedMediaType))

abbrev pub is_shown : List ℕ → Bool
is_shown method = is_word method (codes "GET") || is_word method (codes "HEAD")

abbrev pub by_method : RequestHead → Result Route HttpStatus
by_method head =
    cond (is_word head.method.now (codes "POST")) (posted head)
    (cond (is_shown head.method.now) (shown (page_of head.target.now))
    (cond (is_word head.method.now (codes "OPTIONS")) (Ok Methods) (Err MethodNotAllowed)))

abbrev pub route_of : List (List ℕ) → RequestHead → Result Route HttpStatus
route_of names head =
    cond (not (head.is_local || is_own_host names head.host.now)) (Err Forbidden)
    (cond head.is_coded (Err NotImplemented)
    (by_method head))

-- ## Statuses (RFC 9110 15)

abbrev pub status_number : HttpStatus → ℕ
status_number Forbidden = 403
status_number NotFound = 404
status_number MethodNotAllowed = 405
status_number LengthRequired = 411
status_number UnsupportedMediaType = 415
status_number NotImplemented = 501

abbrev pub status_phrase : HttpStatus → List ℕ
status_phrase Forbidden = codes "Forbidden"
status_phrase NotFound = codes "Not Found"
status_phrase MethodNotAllowed = codes "Method Not Allowed"
status_phrase LengthRequired = codes "Length Required"
status_phrase UnsupportedMediaType = codes "Unsupported Media Type"
status_phrase NotImplemented = codes "Not Implemented"
