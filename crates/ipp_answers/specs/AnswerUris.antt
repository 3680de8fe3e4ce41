-- The URIs and UUIDs of printers and jobs.
use Rattle.std.specs.Prelude.{ℕ, cond, List, [], ◌∷◌, ◌++◌, codes, take}
use Rattle.sha1.specs.Sha1.{sha1}
use Rattle.uuid.specs.Parts.{with_variant, with_version}
use Rattle.uuid.specs.Text.{lower, urn_text}
use Rattle.uuid.specs.declared.Variant.TheVariants.{RFC4122}
use Rattle.uuid.specs.declared.Version.TheVariants.{Sha1}
use Rattle.ipp_answers.specs.declared.facts.Server.{Server}

abbrev pub printers_path : List ℕ
printers_path = codes "/printers/"

abbrev pub jobs_path : List ℕ
jobs_path = codes "/jobs/"

-- A URI of the server: a scheme, its host, a path, and what ends the path.
abbrev pub uri_of : List ℕ → Server → List ℕ → List ℕ → List ℕ
uri_of scheme s path end = scheme ++ (codes "://" ++ (s.host.now ++ (path ++ end)))

-- RFC 3510, or RFC 7472 with TLS.
abbrev pub ipp_uri : Server → List ℕ → List ℕ → List ℕ
ipp_uri s path end = uri_of (cond s.is_secure (codes "ipps") (codes "ipp")) s path end

abbrev pub page_uri : Server → List ℕ → List ℕ → List ℕ
page_uri s path end = uri_of (cond s.is_secure (codes "https") (codes "http")) s path end

-- The namespace of URLs (RFC 9562, 6.6).
abbrev pub url_namespace : List ℕ
url_namespace = 0x6b ∷ 0xa7 ∷ 0xb8 ∷ 0x11 ∷ 0x9d ∷ 0xad ∷ 0x11 ∷ 0xd1 ∷ 0x80 ∷ 0xb4 ∷ 0x00 ∷ 0xc0 ∷ 0x4f ∷ 0xd4 ∷ 0x30 ∷ 0xc8 ∷ []

-- The UUID of a name, by its hash (version 5 of RFC 9562).
unfoldable pub uuid_of : List ℕ → List ℕ
uuid_of name = with_version (with_variant (take 16 (sha1 (url_namespace ++ name))) RFC4122) Sha1

-- The URN of a printer or a job of the spool (RFC 9562, 4).
unfoldable pub uuid_urn : Server → List ℕ → List ℕ → List ℕ
uuid_urn s path end = urn_text lower (uuid_of (s.spool.now ++ (path ++ end)))
