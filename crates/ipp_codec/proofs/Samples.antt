-- A value of each tag and of each length that it may have.
use Rattle.std.proofs.Common.{◌≡◌, ℕ, zero, suc, ◌+◌, ◌-◌, ◌<◌, ◌≤◌, true, false, List, [], ◌∷◌, ◌++◌, length, get_or, refl, sym, ap, arith, pos}
use Rattle.std.specs.Prelude.{nat_le, FitsSigned}
use Rattle.std.specs.Int.{w16, w32, to_be_bytes}
use Rattle.std.specs.List.{list_all}
use Rattle.std.proofs.lemmas.Bool.{and_from, eqb-true, le-leb, leb-true}
use Rattle.std.proofs.lemmas.List.{length-append}
use Rattle.std.proofs.lemmas.Str.{is_utf8-from_IsUtf8, IsUtf8-from_ascii}
use Rattle.ipp_values.specs.declared.tags.ValueTag.{ValueTag}
use Rattle.ipp_values.specs.declared.tags.ValueTag.TheVariants as tags
use Rattle.ipp_values.specs.declared.value.Value.{Value}
use Rattle.ipp_values.specs.declared.value.Value.TheVariants as value
use Rattle.ipp_values.specs.declared.value.DateTime.{DateTime}
use Rattle.ipp_values.specs.TextLimits.{is_up_to}
use Rattle.ipp_values.specs.ValueTexts.{tag_of}
use Rattle.ipp_codec.specs.Octets.{counted, is_length, octets_of, IsText, IsValue}
use Rattle.ipp_codec.proofs.TextLaws.{IsTag, and_parts}

-- ---- texts

abbrev pub letters : ℕ → List ℕ
letters zero = []
letters (suc n) = 97 ∷ letters n

pub letters_length : (n : ℕ) → length (letters n) ≡ n
letters_length zero = refl
letters_length (suc n) = ap suc (letters_length n)

letters_ascii : (n i : ℕ) → get_or (letters n) i 0 < 128
letters_ascii zero i = omega arith
letters_ascii (suc n) zero = omega arith
letters_ascii (suc n) (suc i) = letters_ascii n i

letters_up_to : (n highest : ℕ) → 97 ≤ highest → list_all (is_up_to highest) (letters n) ≡ true
letters_up_to zero highest great = refl
letters_up_to (suc n) highest great = and_from _ _ (le-leb 97 highest great) (letters_up_to n highest great)

pub letters_text : (least most highest n : ℕ) → 97 ≤ highest → least ≤ n → n ≤ most → IsText least most highest (letters n)
letters_text least most highest n great some few =
    let sized = letters_length n in (
      is_utf8-from_IsUtf8 (letters n) (IsUtf8-from_ascii (letters n) (letters_ascii n)),
      and_from _ _ (and_from _ _ (le-leb least (length (letters n)) (omega (arith, sized, some))) (le-leb (length (letters n)) most (omega (arith, sized, few)))) (letters_up_to n highest great),
    )

-- The language and the text of a value of `n` octets.
abbrev language_length : ℕ → ℕ → ℕ
language_length most n = (n - 4) - most

abbrev text_length_of : ℕ → ℕ → ℕ
text_length_of most n = (n - 4) - language_length most n

-- ---- values

abbrev no_date : DateTime
no_date = record { year = 0; month = 0; day = 0; hour = 0; minute = 0; second = 0; deciseconds = 0; utc_direction = 0; utc_hours = 0; utc_minutes = 0 }

abbrev pub filled : ValueTag → ℕ → Value
filled tags.Unsupported n = value.Unsupported
filled tags.Unknown n = value.Unknown
filled tags.NoValue n = value.NoValue
filled tags.Integer n = value.Integer (pos 0)
filled tags.Boolean n = value.Boolean false
filled tags.Enum n = value.Enum (pos 0)
filled tags.OctetString n = value.OctetString (letters n)
filled tags.DateTime n = value.DateTime no_date
filled tags.Resolution n = value.Resolution (record { cross_feed = pos 0; feed = pos 0; units = 0 })
filled tags.RangeOfInteger n = value.RangeOfInteger (record { lower = pos 0; upper = pos 0 })
filled tags.BeginCollection n = value.BeginCollection
filled tags.TextWithLanguage n = value.TextWithLanguage (record { language = letters (language_length 1023 n); text = letters (text_length_of 1023 n) })
filled tags.NameWithLanguage n = value.NameWithLanguage (record { language = letters (language_length 255 n); name = letters (text_length_of 255 n) })
filled tags.EndCollection n = value.EndCollection
filled tags.Text n = value.Text (letters n)
filled tags.Name n = value.Name (letters n)
filled tags.Keyword n = value.Keyword (letters n)
filled tags.Uri n = value.Uri (letters n)
filled tags.UriScheme n = value.UriScheme (letters n)
filled tags.Charset n = value.Charset (letters n)
filled tags.NaturalLanguage n = value.NaturalLanguage (letters n)
filled tags.MimeMediaType n = value.MimeMediaType (letters n)
filled tags.MemberName n = value.MemberName (letters n)
filled (tags.Opaque tag) n = value.Opaque (record { tag = tag; octets = letters n })

pub filled_tag : (tag : ValueTag) (n : ℕ) → tag_of (filled tag n) ≡ tag
filled_tag tags.Unsupported n = refl
filled_tag tags.Unknown n = refl
filled_tag tags.NoValue n = refl
filled_tag tags.Integer n = refl
filled_tag tags.Boolean n = refl
filled_tag tags.Enum n = refl
filled_tag tags.OctetString n = refl
filled_tag tags.DateTime n = refl
filled_tag tags.Resolution n = refl
filled_tag tags.RangeOfInteger n = refl
filled_tag tags.BeginCollection n = refl
filled_tag tags.TextWithLanguage n = refl
filled_tag tags.NameWithLanguage n = refl
filled_tag tags.EndCollection n = refl
filled_tag tags.Text n = refl
filled_tag tags.Name n = refl
filled_tag tags.Keyword n = refl
filled_tag tags.Uri n = refl
filled_tag tags.UriScheme n = refl
filled_tag tags.Charset n = refl
filled_tag tags.NaturalLanguage n = refl
filled_tag tags.MimeMediaType n = refl
filled_tag tags.MemberName n = refl
filled_tag (tags.Opaque tag) n = refl

zero_fits : FitsSigned w32 (pos 0)
zero_fits = record { sfits = omega arith }

pub filled_legal : (tag : ValueTag) (n : ℕ) → IsTag tag → is_length tag n ≡ true → IsValue (filled tag n)
filled_legal tags.Unsupported n ok h = tt
filled_legal tags.Unknown n ok h = tt
filled_legal tags.NoValue n ok h = tt
filled_legal tags.Integer n ok h = zero_fits
filled_legal tags.Boolean n ok h = tt
filled_legal tags.Enum n ok h = zero_fits
filled_legal tags.OctetString n ok h = omega (arith, letters_length n, leb-true n 1023 h)
filled_legal tags.DateTime n ok h = (record { year = omega arith; month = omega arith; day = omega arith; hour = omega arith; minute = omega arith }, record { second = omega arith; deciseconds = omega arith; utc_direction = omega arith; utc_hours = omega arith; utc_minutes = omega arith })
filled_legal tags.Resolution n ok h = (zero_fits, zero_fits, omega arith)
filled_legal tags.RangeOfInteger n ok h = (zero_fits, zero_fits)
filled_legal tags.BeginCollection n ok h = tt
filled_legal tags.TextWithLanguage n ok h =
    let few = leb-true n 1090 (and_parts (nat_le 4 n) (nat_le n 1090) h).1 in
    (letters_text 0 63 127 (language_length 1023 n) (omega arith) (omega arith) (omega (arith, few)), letters_text 0 1023 255 (text_length_of 1023 n) (omega arith) (omega arith) (omega (arith, few)))
filled_legal tags.NameWithLanguage n ok h =
    let few = leb-true n 322 (and_parts (nat_le 4 n) (nat_le n 322) h).1 in
    (letters_text 0 63 127 (language_length 255 n) (omega arith) (omega arith) (omega (arith, few)), letters_text 0 255 255 (text_length_of 255 n) (omega arith) (omega arith) (omega (arith, few)))
filled_legal tags.EndCollection n ok h = tt
filled_legal tags.Text n ok h = letters_text 0 1023 255 n (omega arith) (omega arith) (leb-true n 1023 h)
filled_legal tags.Name n ok h = letters_text 0 255 255 n (omega arith) (omega arith) (leb-true n 255 h)
filled_legal tags.Keyword n ok h = let p = and_parts (nat_le 1 n) (nat_le n 255) h in letters_text 1 255 127 n (omega arith) (leb-true 1 n p.0) (leb-true n 255 p.1)
filled_legal tags.Uri n ok h = letters_text 0 1023 127 n (omega arith) (omega arith) (leb-true n 1023 h)
filled_legal tags.UriScheme n ok h = letters_text 0 63 127 n (omega arith) (omega arith) (leb-true n 63 h)
filled_legal tags.Charset n ok h = letters_text 0 63 127 n (omega arith) (omega arith) (leb-true n 63 h)
filled_legal tags.NaturalLanguage n ok h = letters_text 0 63 127 n (omega arith) (omega arith) (leb-true n 63 h)
filled_legal tags.MimeMediaType n ok h = letters_text 0 255 127 n (omega arith) (omega arith) (leb-true n 255 h)
filled_legal tags.MemberName n ok h = let p = and_parts (nat_le 1 n) (nat_le n 255) h in letters_text 1 255 127 n (omega arith) (leb-true 1 n p.0) (leb-true n 255 p.1)
filled_legal (tags.Opaque tag) n ok h = (ok.0, ok.1, omega (arith, letters_length n, leb-true n 32767 h))

localized_sum : (most n : ℕ) → 4 ≤ n → length (counted (letters (language_length most n)) ++ counted (letters (text_length_of most n))) ≡ n
localized_sum most n some =
    let l = letters (language_length most n) in
    let t = letters (text_length_of most n) in
    let a : length (counted l) ≡ 2 + length l = length-append (to_be_bytes w16 (length l)) l in
    let b : length (counted t) ≡ 2 + length t = length-append (to_be_bytes w16 (length t)) t in
    omega (arith, some, a, b, letters_length (language_length most n), letters_length (text_length_of most n), length-append (counted l) (counted t))

pub filled_length : (tag : ValueTag) (n : ℕ) → is_length tag n ≡ true → length (octets_of (filled tag n)) ≡ n
filled_length tags.Unsupported n h = sym (eqb-true n 0 h)
filled_length tags.Unknown n h = sym (eqb-true n 0 h)
filled_length tags.NoValue n h = sym (eqb-true n 0 h)
filled_length tags.Integer n h = sym (eqb-true n 4 h)
filled_length tags.Boolean n h = sym (eqb-true n 1 h)
filled_length tags.Enum n h = sym (eqb-true n 4 h)
filled_length tags.OctetString n h = letters_length n
filled_length tags.DateTime n h = sym (eqb-true n 11 h)
filled_length tags.Resolution n h = sym (eqb-true n 9 h)
filled_length tags.RangeOfInteger n h = sym (eqb-true n 8 h)
filled_length tags.BeginCollection n h = sym (eqb-true n 0 h)
filled_length tags.TextWithLanguage n h = localized_sum 1023 n (leb-true 4 n (and_parts (nat_le 4 n) (nat_le n 1090) h).0)
filled_length tags.NameWithLanguage n h = localized_sum 255 n (leb-true 4 n (and_parts (nat_le 4 n) (nat_le n 322) h).0)
filled_length tags.EndCollection n h = sym (eqb-true n 0 h)
filled_length tags.Text n h = letters_length n
filled_length tags.Name n h = letters_length n
filled_length tags.Keyword n h = letters_length n
filled_length tags.Uri n h = letters_length n
filled_length tags.UriScheme n h = letters_length n
filled_length tags.Charset n h = letters_length n
filled_length tags.NaturalLanguage n h = letters_length n
filled_length tags.MimeMediaType n h = letters_length n
filled_length tags.MemberName n h = letters_length n
filled_length (tags.Opaque tag) n h = letters_length n

-- The least length.
abbrev pub least_of : ValueTag → ℕ
least_of tags.Unsupported = 0
least_of tags.Unknown = 0
least_of tags.NoValue = 0
least_of tags.Integer = 4
least_of tags.Boolean = 1
least_of tags.Enum = 4
least_of tags.OctetString = 0
least_of tags.DateTime = 11
least_of tags.Resolution = 9
least_of tags.RangeOfInteger = 8
least_of tags.BeginCollection = 0
least_of tags.TextWithLanguage = 4
least_of tags.NameWithLanguage = 4
least_of tags.EndCollection = 0
least_of tags.Text = 0
least_of tags.Name = 0
least_of tags.Keyword = 1
least_of tags.Uri = 0
least_of tags.UriScheme = 0
least_of tags.Charset = 0
least_of tags.NaturalLanguage = 0
least_of tags.MimeMediaType = 0
least_of tags.MemberName = 1
least_of (tags.Opaque tag) = 0

pub least_is : (tag : ValueTag) → (is_length tag (least_of tag) ≡ true) × (least_of tag < 256)
least_is tags.Unsupported = (refl, omega arith)
least_is tags.Unknown = (refl, omega arith)
least_is tags.NoValue = (refl, omega arith)
least_is tags.Integer = (refl, omega arith)
least_is tags.Boolean = (refl, omega arith)
least_is tags.Enum = (refl, omega arith)
least_is tags.OctetString = (refl, omega arith)
least_is tags.DateTime = (refl, omega arith)
least_is tags.Resolution = (refl, omega arith)
least_is tags.RangeOfInteger = (refl, omega arith)
least_is tags.BeginCollection = (refl, omega arith)
least_is tags.TextWithLanguage = (refl, omega arith)
least_is tags.NameWithLanguage = (refl, omega arith)
least_is tags.EndCollection = (refl, omega arith)
least_is tags.Text = (refl, omega arith)
least_is tags.Name = (refl, omega arith)
least_is tags.Keyword = (refl, omega arith)
least_is tags.Uri = (refl, omega arith)
least_is tags.UriScheme = (refl, omega arith)
least_is tags.Charset = (refl, omega arith)
least_is tags.NaturalLanguage = (refl, omega arith)
least_is tags.MimeMediaType = (refl, omega arith)
least_is tags.MemberName = (refl, omega arith)
least_is (tags.Opaque tag) = (refl, omega arith)
