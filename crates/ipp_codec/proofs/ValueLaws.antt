-- The octets of a value that is read are those of the value, and the octets of a value are read as this value.
use Rattle.std.proofs.Common.{◌≡◌, ℕ, ◌+◌, ◌*◌, ◌^◌, ◌<◌, ◌≤◌, ◌||◌, true, false, cond, eqb, List, [], ◌∷◌, ◌++◌, length, get_or, Result, Ok, Err, refl, sym, ap, subst, ◌∙◌, arith}
use Rattle.std.specs.Prelude.{nat_le}
use Rattle.std.specs.Int.{w16, to_be_bytes}
use Rattle.std.proofs.lemmas.Bool.{and_from, eqb-true, eqb-false, leb-true, le-leb}
use Rattle.std.proofs.lemmas.List.{length-append, append-nil}
use Rattle.ipp_values.specs.declared.tags.ValueTag.{ValueTag}
use Rattle.ipp_values.specs.declared.tags.ValueTag.TheVariants as tags
use Rattle.ipp_values.specs.declared.value.Value.{Value}
use Rattle.ipp_values.specs.declared.value.Value.TheVariants as value
use Rattle.ipp_values.specs.ValueTexts.{tag_of}
use Rattle.ipp_codec.specs.declared.fault.DecodeFault.{DecodeFault}
use Rattle.ipp_codec.specs.declared.fault.DecodeFault.TheVariants.{NeedMore, Length, Boolean}
use Rattle.ipp_codec.specs.Octets.{counted, integer_octets, is_length, may_begin, octets_of, IsDate, IsText, IsValue}
use Rattle.ipp_codec.specs.Reading.{boolean_of, checked, counted_at, date_of, first_passes, integer_of, localized_of, number_at, part_at, range_of, resolution_of, text_of, value_at, value_of}
use Rattle.ipp_codec.specs.ReadSteps.{◌>>=◌}
use Rattle.ipp_codec.proofs.Fields.{IsBytes, IsBytes-take, IsBytes-drop, bind_ok, done, ok_as, Takes, ◌⨾◌, Reads, got, again-step, part_takes, part_again, wide16, reads_16, checked_ok, checked_again}
use Rattle.ipp_codec.proofs.TextLaws.{IsTag, and_parts, text_takes, text_again, text_length, text_some, integer_takes, integer_again}

-- ---- numbers of a value

int_pair : (a b c d e f g h : ℕ) → IsBytes (a ∷ b ∷ c ∷ d ∷ e ∷ f ∷ g ∷ h ∷ []) → IsBytes (a ∷ b ∷ c ∷ d ∷ []) × IsBytes (e ∷ f ∷ g ∷ h ∷ [])
int_pair a b c d e f g h fits = (IsBytes-take 4 (a ∷ b ∷ c ∷ d ∷ e ∷ f ∷ g ∷ h ∷ []) fits, IsBytes-drop 4 (a ∷ b ∷ c ∷ d ∷ e ∷ f ∷ g ∷ h ∷ []) fits)

range_takes : (octets : List ℕ) → length octets ≡ 8 → IsBytes octets → (octets_of (value.RangeOfInteger (range_of octets)) ≡ octets) × IsValue (value.RangeOfInteger (range_of octets))
range_takes (a ∷ b ∷ c ∷ d ∷ e ∷ f ∷ g ∷ h ∷ []) len fits =
    let both = int_pair a b c d e f g h fits in
    let x = integer_takes (a ∷ b ∷ c ∷ d ∷ []) refl both.0 in
    let y = integer_takes (e ∷ f ∷ g ∷ h ∷ []) refl both.1 in
    (ap (λ (l : List ℕ). l ++ integer_octets (integer_of (e ∷ f ∷ g ∷ h ∷ []))) x.0 ∙ ap (λ (l : List ℕ). (a ∷ b ∷ c ∷ d ∷ []) ++ l) y.0, (x.1, y.1))
range_takes _ len fits = absurd (omega (arith, len))

resolution_takes : (octets : List ℕ) → length octets ≡ 9 → IsBytes octets → (octets_of (value.Resolution (resolution_of octets)) ≡ octets) × IsValue (value.Resolution (resolution_of octets))
resolution_takes (a ∷ b ∷ c ∷ d ∷ e ∷ f ∷ g ∷ h ∷ u ∷ []) len fits =
    let x = integer_takes (a ∷ b ∷ c ∷ d ∷ []) refl (IsBytes-take 4 (a ∷ b ∷ c ∷ d ∷ e ∷ f ∷ g ∷ h ∷ u ∷ []) fits) in
    let y = integer_takes (e ∷ f ∷ g ∷ h ∷ []) refl (IsBytes-take 4 (e ∷ f ∷ g ∷ h ∷ u ∷ []) (IsBytes-drop 4 (a ∷ b ∷ c ∷ d ∷ e ∷ f ∷ g ∷ h ∷ u ∷ []) fits)) in
    (ap (λ (l : List ℕ). l ++ integer_octets (integer_of (e ∷ f ∷ g ∷ h ∷ [])) ++ u ∷ []) x.0 ∙ ap (λ (l : List ℕ). (a ∷ b ∷ c ∷ d ∷ []) ++ l ++ u ∷ []) y.0, (x.1, y.1, fits 8))
resolution_takes _ len fits = absurd (omega (arith, len))

date_takes : (octets : List ℕ) → length octets ≡ 11 → IsBytes octets → (octets_of (value.DateTime (date_of octets)) ≡ octets) × IsDate (date_of octets)
date_takes (a ∷ b ∷ c ∷ d ∷ e ∷ f ∷ g ∷ h ∷ i ∷ j ∷ k ∷ []) len fits =
    let pair : IsBytes (a ∷ b ∷ []) = IsBytes-take 2 (a ∷ b ∷ c ∷ d ∷ e ∷ f ∷ g ∷ h ∷ i ∷ j ∷ k ∷ []) fits in (
      ap (λ (l : List ℕ). l ++ c ∷ d ∷ e ∷ f ∷ g ∷ h ∷ i ∷ j ∷ k ∷ []) (wide16.back (a ∷ b ∷ []) refl pair),
      (record { year = wide16.below (a ∷ b ∷ []) pair; month = fits 2; day = fits 3; hour = fits 4; minute = fits 5 }, record { second = fits 6; deciseconds = fits 7; utc_direction = fits 8; utc_hours = fits 9; utc_minutes = fits 10 }),
    )
date_takes _ len fits = absurd (omega (arith, len))

no_octets : (octets : List ℕ) → eqb (length octets) 0 ≡ true → [] ≡ octets
no_octets [] len = refl
no_octets (b ∷ octets) len = absurd (omega (arith, eqb-true _ _ len))

-- ---- a value

-- What is read with a tag.
pub record IsRead (tag : ValueTag) (octets : List ℕ) (v : Value) : Type 0 where
  pub same : octets_of v ≡ octets
  pub tagged : tag_of v ≡ tag
  pub legal : IsValue v

empty_takes : (tag : ValueTag) (made v : Value) (octets : List ℕ) → tag_of made ≡ tag → octets_of made ≡ [] → IsValue made → eqb (length octets) 0 ≡ true → done made ≡ done v → IsRead tag octets v
empty_takes tag made v octets tagged none legal len e =
    ok_as (λ (x : Value). IsRead tag octets x) made v e (record { same = none ∙ no_octets octets len; tagged = tagged; legal = legal })

plain_takes : (tag : ValueTag) (made v : Value) (octets : List ℕ) → tag_of made ≡ tag → octets_of made ≡ octets → IsValue made → done made ≡ done v → IsRead tag octets v
plain_takes tag made v octets tagged same legal e =
    ok_as (λ (x : Value). IsRead tag octets x) made v e (record { same = same; tagged = tagged; legal = legal })

string_takes : (tag : ValueTag) (make : List ℕ → Value) (least most highest : ℕ) (octets : List ℕ) (v : Value) → ((t : List ℕ) → tag_of (make t) ≡ tag) → ((t : List ℕ) → octets_of (make t) ≡ t) → ((t : List ℕ) → IsText least most highest t → IsValue (make t))
    → (text_of least most highest octets >>= λ t. Ok (make t)) ≡ Ok v → IsRead tag octets v
string_takes tag make least most highest octets v tagged same legal e =
    let s = bind_ok (text_of least most highest octets) (λ t. Ok (make t)) v e in
    let t = text_takes least most highest octets s.value s.was in
    plain_takes tag (make s.value) v octets (tagged s.value) (same s.value ∙ sym t.0) (legal s.value t.1) s.then

boolean_takes : (octets : List ℕ) (v : Value) → length octets ≡ 1 → (boolean_of (get_or octets 0 0) >>= λ flag. Ok (value.Boolean flag)) ≡ Ok v → IsRead tags.Boolean octets v
unfolding boolean_of
boolean_takes (b ∷ []) v len e =
    (elim (eqb b 0) as (λ t. eqb b 0 ≡ t → (cond t (Ok false) (cond (eqb b 1) (Ok true) (Err Boolean)) >>= λ flag. Ok (value.Boolean flag)) ≡ Ok v → IsRead tags.Boolean (b ∷ []) v) [
      | true ↦ λ is same. plain_takes tags.Boolean (value.Boolean false) v (b ∷ []) refl (ap (λ n. n ∷ []) (sym (eqb-true b 0 is))) tt same
      | false ↦ λ other. (elim (eqb b 1) as (λ t. eqb b 1 ≡ t → (cond t (Ok true) (Err Boolean) >>= λ flag. Ok (value.Boolean flag)) ≡ Ok v → IsRead tags.Boolean (b ∷ []) v) [
        | true ↦ λ is same. plain_takes tags.Boolean (value.Boolean true) v (b ∷ []) refl (ap (λ n. n ∷ []) (sym (eqb-true b 1 is))) tt same
        | false ↦ λ is same. absurd cc
      ]) refl
    ]) refl e
boolean_takes [] v len e = absurd (omega (arith, len))
boolean_takes (b ∷ c ∷ octets) v len e = absurd (omega (arith, len))

-- ---- a text with its language

counted_takes : (bytes text rest : List ℕ) → IsBytes bytes → counted_at bytes ≡ Ok (text, rest) → Takes bytes (counted text) rest × (length text < 2 ^ 16)
unfolding counted_at
counted_takes bytes text rest fits e =
    let n = got (number_at Length w16) (to_be_bytes w16) (λ n. n < 2 ^ 16) (reads_16 Length) bytes (λ n. part_at Length n.0 n.1) (text, rest) fits e in
    let p = part_takes Length n.value n.rest text rest n.taken.rest_fits n.then in
    let both : Takes bytes (to_be_bytes w16 n.value ++ text) rest = n.taken ⨾ p.taken in
    (subst (λ (k : ℕ). Takes bytes (to_be_bytes w16 k ++ text) rest) (sym p.len) both, subst (λ (k : ℕ). k < 2 ^ 16) (sym p.len) n.legal)

counted_again : (text rest : List ℕ) → length text < 2 ^ 16 → counted_at (counted text ++ rest) ≡ Ok (text, rest)
unfolding counted_at
counted_again text rest short =
    again-step (number_at Length w16) (to_be_bytes w16) (λ n. n < 2 ^ 16) (reads_16 Length) (length text) text rest (λ n. part_at Length n.0 n.1) (Ok (text, rest)) short (part_again Length text rest (length text) refl)

reads_counted : Reads counted_at counted (λ text. length text < 2 ^ 16)
reads_counted = record { takes = counted_takes; again = counted_again }

pub record IsLocalized (most : ℕ) (octets language text : List ℕ) : Type 0 where
  pub same : counted language ++ counted text ≡ octets
  pub first : IsText 0 63 127 language
  pub second : IsText 0 most 255 text

localized_takes : (most : ℕ) (octets language text : List ℕ) → IsBytes octets → localized_of most octets ≡ Ok (language, text) → IsLocalized most octets language text
unfolding localized_of
localized_takes most octets language text fits e =
    let l = got counted_at counted (λ t. length t < 2 ^ 16) reads_counted octets (λ language. counted_at language.1 >>= λ text. checked {A = ℕ} Length (eqb (length text.1) 0) 0 >>= λ ended. text_of 0 63 127 language.0 >>= λ tested. text_of 0 most 255 text.0 >>= λ shown. Ok (tested, shown)) (language, text) fits e in
    let t = got counted_at counted (λ t. length t < 2 ^ 16) reads_counted l.rest (λ text. checked {A = ℕ} Length (eqb (length text.1) 0) 0 >>= λ ended. text_of 0 63 127 l.value >>= λ tested. text_of 0 most 255 text.0 >>= λ shown. Ok (tested, shown)) (language, text) l.taken.rest_fits l.then in
    let c = bind_ok (checked {A = ℕ} Length (eqb (length t.rest) 0) 0) (λ ended. text_of 0 63 127 l.value >>= λ tested. text_of 0 most 255 t.value >>= λ shown. Ok (tested, shown)) (language, text) t.then in
    let z = checked_ok Length (eqb (length t.rest) 0) 0 c.value c.was in
    let a = bind_ok (text_of 0 63 127 l.value) (λ tested. text_of 0 most 255 t.value >>= λ shown. Ok (tested, shown)) (language, text) c.then in
    let b = bind_ok (text_of 0 most 255 t.value) (λ shown. Ok (a.value, shown)) (language, text) a.then in
    let x = text_takes 0 63 127 l.value a.value a.was in
    let y = text_takes 0 most 255 t.value b.value b.was in
    let both : Takes octets (counted l.value ++ counted t.value) t.rest = l.taken ⨾ t.taken in
    let whole : octets ≡ counted l.value ++ counted t.value = both.parts ∙ ap (λ (r : List ℕ). (counted l.value ++ counted t.value) ++ r) (sym (no_octets t.rest z.0)) ∙ append-nil (counted l.value ++ counted t.value) in
    ok_as (λ (p : List ℕ × List ℕ). IsLocalized most octets p.0 p.1) (a.value, b.value) (language, text) b.then
    (record { same = ap (λ (t : List ℕ). counted t ++ counted b.value) (sym x.0) ∙ ap (λ (t : List ℕ). counted l.value ++ counted t) (sym y.0) ∙ sym whole; first = x.1; second = y.1 })

short_of : (most n : ℕ) → most ≤ 32767 → nat_le n most ≡ true → n < 2 ^ 16
short_of most n small h = let le = leb-true n most h in omega (arith, le, small)

localized_again : (most : ℕ) (language text : List ℕ) → most ≤ 32767 → IsText 0 63 127 language → IsText 0 most 255 text → localized_of most (counted language ++ counted text) ≡ Ok (language, text)
unfolding localized_of
localized_again most language text small h k =
    let rest : List ℕ → Result (List ℕ × List ℕ) DecodeFault = λ r. checked {A = ℕ} Length (eqb (length r) 0) 0 >>= λ ended. text_of 0 63 127 language >>= λ tested. text_of 0 most 255 text >>= λ shown. Ok (tested, shown) in
    let next : List ℕ × List ℕ → Result (List ℕ × List ℕ) DecodeFault = λ l. counted_at l.1 >>= λ t. checked {A = ℕ} Length (eqb (length t.1) 0) 0 >>= λ ended. text_of 0 63 127 l.0 >>= λ tested. text_of 0 most 255 t.0 >>= λ shown. Ok (tested, shown) in
    let last : next (language, counted text) ≡ Ok (language, text) =
    ap (λ (o : List ℕ). next (language, o)) (sym (append-nil (counted text)))
    ∙ ap (λ r. r >>= λ t. checked {A = ℕ} Length (eqb (length t.1) 0) 0 >>= λ ended. text_of 0 63 127 language >>= λ tested. text_of 0 most 255 t.0 >>= λ shown. Ok (tested, shown)) (counted_again text [] (short_of most (length text) small (text_length 0 most 255 text k)))
    ∙ ap (λ r. r >>= λ ended. text_of 0 63 127 language >>= λ tested. text_of 0 most 255 text >>= λ shown. Ok (tested, shown)) (checked_again Length true 0 refl)
    ∙ ap (λ r. r >>= λ tested. text_of 0 most 255 text >>= λ shown. Ok (tested, shown)) (text_again 0 63 127 language h)
    ∙ ap (λ r. r >>= λ shown. Ok (language, shown)) (text_again 0 most 255 text k) in
    ap (λ r. r >>= next) (counted_again language (counted text) (short_of 63 (length language) (omega arith) (text_length 0 63 127 language h))) ∙ last

localized_length : (most total : ℕ) (language text : List ℕ) → most + 67 ≤ total → IsText 0 63 127 language → IsText 0 most 255 text → nat_le (length (counted language ++ counted text)) total ≡ true
localized_length most total language text room h k =
    let a = leb-true (length language) 63 (text_length 0 63 127 language h) in
    let b = leb-true (length text) most (text_length 0 most 255 text k) in
    let c : length (counted language) ≡ 2 + length language = length-append (to_be_bytes w16 (length language)) language in
    let d : length (counted text) ≡ 2 + length text = length-append (to_be_bytes w16 (length text)) text in
    le-leb _ _ (omega (arith, a, b, c, d, room, length-append (counted language) (counted text)))

localized_least : (language text : List ℕ) → nat_le 4 (length (counted language ++ counted text)) ≡ true
localized_least language text =
    let c : length (counted language) ≡ 2 + length language = length-append (to_be_bytes w16 (length language)) language in
    let d : length (counted text) ≡ 2 + length text = length-append (to_be_bytes w16 (length text)) text in
    le-leb _ _ (omega (arith, c, d, length-append (counted language) (counted text)))

-- ---- every tag

pub value_takes : (tag : ValueTag) (octets : List ℕ) (v : Value) → IsTag tag → IsBytes octets → is_length tag (length octets) ≡ true → value_of tag octets ≡ Ok v → IsRead tag octets v
unfolding value_of
value_takes tags.Unsupported octets v ok fits len e = empty_takes tags.Unsupported value.Unsupported v octets refl refl tt len e
value_takes tags.Unknown octets v ok fits len e = empty_takes tags.Unknown value.Unknown v octets refl refl tt len e
value_takes tags.NoValue octets v ok fits len e = empty_takes tags.NoValue value.NoValue v octets refl refl tt len e
value_takes tags.Integer octets v ok fits len e = let i = integer_takes octets (eqb-true _ _ len) fits in plain_takes tags.Integer (value.Integer (integer_of octets)) v octets refl i.0 i.1 e
value_takes tags.Boolean octets v ok fits len e = boolean_takes octets v (eqb-true _ _ len) e
value_takes tags.Enum octets v ok fits len e = let i = integer_takes octets (eqb-true _ _ len) fits in plain_takes tags.Enum (value.Enum (integer_of octets)) v octets refl i.0 i.1 e
value_takes tags.OctetString octets v ok fits len e = plain_takes tags.OctetString (value.OctetString octets) v octets refl refl (leb-true _ _ len) e
value_takes tags.DateTime octets v ok fits len e = let d = date_takes octets (eqb-true _ _ len) fits in plain_takes tags.DateTime (value.DateTime (date_of octets)) v octets refl d.0 d.1 e
value_takes tags.Resolution octets v ok fits len e = let d = resolution_takes octets (eqb-true _ _ len) fits in plain_takes tags.Resolution (value.Resolution (resolution_of octets)) v octets refl d.0 d.1 e
value_takes tags.RangeOfInteger octets v ok fits len e = let d = range_takes octets (eqb-true _ _ len) fits in plain_takes tags.RangeOfInteger (value.RangeOfInteger (range_of octets)) v octets refl d.0 d.1 e
value_takes tags.BeginCollection octets v ok fits len e = empty_takes tags.BeginCollection value.BeginCollection v octets refl refl tt len e
value_takes tags.TextWithLanguage octets v ok fits len e =
    let s = bind_ok (localized_of 1023 octets) (λ both. Ok (value.TextWithLanguage (record { language = both.0; text = both.1 }))) v e in
    let l = localized_takes 1023 octets s.value.0 s.value.1 fits s.was in
    plain_takes tags.TextWithLanguage (value.TextWithLanguage (record { language = s.value.0; text = s.value.1 })) v octets refl l.same (l.first, l.second) s.then
value_takes tags.NameWithLanguage octets v ok fits len e =
    let s = bind_ok (localized_of 255 octets) (λ both. Ok (value.NameWithLanguage (record { language = both.0; name = both.1 }))) v e in
    let l = localized_takes 255 octets s.value.0 s.value.1 fits s.was in
    plain_takes tags.NameWithLanguage (value.NameWithLanguage (record { language = s.value.0; name = s.value.1 })) v octets refl l.same (l.first, l.second) s.then
value_takes tags.EndCollection octets v ok fits len e = empty_takes tags.EndCollection value.EndCollection v octets refl refl tt len e
value_takes tags.Text octets v ok fits len e = string_takes tags.Text value.Text 0 1023 255 octets v (λ t. refl) (λ t. refl) (λ t h. h) e
value_takes tags.Name octets v ok fits len e = string_takes tags.Name value.Name 0 255 255 octets v (λ t. refl) (λ t. refl) (λ t h. h) e
value_takes tags.Keyword octets v ok fits len e = string_takes tags.Keyword value.Keyword 1 255 127 octets v (λ t. refl) (λ t. refl) (λ t h. h) e
value_takes tags.Uri octets v ok fits len e = string_takes tags.Uri value.Uri 0 1023 127 octets v (λ t. refl) (λ t. refl) (λ t h. h) e
value_takes tags.UriScheme octets v ok fits len e = string_takes tags.UriScheme value.UriScheme 0 63 127 octets v (λ t. refl) (λ t. refl) (λ t h. h) e
value_takes tags.Charset octets v ok fits len e = string_takes tags.Charset value.Charset 0 63 127 octets v (λ t. refl) (λ t. refl) (λ t h. h) e
value_takes tags.NaturalLanguage octets v ok fits len e = string_takes tags.NaturalLanguage value.NaturalLanguage 0 63 127 octets v (λ t. refl) (λ t. refl) (λ t h. h) e
value_takes tags.MimeMediaType octets v ok fits len e = string_takes tags.MimeMediaType value.MimeMediaType 0 255 127 octets v (λ t. refl) (λ t. refl) (λ t h. h) e
value_takes tags.MemberName octets v ok fits len e = string_takes tags.MemberName value.MemberName 1 255 127 octets v (λ t. refl) (λ t. refl) (λ t h. h) e
value_takes (tags.Opaque n) octets v ok fits len e = plain_takes (tags.Opaque n) (value.Opaque (record { tag = n; octets = octets })) v octets refl refl (ok.0, ok.1, leb-true _ _ len) e

pub value_again : (v : Value) → IsValue v → value_of (tag_of v) (octets_of v) ≡ Ok v
unfolding value_of boolean_of
value_again value.Unsupported h = refl
value_again value.Unknown h = refl
value_again value.NoValue h = refl
value_again (value.Integer z) h = ap (λ z. Ok (value.Integer z)) (integer_again z h)
value_again (value.Boolean true) h = refl
value_again (value.Boolean false) h = refl
value_again (value.Enum z) h = ap (λ z. Ok (value.Enum z)) (integer_again z h)
value_again (value.OctetString o) h = refl
value_again (value.DateTime d) h = ap (λ n. Ok (value.DateTime (record d { year = n }))) (wide16.again d.year h.0.year)
value_again (value.Resolution r) h = ap (λ n. Ok (value.Resolution (record r { cross_feed = n; feed = integer_of (integer_octets r.feed) }))) (integer_again r.cross_feed h.0) ∙ ap (λ n. Ok (value.Resolution (record r { feed = n }))) (integer_again r.feed h.1)
value_again (value.RangeOfInteger r) h = ap (λ n. Ok (value.RangeOfInteger (record { lower = n; upper = integer_of (integer_octets r.upper) }))) (integer_again r.lower h.0) ∙ ap (λ n. Ok (value.RangeOfInteger (record r { upper = n }))) (integer_again r.upper h.1)
value_again value.BeginCollection h = refl
value_again (value.TextWithLanguage v) h = ap (λ r. r >>= λ both. Ok (value.TextWithLanguage (record { language = both.0; text = both.1 }))) (localized_again 1023 v.language v.text (omega arith) h.0 h.1)
value_again (value.NameWithLanguage v) h = ap (λ r. r >>= λ both. Ok (value.NameWithLanguage (record { language = both.0; name = both.1 }))) (localized_again 255 v.language v.name (omega arith) h.0 h.1)
value_again value.EndCollection h = refl
value_again (value.Text t) h = ap (λ r. r >>= λ t. Ok (value.Text t)) (text_again 0 1023 255 t h)
value_again (value.Name t) h = ap (λ r. r >>= λ t. Ok (value.Name t)) (text_again 0 255 255 t h)
value_again (value.Keyword t) h = ap (λ r. r >>= λ t. Ok (value.Keyword t)) (text_again 1 255 127 t h)
value_again (value.Uri t) h = ap (λ r. r >>= λ t. Ok (value.Uri t)) (text_again 0 1023 127 t h)
value_again (value.UriScheme t) h = ap (λ r. r >>= λ t. Ok (value.UriScheme t)) (text_again 0 63 127 t h)
value_again (value.Charset t) h = ap (λ r. r >>= λ t. Ok (value.Charset t)) (text_again 0 63 127 t h)
value_again (value.NaturalLanguage t) h = ap (λ r. r >>= λ t. Ok (value.NaturalLanguage t)) (text_again 0 63 127 t h)
value_again (value.MimeMediaType t) h = ap (λ r. r >>= λ t. Ok (value.MimeMediaType t)) (text_again 0 255 127 t h)
value_again (value.MemberName t) h = ap (λ r. r >>= λ t. Ok (value.MemberName t)) (text_again 1 255 127 t h)
value_again (value.Opaque v) h = refl

pub value_length : (v : Value) → IsValue v → is_length (tag_of v) (length (octets_of v)) ≡ true
value_length value.Unsupported h = refl
value_length value.Unknown h = refl
value_length value.NoValue h = refl
value_length (value.Integer x) h = refl
value_length (value.Boolean x) h = refl
value_length (value.Enum x) h = refl
value_length (value.OctetString o) h = le-leb _ _ h
value_length (value.DateTime x) h = refl
value_length (value.Resolution x) h = refl
value_length (value.RangeOfInteger x) h = refl
value_length value.BeginCollection h = refl
value_length (value.TextWithLanguage v) h = and_from _ _ (localized_least v.language v.text) (localized_length 1023 1090 v.language v.text (omega arith) h.0 h.1)
value_length (value.NameWithLanguage v) h = and_from _ _ (localized_least v.language v.name) (localized_length 255 322 v.language v.name (omega arith) h.0 h.1)
value_length value.EndCollection h = refl
value_length (value.Text t) h = text_length 0 1023 255 t h
value_length (value.Name t) h = text_length 0 255 255 t h
value_length (value.Keyword t) h = and_from _ _ (text_some 1 255 127 t h) (text_length 1 255 127 t h)
value_length (value.Uri t) h = text_length 0 1023 127 t h
value_length (value.UriScheme t) h = text_length 0 63 127 t h
value_length (value.Charset t) h = text_length 0 63 127 t h
value_length (value.NaturalLanguage t) h = text_length 0 63 127 t h
value_length (value.MimeMediaType t) h = text_length 0 255 127 t h
value_length (value.MemberName t) h = and_from _ _ (text_some 1 255 127 t h) (text_length 1 255 127 t h)
value_length (value.Opaque v) h = le-leb _ _ h.2

-- No value has more octets than its length can say.
pub long_is : (tag : ValueTag) (n : ℕ) → is_length tag n ≡ true → n ≤ 32767
long_is tags.Unsupported n h = omega (arith, eqb-true n 0 h)
long_is tags.Unknown n h = omega (arith, eqb-true n 0 h)
long_is tags.NoValue n h = omega (arith, eqb-true n 0 h)
long_is tags.Integer n h = omega (arith, eqb-true n 4 h)
long_is tags.Boolean n h = omega (arith, eqb-true n 1 h)
long_is tags.Enum n h = omega (arith, eqb-true n 4 h)
long_is tags.OctetString n h = omega (arith, leb-true n 1023 h)
long_is tags.DateTime n h = omega (arith, eqb-true n 11 h)
long_is tags.Resolution n h = omega (arith, eqb-true n 9 h)
long_is tags.RangeOfInteger n h = omega (arith, eqb-true n 8 h)
long_is tags.BeginCollection n h = omega (arith, eqb-true n 0 h)
long_is tags.TextWithLanguage n h = omega (arith, leb-true n 1090 (and_parts _ _ h).1)
long_is tags.NameWithLanguage n h = omega (arith, leb-true n 322 (and_parts _ _ h).1)
long_is tags.EndCollection n h = omega (arith, eqb-true n 0 h)
long_is tags.Text n h = omega (arith, leb-true n 1023 h)
long_is tags.Name n h = omega (arith, leb-true n 255 h)
long_is tags.Keyword n h = omega (arith, leb-true n 255 (and_parts _ _ h).1)
long_is tags.Uri n h = omega (arith, leb-true n 1023 h)
long_is tags.UriScheme n h = omega (arith, leb-true n 63 h)
long_is tags.Charset n h = omega (arith, leb-true n 63 h)
long_is tags.NaturalLanguage n h = omega (arith, leb-true n 63 h)
long_is tags.MimeMediaType n h = omega (arith, leb-true n 255 h)
long_is tags.MemberName n h = omega (arith, leb-true n 255 (and_parts _ _ h).1)
long_is (tags.Opaque t) n h = omega (arith, leb-true n 32767 h)

-- A length of two octets that are not both 0 may be less, as long as its first octet is not 0.
pub length_down : (tag : ValueTag) (n m : ℕ) → is_length tag n ≡ true → 256 ≤ m → m ≤ n → is_length tag m ≡ true
length_down tags.Unsupported n m h great le = absurd (omega (arith, eqb-true n 0 h, great, le))
length_down tags.Unknown n m h great le = absurd (omega (arith, eqb-true n 0 h, great, le))
length_down tags.NoValue n m h great le = absurd (omega (arith, eqb-true n 0 h, great, le))
length_down tags.Integer n m h great le = absurd (omega (arith, eqb-true n 4 h, great, le))
length_down tags.Boolean n m h great le = absurd (omega (arith, eqb-true n 1 h, great, le))
length_down tags.Enum n m h great le = absurd (omega (arith, eqb-true n 4 h, great, le))
length_down tags.OctetString n m h great le = le-leb m 1023 (omega (arith, leb-true n 1023 h, le))
length_down tags.DateTime n m h great le = absurd (omega (arith, eqb-true n 11 h, great, le))
length_down tags.Resolution n m h great le = absurd (omega (arith, eqb-true n 9 h, great, le))
length_down tags.RangeOfInteger n m h great le = absurd (omega (arith, eqb-true n 8 h, great, le))
length_down tags.BeginCollection n m h great le = absurd (omega (arith, eqb-true n 0 h, great, le))
length_down tags.TextWithLanguage n m h great le = and_from (nat_le 4 m) (nat_le m 1090) (le-leb 4 m (omega (arith, great))) (le-leb m 1090 (omega (arith, leb-true n 1090 (and_parts (nat_le 4 n) (nat_le n 1090) h).1, le)))
length_down tags.NameWithLanguage n m h great le = and_from (nat_le 4 m) (nat_le m 322) (le-leb 4 m (omega (arith, great))) (le-leb m 322 (omega (arith, leb-true n 322 (and_parts (nat_le 4 n) (nat_le n 322) h).1, le)))
length_down tags.EndCollection n m h great le = absurd (omega (arith, eqb-true n 0 h, great, le))
length_down tags.Text n m h great le = le-leb m 1023 (omega (arith, leb-true n 1023 h, le))
length_down tags.Name n m h great le = absurd (omega (arith, leb-true n 255 h, great, le))
length_down tags.Keyword n m h great le = absurd (omega (arith, leb-true n 255 (and_parts (nat_le 1 n) (nat_le n 255) h).1, great, le))
length_down tags.Uri n m h great le = le-leb m 1023 (omega (arith, leb-true n 1023 h, le))
length_down tags.UriScheme n m h great le = absurd (omega (arith, leb-true n 63 h, great, le))
length_down tags.Charset n m h great le = absurd (omega (arith, leb-true n 63 h, great, le))
length_down tags.NaturalLanguage n m h great le = absurd (omega (arith, leb-true n 63 h, great, le))
length_down tags.MimeMediaType n m h great le = absurd (omega (arith, leb-true n 255 h, great, le))
length_down tags.MemberName n m h great le = absurd (omega (arith, leb-true n 255 (and_parts (nat_le 1 n) (nat_le n 255) h).1, great, le))
length_down (tags.Opaque t) n m h great le = le-leb m 32767 (omega (arith, leb-true n 32767 h, le))

-- The first octet of a length.
begins : (tag : ValueTag) (n high : ℕ) → is_length tag n ≡ true → high * 256 ≤ n → may_begin tag high ≡ true
begins tag n high h le =
    (elim (eqb high 0) as (λ b. eqb high 0 ≡ b → (b || is_length tag (high * 256)) ≡ true) [
      | true ↦ λ is. refl
      | false ↦ λ is. let some = eqb-false high 0 is in length_down tag n (high * 256) h (omega (arith, some)) le
    ]) refl

length_begins : (tag : ValueTag) (n : ℕ) (rest : List ℕ) → is_length tag n ≡ true → first_passes (may_begin tag) (to_be_bytes w16 n ++ rest) ≡ true
length_begins tag n rest h = begins tag n _ h (omega arith)

pub value_short : (v : Value) → IsValue v → length (octets_of v) < 2 ^ 16
value_short v h = omega (arith, long_is (tag_of v) (length (octets_of v)) (value_length v h))

pub value_tag : (v : Value) → IsValue v → IsTag (tag_of v)
value_tag value.Unsupported h = tt
value_tag value.Unknown h = tt
value_tag value.NoValue h = tt
value_tag (value.Integer x) h = tt
value_tag (value.Boolean x) h = tt
value_tag (value.Enum x) h = tt
value_tag (value.OctetString x) h = tt
value_tag (value.DateTime x) h = tt
value_tag (value.Resolution x) h = tt
value_tag (value.RangeOfInteger x) h = tt
value_tag value.BeginCollection h = tt
value_tag (value.TextWithLanguage x) h = tt
value_tag (value.NameWithLanguage x) h = tt
value_tag value.EndCollection h = tt
value_tag (value.Text x) h = tt
value_tag (value.Name x) h = tt
value_tag (value.Keyword x) h = tt
value_tag (value.Uri x) h = tt
value_tag (value.UriScheme x) h = tt
value_tag (value.Charset x) h = tt
value_tag (value.NaturalLanguage x) h = tt
value_tag (value.MimeMediaType x) h = tt
value_tag (value.MemberName x) h = tt
value_tag (value.Opaque v) h = (h.0, h.1)

-- ---- a value after its length

at_takes : (tag : ValueTag) → IsTag tag → (bytes : List ℕ) (v : Value) (rest : List ℕ) → IsBytes bytes → value_at tag bytes ≡ Ok (v, rest) → Takes bytes (counted (octets_of v)) rest × (IsValue v × (tag_of v ≡ tag))
unfolding value_at
at_takes tag ok bytes v rest fits e =
    let g = bind_ok (checked {A = ℕ} Length (first_passes (may_begin tag) bytes) 0) (λ begun. number_at NeedMore w16 bytes >>= λ n. checked Length (is_length tag n.0) n.0 >>= λ long. part_at NeedMore long n.1 >>= λ part. value_of tag part.0 >>= λ v. Ok (v, part.1)) (v, rest) e in
    let n = got (number_at NeedMore w16) (to_be_bytes w16) (λ n. n < 2 ^ 16) (reads_16 NeedMore) bytes (λ n. checked Length (is_length tag n.0) n.0 >>= λ long. part_at NeedMore long n.1 >>= λ part. value_of tag part.0 >>= λ v. Ok (v, part.1)) (v, rest) fits g.then in
    let c = bind_ok (checked Length (is_length tag n.value) n.value) (λ long. part_at NeedMore long n.rest >>= λ part. value_of tag part.0 >>= λ v. Ok (v, part.1)) (v, rest) n.then in
    let k = checked_ok Length (is_length tag n.value) n.value c.value c.was in
    let s = bind_ok (part_at NeedMore c.value n.rest) (λ part. value_of tag part.0 >>= λ v. Ok (v, part.1)) (v, rest) c.then in
    let p = part_takes NeedMore c.value n.rest s.value.0 s.value.1 n.taken.rest_fits s.was in
    let u = bind_ok (value_of tag s.value.0) (λ v. Ok (v, s.value.1)) (v, rest) s.then in
    let same : n.value ≡ length s.value.0 = k.1 ∙ sym p.len in
    let len : is_length tag (length s.value.0) ≡ true = ap (is_length tag) (sym same) ∙ k.0 in
    let part_fits : IsBytes s.value.0 = rw p.front (IsBytes-take c.value n.rest n.taken.rest_fits) in
    let r = value_takes tag s.value.0 u.value ok part_fits len u.was in
    let both : Takes bytes (to_be_bytes w16 n.value ++ s.value.0) s.value.1 = n.taken ⨾ p.taken in
    let sized : Takes bytes (counted s.value.0) s.value.1 = subst (λ (m : ℕ). Takes bytes (to_be_bytes w16 m ++ s.value.0) s.value.1) same both in
    let coded : Takes bytes (counted (octets_of u.value)) s.value.1 = subst (λ (o : List ℕ). Takes bytes (counted o) s.value.1) (sym r.same) sized in
    ok_as (λ (x : Value × List ℕ). Takes bytes (counted (octets_of x.0)) x.1 × (IsValue x.0 × (tag_of x.0 ≡ tag))) (u.value, s.value.1) (v, rest) u.then (coded, (r.legal, r.tagged))

own_again : (v : Value) (rest : List ℕ) → IsValue v → value_at (tag_of v) (counted (octets_of v) ++ rest) ≡ Ok (v, rest)
unfolding value_at
own_again v rest h =
    let tag = tag_of v in
    let o = octets_of v in
    ap (λ r. r >>= λ begun. number_at NeedMore w16 (counted o ++ rest) >>= λ n. checked Length (is_length tag n.0) n.0 >>= λ long. part_at NeedMore long n.1 >>= λ part. value_of tag part.0 >>= λ v. Ok (v, part.1)) (checked_again {A = ℕ} Length (first_passes (may_begin tag) (counted o ++ rest)) 0 (length_begins tag (length o) (o ++ rest) (value_length v h)))
    ∙ again-step (number_at NeedMore w16) (to_be_bytes w16) (λ n. n < 2 ^ 16) (reads_16 NeedMore) (length o) o rest (λ n. checked Length (is_length tag n.0) n.0 >>= λ long. part_at NeedMore long n.1 >>= λ part. value_of tag part.0 >>= λ v. Ok (v, part.1)) (Ok (v, rest)) (value_short v h)
    (ap (λ r. r >>= λ long. part_at NeedMore long (o ++ rest) >>= λ part. value_of tag part.0 >>= λ v. Ok (v, part.1)) (checked_again Length (is_length tag (length o)) (length o) (value_length v h))
    ∙ ap (λ r. r >>= λ part. value_of tag part.0 >>= λ v. Ok (v, part.1)) (part_again NeedMore o rest (length o) refl)
    ∙ ap (λ r. r >>= λ v. Ok (v, rest)) (value_again v h))

at_again : (tag : ValueTag) (v : Value) (rest : List ℕ) → IsValue v × (tag_of v ≡ tag) → value_at tag (counted (octets_of v) ++ rest) ≡ Ok (v, rest)
at_again tag v rest h = subst (λ (t : ValueTag). value_at t (counted (octets_of v) ++ rest) ≡ Ok (v, rest)) h.1 (own_again v rest h.0)

pub reads_value : (tag : ValueTag) → IsTag tag → Reads (value_at tag) (λ v. counted (octets_of v)) (λ v. IsValue v × (tag_of v ≡ tag))
reads_value tag ok = record { takes = at_takes tag ok; again = at_again tag }
