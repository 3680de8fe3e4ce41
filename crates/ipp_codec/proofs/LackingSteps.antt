-- Steps that lack octets, and steps that never do.
use Rattle.std.proofs.Common.{◌≡◌, ℕ, ◌+◌, ◌-◌, ◌<◌, Bool, true, false, cond, ltb, eqb, List, [], ◌∷◌, ◌&&◌, length, take, drop, get_or, Result, Ok, Err, refl, sym, ap, ◌∙◌, arith, inl, inr, ◌⊎◌}
use Rattle.std.specs.Int.{Width, w16, byte_len, from_be_bytes}
use Rattle.std.specs.Str.{is_utf8}
use Rattle.std.proofs.lemmas.Bool.{eqb-false, ltb-true}
use Rattle.ipp_values.specs.declared.tags.ValueTag.{ValueTag}
use Rattle.ipp_values.specs.declared.tags.ValueTag.TheVariants as tags
use Rattle.ipp_values.specs.declared.value.Value.{Value}
use Rattle.ipp_values.specs.declared.value.Value.TheVariants as kinds
use Rattle.ipp_values.specs.TextLimits.{is_text}
use Rattle.ipp_codec.specs.declared.fault.DecodeFault.{DecodeFault}
use Rattle.ipp_codec.specs.declared.fault.DecodeFault.TheVariants.{NeedMore, TooLarge, Name, Length, Text, Boolean}
use Rattle.ipp_codec.specs.declared.place.Place.{Place}
use Rattle.ipp_codec.specs.declared.place.Place.TheVariants.{Outside, Begun, Named, Filled}
use Rattle.ipp_codec.specs.Collections.{after_begin, after_end, after_name, after_plain, after_tag, begun_in, ended_in}
use Rattle.ipp_codec.specs.Reading.{boolean_of, checked, counted_at, localized_of, number_at, part_at, text_of, value_of}
use Rattle.ipp_codec.specs.ReadSteps.{◌>>=◌}
use Rattle.ipp_codec.proofs.Fields.{ok_as}

-- ---- steps that lack octets

abbrev pub Lacks : {A : Type 0} → Result A DecodeFault → Type 0
Lacks r = r ≡ Err NeedMore

abbrev pub failed_with : {A : Type 0} → DecodeFault → Result A DecodeFault
failed_with d = Err d

-- The step that lacks octets, if it is not the first.
pub record Later {A B : Type 0} (r : Result A DecodeFault) (f : A → Result B DecodeFault) : Type 0 where
  pub value : A
  pub was : r ≡ Ok value
  pub then : Lacks (f value)

pub lacking : {A B : Type 0} (r : Result A DecodeFault) (f : A → Result B DecodeFault) → Lacks (r >>= f) → Lacks r ⊎ Later r f
lacking (Ok x) f e = inr (record { value = x; was = refl; then = e })
lacking {A = A} (Err d) f e = let is : d ≡ NeedMore = cc in inl (ap (failed_with {A = A}) is)

-- A step that never lacks octets.
pub passed : {A B : Type 0} (r : Result A DecodeFault) (f : A → Result B DecodeFault) → (Lacks r → ⊥) → Lacks (r >>= f) → Later r f
passed r f never e = elim (lacking r f e) [
  | inl here ↦ absurd (never here)
  | inr later ↦ later
]

pub checked_never : {A : Type 0} (fault : DecodeFault) (b : Bool) (x : A) → (fault ≡ NeedMore → ⊥) → Lacks (checked fault b x) → ⊥
unfolding checked
checked_never fault true x other e = cc
checked_never fault false x other e = other cc

pub part_lacks : (n : ℕ) (octets : List ℕ) → Lacks (part_at NeedMore n octets) → length octets < n
unfolding part_at
part_lacks n octets e =
    (elim (ltb (length octets) n) as (λ b. ltb (length octets) n ≡ b → Lacks {A = List ℕ × List ℕ} (cond b (Err NeedMore) (Ok (take n octets, drop n octets))) → length octets < n) [
      | true ↦ λ is same. ltb-true (length octets) n is
      | false ↦ λ is same. absurd cc
    ]) refl e

pub number_lacks : (w : Width) (octets : List ℕ) → Lacks (number_at NeedMore w octets) → length octets < byte_len w
unfolding number_at
number_lacks w octets e =
    elim (lacking (part_at NeedMore (byte_len w) octets) (λ part. Ok (from_be_bytes w part.0, part.1)) e) [
      | inl here ↦ part_lacks (byte_len w) octets here
      | inr later ↦ let same = later.then in absurd cc
    ]

pub none_of : (octets : List ℕ) → length octets < 1 → octets ≡ []
none_of [] h = refl
none_of (b ∷ octets) h = absurd (omega (arith, h))

pub length_other : Length ≡ NeedMore → ⊥
length_other e = cc

pub name_other : Name ≡ NeedMore → ⊥
name_other e = cc

pub large_other : TooLarge ≡ NeedMore → ⊥
large_other e = cc

pub text_never : (least most highest : ℕ) (octets : List ℕ) → Lacks (text_of least most highest octets) → ⊥
unfolding text_of
text_never least most highest octets e =
    (elim (is_utf8 octets && is_text least most highest octets) as (λ b. Lacks (cond b (Ok octets) (Err Text)) → ⊥) [
      | true ↦ λ same. cc
      | false ↦ λ same. cc
    ]) e

-- ---- values are whole or have a fault

pub part_never : (fault : DecodeFault) (n : ℕ) (octets : List ℕ) → (fault ≡ NeedMore → ⊥) → Lacks (part_at fault n octets) → ⊥
unfolding part_at
part_never fault n octets other e =
    (elim (ltb (length octets) n) as (λ b. Lacks {A = List ℕ × List ℕ} (cond b (Err fault) (Ok (take n octets, drop n octets))) → ⊥) [
      | true ↦ λ same. other cc
      | false ↦ λ same. cc
    ]) e

pub number_never : (fault : DecodeFault) (w : Width) (octets : List ℕ) → (fault ≡ NeedMore → ⊥) → Lacks (number_at fault w octets) → ⊥
unfolding number_at
number_never fault w octets other e =
    let p = passed (part_at fault (byte_len w) octets) (λ part. Ok (from_be_bytes w part.0, part.1)) (part_never fault (byte_len w) octets other) e in
    let same = p.then in
    cc

pub counted_never : (octets : List ℕ) → Lacks (counted_at octets) → ⊥
unfolding counted_at
counted_never octets e =
    let n = passed (number_at Length w16 octets) (λ n. part_at Length n.0 n.1) (number_never Length w16 octets length_other) e in
    part_never Length n.value.0 n.value.1 length_other n.then

pub localized_never : (most : ℕ) (octets : List ℕ) → Lacks (localized_of most octets) → ⊥
unfolding localized_of
localized_never most octets e =
    let l = passed (counted_at octets) (λ language. counted_at language.1 >>= λ text. checked {A = ℕ} Length (eqb (length text.1) 0) 0 >>= λ ended. text_of 0 63 127 language.0 >>= λ tested. text_of 0 most 255 text.0 >>= λ shown. Ok (tested, shown)) (counted_never octets) e in
    let t = passed (counted_at l.value.1) (λ text. checked {A = ℕ} Length (eqb (length text.1) 0) 0 >>= λ ended. text_of 0 63 127 l.value.0 >>= λ tested. text_of 0 most 255 text.0 >>= λ shown. Ok (tested, shown)) (counted_never l.value.1) l.then in
    let c = passed (checked {A = ℕ} Length (eqb (length t.value.1) 0) 0) (λ ended. text_of 0 63 127 l.value.0 >>= λ tested. text_of 0 most 255 t.value.0 >>= λ shown. Ok (tested, shown)) (checked_never {A = ℕ} Length (eqb (length t.value.1) 0) 0 length_other) t.then in
    let a = passed (text_of 0 63 127 l.value.0) (λ tested. text_of 0 most 255 t.value.0 >>= λ shown. Ok (tested, shown)) (text_never 0 63 127 l.value.0) c.then in
    let b = passed (text_of 0 most 255 t.value.0) (λ shown. Ok (a.value, shown)) (text_never 0 most 255 t.value.0) a.then in
    let same = b.then in
    cc

pub string_never : (make : List ℕ → Value) (least most highest : ℕ) (octets : List ℕ) → Lacks (text_of least most highest octets >>= λ t. Ok (make t)) → ⊥
string_never make least most highest octets e = let s = passed (text_of least most highest octets) (λ t. Ok (make t)) (text_never least most highest octets) e in let same = s.then in cc

pub boolean_never : (n : ℕ) → Lacks (boolean_of n >>= λ flag. Ok (kinds.Boolean flag)) → ⊥
unfolding boolean_of
boolean_never n e =
    (elim (eqb n 0) as (λ b. Lacks (cond b (Ok false) (cond (eqb n 1) (Ok true) (Err Boolean)) >>= λ flag. Ok (kinds.Boolean flag)) → ⊥) [
      | true ↦ λ same. cc
      | false ↦ λ same. (elim (eqb n 1) as (λ b. Lacks (cond b (Ok true) (Err Boolean) >>= λ flag. Ok (kinds.Boolean flag)) → ⊥) [
        | true ↦ λ again. cc
        | false ↦ λ again. cc
      ]) same
    ]) e

pub value_never : (tag : ValueTag) (octets : List ℕ) → Lacks (value_of tag octets) → ⊥
unfolding value_of
value_never tags.Unsupported octets e = cc
value_never tags.Unknown octets e = cc
value_never tags.NoValue octets e = cc
value_never tags.Integer octets e = cc
value_never tags.Boolean octets e = boolean_never (get_or octets 0 0) e
value_never tags.Enum octets e = cc
value_never tags.OctetString octets e = cc
value_never tags.DateTime octets e = cc
value_never tags.Resolution octets e = cc
value_never tags.RangeOfInteger octets e = cc
value_never tags.BeginCollection octets e = cc
value_never tags.TextWithLanguage octets e = let s = passed (localized_of 1023 octets) (λ both. Ok (kinds.TextWithLanguage (record { language = both.0; text = both.1 }))) (localized_never 1023 octets) e in let same = s.then in cc
value_never tags.NameWithLanguage octets e = let s = passed (localized_of 255 octets) (λ both. Ok (kinds.NameWithLanguage (record { language = both.0; name = both.1 }))) (localized_never 255 octets) e in let same = s.then in cc
value_never tags.EndCollection octets e = cc
value_never tags.Text octets e = string_never kinds.Text 0 1023 255 octets e
value_never tags.Name octets e = string_never kinds.Name 0 255 255 octets e
value_never tags.Keyword octets e = string_never kinds.Keyword 1 255 127 octets e
value_never tags.Uri octets e = string_never kinds.Uri 0 1023 127 octets e
value_never tags.UriScheme octets e = string_never kinds.UriScheme 0 63 127 octets e
value_never tags.Charset octets e = string_never kinds.Charset 0 63 127 octets e
value_never tags.NaturalLanguage octets e = string_never kinds.NaturalLanguage 0 63 127 octets e
value_never tags.MimeMediaType octets e = string_never kinds.MimeMediaType 0 255 127 octets e
value_never tags.MemberName octets e = string_never kinds.MemberName 1 255 127 octets e
value_never (tags.Opaque tag) octets e = cc

-- ---- places

pub begun_never : (depth : ℕ) → Lacks (begun_in depth) → ⊥
begun_never depth e =
    (elim (ltb depth 8) as (λ b. Lacks (cond b (Ok (Begun (depth + 1))) (Err TooLarge)) → ⊥) [
      | true ↦ λ same. cc
      | false ↦ λ same. cc
    ]) e

pub begin_never : (place : Place) → Lacks (after_begin place) → ⊥
begin_never Outside e = begun_never 0 e
begin_never (Begun depth) e = cc
begin_never (Named depth) e = begun_never depth e
begin_never (Filled depth) e = begun_never depth e

pub end_never : (place : Place) → Lacks (after_end place) → ⊥
end_never Outside e = cc
end_never (Begun depth) e = cc
end_never (Named depth) e = cc
end_never (Filled depth) e = cc

pub name_never : (place : Place) → Lacks (after_name place) → ⊥
name_never Outside e = cc
name_never (Begun depth) e = cc
name_never (Named depth) e = cc
name_never (Filled depth) e = cc

pub plain_never : (place : Place) → Lacks (after_plain place) → ⊥
plain_never Outside e = cc
plain_never (Begun depth) e = cc
plain_never (Named depth) e = cc
plain_never (Filled depth) e = cc

-- A place in a collection.
abbrev pub IsDeep : Place → Type 0
IsDeep Outside = Unit {0}
IsDeep (Begun depth) = 0 < depth
IsDeep (Named depth) = 0 < depth
IsDeep (Filled depth) = 0 < depth

pub begun_deep : (depth : ℕ) (next : Place) → begun_in depth ≡ Ok next → IsDeep next
begun_deep depth next e =
    (elim (ltb depth 8) as (λ b. cond b (Ok (Begun (depth + 1))) (Err TooLarge) ≡ Ok next → IsDeep next) [
      | true ↦ λ same. ok_as IsDeep (Begun (depth + 1)) next same (omega arith)
      | false ↦ λ same. absurd cc
    ]) e

pub begin_deep : (place next : Place) → after_begin place ≡ Ok next → IsDeep next
begin_deep Outside next e = begun_deep 0 next e
begin_deep (Begun depth) next e = absurd cc
begin_deep (Named depth) next e = begun_deep depth next e
begin_deep (Filled depth) next e = begun_deep depth next e

pub ended_deep : (depth : ℕ) → 0 < depth → IsDeep (ended_in depth)
ended_deep depth deep =
    (elim (eqb depth 1) as (λ b. eqb depth 1 ≡ b → IsDeep (cond b Outside (Filled (depth - 1)))) [
      | true ↦ λ is. tt
      | false ↦ λ is. let other = eqb-false depth 1 is in omega (arith, other, deep)
    ]) refl

pub end_deep : (place next : Place) → IsDeep place → after_end place ≡ Ok next → IsDeep next
end_deep Outside next deep e = absurd cc
end_deep (Begun depth) next deep e = ok_as IsDeep (ended_in depth) next e (ended_deep depth deep)
end_deep (Named depth) next deep e = absurd cc
end_deep (Filled depth) next deep e = ok_as IsDeep (ended_in depth) next e (ended_deep depth deep)

pub name_deep : (place next : Place) → IsDeep place → after_name place ≡ Ok next → IsDeep next
name_deep Outside next deep e = absurd cc
name_deep (Begun depth) next deep e = ok_as IsDeep (Named depth) next e deep
name_deep (Named depth) next deep e = absurd cc
name_deep (Filled depth) next deep e = ok_as IsDeep (Named depth) next e deep

pub plain_deep : (place next : Place) → IsDeep place → after_plain place ≡ Ok next → IsDeep next
plain_deep Outside next deep e = ok_as IsDeep Outside next e tt
plain_deep (Begun depth) next deep e = absurd cc
plain_deep (Named depth) next deep e = ok_as IsDeep (Filled depth) next e deep
plain_deep (Filled depth) next deep e = ok_as IsDeep (Filled depth) next e deep

-- A tag at a place: the next place is in a collection or outside, and no octets lack.
pub record Steps (place : Place) (tag : ValueTag) : Type 0 where
  pub never : Lacks (after_tag place tag) → ⊥
  pub deep : (next : Place) → IsDeep place → after_tag place tag ≡ Ok next → IsDeep next

pub plain_steps : (place : Place) (tag : ValueTag) → after_tag place tag ≡ after_plain place → Steps place tag
plain_steps place tag is = record { never = λ e. plain_never place (sym is ∙ e); deep = λ next deep e. plain_deep place next deep (sym is ∙ e) }

pub steps : (place : Place) (tag : ValueTag) → Steps place tag
steps place tags.BeginCollection = record { never = begin_never place; deep = λ next deep e. begin_deep place next e }
steps place tags.EndCollection = record { never = end_never place; deep = end_deep place }
steps place tags.MemberName = record { never = name_never place; deep = name_deep place }
steps place tags.Unsupported = plain_steps place tags.Unsupported refl
steps place tags.Unknown = plain_steps place tags.Unknown refl
steps place tags.NoValue = plain_steps place tags.NoValue refl
steps place tags.Integer = plain_steps place tags.Integer refl
steps place tags.Boolean = plain_steps place tags.Boolean refl
steps place tags.Enum = plain_steps place tags.Enum refl
steps place tags.OctetString = plain_steps place tags.OctetString refl
steps place tags.DateTime = plain_steps place tags.DateTime refl
steps place tags.Resolution = plain_steps place tags.Resolution refl
steps place tags.RangeOfInteger = plain_steps place tags.RangeOfInteger refl
steps place tags.TextWithLanguage = plain_steps place tags.TextWithLanguage refl
steps place tags.NameWithLanguage = plain_steps place tags.NameWithLanguage refl
steps place tags.Text = plain_steps place tags.Text refl
steps place tags.Name = plain_steps place tags.Name refl
steps place tags.Keyword = plain_steps place tags.Keyword refl
steps place tags.Uri = plain_steps place tags.Uri refl
steps place tags.UriScheme = plain_steps place tags.UriScheme refl
steps place tags.Charset = plain_steps place tags.Charset refl
steps place tags.NaturalLanguage = plain_steps place tags.NaturalLanguage refl
steps place tags.MimeMediaType = plain_steps place tags.MimeMediaType refl
steps place (tags.Opaque n) = plain_steps place (tags.Opaque n) refl
