-- The octets of a value that is read are those of the value, and the octets of a value are read as this value.
use Rattle.std.proofs.Common.{◌≡◌, ℕ, ℤ, ◌^◌, ◌<◌, ◌≤◌, Bool, true, false, cond, eqb, List, [], ◌∷◌, ◌++◌, ◌&&◌, ◌||◌, not, length, Ok, Err, Some, None, Option, refl, sym, ap, subst, ◌∙◌, arith, pos, negsuc}
use Rattle.std.specs.Prelude.{FitsSigned, find, nat_le}
use Rattle.std.specs.Int.{w8, w32, from_be_bytes, to_be_bytes, cast_signed, cast_unsigned}
use Rattle.std.specs.List.{AllByRecursion}
use Rattle.std.specs.Str.{is_utf8}
use Rattle.std.proofs.lemmas.Bool.{eqb-true, leb-false}
use Rattle.std.proofs.lemmas.Int.{to_z-of_z, of_z-to_z}
use Rattle.std.proofs.Math.Facts.{sfits_to_z, Fits-bits}
use Rattle.ipp_values.specs.declared.tags.ValueTag.{ValueTag}
use Rattle.ipp_values.specs.declared.tags.ValueTag.TheVariants as tags
use Rattle.ipp_values.specs.TextLimits.{is_text}
use Rattle.ipp_values.specs.Opaque.{is_opaque, is_within}
use Rattle.ipp_values.specs.Tags.{assigned_tag, tag_number, value_tags, HasOwnNumber}
use Rattle.ipp_codec.specs.declared.fault.DecodeFault.TheVariants.{NeedMore, Text}
use Rattle.ipp_codec.specs.Octets.{integer_octets, IsText}
use Rattle.ipp_codec.specs.Reading.{integer_of, number_at, tag_at, tag_or, text_of, value_tag_of}
use Rattle.ipp_codec.specs.ReadSteps.{◌>>=◌}
use Rattle.ipp_codec.proofs.Fields.{IsBytes, bind_ok, passed_ok, ok_as, Takes, Reads, got, wide32, reads_octet}

-- ---- tags

abbrev pub IsTag : ValueTag → Type 0
IsTag tag = HasOwnNumber tag

found : {A : Type 0} (passes : A → Bool) (P : A → Type 0) (xs : List A) (x : A) → AllByRecursion P xs → find passes xs ≡ Some x → (passes x ≡ true) × P x
found passes P [] x h e = absurd cc
found {A = A} passes P (y ∷ ys) x h e =
    (elim (passes y) as (λ b. passes y ≡ b → cond b (Some y) (find passes ys) ≡ Some x → (passes x ≡ true) × P x) [
      | true ↦ λ is same. let eq : y ≡ x = cc in subst (λ (z : A). (passes z ≡ true) × P z) eq (is, h.0)
      | false ↦ λ is same. found passes P ys x h.1 same
    ]) refl e

are_tags : AllByRecursion IsTag value_tags
are_tags = (tt, (tt, (tt, (tt, (tt, (tt, (tt, (tt, (tt, (tt, (tt, (tt, (tt, (tt, (tt, (tt, (tt, (tt, (tt, (tt, (tt, (tt, (tt, tt)))))))))))))))))))))))

assigned_takes : (n : ℕ) (tag : ValueTag) → assigned_tag n ≡ Some tag → (tag_number tag ≡ n) × IsTag tag
assigned_takes n tag e = let f = found (λ t. eqb (tag_number t) n) IsTag value_tags tag are_tags e in (eqb-true _ _ f.0, f.1)

or_takes : (n : ℕ) (o : Option ValueTag) (tag : ValueTag) → assigned_tag n ≡ o → tag_or o ≡ Ok tag → (tag_number tag ≡ n) × IsTag tag
or_takes n None tag is e = absurd cc
or_takes n (Some t) tag is e = let eq : t ≡ tag = cc in assigned_takes n tag (is ∙ ap Some eq)

pub tag_takes : (n : ℕ) (tag : ValueTag) → n < 256 → value_tag_of n ≡ Ok tag → (tag_number tag ≡ n) × IsTag tag
unfolding value_tag_of
tag_takes n tag small e =
    (elim (is_opaque n) as (λ b. is_opaque n ≡ b → tag_or (cond b (Some (tags.Opaque n)) (assigned_tag n)) ≡ Ok tag → (tag_number tag ≡ n) × IsTag tag) [
      | true ↦ λ is same. ok_as (λ (t : ValueTag). (tag_number t ≡ n) × IsTag t) (tags.Opaque n) tag same (refl, (is, small))
      | false ↦ λ is same. or_takes n (assigned_tag n) tag refl same
    ]) refl e

pub tag_again : (tag : ValueTag) → IsTag tag → value_tag_of (tag_number tag) ≡ Ok tag
unfolding value_tag_of
tag_again tags.Unsupported h = refl
tag_again tags.Unknown h = refl
tag_again tags.NoValue h = refl
tag_again tags.Integer h = refl
tag_again tags.Boolean h = refl
tag_again tags.Enum h = refl
tag_again tags.OctetString h = refl
tag_again tags.DateTime h = refl
tag_again tags.Resolution h = refl
tag_again tags.RangeOfInteger h = refl
tag_again tags.BeginCollection h = refl
tag_again tags.TextWithLanguage h = refl
tag_again tags.NameWithLanguage h = refl
tag_again tags.EndCollection h = refl
tag_again tags.Text h = refl
tag_again tags.Name h = refl
tag_again tags.Keyword h = refl
tag_again tags.Uri h = refl
tag_again tags.UriScheme h = refl
tag_again tags.Charset h = refl
tag_again tags.NaturalLanguage h = refl
tag_again tags.MimeMediaType h = refl
tag_again tags.MemberName h = refl
tag_again (tags.Opaque n) h = ap (λ b. tag_or (cond b (Some (tags.Opaque n)) (assigned_tag n))) h.0

above : (a b c d e f : Bool) → not (a || b || c || d || e || f) ≡ true → a ≡ false
above true b c d e f h = absurd cc
above false b c d e f h = refl

opaque_above : (n : ℕ) → is_opaque n ≡ true → 16 < n
opaque_above n h = leb-false n 16 (above (nat_le n 16) (is_within 18 19 n) (is_within 33 35 n) (is_within 48 55 n) (is_within 65 66 n) (is_within 68 74 n) h)

pub tag_small : (tag : ValueTag) → IsTag tag → (16 ≤ tag_number tag) × (tag_number tag < 256)
tag_small tags.Unsupported h = (omega arith, omega arith)
tag_small tags.Unknown h = (omega arith, omega arith)
tag_small tags.NoValue h = (omega arith, omega arith)
tag_small tags.Integer h = (omega arith, omega arith)
tag_small tags.Boolean h = (omega arith, omega arith)
tag_small tags.Enum h = (omega arith, omega arith)
tag_small tags.OctetString h = (omega arith, omega arith)
tag_small tags.DateTime h = (omega arith, omega arith)
tag_small tags.Resolution h = (omega arith, omega arith)
tag_small tags.RangeOfInteger h = (omega arith, omega arith)
tag_small tags.BeginCollection h = (omega arith, omega arith)
tag_small tags.TextWithLanguage h = (omega arith, omega arith)
tag_small tags.NameWithLanguage h = (omega arith, omega arith)
tag_small tags.EndCollection h = (omega arith, omega arith)
tag_small tags.Text h = (omega arith, omega arith)
tag_small tags.Name h = (omega arith, omega arith)
tag_small tags.Keyword h = (omega arith, omega arith)
tag_small tags.Uri h = (omega arith, omega arith)
tag_small tags.UriScheme h = (omega arith, omega arith)
tag_small tags.Charset h = (omega arith, omega arith)
tag_small tags.NaturalLanguage h = (omega arith, omega arith)
tag_small tags.MimeMediaType h = (omega arith, omega arith)
tag_small tags.MemberName h = (omega arith, omega arith)
tag_small (tags.Opaque n) h = (omega (arith, opaque_above n h.0), h.1)

tag_at_takes : (bytes : List ℕ) (tag : ValueTag) (rest : List ℕ) → IsBytes bytes → tag_at bytes ≡ Ok (tag, rest) → Takes bytes (tag_number tag ∷ []) rest × IsTag tag
unfolding tag_at
tag_at_takes bytes tag rest fits e =
    let n = got (number_at NeedMore w8) (λ n. n ∷ []) (λ n. n < 256) (reads_octet NeedMore) bytes (λ n. value_tag_of n.0 >>= λ tag. Ok (tag, n.1)) (tag, rest) fits e in
    let s = bind_ok (value_tag_of n.value) (λ tag. Ok (tag, n.rest)) (tag, rest) n.then in
    let t = tag_takes n.value s.value n.legal s.was in
    let first : Takes bytes (tag_number s.value ∷ []) n.rest = subst (λ (k : ℕ). Takes bytes (k ∷ []) n.rest) (sym t.0) n.taken in
    ok_as (λ (x : ValueTag × List ℕ). Takes bytes (tag_number x.0 ∷ []) x.1 × IsTag x.0) (s.value, n.rest) (tag, rest) s.then (first, t.1)

tag_at_again : (tag : ValueTag) (rest : List ℕ) → IsTag tag → tag_at ((tag_number tag ∷ []) ++ rest) ≡ Ok (tag, rest)
unfolding tag_at
tag_at_again tag rest h =
    let small = tag_small tag h in
    ap (λ r. r >>= λ n. value_tag_of n.0 >>= λ t. Ok (t, n.1)) ((reads_octet NeedMore).again (tag_number tag) rest small.1)
    ∙ ap (λ r. r >>= λ t. Ok (t, rest)) (tag_again tag h)

pub reads_tag : Reads tag_at (λ tag. tag_number tag ∷ []) IsTag
reads_tag = record { takes = tag_at_takes; again = tag_at_again }

-- ---- character strings

pub and_parts : (a b : Bool) → (a && b) ≡ true → (a ≡ true) × (b ≡ true)
and_parts true b h = (refl, h)
and_parts false b h = absurd cc

pub text_takes : (least most highest : ℕ) (octets text : List ℕ) → text_of least most highest octets ≡ Ok text → (octets ≡ text) × IsText least most highest text
unfolding text_of
text_takes least most highest octets text e =
    let g = passed_ok (is_utf8 octets && is_text least most highest octets) Text octets text e in
    let both = and_parts (is_utf8 octets) (is_text least most highest octets) g.0 in
    (g.1, subst (λ (t : List ℕ). IsText least most highest t) g.1 both)

pub text_again : (least most highest : ℕ) (text : List ℕ) → IsText least most highest text → text_of least most highest text ≡ Ok text
unfolding text_of
text_again least most highest text h =
    ap (λ b. cond (b && is_text least most highest text) (Ok text) (Err Text)) h.0 ∙ ap (λ b. cond b (Ok text) (Err Text)) h.1

pub text_length : (least most highest : ℕ) (text : List ℕ) → IsText least most highest text → nat_le (length text) most ≡ true
text_length least most highest text h =
    (and_parts (nat_le least (length text)) (nat_le (length text) most) (and_parts (nat_le least (length text) && nat_le (length text) most) _ h.1).0).1

pub text_some : (least most highest : ℕ) (text : List ℕ) → IsText least most highest text → nat_le least (length text) ≡ true
text_some least most highest text h =
    (and_parts (nat_le least (length text)) (nat_le (length text) most) (and_parts (nat_le least (length text) && nat_le (length text) most) _ h.1).0).0

-- ---- integers

below_32 : (z : ℤ) → FitsSigned w32 z → cast_unsigned w32 z < 2 ^ 32
below_32 (pos n) h = let lt = h.sfits in omega (arith, lt)
below_32 (negsuc n) h = let lt = h.sfits in omega (arith, lt)

pub signed_takes : (n : ℕ) → n < 2 ^ 32 → (cast_unsigned w32 (cast_signed w32 n) ≡ n) × FitsSigned w32 (cast_signed w32 n)
signed_takes n lt = (of_z-to_z w32 n lt, sfits_to_z (Fits-bits {w = w32} 32 tt lt))

pub integer_takes : (octets : List ℕ) → length octets ≡ 4 → IsBytes octets → (integer_octets (integer_of octets) ≡ octets) × FitsSigned w32 (integer_of octets)
unfolding integer_of
integer_takes octets len fits =
    let s = signed_takes (from_be_bytes w32 octets) (wide32.below octets fits) in
    (ap (to_be_bytes w32) s.0 ∙ wide32.back octets len fits, s.1)

pub integer_again : (z : ℤ) → FitsSigned w32 z → integer_of (integer_octets z) ≡ z
unfolding integer_of
integer_again z h = ap (cast_signed w32) (wide32.again (cast_unsigned w32 z) (below_32 z h)) ∙ to_z-of_z w32 z h

pub unsigned_small : (z : ℤ) → FitsSigned w32 z → cast_unsigned w32 z < 2 ^ 32
unsigned_small z h = below_32 z h

pub signed_again : (z : ℤ) → FitsSigned w32 z → cast_signed w32 (cast_unsigned w32 z) ≡ z
signed_again z h = to_z-of_z w32 z h
