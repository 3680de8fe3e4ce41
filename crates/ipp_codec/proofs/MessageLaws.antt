-- A message that is read is spelled by the octets that were taken, and a spelling is read as its message.
use Rattle.std.proofs.Common.{◌≡◌, ℕ, ℤ, zero, suc, ◌^◌, ◌<◌, ◌≤◌, Bool, true, false, cond, ltb, eqb, List, [], ◌∷◌, ◌++◌, ◌&&◌, length, Result, Ok, Some, None, Option, refl, sym, ap, subst, ◌∙◌, append_assoc, arith}
use Rattle.std.specs.Prelude.{find, nat_le}
use Rattle.std.specs.Int.{w8, w16, w32, to_be_bytes, cast_signed, cast_unsigned}
use Rattle.std.specs.List.{flat_map, AllByRecursion}
use Rattle.std.proofs.lemmas.Bool.{eq-eqb, eqb-true, lt-ltb, le-ltb, leb-true}
use Rattle.std.proofs.lemmas.List.{length-append}
use Rattle.ipp_values.specs.declared.tags.GroupTag.{GroupTag}
use Rattle.ipp_values.specs.declared.tags.GroupTag.TheVariants as group
use Rattle.ipp_values.specs.declared.tags.ValueTag.{ValueTag}
use Rattle.ipp_values.specs.declared.value.Value.{Value}
use Rattle.ipp_values.specs.declared.message.Attribute.{Attribute}
use Rattle.ipp_values.specs.declared.message.Group.{Group}
use Rattle.ipp_values.specs.declared.message.Message.{Message}
use Rattle.ipp_values.specs.Tags.{group_number, group_of, group_tags, tag_number}
use Rattle.ipp_values.specs.ValueTexts.{tag_of}
use Rattle.ipp_codec.specs.declared.fault.DecodeFault.{DecodeFault}
use Rattle.ipp_codec.specs.declared.fault.DecodeFault.TheVariants.{NeedMore, Name, Collection}
use Rattle.ipp_codec.specs.declared.place.Place.{Place}
use Rattle.ipp_codec.specs.declared.place.Place.TheVariants.{Outside, Begun, Named, Filled}
use Rattle.ipp_codec.specs.Collections.{after_tag, is_outside, place_after}
use Rattle.ipp_codec.specs.Octets.{counted, integer_octets, octets_of, IsText, IsValue}
use Rattle.ipp_codec.specs.Reading.{additional_at, attribute_at, attributes_at, checked, follows, group_at, group_or, groups_at, message_at, name_at, name_begins, no_name_at, number_at, part_at, tag_at, text_of, value_at, value_tag_of, values_at}
use Rattle.ipp_codec.specs.MessageSpelling.{attribute_spelling, group_spelling, message_spelling, value_spelling, values_spelling, IsAttribute, IsGroup, IsMessage}
use Rattle.ipp_codec.specs.ReadSteps.{Field, ◌>>=◌}
use Rattle.ipp_codec.proofs.Fields.{IsBytes, bind_ok, done, ok_is, ok_as, Takes, ◌⨾◌, Reads, got, again-step, part_takes, part_again, reads_16, reads_32, reads_octet, checked_ok, checked_again}
use Rattle.ipp_codec.proofs.TextLaws.{IsTag, tag_again, tag_small, reads_tag, text_takes, text_again, text_length, text_some, signed_takes, signed_again, unsigned_small}
use Rattle.ipp_codec.proofs.ValueLaws.{reads_value, value_tag}

-- ---- what the last steps make

abbrev pub made_of : List ℕ → Value → List Value × List ℕ → Field Attribute
made_of name v vs = Ok (record { name = name; values = v ∷ vs.0 }, vs.1)

abbrev pub group_made : GroupTag → List Attribute × List ℕ → Field Group
group_made tag list = Ok (record { tag = tag; attributes = list.0 }, list.1)

abbrev pub message_made : ℕ → ℕ → ℕ → ℤ → List Group × List ℕ → Field Message
message_made major minor code request_id groups = Ok (record { version = record { major = major; minor = minor }; code = code; request_id = request_id; groups = groups.0 }, groups.1)

-- ---- names

none_takes : (bytes : List ℕ) (n : ℕ) (rest : List ℕ) → IsBytes bytes → no_name_at bytes ≡ Ok (n, rest) → Takes bytes (counted []) rest × (n ≡ 0)
unfolding no_name_at
none_takes bytes n rest fits e =
    let a = got (number_at NeedMore w16) (to_be_bytes w16) (λ n. n < 2 ^ 16) (reads_16 NeedMore) bytes (λ n. checked Name (eqb n.0 0) n) (n, rest) fits e in
    let c = checked_ok {A = ℕ × List ℕ} Name (eqb a.value 0) (a.value, a.rest) (n, rest) a.then in
    let none : a.value ≡ 0 = eqb-true _ _ c.0 in
    let first : Takes bytes (counted []) a.rest = subst (λ (k : ℕ). Takes bytes (to_be_bytes w16 k) a.rest) none a.taken in
    subst (λ (x : ℕ × List ℕ). Takes bytes (counted []) x.1 × (x.0 ≡ 0)) c.1 (first, none)

zero_again : (rest : List ℕ) → no_name_at (counted [] ++ rest) ≡ Ok (0, rest)
unfolding no_name_at
zero_again rest =
    ap (λ r. r >>= λ n. checked Name (eqb n.0 0) n) ((reads_16 NeedMore).again 0 rest (omega arith))
    ∙ checked_again {A = ℕ × List ℕ} Name true (0, rest) refl

none_again : (n : ℕ) (rest : List ℕ) → n ≡ 0 → no_name_at (counted [] ++ rest) ≡ Ok (n, rest)
none_again n rest h = zero_again rest ∙ ap (λ k. Ok (k, rest)) (sym h)

pub reads_none : Reads no_name_at (λ n. counted []) (λ n. n ≡ 0)
reads_none = record { takes = none_takes; again = none_again }

name_takes : (bytes name rest : List ℕ) → IsBytes bytes → name_at bytes ≡ Ok (name, rest) → Takes bytes (counted name) rest × IsText 1 255 127 name
unfolding name_at
name_takes bytes name rest fits e =
    let g = bind_ok (checked {A = ℕ} Name (name_begins bytes) 0) (λ begun. number_at NeedMore w16 bytes >>= λ n. checked Name (nat_le 1 n.0 && nat_le n.0 255) n.0 >>= λ long. part_at NeedMore long n.1 >>= λ part. text_of 1 255 127 part.0 >>= λ name. Ok (name, part.1)) (name, rest) e in
    let n = got (number_at NeedMore w16) (to_be_bytes w16) (λ n. n < 2 ^ 16) (reads_16 NeedMore) bytes (λ n. checked Name (nat_le 1 n.0 && nat_le n.0 255) n.0 >>= λ long. part_at NeedMore long n.1 >>= λ part. text_of 1 255 127 part.0 >>= λ name. Ok (name, part.1)) (name, rest) fits g.then in
    let c = bind_ok (checked Name (nat_le 1 n.value && nat_le n.value 255) n.value) (λ long. part_at NeedMore long n.rest >>= λ part. text_of 1 255 127 part.0 >>= λ name. Ok (name, part.1)) (name, rest) n.then in
    let k = checked_ok Name (nat_le 1 n.value && nat_le n.value 255) n.value c.value c.was in
    let s = bind_ok (part_at NeedMore c.value n.rest) (λ part. text_of 1 255 127 part.0 >>= λ name. Ok (name, part.1)) (name, rest) c.then in
    let p = part_takes NeedMore c.value n.rest s.value.0 s.value.1 n.taken.rest_fits s.was in
    let u = bind_ok (text_of 1 255 127 s.value.0) (λ name. Ok (name, s.value.1)) (name, rest) s.then in
    let t = text_takes 1 255 127 s.value.0 u.value u.was in
    let both : Takes bytes (to_be_bytes w16 n.value ++ s.value.0) s.value.1 = n.taken ⨾ p.taken in
    let sized : Takes bytes (counted s.value.0) s.value.1 = subst (λ (m : ℕ). Takes bytes (to_be_bytes w16 m ++ s.value.0) s.value.1) (k.1 ∙ sym p.len) both in
    let coded : Takes bytes (counted u.value) s.value.1 = subst (λ (o : List ℕ). Takes bytes (counted o) s.value.1) t.0 sized in
    ok_as (λ (x : List ℕ × List ℕ). Takes bytes (counted x.0) x.1 × IsText 1 255 127 x.0) (u.value, s.value.1) (name, rest) u.then (coded, t.1)

and_true : (a b : Bool) → a ≡ true → b ≡ true → (a && b) ≡ true
and_true a b p q = ap (λ c. c && b) p ∙ q

name_short : (name : List ℕ) → IsText 1 255 127 name → length name < 2 ^ 16
name_short name h = omega (arith, leb-true (length name) 255 (text_length 1 255 127 name h))

begins_zero : (n : ℕ) (rest : List ℕ) → n ≤ 255 → name_begins (to_be_bytes w16 n ++ rest) ≡ true
begins_zero n rest short = eq-eqb _ _ (omega (arith, short))

name_few : (name : List ℕ) → IsText 1 255 127 name → length name ≤ 255
name_few name h = leb-true (length name) 255 (text_length 1 255 127 name h)

name_again : (name rest : List ℕ) → IsText 1 255 127 name → name_at (counted name ++ rest) ≡ Ok (name, rest)
unfolding name_at
name_again name rest h =
    let n = length name in
    ap (λ r. r >>= λ begun. number_at NeedMore w16 (counted name ++ rest) >>= λ n. checked Name (nat_le 1 n.0 && nat_le n.0 255) n.0 >>= λ long. part_at NeedMore long n.1 >>= λ part. text_of 1 255 127 part.0 >>= λ name. Ok (name, part.1)) (checked_again {A = ℕ} Name (name_begins (counted name ++ rest)) 0 (begins_zero n (name ++ rest) (name_few name h)))
    ∙ again-step (number_at NeedMore w16) (to_be_bytes w16) (λ n. n < 2 ^ 16) (reads_16 NeedMore) n name rest (λ n. checked Name (nat_le 1 n.0 && nat_le n.0 255) n.0 >>= λ long. part_at NeedMore long n.1 >>= λ part. text_of 1 255 127 part.0 >>= λ name. Ok (name, part.1)) (Ok (name, rest)) (name_short name h)
    (ap (λ r. r >>= λ long. part_at NeedMore long (name ++ rest) >>= λ part. text_of 1 255 127 part.0 >>= λ name. Ok (name, part.1)) (checked_again Name (nat_le 1 n && nat_le n 255) n (and_true (nat_le 1 n) (nat_le n 255) (text_some 1 255 127 name h) (text_length 1 255 127 name h)))
    ∙ ap (λ r. r >>= λ part. text_of 1 255 127 part.0 >>= λ name. Ok (name, part.1)) (part_again NeedMore name rest n refl)
    ∙ ap (λ r. r >>= λ name. Ok (name, rest)) (text_again 1 255 127 name h))

pub reads_name : Reads name_at counted (IsText 1 255 127)
reads_name = record { takes = name_takes; again = name_again }

-- ---- whether a value follows

follows_again : (place next : Place) (tag : ValueTag) (length_of : ℕ) (rest : List ℕ) → IsTag tag → after_tag place tag ≡ done next → length_of ≤ 255 → follows place ((tag_number tag ∷ []) ++ (to_be_bytes w16 length_of ++ rest)) ≡ Ok (eqb length_of 0)
unfolding follows
follows_again place next tag length_of rest h fits short =
    let small = tag_small tag h in
    let number = tag_number tag in
    let tail : List ℕ = to_be_bytes w16 length_of ++ rest in
    ap (λ r. r >>= λ t. cond (ltb t.0 16) (Ok false) (value_tag_of t.0 >>= λ kind. after_tag place kind >>= λ next. checked {A = ℕ} Name (name_begins t.1) 0 >>= λ begun. number_at NeedMore w16 t.1 >>= λ n. Ok (eqb n.0 0))) ((reads_octet NeedMore).again number tail small.1)
    ∙ ap (λ b. cond b (Ok false) (value_tag_of number >>= λ kind. after_tag place kind >>= λ next. checked {A = ℕ} Name (name_begins tail) 0 >>= λ begun. number_at NeedMore w16 tail >>= λ n. Ok (eqb n.0 0))) (le-ltb number 16 small.0)
    ∙ ap (λ r. r >>= λ kind. after_tag place kind >>= λ next. checked {A = ℕ} Name (name_begins tail) 0 >>= λ begun. number_at NeedMore w16 tail >>= λ n. Ok (eqb n.0 0)) (tag_again tag h)
    ∙ ap (λ r. r >>= λ next. checked {A = ℕ} Name (name_begins tail) 0 >>= λ begun. number_at NeedMore w16 tail >>= λ n. Ok (eqb n.0 0)) fits
    ∙ ap (λ r. r >>= λ begun. number_at NeedMore w16 tail >>= λ n. Ok (eqb n.0 0)) (checked_again {A = ℕ} Name (name_begins tail) 0 (begins_zero length_of rest short))
    ∙ ap (λ r. r >>= λ n. Ok (eqb n.0 0)) ((reads_16 NeedMore).again length_of rest (omega (arith, short)))

follows_value : (place next : Place) (v : Value) (rest : List ℕ) → IsValue v → after_tag place (tag_of v) ≡ done next → follows place (value_spelling [] v ++ rest) ≡ Ok true
follows_value place next v rest h fits = follows_again place next (tag_of v) 0 (counted (octets_of v) ++ rest) (value_tag v h) fits (omega arith)

some_eqb : (n : ℕ) → nat_le 1 n ≡ true → eqb n 0 ≡ false
some_eqb n h =
    (elim (eqb n 0) as (λ b. eqb n 0 ≡ b → b ≡ false) [
      | true ↦ λ is. absurd (omega (arith, eqb-true n 0 is, leb-true 1 n h))
      | false ↦ λ is. refl
    ]) refl

follows_named : (place next : Place) (v : Value) (name rest : List ℕ) → IsValue v → after_tag place (tag_of v) ≡ done next → IsText 1 255 127 name → follows place (value_spelling name v ++ rest) ≡ Ok false
follows_named place next v name rest h fits t =
    follows_again place next (tag_of v) (length name) ((name ++ counted (octets_of v)) ++ rest) (value_tag v h) fits (name_few name t)
    ∙ ap (λ b. Ok b) (some_eqb (length name) (text_some 1 255 127 name t))

-- What begins with a delimiter.
pub record Delimits (tag : ℕ) (octets rest : List ℕ) : Type 0 where
  pub is : octets ≡ (tag ∷ []) ++ rest
  pub low : tag < 16

follows_delimiter : (place : Place) (tag : ℕ) (octets rest : List ℕ) → Delimits tag octets rest → follows place octets ≡ Ok false
unfolding follows
follows_delimiter place tag octets rest d =
    let low = d.low in
    let go : List ℕ → Result Bool DecodeFault = λ (o : List ℕ). number_at NeedMore w8 o >>= λ t. cond (ltb t.0 16) (Ok false) (value_tag_of t.0 >>= λ kind. after_tag place kind >>= λ next. checked {A = ℕ} Name (name_begins t.1) 0 >>= λ begun. number_at NeedMore w16 t.1 >>= λ n. Ok (eqb n.0 0)) in
    ap go d.is
    ∙ ap (λ r. r >>= λ t. cond (ltb t.0 16) (Ok false) (value_tag_of t.0 >>= λ kind. after_tag place kind >>= λ next. checked {A = ℕ} Name (name_begins t.1) 0 >>= λ begun. number_at NeedMore w16 t.1 >>= λ n. Ok (eqb n.0 0))) ((reads_octet NeedMore).again tag rest (omega (arith, low)))
    ∙ ap (λ b. cond b (Ok false) (value_tag_of tag >>= λ kind. after_tag place kind >>= λ next. checked {A = ℕ} Name (name_begins rest) 0 >>= λ begun. number_at NeedMore w16 rest >>= λ n. Ok (eqb n.0 0))) (lt-ltb tag 16 low)

-- ---- an additional value

abbrev pub IsNext : Place → Place × Value → Type 0
IsNext place x = IsValue x.1 × (after_tag place (tag_of x.1) ≡ done x.0)

pub additional_takes : (place : Place) (bytes : List ℕ) (x : Place × Value) (rest : List ℕ) → IsBytes bytes → additional_at place bytes ≡ Ok (x, rest) → Takes bytes (value_spelling [] x.1) rest × IsNext place x
unfolding additional_at
additional_takes place bytes x rest fits e =
    let t = got tag_at (λ tag. tag_number tag ∷ []) IsTag reads_tag bytes (λ tag. no_name_at tag.1 >>= λ name. after_tag place tag.0 >>= λ next. value_at tag.0 name.1 >>= λ v. Ok ((next, v.0), v.1)) (x, rest) fits e in
    let n = got no_name_at (λ n. counted []) (λ n. n ≡ 0) reads_none t.rest (λ name. after_tag place t.value >>= λ next. value_at t.value name.1 >>= λ v. Ok ((next, v.0), v.1)) (x, rest) t.taken.rest_fits t.then in
    let p = bind_ok (after_tag place t.value) (λ next. value_at t.value n.rest >>= λ v. Ok ((next, v.0), v.1)) (x, rest) n.then in
    let v = got (value_at t.value) (λ v. counted (octets_of v)) (λ v. IsValue v × (tag_of v ≡ t.value)) (reads_value t.value t.legal) n.rest (λ v. Ok ((p.value, v.0), v.1)) (x, rest) n.taken.rest_fits p.then in
    let whole : Takes bytes (((tag_number t.value ∷ []) ++ counted []) ++ counted (octets_of v.value)) v.rest = (t.taken ⨾ n.taken) ⨾ v.taken in
    let spelled : Takes bytes (value_spelling [] v.value) v.rest = subst (λ (tag : ValueTag). Takes bytes (((tag_number tag ∷ []) ++ counted []) ++ counted (octets_of v.value)) v.rest) (sym v.legal.1) whole in
    let placed : after_tag place (tag_of v.value) ≡ done p.value = ap (after_tag place) v.legal.1 ∙ p.was in
    ok_as (λ (y : (Place × Value) × List ℕ). Takes bytes (value_spelling [] y.0.1) y.1 × IsNext place y.0) ((p.value, v.value), v.rest) (x, rest) v.then (spelled, (v.legal.0, placed))

additional_again : (place : Place) (x : Place × Value) (rest : List ℕ) → IsNext place x → additional_at place (value_spelling [] x.1 ++ rest) ≡ Ok (x, rest)
unfolding additional_at
additional_again place (next, v) rest h =
    let tag = tag_of v in
    ap (λ r. r >>= λ tag. no_name_at tag.1 >>= λ name. after_tag place tag.0 >>= λ next. value_at tag.0 name.1 >>= λ v. Ok ((next, v.0), v.1)) (reads_tag.again tag (counted [] ++ (counted (octets_of v) ++ rest)) (value_tag v h.0))
    ∙ ap (λ r. r >>= λ name. after_tag place tag >>= λ next. value_at tag name.1 >>= λ v. Ok ((next, v.0), v.1)) (reads_none.again 0 (counted (octets_of v) ++ rest) refl)
    ∙ ap (λ r. r >>= λ next. value_at tag (counted (octets_of v) ++ rest) >>= λ v. Ok ((next, v.0), v.1)) h.1
    ∙ ap (λ r. r >>= λ v. Ok ((next, v.0), v.1)) ((reads_value tag (value_tag v h.0)).again v rest (h.0, refl))

pub reads_additional : (place : Place) → Reads (additional_at place) (λ x. value_spelling [] x.1) (IsNext place)
reads_additional place = record { takes = additional_takes place; again = additional_again place }

-- ---- additional values

pub record AreRead (place : Place) (bytes : List ℕ) (vs : List Value) (rest : List ℕ) : Type 0 where
  pub taken : Takes bytes (flat_map (value_spelling []) vs) rest
  pub legal : AllByRecursion IsValue vs
  pub placed : place_after place vs ≡ done Outside

outside_is : (place : Place) → is_outside place ≡ true → done place ≡ done Outside
outside_is Outside h = refl
outside_is (Begun d) h = absurd cc
outside_is (Named d) h = absurd cc
outside_is (Filled d) h = absurd cc

-- The parts of `values_at`.
abbrev pub end_of : Place → List ℕ → Field (List Value)
end_of place octets = checked Collection (is_outside place) ([], octets)

abbrev pub more_of : ℕ → Place → List ℕ → Field (List Value)
more_of n place octets = additional_at place octets >>= λ v. values_at n v.0.0 v.1 >>= λ vs. Ok (v.0.1 ∷ vs.0, vs.1)

end_takes : (place : Place) (bytes : List ℕ) (vs : List Value) (rest : List ℕ) → IsBytes bytes → end_of place bytes ≡ Ok (vs, rest) → AreRead place bytes vs rest
end_takes place bytes vs rest fits e =
    let c = checked_ok {A = List Value × List ℕ} Collection (is_outside place) ([], bytes) (vs, rest) e in
    subst (λ (x : List Value × List ℕ). AreRead place bytes x.0 x.1) c.1 (record { taken = record { parts = refl; rest_fits = fits }; legal = tt; placed = outside_is place c.0 })

more_takes : (n : ℕ) (place : Place) (bytes : List ℕ) (vs : List Value) (rest : List ℕ) → IsBytes bytes → ((next : Place) (left : List ℕ) (others : List Value) (end : List ℕ) → IsBytes left → values_at n next left ≡ Ok (others, end) → AreRead next left others end)
    → more_of n place bytes ≡ Ok (vs, rest) → AreRead place bytes vs rest
more_takes n place bytes vs rest fits others e =
    let a = got (additional_at place) (λ x. value_spelling [] x.1) (IsNext place) (reads_additional place) bytes (λ v. values_at n v.0.0 v.1 >>= λ vs. Ok (v.0.1 ∷ vs.0, vs.1)) (vs, rest) fits e in
    let b = bind_ok (values_at n a.value.0 a.rest) (λ vs. Ok (a.value.1 ∷ vs.0, vs.1)) (vs, rest) a.then in
    let o = others a.value.0 a.rest b.value.0 b.value.1 a.taken.rest_fits b.was in
    let both : Takes bytes (value_spelling [] a.value.1 ++ flat_map (value_spelling []) b.value.0) b.value.1 = a.taken ⨾ o.taken in
    let placed : place_after place (a.value.1 ∷ b.value.0) ≡ done Outside = ap (λ r. r >>= λ next. place_after next b.value.0) a.legal.1 ∙ o.placed in
    ok_as (λ (x : List Value × List ℕ). AreRead place bytes x.0 x.1) (a.value.1 ∷ b.value.0, b.value.1) (vs, rest) b.then (record { taken = both; legal = (a.legal.0, o.legal); placed = placed })

values_takes : (n : ℕ) (place : Place) (bytes : List ℕ) (vs : List Value) (rest : List ℕ) → IsBytes bytes → values_at n place bytes ≡ Ok (vs, rest) → AreRead place bytes vs rest
unfolding values_at
values_takes zero place bytes vs rest fits e = absurd cc
values_takes (suc n) place bytes vs rest fits e =
    let m = bind_ok (follows place bytes) (λ more. cond more (more_of n place bytes) (end_of place bytes)) (vs, rest) e in
    (elim m.value as (λ more. cond more (more_of n place bytes) (end_of place bytes) ≡ Ok (vs, rest) → AreRead place bytes vs rest) [
      | true ↦ λ same. more_takes n place bytes vs rest fits (λ next left others end f g. values_takes n next left others end f g) same
      | false ↦ λ same. end_takes place bytes vs rest fits same
    ]) m.then

values_again : (n : ℕ) (place : Place) (vs : List Value) (rest : List ℕ) → length (flat_map (value_spelling []) vs) < n → follows Outside rest ≡ Ok false → AllByRecursion IsValue vs → place_after place vs ≡ done Outside → values_at n place (flat_map (value_spelling []) vs ++ rest) ≡ Ok (vs, rest)
unfolding values_at
values_again zero place vs rest small stop legal placed = absurd (omega (arith, small))
values_again (suc n) place [] rest small stop legal placed =
    ap (λ r. r >>= λ more. cond more (more_of n place rest) (end_of place rest)) (ap (λ (p : Place). follows p rest) (ok_is place Outside placed) ∙ stop)
    ∙ checked_again {A = List Value × List ℕ} Collection (is_outside place) ([], rest) (ap is_outside (ok_is place Outside placed))
values_again (suc n) place (v ∷ vs) rest small stop legal placed =
    let s = bind_ok (after_tag place (tag_of v)) (λ next. place_after next vs) Outside placed in
    let more = flat_map (value_spelling []) vs in
    let tail = value_spelling [] v ++ (more ++ rest) in
    let fewer : length more < n = omega (arith, small, length-append (value_spelling [] v) more) in
    ap (values_at (suc n) place) (append_assoc (value_spelling [] v) more rest)
    ∙ ap (λ r. r >>= λ more. cond more (more_of n place tail) (end_of place tail)) (follows_value place s.value v (more ++ rest) legal.0 s.was)
    ∙ ap (λ r. r >>= λ v. values_at n v.0.0 v.1 >>= λ vs. Ok (v.0.1 ∷ vs.0, vs.1)) ((reads_additional place).again (s.value, v) (more ++ rest) (legal.0, s.was))
    ∙ ap (λ r. r >>= λ vs. Ok (v ∷ vs.0, vs.1)) (values_again n s.value vs rest fewer stop legal.1 s.then)

-- ---- an attribute

pub attribute_takes : (most : ℕ) (bytes : List ℕ) (a : Attribute) (rest : List ℕ) → IsBytes bytes → attribute_at most bytes ≡ Ok (a, rest) → Takes bytes (attribute_spelling a) rest × IsAttribute a
unfolding attribute_at
attribute_takes most bytes a rest fits e =
    let t = got tag_at (λ tag. tag_number tag ∷ []) IsTag reads_tag bytes (λ tag. after_tag Outside tag.0 >>= λ next. name_at tag.1 >>= λ name. value_at tag.0 name.1 >>= λ v. values_at most next v.1 >>= λ vs. made_of name.0 v.0 vs) (a, rest) fits e in
    let p = bind_ok (after_tag Outside t.value) (λ next. name_at t.rest >>= λ name. value_at t.value name.1 >>= λ v. values_at most next v.1 >>= λ vs. made_of name.0 v.0 vs) (a, rest) t.then in
    let n = got name_at counted (IsText 1 255 127) reads_name t.rest (λ name. value_at t.value name.1 >>= λ v. values_at most p.value v.1 >>= λ vs. made_of name.0 v.0 vs) (a, rest) t.taken.rest_fits p.then in
    let v = got (value_at t.value) (λ v. counted (octets_of v)) (λ v. IsValue v × (tag_of v ≡ t.value)) (reads_value t.value t.legal) n.rest (λ v. values_at most p.value v.1 >>= λ vs. made_of n.value v.0 vs) (a, rest) n.taken.rest_fits n.then in
    let b = bind_ok (values_at most p.value v.rest) (λ vs. made_of n.value v.value vs) (a, rest) v.then in
    let o = values_takes most p.value v.rest b.value.0 b.value.1 v.taken.rest_fits b.was in
    let first : Takes bytes (((tag_number t.value ∷ []) ++ counted n.value) ++ counted (octets_of v.value)) v.rest = (t.taken ⨾ n.taken) ⨾ v.taken in
    let spelled : Takes bytes (value_spelling n.value v.value) v.rest = subst (λ (tag : ValueTag). Takes bytes (((tag_number tag ∷ []) ++ counted n.value) ++ counted (octets_of v.value)) v.rest) (sym v.legal.1) first in
    let whole : Takes bytes (value_spelling n.value v.value ++ flat_map (value_spelling []) b.value.0) b.value.1 = spelled ⨾ o.taken in
    let placed : place_after Outside (v.value ∷ b.value.0) ≡ done Outside = ap (λ r. r >>= λ next. place_after next b.value.0) (ap (after_tag Outside) v.legal.1 ∙ p.was) ∙ o.placed in
    let made : Attribute = record { name = n.value; values = v.value ∷ b.value.0 } in
    let is : IsAttribute made = record { name = n.legal; some = λ none. cc; values = (v.legal.0, o.legal); whole = placed } in
    ok_as (λ (x : Attribute × List ℕ). Takes bytes (attribute_spelling x.0) x.1 × IsAttribute x.0) (made, b.value.1) (a, rest) b.then (whole, is)

regroup : (a b c d : List ℕ) → ((a ++ b) ++ c) ++ d ≡ a ++ (b ++ (c ++ d))
regroup a b c d = append_assoc (a ++ b) c d ∙ append_assoc a b (c ++ d)

named_again : (most : ℕ) (name : List ℕ) (v : Value) (vs : List Value) (rest : List ℕ) → length (flat_map (value_spelling []) vs) < most → follows Outside rest ≡ Ok false → IsText 1 255 127 name → IsValue v → AllByRecursion IsValue vs → place_after Outside (v ∷ vs) ≡ done Outside
    → attribute_at most ((value_spelling name v ++ flat_map (value_spelling []) vs) ++ rest) ≡ Ok (record { name = name; values = v ∷ vs }, rest)
unfolding attribute_at
named_again most name v vs rest small stop named legal others placed =
    let tag = tag_of v in
    let o = counted (octets_of v) in
    let more = flat_map (value_spelling []) vs in
    let s = bind_ok (after_tag Outside tag) (λ next. place_after next vs) Outside placed in
    ap (λ (l : List ℕ). attribute_at most ((tag_number tag ∷ to_be_bytes w16 (length name)) ++ l)) (regroup name o more rest)
    ∙ ap (λ r. r >>= λ tag. after_tag Outside tag.0 >>= λ next. name_at tag.1 >>= λ name. value_at tag.0 name.1 >>= λ v. values_at most next v.1 >>= λ vs. made_of name.0 v.0 vs) (reads_tag.again tag (counted name ++ (o ++ (more ++ rest))) (value_tag v legal))
    ∙ ap (λ r. r >>= λ next. name_at (counted name ++ (o ++ (more ++ rest))) >>= λ name. value_at tag name.1 >>= λ v. values_at most next v.1 >>= λ vs. made_of name.0 v.0 vs) s.was
    ∙ ap (λ r. r >>= λ name. value_at tag name.1 >>= λ v. values_at most s.value v.1 >>= λ vs. made_of name.0 v.0 vs) (reads_name.again name (o ++ (more ++ rest)) named)
    ∙ ap (λ r. r >>= λ v. values_at most s.value v.1 >>= λ vs. made_of name v.0 vs) ((reads_value tag (value_tag v legal)).again v (more ++ rest) (legal, refl))
    ∙ ap (λ r. r >>= λ vs. made_of name v vs) (values_again most s.value vs rest small stop others s.then)

listed_again : (most : ℕ) (name : List ℕ) (vs : List Value) (rest : List ℕ) → length (values_spelling name vs) ≤ most → follows Outside rest ≡ Ok false → IsAttribute (record { name = name; values = vs }) → attribute_at most (values_spelling name vs ++ rest) ≡ Ok (record { name = name; values = vs }, rest)
listed_again most name [] rest small stop h = absurd (h.some refl)
listed_again most name (v ∷ vs) rest small stop h =
    let fewer : length (flat_map (value_spelling []) vs) < most = omega (arith, small, length-append (value_spelling name v) (flat_map (value_spelling []) vs)) in
    named_again most name v vs rest fewer stop h.name h.values.0 h.values.1 h.whole

attribute_again : (most : ℕ) (a : Attribute) (rest : List ℕ) → length (attribute_spelling a) ≤ most → follows Outside rest ≡ Ok false → IsAttribute a → attribute_at most (attribute_spelling a ++ rest) ≡ Ok (a, rest)
attribute_again most a rest small stop h = listed_again most a.name a.values rest small stop h

-- ---- the attributes of a group

pub record AreAttributes (bytes : List ℕ) (list : List Attribute) (rest : List ℕ) : Type 0 where
  pub taken : Takes bytes (flat_map attribute_spelling list) rest
  pub legal : AllByRecursion IsAttribute list

-- The parts of `attributes_at`.
abbrev pub stop_of : List ℕ → Field (List Attribute)
stop_of octets = Ok ([], octets)

abbrev pub others_of : ℕ → ℕ → List ℕ → Field (List Attribute)
others_of most n octets = attribute_at most octets >>= λ a. attributes_at most n a.1 >>= λ others. Ok (a.0 ∷ others.0, others.1)

attributes_takes : (most n : ℕ) (bytes : List ℕ) (list : List Attribute) (rest : List ℕ) → IsBytes bytes → attributes_at most n bytes ≡ Ok (list, rest) → AreAttributes bytes list rest
unfolding attributes_at
attributes_takes most zero bytes list rest fits e = absurd cc
attributes_takes most (suc n) bytes list rest fits e =
    let m = bind_ok (number_at NeedMore w8 bytes) (λ tag. cond (ltb tag.0 16) (stop_of bytes) (others_of most n bytes)) (list, rest) e in
    (elim (ltb m.value.0 16) as (λ b. cond b (stop_of bytes) (others_of most n bytes) ≡ Ok (list, rest) → AreAttributes bytes list rest) [
      | true ↦ λ same. ok_as (λ (x : List Attribute × List ℕ). AreAttributes bytes x.0 x.1) ([], bytes) (list, rest) same (record { taken = record { parts = refl; rest_fits = fits }; legal = tt })
      | false ↦ λ same.
          let a = bind_ok (attribute_at most bytes) (λ a. attributes_at most n a.1 >>= λ others. Ok (a.0 ∷ others.0, others.1)) (list, rest) same in
          let t = attribute_takes most bytes a.value.0 a.value.1 fits a.was in
          let b = bind_ok (attributes_at most n a.value.1) (λ others. Ok (a.value.0 ∷ others.0, others.1)) (list, rest) a.then in
          let o = attributes_takes most n a.value.1 b.value.0 b.value.1 t.0.rest_fits b.was in
          let both : Takes bytes (attribute_spelling a.value.0 ++ flat_map attribute_spelling b.value.0) b.value.1 = t.0 ⨾ o.taken in
          ok_as (λ (x : List Attribute × List ℕ). AreAttributes bytes x.0 x.1) (a.value.0 ∷ b.value.0, b.value.1) (list, rest) b.then (record { taken = both; legal = (t.1, o.legal) })
    ]) m.then

-- No value follows the values of an attribute: another attribute does, or a delimiter.
then_stops : (name : List ℕ) (vs : List Value) (rest : List ℕ) → IsAttribute (record { name = name; values = vs }) → follows Outside (values_spelling name vs ++ rest) ≡ Ok false
then_stops name [] rest h = absurd (h.some refl)
then_stops name (v ∷ vs) rest h =
    let more = flat_map (value_spelling []) vs in
    let s = bind_ok (after_tag Outside (tag_of v)) (λ next. place_after next vs) Outside h.whole in
    ap (follows Outside) (append_assoc (value_spelling name v) more rest) ∙ follows_named Outside s.value v name (more ++ rest) h.values.0 s.was h.name

stops : (list : List Attribute) (tag : ℕ) (octets rest : List ℕ) → Delimits tag octets rest → AllByRecursion IsAttribute list → follows Outside (flat_map attribute_spelling list ++ octets) ≡ Ok false
stops [] tag octets rest d h = follows_delimiter Outside tag octets rest d
stops (a ∷ list) tag octets rest d h =
    ap (follows Outside) (append_assoc (attribute_spelling a) (flat_map attribute_spelling list) octets) ∙ then_stops a.name a.values (flat_map attribute_spelling list ++ octets) h.0

-- An attribute begins with the tag of its first value.
pub record Begins (octets : List ℕ) : Type 0 where
  pub tag : ℕ
  pub rest : List ℕ
  pub is : octets ≡ (tag ∷ []) ++ rest
  pub great : 16 ≤ tag
  pub small : tag < 256

begins : (name : List ℕ) (vs : List Value) (rest : List ℕ) → IsAttribute (record { name = name; values = vs }) → Begins (values_spelling name vs ++ rest)
begins name [] rest h = absurd (h.some refl)
begins name (v ∷ vs) rest h =
    let small = tag_small (tag_of v) (value_tag v h.values.0) in
    record { tag = tag_number (tag_of v); rest = ((counted name ++ counted (octets_of v)) ++ flat_map (value_spelling []) vs) ++ rest; is = refl; great = small.0; small = small.1 }

pub one_more : (name : List ℕ) (vs : List Value) → IsAttribute (record { name = name; values = vs }) → 0 < length (values_spelling name vs)
one_more name [] h = absurd (h.some refl)
one_more name (v ∷ vs) h = omega arith

attributes_again : (most n : ℕ) (list : List Attribute) (tag : ℕ) (octets rest : List ℕ) → Delimits tag octets rest → length (flat_map attribute_spelling list) ≤ most → length (flat_map attribute_spelling list) < n → AllByRecursion IsAttribute list → attributes_at most n (flat_map attribute_spelling list ++ octets) ≡ Ok (list, octets)
unfolding attributes_at
attributes_again most zero list tag octets rest d room small h = absurd (omega (arith, small))
attributes_again most (suc n) [] tag octets rest d room small h =
    let low = d.low in
    ap (λ r. r >>= λ t. cond (ltb t.0 16) (stop_of octets) (others_of most n octets))
    (ap (number_at NeedMore w8) d.is ∙ (reads_octet NeedMore).again tag rest (omega (arith, low)))
    ∙ ap (λ b. cond b (stop_of octets) (others_of most n octets)) (lt-ltb tag 16 low)
attributes_again most (suc n) (a ∷ list) tag octets rest d room small h =
    let more = flat_map attribute_spelling list in
    let tail = attribute_spelling a ++ (more ++ octets) in
    let b = begins a.name a.values (more ++ octets) h.0 in
    let sizes = length-append (attribute_spelling a) more in
    let some = one_more a.name a.values h.0 in
    let one : length (attribute_spelling a) ≤ most = omega (arith, room, sizes) in
    let others : length more ≤ most = omega (arith, room, sizes) in
    let fewer : length more < n = omega (arith, small, sizes, some) in
    ap (attributes_at most (suc n)) (append_assoc (attribute_spelling a) more octets)
    ∙ ap (λ r. r >>= λ t. cond (ltb t.0 16) (stop_of tail) (others_of most n tail))
    (ap (number_at NeedMore w8) b.is ∙ (reads_octet NeedMore).again b.tag b.rest b.small)
    ∙ ap (λ t. cond t (stop_of tail) (others_of most n tail)) (le-ltb b.tag 16 b.great)
    ∙ ap (λ r. r >>= λ a. attributes_at most n a.1 >>= λ others. Ok (a.0 ∷ others.0, others.1)) (attribute_again most a (more ++ octets) one (stops list tag octets rest d h.1) h.0)
    ∙ ap (λ r. r >>= λ others. Ok (a ∷ others.0, others.1)) (attributes_again most n list tag octets rest d others fewer h.1)

-- ---- groups

group_found : (number : ℕ) (tags : List GroupTag) (tag : GroupTag) → find (λ t. eqb (group_number t) number) tags ≡ Some tag → group_number tag ≡ number
group_found number [] tag e = absurd cc
group_found number (t ∷ tags) tag e =
    (elim (eqb (group_number t) number) as (λ b. eqb (group_number t) number ≡ b → cond b (Some t) (find (λ t. eqb (group_number t) number) tags) ≡ Some tag → group_number tag ≡ number) [
      | true ↦ λ is same. let eq : t ≡ tag = cc in ap group_number (sym eq) ∙ eqb-true _ _ is
      | false ↦ λ is same. group_found number tags tag same
    ]) refl e

pub group_or_takes : (number : ℕ) (o : Option GroupTag) (tag : GroupTag) → group_of number ≡ o → group_or o ≡ Ok tag → group_number tag ≡ number
group_or_takes number None tag is e = absurd cc
group_or_takes number (Some t) tag is e = let eq : t ≡ tag = cc in group_found number group_tags tag (is ∙ ap Some eq)

group_or_again : (tag : GroupTag) → group_or (group_of (group_number tag)) ≡ Ok tag
group_or_again group.Operation = refl
group_or_again group.Job = refl
group_or_again group.Printer = refl
group_or_again group.Unsupported = refl
group_or_again group.Subscription = refl
group_or_again group.EventNotification = refl
group_or_again group.Resource = refl
group_or_again group.Document = refl
group_or_again group.System = refl

group_low : (tag : GroupTag) → (group_number tag < 16) × (eqb (group_number tag) 3 ≡ false)
group_low group.Operation = (omega arith, refl)
group_low group.Job = (omega arith, refl)
group_low group.Printer = (omega arith, refl)
group_low group.Unsupported = (omega arith, refl)
group_low group.Subscription = (omega arith, refl)
group_low group.EventNotification = (omega arith, refl)
group_low group.Resource = (omega arith, refl)
group_low group.Document = (omega arith, refl)
group_low group.System = (omega arith, refl)

pub record AreGroups (bytes : List ℕ) (list : List Group) (rest : List ℕ) : Type 0 where
  pub taken : Takes bytes (flat_map group_spelling list ++ 3 ∷ []) rest
  pub legal : AllByRecursion IsGroup list

pub group_takes : (most number : ℕ) (bytes : List ℕ) (g : Group) (rest : List ℕ) → IsBytes bytes → group_at most number bytes ≡ Ok (g, rest) → (group_number g.tag ≡ number) × Takes bytes (flat_map attribute_spelling g.attributes) rest × IsGroup g
group_takes most number bytes g rest fits e =
    let t = bind_ok (group_or (group_of number)) (λ tag. attributes_at most most bytes >>= λ list. group_made tag list) (g, rest) e in
    let b = bind_ok (attributes_at most most bytes) (λ list. group_made t.value list) (g, rest) t.then in
    let o = attributes_takes most most bytes b.value.0 b.value.1 fits b.was in
    let made : Group = record { tag = t.value; attributes = b.value.0 } in
    ok_as (λ (x : Group × List ℕ). (group_number x.0.tag ≡ number) × Takes bytes (flat_map attribute_spelling x.0.attributes) x.1 × IsGroup x.0) (made, b.value.1) (g, rest) b.then (group_or_takes number (group_of number) t.value refl t.was, o.taken, o.legal)

-- The parts of `groups_at`.
abbrev pub last_of : List ℕ → Field (List Group)
last_of octets = Ok ([], octets)

abbrev pub more_groups_of : ℕ → ℕ → ℕ → List ℕ → Field (List Group)
more_groups_of most n number octets = group_at most number octets >>= λ g. groups_at most n g.1 >>= λ gs. Ok (g.0 ∷ gs.0, gs.1)

groups_takes : (most n : ℕ) (bytes : List ℕ) (list : List Group) (rest : List ℕ) → IsBytes bytes → groups_at most n bytes ≡ Ok (list, rest) → AreGroups bytes list rest
unfolding groups_at
groups_takes most zero bytes list rest fits e = absurd cc
groups_takes most (suc n) bytes list rest fits e =
    let m = got (number_at NeedMore w8) (λ n. n ∷ []) (λ n. n < 256) (reads_octet NeedMore) bytes (λ number. cond (eqb number.0 3) (last_of number.1) (more_groups_of most n number.0 number.1)) (list, rest) fits e in
    (elim (eqb m.value 3) as (λ b. eqb m.value 3 ≡ b → cond b (last_of m.rest) (more_groups_of most n m.value m.rest) ≡ Ok (list, rest) → AreGroups bytes list rest) [
      | true ↦ λ is same.
          let ended : Takes bytes (3 ∷ []) m.rest = subst (λ (k : ℕ). Takes bytes (k ∷ []) m.rest) (eqb-true _ _ is) m.taken in
          ok_as (λ (x : List Group × List ℕ). AreGroups bytes x.0 x.1) ([], m.rest) (list, rest) same (record { taken = ended; legal = tt })
      | false ↦ λ is same.
          let a = bind_ok (group_at most m.value m.rest) (λ g. groups_at most n g.1 >>= λ gs. Ok (g.0 ∷ gs.0, gs.1)) (list, rest) same in
          let t = group_takes most m.value m.rest a.value.0 a.value.1 m.taken.rest_fits a.was in
          let b = bind_ok (groups_at most n a.value.1) (λ gs. Ok (a.value.0 ∷ gs.0, gs.1)) (list, rest) a.then in
          let o = groups_takes most n a.value.1 b.value.0 b.value.1 t.1.rest_fits b.was in
          let first : Takes bytes ((m.value ∷ []) ++ flat_map attribute_spelling a.value.0.attributes) a.value.1 = m.taken ⨾ t.1 in
          let one : Takes bytes (group_spelling a.value.0) a.value.1 = subst (λ (k : ℕ). Takes bytes ((k ∷ []) ++ flat_map attribute_spelling a.value.0.attributes) a.value.1) (sym t.0) first in
          let both : Takes bytes (group_spelling a.value.0 ++ (flat_map group_spelling b.value.0 ++ 3 ∷ [])) b.value.1 = one ⨾ o.taken in
          let whole : Takes bytes (flat_map group_spelling (a.value.0 ∷ b.value.0) ++ 3 ∷ []) b.value.1 = subst (λ (l : List ℕ). Takes bytes l b.value.1) (sym (append_assoc (group_spelling a.value.0) (flat_map group_spelling b.value.0) (3 ∷ []))) both in
          ok_as (λ (x : List Group × List ℕ). AreGroups bytes x.0 x.1) (a.value.0 ∷ b.value.0, b.value.1) (list, rest) b.then (record { taken = whole; legal = (t.2, o.legal) })
    ]) refl m.then

group_again : (most : ℕ) (tag : GroupTag) (list : List Attribute) (next : ℕ) (octets rest : List ℕ) → Delimits next octets rest → length (flat_map attribute_spelling list) < most → AllByRecursion IsAttribute list → group_at most (group_number tag) (flat_map attribute_spelling list ++ octets) ≡ Ok (record { tag = tag; attributes = list }, octets)
group_again most tag list next octets rest d small h =
    ap (λ r. r >>= λ tag. attributes_at most most (flat_map attribute_spelling list ++ octets) >>= λ list. group_made tag list) (group_or_again tag)
    ∙ ap (λ r. r >>= λ list. group_made tag list) (attributes_again most most list next octets rest d (omega (arith, small)) small h)

-- What follows a group begins with a delimiter.
pub record IsDelimited (octets : List ℕ) : Type 0 where
  pub tag : ℕ
  pub rest : List ℕ
  pub delimits : Delimits tag octets rest

delimited : (list : List Group) (rest : List ℕ) → IsDelimited ((flat_map group_spelling list ++ 3 ∷ []) ++ rest)
delimited [] rest = record { tag = 3; rest = rest; delimits = record { is = refl; low = omega arith } }
delimited (g ∷ list) rest =
    record { tag = group_number g.tag; rest = ((flat_map attribute_spelling g.attributes ++ flat_map group_spelling list) ++ 3 ∷ []) ++ rest; delimits = record { is = refl; low = (group_low g.tag).0 } }

groups_again : (most n : ℕ) (list : List Group) (rest : List ℕ) → length (flat_map group_spelling list) < most → length (flat_map group_spelling list) < n → AllByRecursion IsGroup list → groups_at most n ((flat_map group_spelling list ++ 3 ∷ []) ++ rest) ≡ Ok (list, rest)
unfolding groups_at
groups_again most zero list rest room small h = absurd (omega (arith, small))
groups_again most (suc n) [] rest room small h =
    ap (λ r. r >>= λ number. cond (eqb number.0 3) (last_of number.1) (more_groups_of most n number.0 number.1)) ((reads_octet NeedMore).again 3 rest (omega arith))
groups_again most (suc n) (g ∷ list) rest room small h =
    let attributes = flat_map attribute_spelling g.attributes in
    let more = flat_map group_spelling list in
    let tail = (more ++ 3 ∷ []) ++ rest in
    let d = delimited list rest in
    let low = group_low g.tag in
    let lower = low.0 in
    let sizes = length-append attributes more in
    let one : length attributes < most = omega (arith, room, sizes) in
    let others : length more < most = omega (arith, room, sizes) in
    let fewer : length more < n = omega (arith, small, sizes) in
    ap (λ (l : List ℕ). groups_at most (suc n) ((group_number g.tag ∷ []) ++ l)) (regroup attributes more (3 ∷ []) rest ∙ ap (λ (l : List ℕ). attributes ++ l) (sym (append_assoc more (3 ∷ []) rest)))
    ∙ ap (λ r. r >>= λ number. cond (eqb number.0 3) (last_of number.1) (more_groups_of most n number.0 number.1)) ((reads_octet NeedMore).again (group_number g.tag) (attributes ++ tail) (omega (arith, lower)))
    ∙ ap (λ b. cond b (last_of (attributes ++ tail)) (more_groups_of most n (group_number g.tag) (attributes ++ tail))) low.1
    ∙ ap (λ r. r >>= λ g. groups_at most n g.1 >>= λ gs. Ok (g.0 ∷ gs.0, gs.1)) (group_again most g.tag g.attributes d.tag tail d.rest d.delimits one h.0)
    ∙ ap (λ r. r >>= λ gs. Ok (g ∷ gs.0, gs.1)) (groups_again most n list rest others fewer h.1)

-- ---- a message

pub message_takes : (most : ℕ) (bytes : List ℕ) (m : Message) (rest : List ℕ) → IsBytes bytes → message_at most bytes ≡ Ok (m, rest) → Takes bytes (message_spelling m) rest × IsMessage m
unfolding message_at
message_takes most bytes m rest fits e =
    let a = got (number_at NeedMore w8) (λ n. n ∷ []) (λ n. n < 256) (reads_octet NeedMore) bytes (λ major. number_at NeedMore w8 major.1 >>= λ minor. number_at NeedMore w16 minor.1 >>= λ code. number_at NeedMore w32 code.1 >>= λ request_id. groups_at most most request_id.1 >>= λ groups. message_made major.0 minor.0 code.0 (cast_signed w32 request_id.0) groups) (m, rest) fits e in
    let b = got (number_at NeedMore w8) (λ n. n ∷ []) (λ n. n < 256) (reads_octet NeedMore) a.rest (λ minor. number_at NeedMore w16 minor.1 >>= λ code. number_at NeedMore w32 code.1 >>= λ request_id. groups_at most most request_id.1 >>= λ groups. message_made a.value minor.0 code.0 (cast_signed w32 request_id.0) groups) (m, rest) a.taken.rest_fits a.then in
    let c = got (number_at NeedMore w16) (to_be_bytes w16) (λ n. n < 2 ^ 16) (reads_16 NeedMore) b.rest (λ code. number_at NeedMore w32 code.1 >>= λ request_id. groups_at most most request_id.1 >>= λ groups. message_made a.value b.value code.0 (cast_signed w32 request_id.0) groups) (m, rest) b.taken.rest_fits b.then in
    let d = got (number_at NeedMore w32) (to_be_bytes w32) (λ n. n < 2 ^ 32) (reads_32 NeedMore) c.rest (λ request_id. groups_at most most request_id.1 >>= λ groups. message_made a.value b.value c.value (cast_signed w32 request_id.0) groups) (m, rest) c.taken.rest_fits c.then in
    let g = bind_ok (groups_at most most d.rest) (λ groups. message_made a.value b.value c.value (cast_signed w32 d.value) groups) (m, rest) d.then in
    let o = groups_takes most most d.rest g.value.0 g.value.1 d.taken.rest_fits g.was in
    let signed = signed_takes d.value d.legal in
    let head : Takes bytes ((((a.value ∷ []) ++ (b.value ∷ [])) ++ to_be_bytes w16 c.value) ++ to_be_bytes w32 d.value) d.rest = ((a.taken ⨾ b.taken) ⨾ c.taken) ⨾ d.taken in
    let front : Takes bytes ((((a.value ∷ []) ++ (b.value ∷ [])) ++ to_be_bytes w16 c.value) ++ integer_octets (cast_signed w32 d.value)) d.rest =
    subst (λ (k : ℕ). Takes bytes ((((a.value ∷ []) ++ (b.value ∷ [])) ++ to_be_bytes w16 c.value) ++ to_be_bytes w32 k) d.rest) (sym signed.0) head in
    let made : Message = record { version = record { major = a.value; minor = b.value }; code = c.value; request_id = cast_signed w32 d.value; groups = g.value.0 } in
    let list = flat_map group_spelling g.value.0 in
    let begin = (((a.value ∷ []) ++ (b.value ∷ [])) ++ to_be_bytes w16 c.value) ++ integer_octets (cast_signed w32 d.value) in
    let whole : Takes bytes (begin ++ (list ++ 3 ∷ [])) g.value.1 = front ⨾ o.taken in
    let spelled : Takes bytes (message_spelling made) g.value.1 = subst (λ (l : List ℕ). Takes bytes l g.value.1) (sym (append_assoc begin list (3 ∷ []))) whole in
    let is : IsMessage made = record { header = record { major = a.legal; minor = b.legal; code = c.legal; request_id = signed.1 }; groups = o.legal } in
    ok_as (λ (x : Message × List ℕ). Takes bytes (message_spelling x.0) x.1 × IsMessage x.0) (made, g.value.1) (m, rest) g.then (spelled, is)

pub message_again : (most : ℕ) (m : Message) (rest : List ℕ) → length (message_spelling m) ≤ most → IsMessage m → message_at most (message_spelling m ++ rest) ≡ Ok (m, rest)
unfolding message_at
message_again most m rest room h =
    let list = flat_map group_spelling m.groups in
    let end = (list ++ 3 ∷ []) ++ rest in
    let number = cast_unsigned w32 m.request_id in
    let small : length list < most = omega (arith, room, length-append list (3 ∷ [])) in
    let finish : ℕ × List ℕ → Result (Message × List ℕ) DecodeFault = λ request_id. groups_at most most request_id.1 >>= λ groups. message_made m.version.major m.version.minor m.code (cast_signed w32 request_id.0) groups in
    ap (λ r. r >>= λ major. number_at NeedMore w8 major.1 >>= λ minor. number_at NeedMore w16 minor.1 >>= λ code. number_at NeedMore w32 code.1 >>= λ request_id. groups_at most most request_id.1 >>= λ groups. message_made major.0 minor.0 code.0 (cast_signed w32 request_id.0) groups)
    ((reads_octet NeedMore).again m.version.major (m.version.minor ∷ to_be_bytes w16 m.code ++ (integer_octets m.request_id ++ end)) h.header.major)
    ∙ ap (λ r. r >>= λ minor. number_at NeedMore w16 minor.1 >>= λ code. number_at NeedMore w32 code.1 >>= λ request_id. groups_at most most request_id.1 >>= λ groups. message_made m.version.major minor.0 code.0 (cast_signed w32 request_id.0) groups)
    ((reads_octet NeedMore).again m.version.minor (to_be_bytes w16 m.code ++ (integer_octets m.request_id ++ end)) h.header.minor)
    ∙ ap (λ r. r >>= λ code. number_at NeedMore w32 code.1 >>= λ request_id. groups_at most most request_id.1 >>= λ groups. message_made m.version.major m.version.minor code.0 (cast_signed w32 request_id.0) groups)
    ((reads_16 NeedMore).again m.code (integer_octets m.request_id ++ end) h.header.code)
    ∙ ap (λ r. r >>= finish) ((reads_32 NeedMore).again number end (unsigned_small m.request_id h.header.request_id))
    ∙ ap (λ r. r >>= λ groups. message_made m.version.major m.version.minor m.code (cast_signed w32 number) groups) (groups_again most most m.groups rest small small h.groups)
    ∙ ap (λ (z : ℤ). message_made m.version.major m.version.minor m.code z (m.groups, rest)) (signed_again m.request_id h.header.request_id)
