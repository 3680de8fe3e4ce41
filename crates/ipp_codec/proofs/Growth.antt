-- A fault remains, and a message is read again, if more octets follow.
use Rattle.std.proofs.Common.{◌≡◌, ℕ, zero, suc, ◌+◌, ◌-◌, ◌<◌, ◌≤◌, Bool, true, false, cond, ltb, eqb, List, [], ◌∷◌, ◌++◌, ◌&&◌, length, take, drop, Result, Ok, Err, refl, sym, ap, subst, ◌∙◌, append_assoc, arith, inl, inr}
use Rattle.std.specs.Prelude.{IfErr, nat_le}
use Rattle.std.specs.Int.{Width, w8, w16, w32, byte_len, from_be_bytes, cast_signed}
use Rattle.std.specs.List.{flat_map}
use Rattle.std.proofs.lemmas.Bool.{cases_lt, le-leb, lt-leb, ltb-false}
use Rattle.std.proofs.lemmas.List.{length-append, length-take, take-append-drop, take-append-le, take_all}
use Rattle.std.proofs.Math.Seq.{take-append-add}
use Rattle.ipp_values.specs.declared.tags.ValueTag.{ValueTag}
use Rattle.ipp_values.specs.declared.value.Value.{Value}
use Rattle.ipp_values.specs.declared.message.Attribute.{Attribute}
use Rattle.ipp_values.specs.declared.message.Message.{Message}
use Rattle.ipp_values.specs.Tags.{group_of}
use Rattle.ipp_codec.specs.declared.fault.DecodeFault.{DecodeFault}
use Rattle.ipp_codec.specs.declared.fault.DecodeFault.TheVariants.{NeedMore, TooLarge, Delimiter, Name, Length, Text, Boolean, Collection, Memory}
use Rattle.ipp_codec.specs.declared.place.Place.{Place}
use Rattle.ipp_codec.specs.declared.place.Place.TheVariants.{Outside}
use Rattle.ipp_codec.specs.Collections.{after_tag, is_outside}
use Rattle.ipp_codec.specs.MessageSpelling.{attribute_spelling, value_count, value_spelling}
use Rattle.ipp_codec.specs.Octets.{counted, is_length, may_begin, octets_of}
use Rattle.ipp_codec.specs.Reading.{additional_at, attribute_at, attributes_at, checked, first_passes, follows, group_at, group_or, groups_at, limited, message_at, name_at, no_name_at, number_at, part_at, reading, tag_at, text_of, value_at, value_of, value_tag_of, values_at}
use Rattle.ipp_codec.specs.ReadSteps.{Field, ◌>>=◌, Fails, Gives, Lasts}
use Rattle.ipp_codec.proofs.Fields.{IsBytes, part_again, reads_octet, reads_16, reads_32}
use Rattle.ipp_codec.proofs.TextLaws.{reads_tag}
use Rattle.ipp_codec.proofs.ValueLaws.{reads_value}
use Rattle.ipp_codec.proofs.MessageLaws.{additional_takes, attribute_takes, end_of, group_made, group_takes, last_of, made_of, message_made, more_groups_of, more_of, one_more, others_of, reads_name, stop_of}

-- ---- steps

lasts_self : (A : Type 0) (d : DecodeFault) → Lasts {Y = A} d (Err d)
lasts_self A NeedMore = tt
lasts_self A TooLarge = refl
lasts_self A Delimiter = refl
lasts_self A Name = refl
lasts_self A Length = refl
lasts_self A Text = refl
lasts_self A Boolean = refl
lasts_self A Collection = refl
lasts_self A Memory = tt

lasts_then : {A B : Type 0} (d : DecodeFault) (s : Result A DecodeFault) (g : A → Result B DecodeFault) → Lasts d s → Lasts d (s >>= g)
lasts_then NeedMore s g h = tt
lasts_then TooLarge s g h = ap (λ r. r >>= g) h
lasts_then Delimiter s g h = ap (λ r. r >>= g) h
lasts_then Name s g h = ap (λ r. r >>= g) h
lasts_then Length s g h = ap (λ r. r >>= g) h
lasts_then Text s g h = ap (λ r. r >>= g) h
lasts_then Boolean s g h = ap (λ r. r >>= g) h
lasts_then Collection s g h = ap (λ r. r >>= g) h
lasts_then Memory s g h = tt

-- What is read of more octets: what was read, as `push` has it, or the same fault.
abbrev Later : {A : Type 0} → (A → A) → Result A DecodeFault → Result A DecodeFault → Type 0
Later push (Ok x) s = s ≡ Ok (push x)
Later push (Err d) s = Lasts d s

abbrev pushed : {A : Type 0} → List ℕ → A × List ℕ → A × List ℕ
pushed more x = (x.0, x.1 ++ more)

abbrev kept : {A : Type 0} → A → A
kept x = x

same : {A : Type 0} (r : Result A DecodeFault) → Later kept r r
same (Ok x) = refl
same {A = A} (Err d) = lasts_self A d

later : {A B : Type 0} (p : A → A) (q : B → B) (r s : Result A DecodeFault) (f g : A → Result B DecodeFault) → Later p r s → ((x : A) → r ≡ Ok x → Later q (f x) (g (p x))) → Later q (r >>= f) (s >>= g)
later {A = A} {B = B} p q (Ok x) s f g h then = subst (λ (t : Result A DecodeFault). Later q (f x) (t >>= g)) (sym h) (then x refl)
later p q (Err d) s f g h then = lasts_then d s g h

tested : {A : Type 0} (p : A → A) (fault : DecodeFault) (b : Bool) (x : A) → Later p (checked fault b x) (checked fault b (p x))
unfolding checked
tested p fault true x = refl
tested {A = A} p fault false x = lasts_self A fault

-- ---- octets

later_part : (n : ℕ) (octets more : List ℕ) → Later (pushed more) (part_at NeedMore n octets) (part_at NeedMore n (octets ++ more))
unfolding part_at
later_part n octets more =
    (elim (ltb (length octets) n) as (λ b. ltb (length octets) n ≡ b → Later (pushed more) (cond b (Err NeedMore) (Ok (take n octets, drop n octets))) (part_at NeedMore n (octets ++ more))) [
      | true ↦ λ is. tt
      | false ↦ λ is.
          let long = ltb-false (length octets) n is in
          let whole : octets ++ more ≡ take n octets ++ (drop n octets ++ more) = ap (λ (l : List ℕ). l ++ more) (sym (take-append-drop n octets)) ∙ append_assoc (take n octets) (drop n octets) more in
          ap (part_at NeedMore n) whole ∙ part_again NeedMore (take n octets) (drop n octets ++ more) n (omega (arith, long, length-take n octets))
    ]) refl

later_number : (w : Width) (octets more : List ℕ) → Later (pushed more) (number_at NeedMore w octets) (number_at NeedMore w (octets ++ more))
unfolding number_at
later_number w octets more =
    later (pushed more) (pushed more) (part_at NeedMore (byte_len w) octets) (part_at NeedMore (byte_len w) (octets ++ more)) (λ part. Ok (from_be_bytes w part.0, part.1)) (λ part. Ok (from_be_bytes w part.0, part.1)) (later_part (byte_len w) octets more) (λ x is. refl)

no_number : number_at NeedMore w16 [] ≡ Err NeedMore
unfolding number_at part_at
no_number = refl

-- The first octet of a length is examined before the next one has arrived.
later_length : {B : Type 0} (q : B → B) (fault : DecodeFault) (test : ℕ → Bool) (octets more : List ℕ) (f g : ℕ × List ℕ → Result B DecodeFault) → ((n : ℕ) (rest : List ℕ) → number_at NeedMore w16 octets ≡ Ok (n, rest) → Later q (f (n, rest)) (g (n, rest ++ more)))
    → Later q (checked {A = ℕ} fault (first_passes test octets) 0 >>= λ begun. number_at NeedMore w16 octets >>= f) (checked {A = ℕ} fault (first_passes test (octets ++ more)) 0 >>= λ begun. number_at NeedMore w16 (octets ++ more) >>= g)
unfolding checked
later_length {B = B} q fault test [] more f g then =
    subst (λ (r : Field ℕ). Later q (r >>= f) (checked {A = ℕ} fault (first_passes test more) 0 >>= λ begun. number_at NeedMore w16 more >>= g)) (sym no_number) tt
later_length q fault test (b ∷ octets) more f g then =
    later kept q (checked {A = ℕ} fault (test b) 0) (checked {A = ℕ} fault (test b) 0) (λ begun. number_at NeedMore w16 (b ∷ octets) >>= f) (λ begun. number_at NeedMore w16 (b ∷ octets ++ more) >>= g) (same (checked {A = ℕ} fault (test b) 0))
    (λ begun is. later (pushed more) q (number_at NeedMore w16 (b ∷ octets)) (number_at NeedMore w16 (b ∷ octets ++ more)) f g (later_number w16 (b ∷ octets) more) (λ x read. then x.0 x.1 read))

later_tag : (octets more : List ℕ) → Later (pushed more) (tag_at octets) (tag_at (octets ++ more))
unfolding tag_at
later_tag octets more =
    let f : ℕ × List ℕ → Field ValueTag = λ n. value_tag_of n.0 >>= λ tag. Ok (tag, n.1) in
    later (pushed more) (pushed more) (number_at NeedMore w8 octets) (number_at NeedMore w8 (octets ++ more)) f f (later_number w8 octets more)
    (λ n is. later kept (pushed more) (value_tag_of n.0) (value_tag_of n.0) (λ tag. Ok (tag, n.1)) (λ tag. Ok (tag, n.1 ++ more)) (same (value_tag_of n.0)) (λ tag is. refl))

-- ---- values and names

abbrev after_part : ValueTag → List ℕ × List ℕ → Field Value
after_part tag part = value_of tag part.0 >>= λ v. Ok (v, part.1)

abbrev after_length : ValueTag → ℕ × List ℕ → Field Value
after_length tag n = checked Length (is_length tag n.0) n.0 >>= λ long. part_at NeedMore long n.1 >>= after_part tag

later_value : (tag : ValueTag) (octets more : List ℕ) → Later (pushed more) (value_at tag octets) (value_at tag (octets ++ more))
unfolding value_at
later_value tag octets more =
    later_length (pushed more) Length (may_begin tag) octets more (after_length tag) (after_length tag) (λ n rest read.
    later kept (pushed more) (checked Length (is_length tag n) n) (checked Length (is_length tag n) n) (λ long. part_at NeedMore long rest >>= after_part tag) (λ long. part_at NeedMore long (rest ++ more) >>= after_part tag) (same (checked Length (is_length tag n) n)) (λ long is.
    later (pushed more) (pushed more) (part_at NeedMore long rest) (part_at NeedMore long (rest ++ more)) (after_part tag) (after_part tag) (later_part long rest more) (λ part is.
    later kept (pushed more) (value_of tag part.0) (value_of tag part.0) (λ v. Ok (v, part.1)) (λ v. Ok (v, part.1 ++ more)) (same (value_of tag part.0)) (λ v is. refl))))

abbrev after_name : List ℕ × List ℕ → Field (List ℕ)
after_name part = text_of 1 255 127 part.0 >>= λ name. Ok (name, part.1)

abbrev after_name_length : ℕ × List ℕ → Field (List ℕ)
after_name_length n = checked Name (nat_le 1 n.0 && nat_le n.0 255) n.0 >>= λ long. part_at NeedMore long n.1 >>= after_name

later_name : (octets more : List ℕ) → Later (pushed more) (name_at octets) (name_at (octets ++ more))
unfolding name_at
later_name octets more =
    later_length (pushed more) Name (λ high. eqb high 0) octets more after_name_length after_name_length (λ n rest read.
    later kept (pushed more) (checked Name (nat_le 1 n && nat_le n 255) n) (checked Name (nat_le 1 n && nat_le n 255) n) (λ long. part_at NeedMore long rest >>= after_name) (λ long. part_at NeedMore long (rest ++ more) >>= after_name) (same (checked Name (nat_le 1 n && nat_le n 255) n)) (λ long is.
    later (pushed more) (pushed more) (part_at NeedMore long rest) (part_at NeedMore long (rest ++ more)) after_name after_name (later_part long rest more) (λ part is.
    later kept (pushed more) (text_of 1 255 127 part.0) (text_of 1 255 127 part.0) (λ name. Ok (name, part.1)) (λ name. Ok (name, part.1 ++ more)) (same (text_of 1 255 127 part.0)) (λ name is. refl))))

-- ---- additional values

abbrev is_zero : ℕ × List ℕ → Result Bool DecodeFault
is_zero n = Ok (eqb n.0 0)

abbrev after_value_tag : Place → ℕ × List ℕ → Result Bool DecodeFault
after_value_tag place tag = value_tag_of tag.0 >>= λ kind. after_tag place kind >>= λ next. checked {A = ℕ} Name (first_passes (λ high. eqb high 0) tag.1) 0 >>= λ begun. number_at NeedMore w16 tag.1 >>= is_zero

abbrev after_number : Place → ℕ × List ℕ → Result Bool DecodeFault
after_number place tag = cond (ltb tag.0 16) (Ok false) (after_value_tag place tag)

later_kind : (place : Place) (number : ℕ) (rest more : List ℕ) → Later kept (after_value_tag place (number, rest)) (after_value_tag place (number, rest ++ more))
later_kind place number rest more =
    let f : List ℕ → ValueTag → Result Bool DecodeFault = λ o kind. after_tag place kind >>= λ next. checked {A = ℕ} Name (first_passes (λ high. eqb high 0) o) 0 >>= λ begun. number_at NeedMore w16 o >>= is_zero in
    let g : List ℕ → Place → Result Bool DecodeFault = λ o next. checked {A = ℕ} Name (first_passes (λ high. eqb high 0) o) 0 >>= λ begun. number_at NeedMore w16 o >>= is_zero in
    later kept kept (value_tag_of number) (value_tag_of number) (f rest) (f (rest ++ more)) (same (value_tag_of number)) (λ kind is.
    later kept kept (after_tag place kind) (after_tag place kind) (g rest) (g (rest ++ more)) (same (after_tag place kind)) (λ next is.
    later_length kept Name (λ high. eqb high 0) rest more is_zero is_zero (λ n left read. refl)))

later_follows : (place : Place) (octets more : List ℕ) → Later kept (follows place octets) (follows place (octets ++ more))
unfolding follows
later_follows place octets more =
    later (pushed more) kept (number_at NeedMore w8 octets) (number_at NeedMore w8 (octets ++ more)) (after_number place) (after_number place) (later_number w8 octets more) (λ tag is.
    (elim (ltb tag.0 16) as (λ b. Later kept (cond b (Ok false) (after_value_tag place tag)) (cond b (Ok false) (after_value_tag place (tag.0, tag.1 ++ more)))) [
      | true ↦ refl
      | false ↦ later_kind place tag.0 tag.1 more
    ]))

later_none : (octets more : List ℕ) → Later (pushed more) (no_name_at octets) (no_name_at (octets ++ more))
unfolding no_name_at
later_none octets more =
    let f : ℕ × List ℕ → Field ℕ = λ n. checked Name (eqb n.0 0) n in
    later (pushed more) (pushed more) (number_at NeedMore w16 octets) (number_at NeedMore w16 (octets ++ more)) f f (later_number w16 octets more) (λ n is. tested (pushed more) Name (eqb n.0 0) n)

later_additional : (place : Place) (octets more : List ℕ) → Later (pushed more) (additional_at place octets) (additional_at place (octets ++ more))
unfolding additional_at
later_additional place octets more =
    let made : Place → Value × List ℕ → Field (Place × Value) = λ next v. Ok ((next, v.0), v.1) in
    let f : ValueTag × List ℕ → Field (Place × Value) = λ tag. no_name_at tag.1 >>= λ name. after_tag place tag.0 >>= λ next. value_at tag.0 name.1 >>= made next in
    let g : ValueTag → ℕ × List ℕ → Field (Place × Value) = λ tag name. after_tag place tag >>= λ next. value_at tag name.1 >>= made next in
    let h : ValueTag → List ℕ → Place → Field (Place × Value) = λ tag rest next. value_at tag rest >>= made next in
    later (pushed more) (pushed more) (tag_at octets) (tag_at (octets ++ more)) f f (later_tag octets more) (λ tag is.
    later (pushed more) (pushed more) (no_name_at tag.1) (no_name_at (tag.1 ++ more)) (g tag.0) (g tag.0) (later_none tag.1 more) (λ name is.
    later kept (pushed more) (after_tag place tag.0) (after_tag place tag.0) (h tag.0 name.1) (h tag.0 (name.1 ++ more)) (same (after_tag place tag.0)) (λ next is.
    later (pushed more) (pushed more) (value_at tag.0 name.1) (value_at tag.0 (name.1 ++ more)) (made next) (made next) (later_value tag.0 name.1 more) (λ v is. refl))))

later_values : (n k : ℕ) (place : Place) (octets more : List ℕ) → IsBytes octets → length octets < n → length octets + length more < k → Later (pushed more) (values_at n place octets) (values_at k place (octets ++ more))
unfolding values_at
later_values zero k place octets more fits room wide = absurd (omega (arith, room))
later_values (suc n) zero place octets more fits room wide = absurd (omega (arith, wide))
later_values (suc n) (suc k) place octets more fits room wide =
    let rest_of : (x : (Place × Value) × List ℕ) → additional_at place octets ≡ Ok x → Later (pushed more) (values_at n x.0.0 x.1) (values_at k x.0.0 (x.1 ++ more)) = λ x read.
    let t = additional_takes place octets x.0 x.1 fits read in
    let sizes = ap length t.0.parts ∙ length-append (value_spelling [] x.0.1) x.1 in
    later_values n k x.0.0 x.1 more t.0.rest_fits (omega (arith, room, sizes)) (omega (arith, wide, sizes)) in
    let goes_on : Later (pushed more) (more_of n place octets) (more_of k place (octets ++ more)) =
    later (pushed more) (pushed more) (additional_at place octets) (additional_at place (octets ++ more)) (λ v. values_at n v.0.0 v.1 >>= λ vs. Ok (v.0.1 ∷ vs.0, vs.1)) (λ v. values_at k v.0.0 v.1 >>= λ vs. Ok (v.0.1 ∷ vs.0, vs.1)) (later_additional place octets more) (λ x read.
    later (pushed more) (pushed more) (values_at n x.0.0 x.1) (values_at k x.0.0 (x.1 ++ more)) (λ vs. Ok (x.0.1 ∷ vs.0, vs.1)) (λ vs. Ok (x.0.1 ∷ vs.0, vs.1)) (rest_of x read) (λ vs is. refl)) in
    later kept (pushed more) (follows place octets) (follows place (octets ++ more)) (λ b. cond b (more_of n place octets) (end_of place octets)) (λ b. cond b (more_of k place (octets ++ more)) (end_of place (octets ++ more))) (later_follows place octets more) (λ b is.
    (elim b as (λ b. Later (pushed more) (cond b (more_of n place octets) (end_of place octets)) (cond b (more_of k place (octets ++ more)) (end_of place (octets ++ more)))) [
      | true ↦ goes_on
      | false ↦ tested (pushed more) Collection (is_outside place) ([], octets)
    ]))

-- ---- attributes

later_attribute : (most limit : ℕ) (octets more : List ℕ) → IsBytes octets → length octets ≤ most → length octets + length more ≤ limit → Later (pushed more) (attribute_at most octets) (attribute_at limit (octets ++ more))
unfolding attribute_at
later_attribute most limit octets more fits room wide =
    let f : ℕ → ValueTag × List ℕ → Field Attribute = λ n tag. after_tag Outside tag.0 >>= λ next. name_at tag.1 >>= λ name. value_at tag.0 name.1 >>= λ v. values_at n next v.1 >>= λ vs. made_of name.0 v.0 vs in
    let g : ℕ → ValueTag → List ℕ → Place → Field Attribute = λ n tag rest next. name_at rest >>= λ name. value_at tag name.1 >>= λ v. values_at n next v.1 >>= λ vs. made_of name.0 v.0 vs in
    let h : ℕ → ValueTag → Place → List ℕ × List ℕ → Field Attribute = λ n tag next name. value_at tag name.1 >>= λ v. values_at n next v.1 >>= λ vs. made_of name.0 v.0 vs in
    let i : ℕ → Place → List ℕ → Value × List ℕ → Field Attribute = λ n next name v. values_at n next v.1 >>= λ vs. made_of name v.0 vs in
    later (pushed more) (pushed more) (tag_at octets) (tag_at (octets ++ more)) (f most) (f limit) (later_tag octets more) (λ tag read.
    let t = reads_tag.takes octets tag.0 tag.1 fits read in
    later kept (pushed more) (after_tag Outside tag.0) (after_tag Outside tag.0) (g most tag.0 tag.1) (g limit tag.0 (tag.1 ++ more)) (same (after_tag Outside tag.0)) (λ next is.
    later (pushed more) (pushed more) (name_at tag.1) (name_at (tag.1 ++ more)) (h most tag.0 next) (h limit tag.0 next) (later_name tag.1 more) (λ name read.
    let u = reads_name.takes tag.1 name.0 name.1 t.0.rest_fits read in
    later (pushed more) (pushed more) (value_at tag.0 name.1) (value_at tag.0 (name.1 ++ more)) (i most next name.0) (i limit next name.0) (later_value tag.0 name.1 more) (λ v read.
    let w = (reads_value tag.0 t.1).takes name.1 v.0 v.1 u.0.rest_fits read in
    let sizes = ap length t.0.parts in
    let others = ap length u.0.parts ∙ length-append (counted name.0) name.1 in
    let last = ap length w.0.parts ∙ length-append (counted (octets_of v.0)) v.1 in
    later (pushed more) (pushed more) (values_at most next v.1) (values_at limit next (v.1 ++ more)) (λ vs. made_of name.0 v.0 vs) (λ vs. made_of name.0 v.0 vs)
    (later_values most limit next v.1 more w.0.rest_fits (omega (arith, room, sizes, others, last)) (omega (arith, wide, sizes, others, last))) (λ vs is. refl)))))

-- An attribute has octets.
attribute_less : (most : ℕ) (octets : List ℕ) (a : Attribute) (rest : List ℕ) → IsBytes octets → attribute_at most octets ≡ Ok (a, rest) → length rest < length octets
attribute_less most octets a rest fits read =
    let t = attribute_takes most octets a rest fits read in
    let some = one_more a.name a.values t.1 in
    let sizes = ap length t.0.parts ∙ length-append (attribute_spelling a) rest in
    omega (arith, some, sizes)

later_attributes : (most limit n k : ℕ) (octets more : List ℕ) → IsBytes octets → length octets ≤ most → length octets + length more ≤ limit → length octets < n → length octets + length more < k → Later (pushed more) (attributes_at most n octets) (attributes_at limit k (octets ++ more))
unfolding attributes_at
later_attributes most limit zero k octets more fits room wide small short = absurd (omega (arith, small))
later_attributes most limit (suc n) zero octets more fits room wide small short = absurd (omega (arith, short))
later_attributes most limit (suc n) (suc k) octets more fits room wide small short =
    let goes_on : Later (pushed more) (others_of most n octets) (others_of limit k (octets ++ more)) =
    later (pushed more) (pushed more) (attribute_at most octets) (attribute_at limit (octets ++ more)) (λ a. attributes_at most n a.1 >>= λ others. Ok (a.0 ∷ others.0, others.1)) (λ a. attributes_at limit k a.1 >>= λ others. Ok (a.0 ∷ others.0, others.1)) (later_attribute most limit octets more fits room wide) (λ a read.
    let t = attribute_takes most octets a.0 a.1 fits read in
    let less = attribute_less most octets a.0 a.1 fits read in
    later (pushed more) (pushed more) (attributes_at most n a.1) (attributes_at limit k (a.1 ++ more)) (λ others. Ok (a.0 ∷ others.0, others.1)) (λ others. Ok (a.0 ∷ others.0, others.1))
    (later_attributes most limit n k a.1 more t.0.rest_fits (omega (arith, room, less)) (omega (arith, wide, less)) (omega (arith, small, less)) (omega (arith, short, less))) (λ others is. refl)) in
    later (pushed more) (pushed more) (number_at NeedMore w8 octets) (number_at NeedMore w8 (octets ++ more)) (λ tag. cond (ltb tag.0 16) (stop_of octets) (others_of most n octets)) (λ tag. cond (ltb tag.0 16) (stop_of (octets ++ more)) (others_of limit k (octets ++ more))) (later_number w8 octets more) (λ tag is.
    (elim (ltb tag.0 16) as (λ b. Later (pushed more) (cond b (stop_of octets) (others_of most n octets)) (cond b (stop_of (octets ++ more)) (others_of limit k (octets ++ more)))) [
      | true ↦ refl
      | false ↦ goes_on
    ]))

-- ---- groups

later_group : (most limit number : ℕ) (octets more : List ℕ) → IsBytes octets → length octets < most → length octets + length more < limit → Later (pushed more) (group_at most number octets) (group_at limit number (octets ++ more))
later_group most limit number octets more fits room wide =
    later kept (pushed more) (group_or (group_of number)) (group_or (group_of number)) (λ tag. attributes_at most most octets >>= λ list. group_made tag list) (λ tag. attributes_at limit limit (octets ++ more) >>= λ list. group_made tag list) (same (group_or (group_of number))) (λ tag is.
    later (pushed more) (pushed more) (attributes_at most most octets) (attributes_at limit limit (octets ++ more)) (λ list. group_made tag list) (λ list. group_made tag list)
    (later_attributes most limit most limit octets more fits (omega (arith, room)) (omega (arith, wide)) room wide) (λ list is. refl))

later_groups : (most limit n k : ℕ) (octets more : List ℕ) → IsBytes octets → length octets ≤ most → length octets + length more ≤ limit → length octets < n → length octets + length more < k → Later (pushed more) (groups_at most n octets) (groups_at limit k (octets ++ more))
unfolding groups_at
later_groups most limit zero k octets more fits room wide small short = absurd (omega (arith, small))
later_groups most limit (suc n) zero octets more fits room wide small short = absurd (omega (arith, short))
later_groups most limit (suc n) (suc k) octets more fits room wide small short =
    later (pushed more) (pushed more) (number_at NeedMore w8 octets) (number_at NeedMore w8 (octets ++ more)) (λ number. cond (eqb number.0 3) (last_of number.1) (more_groups_of most n number.0 number.1)) (λ number. cond (eqb number.0 3) (last_of number.1) (more_groups_of limit k number.0 number.1)) (later_number w8 octets more) (λ number read.
    let first = (reads_octet NeedMore).takes octets number.0 number.1 fits read in
    let sizes = ap length first.0.parts in
    let goes_on : Later (pushed more) (more_groups_of most n number.0 number.1) (more_groups_of limit k number.0 (number.1 ++ more)) =
    later (pushed more) (pushed more) (group_at most number.0 number.1) (group_at limit number.0 (number.1 ++ more)) (λ g. groups_at most n g.1 >>= λ gs. Ok (g.0 ∷ gs.0, gs.1)) (λ g. groups_at limit k g.1 >>= λ gs. Ok (g.0 ∷ gs.0, gs.1))
    (later_group most limit number.0 number.1 more first.0.rest_fits (omega (arith, room, sizes)) (omega (arith, wide, sizes))) (λ g read.
    let t = group_takes most number.0 number.1 g.0 g.1 first.0.rest_fits read in
    let less = ap length t.1.parts ∙ length-append (flat_map attribute_spelling g.0.attributes) g.1 in
    later (pushed more) (pushed more) (groups_at most n g.1) (groups_at limit k (g.1 ++ more)) (λ gs. Ok (g.0 ∷ gs.0, gs.1)) (λ gs. Ok (g.0 ∷ gs.0, gs.1))
    (later_groups most limit n k g.1 more t.1.rest_fits (omega (arith, room, sizes, less)) (omega (arith, wide, sizes, less)) (omega (arith, small, sizes, less)) (omega (arith, short, sizes, less))) (λ gs is. refl)) in
    (elim (eqb number.0 3) as (λ b. Later (pushed more) (cond b (last_of number.1) (more_groups_of most n number.0 number.1)) (cond b (last_of (number.1 ++ more)) (more_groups_of limit k number.0 (number.1 ++ more)))) [
      | true ↦ refl
      | false ↦ goes_on
    ]))

later_message : (most limit : ℕ) (octets more : List ℕ) → IsBytes octets → length octets ≤ most → length octets + length more ≤ limit → Later (pushed more) (message_at most octets) (message_at limit (octets ++ more))
unfolding message_at
later_message most limit octets more fits room wide =
    let f : ℕ → ℕ × List ℕ → Field Message = λ n major. number_at NeedMore w8 major.1 >>= λ minor. number_at NeedMore w16 minor.1 >>= λ code. number_at NeedMore w32 code.1 >>= λ request_id. groups_at n n request_id.1 >>= λ groups. message_made major.0 minor.0 code.0 (cast_signed w32 request_id.0) groups in
    let g : ℕ → ℕ → ℕ × List ℕ → Field Message = λ n major minor. number_at NeedMore w16 minor.1 >>= λ code. number_at NeedMore w32 code.1 >>= λ request_id. groups_at n n request_id.1 >>= λ groups. message_made major minor.0 code.0 (cast_signed w32 request_id.0) groups in
    let h : ℕ → ℕ → ℕ → ℕ × List ℕ → Field Message = λ n major minor code. number_at NeedMore w32 code.1 >>= λ request_id. groups_at n n request_id.1 >>= λ groups. message_made major minor code.0 (cast_signed w32 request_id.0) groups in
    let i : ℕ → ℕ → ℕ → ℕ → ℕ × List ℕ → Field Message = λ n major minor code request_id. groups_at n n request_id.1 >>= λ groups. message_made major minor code (cast_signed w32 request_id.0) groups in
    later (pushed more) (pushed more) (number_at NeedMore w8 octets) (number_at NeedMore w8 (octets ++ more)) (f most) (f limit) (later_number w8 octets more) (λ major read.
    let a = (reads_octet NeedMore).takes octets major.0 major.1 fits read in
    later (pushed more) (pushed more) (number_at NeedMore w8 major.1) (number_at NeedMore w8 (major.1 ++ more)) (g most major.0) (g limit major.0) (later_number w8 major.1 more) (λ minor read.
    let b = (reads_octet NeedMore).takes major.1 minor.0 minor.1 a.0.rest_fits read in
    later (pushed more) (pushed more) (number_at NeedMore w16 minor.1) (number_at NeedMore w16 (minor.1 ++ more)) (h most major.0 minor.0) (h limit major.0 minor.0) (later_number w16 minor.1 more) (λ code read.
    let c = (reads_16 NeedMore).takes minor.1 code.0 code.1 b.0.rest_fits read in
    later (pushed more) (pushed more) (number_at NeedMore w32 code.1) (number_at NeedMore w32 (code.1 ++ more)) (i most major.0 minor.0 code.0) (i limit major.0 minor.0 code.0) (later_number w32 code.1 more) (λ request_id read.
    let d = (reads_32 NeedMore).takes code.1 request_id.0 request_id.1 c.0.rest_fits read in
    let first = ap length a.0.parts in
    let second = ap length b.0.parts in
    let third = ap length c.0.parts in
    let fourth = ap length d.0.parts in
    later (pushed more) (pushed more) (groups_at most most request_id.1) (groups_at limit limit (request_id.1 ++ more)) (λ groups. message_made major.0 minor.0 code.0 (cast_signed w32 request_id.0) groups) (λ groups. message_made major.0 minor.0 code.0 (cast_signed w32 request_id.0) groups)
    (later_groups most limit most limit request_id.1 more d.0.rest_fits (omega (arith, room, first, second, third, fourth)) (omega (arith, wide, first, second, third, fourth)) (omega (arith, room, first, second, third, fourth)) (omega (arith, wide, first, second, third, fourth))) (λ groups is. refl)))))

-- ---- the limit

abbrev counted_of : ℕ → Message × List ℕ → Result (Message × ℕ) DecodeFault
counted_of total m = checked {A = ℕ} TooLarge (nat_le (value_count m.0) 4096) 0 >>= λ few. Ok (m.0, total - length m.1)

-- What is read of a window, if octets do not fill it.
later_limited : (b : Bool) (more : List ℕ) (r s : Field Message) → Later (pushed more) r s → Later (pushed more) (limited false r) (limited b s)
later_limited b more (Ok m) s h = ap (limited b) h
later_limited b more (Err NeedMore) s h = tt
later_limited b more (Err TooLarge) s h = ap (limited b) h
later_limited b more (Err Delimiter) s h = ap (limited b) h
later_limited b more (Err Name) s h = ap (limited b) h
later_limited b more (Err Length) s h = ap (limited b) h
later_limited b more (Err Text) s h = ap (limited b) h
later_limited b more (Err Boolean) s h = ap (limited b) h
later_limited b more (Err Collection) s h = ap (limited b) h
later_limited b more (Err Memory) s h = tt

-- The octets are fewer than the limit.
short_later : (octets more : List ℕ) → IsBytes octets → length octets < 65536 → Later kept (reading octets) (reading (octets ++ more))
unfolding reading
short_later octets more fits short =
    let room = 65536 - length octets in
    let some : List ℕ = take room more in
    let sum : 65536 ≡ length octets + room = omega (arith, short) in
    let w : List ℕ = take 65536 octets in
    let whole : w ≡ octets = take_all 65536 octets (omega (arith, short)) in
    let wide : List ℕ = take 65536 (octets ++ more) in
    let parts : wide ≡ octets ++ some = ap (λ k. take k (octets ++ more)) sum ∙ take-append-add octets more room in
    let sizes : length wide ≡ length octets + length some = ap length parts ∙ length-append octets some in
    let off : nat_le 65536 (length octets) ≡ false = lt-leb 65536 (length octets) short in
    let b = nat_le 65536 (length (octets ++ more)) in
    let read : Later (pushed some) (message_at (length octets) octets) (message_at (length wide) (octets ++ some)) = later_message (length octets) (length wide) octets some fits (omega arith) (omega (arith, sizes)) in
    let counts : (m : Message × List ℕ) → Later kept (counted_of (length octets) m) (counted_of (length wide) (pushed some m)) = λ m.
    let total : length wide - length (m.1 ++ some) ≡ length octets - length m.1 = omega (arith, sizes, length-append m.1 some) in
    later kept kept (checked {A = ℕ} TooLarge (nat_le (value_count m.0) 4096) 0) (checked {A = ℕ} TooLarge (nat_le (value_count m.0) 4096) 0) (λ few. Ok (m.0, length octets - length m.1)) (λ few. Ok (m.0, length wide - length (m.1 ++ some))) (same (checked {A = ℕ} TooLarge (nat_le (value_count m.0) 4096) 0)) (λ few is. ap (λ (k : ℕ). Ok (m.0, k)) total) in
    let all : Later kept (limited false (message_at (length octets) octets) >>= counted_of (length octets)) (limited b (message_at (length wide) (octets ++ some)) >>= counted_of (length wide)) =
    later (pushed some) kept (limited false (message_at (length octets) octets)) (limited b (message_at (length wide) (octets ++ some))) (counted_of (length octets)) (counted_of (length wide)) (later_limited b some (message_at (length octets) octets) (message_at (length wide) (octets ++ some)) read) (λ m is. counts m) in
    let here : reading octets ≡ (limited false (message_at (length octets) octets) >>= counted_of (length octets)) =
    ap (λ t. limited t (message_at (length w) w) >>= counted_of (length w)) off ∙ ap (λ (l : List ℕ). limited false (message_at (length l) l) >>= counted_of (length l)) whole in
    let there : reading (octets ++ more) ≡ (limited b (message_at (length wide) (octets ++ some)) >>= counted_of (length wide)) =
    ap (λ (l : List ℕ). limited b (message_at (length wide) l) >>= counted_of (length wide)) parts in
    subst (λ (r : Result (Message × ℕ) DecodeFault). Later kept r (reading (octets ++ more))) (sym here)
    (subst (λ (s : Result (Message × ℕ) DecodeFault). Later kept (limited false (message_at (length octets) octets) >>= counted_of (length octets)) s) (sym there) all)

-- The octets fill the window.
long_later : (octets more : List ℕ) → 65536 ≤ length octets → reading (octets ++ more) ≡ reading octets
unfolding reading
long_later octets more long =
    let sizes = length-append octets more in
    let window : take 65536 (octets ++ more) ≡ take 65536 octets = take-append-le 65536 octets more long in
    let on : nat_le 65536 (length (octets ++ more)) ≡ nat_le 65536 (length octets) = le-leb 65536 (length (octets ++ more)) (omega (arith, long, sizes)) ∙ sym (le-leb 65536 (length octets) long) in
    ap (λ t. limited t (message_at (length (take 65536 (octets ++ more))) (take 65536 (octets ++ more))) >>= counted_of (length (take 65536 (octets ++ more)))) on
    ∙ ap (λ (l : List ℕ). limited (nat_le 65536 (length octets)) (message_at (length l) l) >>= counted_of (length l)) window

all_later : (octets more : List ℕ) → IsBytes octets → Later kept (reading octets) (reading (octets ++ more))
all_later octets more fits =
    elim (cases_lt (length octets) 65536) [
      | inl short ↦ short_later octets more fits short
      | inr long ↦ subst (λ (s : Result (Message × ℕ) DecodeFault). Later kept (reading octets) s) (sym (long_later octets more long)) (same (reading octets))
    ]

fault_later : (d : DecodeFault) (octets more : List ℕ) → IsBytes octets → reading octets ≡ Err d → Lasts d (reading (octets ++ more))
fault_later d octets more fits e = subst (λ (r : Result (Message × ℕ) DecodeFault). Later kept r (reading (octets ++ more))) e (all_later octets more fits)

fault_lasts : (d : DecodeFault) (octets : List ℕ) → IsBytes octets → Fails d (reading octets) → (more : List ℕ) → Lasts d (reading (octets ++ more))
fault_lasts NeedMore octets fits e more = tt
fault_lasts TooLarge octets fits e more = fault_later TooLarge octets more fits e
fault_lasts Delimiter octets fits e more = fault_later Delimiter octets more fits e
fault_lasts Name octets fits e more = fault_later Name octets more fits e
fault_lasts Length octets fits e more = fault_later Length octets more fits e
fault_lasts Text octets fits e more = fault_later Text octets more fits e
fault_lasts Boolean octets fits e more = fault_later Boolean octets more fits e
fault_lasts Collection octets fits e more = fault_later Collection octets more fits e
fault_lasts Memory octets fits e more = tt

pub lasting_of : (octets : List ℕ) (r : Result (Message × ℕ) DecodeFault) → IsBytes octets → Gives (λ x. x) r (reading octets) → IfErr r (λ fault. (more : List ℕ) → Lasts fault (reading (octets ++ more)))
lasting_of octets (Ok x) fits e = tt
lasting_of octets (Err d) fits e = fault_lasts d octets fits e
