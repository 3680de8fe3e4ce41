-- Where octets are lacking, others complete a message.
use Rattle.std.proofs.Common.{◌≡◌, ℕ, zero, suc, ◌-◌, ◌^◌, ◌<◌, Bool, true, false, cond, ltb, eqb, List, [], ◌∷◌, ◌++◌, length, take, get_or, Result, Ok, Err, Some, None, Option, refl, sym, ap, subst, ◌∙◌, append_assoc, arith, inl, inr, ◌⊎◌}
use Rattle.std.specs.Prelude.{nat_le, IsErrOf}
use Rattle.std.specs.Int.{Width, w8, w16, w32, byte_len, from_be_bytes, to_be_bytes, cast_signed}
use Rattle.std.specs.List.{flat_map, AllByRecursion}
use Rattle.std.proofs.lemmas.Bool.{eqb-true, leb-false}
use Rattle.std.proofs.lemmas.List.{append-nil, length-append, take_all}
use Rattle.std.proofs.lemmas.List.Concat.{flat_map-cons}
use Rattle.ipp_values.specs.declared.tags.GroupTag.{GroupTag}
use Rattle.ipp_values.specs.declared.tags.ValueTag.{ValueTag}
use Rattle.ipp_values.specs.declared.value.Value.{Value}
use Rattle.ipp_values.specs.declared.value.Value.TheVariants as kinds
use Rattle.ipp_values.specs.declared.message.Attribute.{Attribute}
use Rattle.ipp_values.specs.declared.message.Group.{Group}
use Rattle.ipp_values.specs.declared.message.Message.{Message}
use Rattle.ipp_values.specs.Tags.{group_number, group_of, tag_number, tag_of_number}
use Rattle.ipp_values.specs.ValueTexts.{tag_of}
use Rattle.ipp_codec.specs.declared.fault.DecodeFault.{DecodeFault}
use Rattle.ipp_codec.specs.declared.fault.DecodeFault.TheVariants.{NeedMore, TooLarge, Delimiter, Name, Length, Text, Boolean, Collection, Memory}
use Rattle.ipp_codec.specs.declared.place.Place.{Place}
use Rattle.ipp_codec.specs.declared.place.Place.TheVariants.{Outside}
use Rattle.ipp_codec.specs.Collections.{after_tag, is_outside, place_after}
use Rattle.ipp_codec.specs.Octets.{counted, IsText, IsValue}
use Rattle.ipp_codec.specs.MessageSpelling.{attribute_spelling, group_spelling, message_spelling, value_count, value_spelling, IsAttribute, IsGroup, IsMessage, Spells}
use Rattle.ipp_codec.specs.Reading.{additional_at, attribute_at, attributes_at, checked, follows, group_at, group_or, groups_at, limited, message_at, name_at, name_begins, no_name_at, number_at, reading, tag_at, tag_or, value_at, value_tag_of, values_at}
use Rattle.ipp_codec.specs.ReadSteps.{◌>>=◌, Gives}
use Rattle.ipp_codec.specs.Unfinished.{CanComplete}
use Rattle.ipp_codec.proofs.Fields.{IsBytes, IsWide, ◌⨾◌, bind_ok, checked_ok, done, ok_is, reads_octet, reads_16, reads_32, wide16, wide32}
use Rattle.ipp_codec.proofs.TextLaws.{IsTag, reads_tag, signed_takes, tag_takes}
use Rattle.ipp_codec.proofs.ValueLaws.{reads_value}
use Rattle.ipp_codec.proofs.MessageLaws.{additional_takes, attribute_takes, end_of, group_made, group_or_takes, group_takes, last_of, made_of, message_again, message_made, more_groups_of, more_of, others_of, reads_name, reads_none, stop_of}
use Rattle.ipp_codec.proofs.Samples.{filled, filled_legal, filled_tag, least_is, least_of, letters}
use Rattle.ipp_codec.proofs.LackingSteps.{lacking, passed, checked_never, number_lacks, none_of, name_other, large_other, steps, Lacks, IsDeep}
use Rattle.ipp_codec.proofs.CompletedFields.{closing, closes, begun, completed, value_lacks, name_sample, name_lacks, IsOf, value_code, Completes}

-- ---- the values of an attribute

abbrev values_code : List Value → List ℕ
values_code vs = flat_map (value_spelling []) vs

abbrev AreFrom : Place → List Value → Type 0
AreFrom place vs = AllByRecursion IsValue vs × (place_after place vs ≡ done Outside)

-- A value, followed by the ends of the collections.
then_closed : (place next : Place) (v : Value) → IsDeep next → IsValue v → after_tag place (tag_of v) ≡ done next → AreFrom place (v ∷ closing next)
then_closed place next v deep legal stepped =
    let c = closes next deep in
    ((legal, c.legal), ap (λ r. r >>= λ n. place_after n (closing next)) stepped ∙ c.placed)

or_never : (o : Option ValueTag) → Lacks (tag_or o) → ⊥
or_never None e = cc
or_never (Some tag) e = cc

tag_never : (n : ℕ) → Lacks (value_tag_of n) → ⊥
unfolding value_tag_of
tag_never n e = or_never (tag_of_number n) e

record ToZero (left : List ℕ) : Type 0 where
  more : List ℕ
  is : left ++ more ≡ 0 ∷ 0 ∷ []

to_zero : (left : List ℕ) → name_begins left ≡ true → length left < 2 → ToZero left
to_zero [] passes few = record { more = 0 ∷ 0 ∷ []; is = refl }
to_zero (high ∷ []) passes few = record { more = 0 ∷ []; is = ap (λ h. h ∷ 0 ∷ []) (eqb-true high 0 passes) }
to_zero (high ∷ low ∷ left) passes few = absurd (omega (arith, few))

kind_lacks : (place : Place) (number : ℕ) (left bytes : List ℕ) → IsDeep place → number < 256 → bytes ≡ (number ∷ []) ++ left
    → Lacks (value_tag_of number >>= λ kind. after_tag place kind >>= λ next. checked {A = ℕ} Name (name_begins left) 0 >>= λ begun. number_at NeedMore w16 left >>= λ n. Ok (eqb n.0 0)) → Completes values_code (AreFrom place) bytes
kind_lacks place number left bytes deep small parts e =
    let k = passed (value_tag_of number) (λ kind. after_tag place kind >>= λ next. checked {A = ℕ} Name (name_begins left) 0 >>= λ begun. number_at NeedMore w16 left >>= λ n. Ok (eqb n.0 0)) (tag_never number) e in
    let tag = tag_takes number k.value small k.was in
    let step = steps place k.value in
    let p = passed (after_tag place k.value) (λ next. checked {A = ℕ} Name (name_begins left) 0 >>= λ begun. number_at NeedMore w16 left >>= λ n. Ok (eqb n.0 0)) step.never k.then in
    let b = passed (checked {A = ℕ} Name (name_begins left) 0) (λ begun. number_at NeedMore w16 left >>= λ n. Ok (eqb n.0 0)) (checked_never {A = ℕ} Name (name_begins left) 0 name_other) p.then in
    let passes = checked_ok {A = ℕ} Name (name_begins left) 0 b.value b.was in
    elim (lacking (number_at NeedMore w16 left) (λ n. Ok (eqb n.0 0)) b.then) [
      | inl here ↦
          let z = to_zero left passes.0 (number_lacks w16 left here) in
          let n = least_of k.value in
          let v = filled k.value n in
          let named = filled_tag k.value n in
          let next = p.value in
          let x : List ℕ = value_code v ++ values_code (closing next) in
          let stepped : after_tag place (tag_of v) ≡ done next = ap (after_tag place) named ∙ p.was in
          begun values_code (AreFrom place) bytes (z.more ++ x) (v ∷ closing next) (then_closed place next v (step.deep next deep p.was) (filled_legal k.value n tag.1 (least_is k.value).0) stepped)
          (ap (λ (l : List ℕ). l ++ (z.more ++ x)) parts ∙ ap (λ (l : List ℕ). number ∷ l) (sym (append_assoc left z.more x) ∙ ap (λ (l : List ℕ). l ++ x) z.is) ∙ ap (λ (t : ℕ). t ∷ 0 ∷ 0 ∷ x) (sym (ap tag_number named ∙ tag.0)))
      | inr n ↦ let same = n.then in absurd cc
    ]

follows_lacks : (place : Place) (bytes : List ℕ) → IsDeep place → IsBytes bytes → Lacks (follows place bytes) → Completes values_code (AreFrom place) bytes
unfolding follows
follows_lacks place bytes deep fits e =
    let rest_of : ℕ × List ℕ → Result Bool DecodeFault = λ tag. value_tag_of tag.0 >>= λ kind. after_tag place kind >>= λ next. checked {A = ℕ} Name (name_begins tag.1) 0 >>= λ begun. number_at NeedMore w16 tag.1 >>= λ n. Ok (eqb n.0 0) in
    elim (lacking (number_at NeedMore w8 bytes) (λ tag. cond (ltb tag.0 16) (Ok false) (rest_of tag)) e) [
      | inl here ↦
          let none = none_of bytes (number_lacks w8 bytes here) in
          let c = closes place deep in
          subst (λ (l : List ℕ). Completes values_code (AreFrom place) l) (sym none) (begun values_code (AreFrom place) [] (values_code (closing place)) (closing place) (c.legal, c.placed) refl)
      | inr t ↦
          let k = (reads_octet NeedMore).takes bytes t.value.0 t.value.1 fits t.was in
          (elim (ltb t.value.0 16) as (λ b. Lacks (cond b (Ok false) (rest_of t.value)) → Completes values_code (AreFrom place) bytes) [
            | true ↦ λ same. absurd cc
            | false ↦ λ same. kind_lacks place t.value.0 t.value.1 bytes deep k.1 k.0.parts same
          ]) t.then
    ]

-- The octets begin with an additional value.
record Followed (place : Place) (bytes : List ℕ) : Type 0 where
  kind : ValueTag
  next : Place
  left : List ℕ
  parts : bytes ≡ (tag_number kind ∷ []) ++ (counted [] ++ left)
  is_tag : IsTag kind
  stepped : after_tag place kind ≡ done next
  fits : IsBytes left

followed : (place : Place) (bytes : List ℕ) → IsBytes bytes → follows place bytes ≡ Ok true → Followed place bytes
unfolding follows
followed place bytes fits e =
    let rest_of : ℕ × List ℕ → Result Bool DecodeFault = λ tag. value_tag_of tag.0 >>= λ kind. after_tag place kind >>= λ next. checked {A = ℕ} Name (name_begins tag.1) 0 >>= λ begun. number_at NeedMore w16 tag.1 >>= λ n. Ok (eqb n.0 0) in
    let t = bind_ok (number_at NeedMore w8 bytes) (λ tag. cond (ltb tag.0 16) (Ok false) (rest_of tag)) true e in
    let first = (reads_octet NeedMore).takes bytes t.value.0 t.value.1 fits t.was in
    (elim (ltb t.value.0 16) as (λ b. cond b (Ok false) (rest_of t.value) ≡ Ok true → Followed place bytes) [
      | true ↦ λ same. absurd cc
      | false ↦ λ same.
          let k = bind_ok (value_tag_of t.value.0) (λ kind. after_tag place kind >>= λ next. checked {A = ℕ} Name (name_begins t.value.1) 0 >>= λ begun. number_at NeedMore w16 t.value.1 >>= λ n. Ok (eqb n.0 0)) true same in
          let p = bind_ok (after_tag place k.value) (λ next. checked {A = ℕ} Name (name_begins t.value.1) 0 >>= λ begun. number_at NeedMore w16 t.value.1 >>= λ n. Ok (eqb n.0 0)) true k.then in
          let b = bind_ok (checked {A = ℕ} Name (name_begins t.value.1) 0) (λ begun. number_at NeedMore w16 t.value.1 >>= λ n. Ok (eqb n.0 0)) true p.then in
          let n = bind_ok (number_at NeedMore w16 t.value.1) (λ n. Ok (eqb n.0 0)) true b.then in
          let second = (reads_16 NeedMore).takes t.value.1 n.value.0 n.value.1 first.0.rest_fits n.was in
          let none : n.value.0 ≡ 0 = eqb-true n.value.0 0 (ok_is (eqb n.value.0 0) true n.then) in
          let tag = tag_takes t.value.0 k.value first.1 k.was in
          record {
            kind = k.value;
            next = p.value;
            left = n.value.1;
            parts = first.0.parts ∙ ap (λ (l : List ℕ). t.value.0 ∷ l) (second.0.parts ∙ ap (λ (z : ℕ). to_be_bytes w16 z ++ n.value.1) none) ∙ ap (λ (z : ℕ). z ∷ 0 ∷ 0 ∷ n.value.1) (sym tag.0);
            is_tag = tag.1;
            stepped = p.was;
            fits = second.0.rest_fits;
          }
    ]) t.then

followed_value : (place : Place) (bytes : List ℕ) (f : Followed place bytes) → additional_at place bytes ≡ (value_at f.kind f.left >>= λ v. Ok ((f.next, v.0), v.1))
unfolding additional_at
followed_value place bytes f =
    ap (additional_at place) f.parts
    ∙ ap (λ r. r >>= λ tag. no_name_at tag.1 >>= λ name. after_tag place tag.0 >>= λ next. value_at tag.0 name.1 >>= λ v. Ok ((next, v.0), v.1)) (reads_tag.again f.kind (counted [] ++ f.left) f.is_tag)
    ∙ ap (λ r. r >>= λ name. after_tag place f.kind >>= λ next. value_at f.kind name.1 >>= λ v. Ok ((next, v.0), v.1)) (reads_none.again 0 f.left refl)
    ∙ ap (λ r. r >>= λ next. value_at f.kind f.left >>= λ v. Ok ((next, v.0), v.1)) f.stepped

additional_lacks : (place : Place) (bytes : List ℕ) → IsDeep place → IsBytes bytes → Followed place bytes → Lacks (additional_at place bytes) → Completes values_code (AreFrom place) bytes
additional_lacks place bytes deep fits f e =
    elim (lacking (value_at f.kind f.left) (λ v. Ok ((f.next, v.0), v.1)) (sym (followed_value place bytes f) ∙ e)) [
      | inl here ↦
          let c = value_lacks f.kind f.left f.is_tag f.fits here in
          let after = values_code (closing f.next) in
          completed value_code (IsOf f.kind) values_code (AreFrom place) bytes ((tag_number f.kind ∷ []) ++ counted []) f.left after f.parts c (c.value ∷ closing f.next)
          (then_closed place f.next c.value ((steps place f.kind).deep f.next deep f.stepped) c.legal.0 (ap (after_tag place) c.legal.1 ∙ f.stepped))
          (ap (λ (t : ℕ). t ∷ 0 ∷ 0 ∷ (value_code c.value ++ after)) (ap tag_number c.legal.1))
      | inr v ↦ let same = v.then in absurd cc
    ]

values_lacks : (n : ℕ) (place : Place) (bytes : List ℕ) → IsDeep place → IsBytes bytes → Lacks (values_at n place bytes) → Completes values_code (AreFrom place) bytes
unfolding values_at
values_lacks zero place bytes deep fits e = absurd cc
values_lacks (suc n) place bytes deep fits e =
    let goes_on : Followed place bytes → Lacks (more_of n place bytes) → Completes values_code (AreFrom place) bytes = λ f same.
    elim (lacking (additional_at place bytes) (λ v. values_at n v.0.0 v.1 >>= λ vs. Ok (v.0.1 ∷ vs.0, vs.1)) same) [
      | inl here ↦ additional_lacks place bytes deep fits f here
      | inr x ↦
          let t = additional_takes place bytes x.value.0 x.value.1 fits x.was in
          let v = x.value.0.1 in
          elim (lacking (values_at n x.value.0.0 x.value.1) (λ vs. Ok (v ∷ vs.0, vs.1)) x.then) [
            | inl later ↦
                let c = values_lacks n x.value.0.0 x.value.1 ((steps place (tag_of v)).deep x.value.0.0 deep t.1.1) t.0.rest_fits later in
                completed values_code (AreFrom x.value.0.0) values_code (AreFrom place) bytes (value_spelling [] v) x.value.1 [] t.0.parts c (v ∷ c.value)
                ((t.1.0, c.legal.0), ap (λ r. r >>= λ next. place_after next c.value) t.1.1 ∙ c.legal.1)
                (ap (λ (l : List ℕ). value_spelling [] v ++ l) (sym (append-nil (values_code c.value))))
            | inr vs ↦ let never = vs.then in absurd cc
          ]
    ] in
    elim (lacking (follows place bytes) (λ more. cond more (more_of n place bytes) (end_of place bytes)) e) [
      | inl here ↦ follows_lacks place bytes deep fits here
      | inr m ↦
          (elim m.value as (λ b. follows place bytes ≡ Ok b → Lacks (cond b (more_of n place bytes) (end_of place bytes)) → Completes values_code (AreFrom place) bytes) [
            | true ↦ λ is same. goes_on (followed place bytes fits is) same
            | false ↦ λ is same. absurd (checked_never {A = List Value × List ℕ} Collection (is_outside place) ([], bytes) (λ is. cc) same)
          ]) m.was m.then
    ]

-- ---- attributes

tag_lacks : (bytes : List ℕ) → Lacks (tag_at bytes) → bytes ≡ []
unfolding tag_at
tag_lacks bytes e =
    elim (lacking (number_at NeedMore w8 bytes) (λ n. value_tag_of n.0 >>= λ tag. Ok (tag, n.1)) e) [
      | inl here ↦ none_of bytes (number_lacks w8 bytes here)
      | inr n ↦ let t = passed (value_tag_of n.value.0) (λ tag. Ok (tag, n.value.1)) (tag_never n.value.0) n.then in let same = t.then in absurd cc
    ]

abbrev some_attribute : Attribute
some_attribute = record { name = letters 1; values = kinds.Unsupported ∷ [] }

some_is : IsAttribute some_attribute
some_is = record { name = name_sample 1 (omega arith) (omega arith); some = λ none. cc; values = (tt, tt); whole = refl }

-- An attribute whose first value is followed by those that end its collections.
named_is : (next : Place) (name : List ℕ) (v : Value) → IsText 1 255 127 name → IsDeep next → IsValue v → after_tag Outside (tag_of v) ≡ done next → IsAttribute (record { name = name; values = v ∷ closing next })
named_is next name v named deep legal stepped = let a = then_closed Outside next v deep legal stepped in record { name = named; some = λ none. cc; values = a.0; whole = a.1 }

attribute_lacks : (most : ℕ) (bytes : List ℕ) → IsBytes bytes → Lacks (attribute_at most bytes) → Completes attribute_spelling IsAttribute bytes
unfolding attribute_at
attribute_lacks most bytes fits e =
    elim (lacking (tag_at bytes) (λ tag. after_tag Outside tag.0 >>= λ next. name_at tag.1 >>= λ name. value_at tag.0 name.1 >>= λ v. values_at most next v.1 >>= λ vs. made_of name.0 v.0 vs) e) [
      | inl here ↦ subst (λ (l : List ℕ). Completes attribute_spelling IsAttribute l) (sym (tag_lacks bytes here)) (begun attribute_spelling IsAttribute [] (attribute_spelling some_attribute) some_attribute some_is refl)
      | inr t ↦
          let kind = t.value.0 in
          let first = reads_tag.takes bytes kind t.value.1 fits t.was in
          let step = steps Outside kind in
          let p = passed (after_tag Outside kind) (λ next. name_at t.value.1 >>= λ name. value_at kind name.1 >>= λ v. values_at most next v.1 >>= λ vs. made_of name.0 v.0 vs) step.never t.then in
          let next = p.value in
          let deep = step.deep next tt p.was in
          let after = values_code (closing next) in
          elim (lacking (name_at t.value.1) (λ name. value_at kind name.1 >>= λ v. values_at most next v.1 >>= λ vs. made_of name.0 v.0 vs) p.then) [
            | inl here ↦
                let c = name_lacks t.value.1 first.0.rest_fits here in
                let n = least_of kind in
                let v = filled kind n in
                let named = filled_tag kind n in
                completed counted (IsText 1 255 127) attribute_spelling IsAttribute bytes (tag_number kind ∷ []) t.value.1 (value_code v ++ after) first.0.parts c (record { name = c.value; values = v ∷ closing next })
                (named_is next c.value v c.legal deep (filled_legal kind n first.1 (least_is kind).0) (ap (after_tag Outside) named ∙ p.was))
                (ap (λ (k : ℕ). (k ∷ counted c.value ++ value_code v) ++ after) (ap tag_number named) ∙ ap (λ (l : List ℕ). tag_number kind ∷ l) (append_assoc (counted c.value) (value_code v) after))
            | inr name ↦
                let second = reads_name.takes t.value.1 name.value.0 name.value.1 first.0.rest_fits name.was in
                let front = first.0 ⨾ second.0 in
                elim (lacking (value_at kind name.value.1) (λ v. values_at most next v.1 >>= λ vs. made_of name.value.0 v.0 vs) name.then) [
                  | inl here ↦
                      let c = value_lacks kind name.value.1 first.1 second.0.rest_fits here in
                      completed value_code (IsOf kind) attribute_spelling IsAttribute bytes ((tag_number kind ∷ []) ++ counted name.value.0) name.value.1 after front.parts c (record { name = name.value.0; values = c.value ∷ closing next })
                      (named_is next name.value.0 c.value second.1 deep c.legal.0 (ap (after_tag Outside) c.legal.1 ∙ p.was))
                      (ap (λ (k : ℕ). (k ∷ counted name.value.0 ++ value_code c.value) ++ after) (ap tag_number c.legal.1) ∙ ap (λ (l : List ℕ). tag_number kind ∷ l) (append_assoc (counted name.value.0) (value_code c.value) after))
                  | inr v ↦
                      let third = (reads_value kind first.1).takes name.value.1 v.value.0 v.value.1 second.0.rest_fits v.was in
                      let whole = front ⨾ third.0 in
                      elim (lacking (values_at most next v.value.1) (λ vs. made_of name.value.0 v.value.0 vs) v.then) [
                        | inl here ↦
                            let c = values_lacks most next v.value.1 deep third.0.rest_fits here in
                            completed values_code (AreFrom next) attribute_spelling IsAttribute bytes (((tag_number kind ∷ []) ++ counted name.value.0) ++ value_code v.value.0) v.value.1 [] whole.parts c (record { name = name.value.0; values = v.value.0 ∷ c.value })
                            (record { name = second.1; some = λ none. cc; values = (third.1.0, c.legal.0); whole = ap (λ r. r >>= λ next. place_after next c.value) (ap (after_tag Outside) third.1.1 ∙ p.was) ∙ c.legal.1 })
                            (ap (λ (k : ℕ). (k ∷ counted name.value.0 ++ value_code v.value.0) ++ values_code c.value) (ap tag_number third.1.1) ∙ ap (λ (l : List ℕ). (tag_number kind ∷ counted name.value.0 ++ value_code v.value.0) ++ l) (sym (append-nil (values_code c.value))))
                        | inr vs ↦ let same = vs.then in absurd cc
                      ]
                ]
          ]
    ]

abbrev attributes_code : List Attribute → List ℕ
attributes_code list = flat_map attribute_spelling list

abbrev AreAttributes : List Attribute → Type 0
AreAttributes list = AllByRecursion IsAttribute list

attributes_lacks : (most n : ℕ) (bytes : List ℕ) → IsBytes bytes → Lacks (attributes_at most n bytes) → Completes attributes_code AreAttributes bytes
unfolding attributes_at
attributes_lacks most zero bytes fits e = absurd cc
attributes_lacks most (suc n) bytes fits e =
    let goes_on : Lacks (others_of most n bytes) → Completes attributes_code AreAttributes bytes = λ same.
    elim (lacking (attribute_at most bytes) (λ a. attributes_at most n a.1 >>= λ others. Ok (a.0 ∷ others.0, others.1)) same) [
      | inl here ↦
          let c = attribute_lacks most bytes fits here in
          completed attribute_spelling IsAttribute attributes_code AreAttributes bytes [] bytes [] refl c (c.value ∷ []) (c.legal, tt) (flat_map-cons attribute_spelling c.value [])
      | inr a ↦
          let t = attribute_takes most bytes a.value.0 a.value.1 fits a.was in
          elim (lacking (attributes_at most n a.value.1) (λ others. Ok (a.value.0 ∷ others.0, others.1)) a.then) [
            | inl later ↦
                let c = attributes_lacks most n a.value.1 t.0.rest_fits later in
                completed attributes_code AreAttributes attributes_code AreAttributes bytes (attribute_spelling a.value.0) a.value.1 [] t.0.parts c (a.value.0 ∷ c.value) (t.1, c.legal)
                (ap (λ (l : List ℕ). attribute_spelling a.value.0 ++ l) (sym (append-nil (attributes_code c.value))))
            | inr others ↦ let never = others.then in absurd cc
          ]
    ] in
    elim (lacking (number_at NeedMore w8 bytes) (λ tag. cond (ltb tag.0 16) (stop_of bytes) (others_of most n bytes)) e) [
      | inl here ↦ subst (λ (l : List ℕ). Completes attributes_code AreAttributes l) (sym (none_of bytes (number_lacks w8 bytes here))) (begun attributes_code AreAttributes [] [] [] tt refl)
      | inr t ↦
          (elim (ltb t.value.0 16) as (λ b. Lacks (cond b (stop_of bytes) (others_of most n bytes)) → Completes attributes_code AreAttributes bytes) [
            | true ↦ λ same. absurd cc
            | false ↦ goes_on
          ]) t.then
    ]

-- ---- groups

group_or_never : (o : Option GroupTag) → Lacks (group_or o) → ⊥
group_or_never None e = cc
group_or_never (Some tag) e = cc

abbrev group_code : Group → List ℕ
group_code g = attributes_code g.attributes

abbrev IsUnder : ℕ → Group → Type 0
IsUnder number g = (group_number g.tag ≡ number) × IsGroup g

group_lacks : (most number : ℕ) (bytes : List ℕ) → IsBytes bytes → Lacks (group_at most number bytes) → Completes group_code (IsUnder number) bytes
group_lacks most number bytes fits e =
    let t = passed (group_or (group_of number)) (λ tag. attributes_at most most bytes >>= λ list. group_made tag list) (group_or_never (group_of number)) e in
    elim (lacking (attributes_at most most bytes) (λ list. group_made t.value list) t.then) [
      | inl here ↦
          let c = attributes_lacks most most bytes fits here in
          completed attributes_code AreAttributes group_code (IsUnder number) bytes [] bytes [] refl c (record { tag = t.value; attributes = c.value }) (group_or_takes number (group_of number) t.value refl t.was, c.legal) (sym (append-nil (attributes_code c.value)))
      | inr list ↦ let same = list.then in absurd cc
    ]

abbrev groups_code : List Group → List ℕ
groups_code list = flat_map group_spelling list ++ 3 ∷ []

abbrev AreGroups : List Group → Type 0
AreGroups list = AllByRecursion IsGroup list

groups_lacks : (most n : ℕ) (bytes : List ℕ) → IsBytes bytes → Lacks (groups_at most n bytes) → Completes groups_code AreGroups bytes
unfolding groups_at
groups_lacks most zero bytes fits e = absurd cc
groups_lacks most (suc n) bytes fits e =
    elim (lacking (number_at NeedMore w8 bytes) (λ number. cond (eqb number.0 3) (last_of number.1) (more_groups_of most n number.0 number.1)) e) [
      | inl here ↦ subst (λ (l : List ℕ). Completes groups_code AreGroups l) (sym (none_of bytes (number_lacks w8 bytes here))) (begun groups_code AreGroups [] (3 ∷ []) [] tt refl)
      | inr m ↦
          let number = m.value.0 in
          let left = m.value.1 in
          let first = (reads_octet NeedMore).takes bytes number left fits m.was in
          let goes_on : Lacks (more_groups_of most n number left) → Completes groups_code AreGroups bytes = λ same.
          elim (lacking (group_at most number left) (λ g. groups_at most n g.1 >>= λ gs. Ok (g.0 ∷ gs.0, gs.1)) same) [
            | inl here ↦
                let c = group_lacks most number left first.0.rest_fits here in
                completed group_code (IsUnder number) groups_code AreGroups bytes (number ∷ []) left (3 ∷ []) first.0.parts c (c.value ∷ []) (c.legal.1, tt)
                (ap (λ (l : List ℕ). l ++ 3 ∷ []) (flat_map-cons group_spelling c.value [] ∙ append-nil (group_spelling c.value)) ∙ ap (λ (k : ℕ). k ∷ (group_code c.value ++ 3 ∷ [])) c.legal.0)
            | inr g ↦
                let t = group_takes most number left g.value.0 g.value.1 first.0.rest_fits g.was in
                let both = first.0 ⨾ t.1 in
                let parts : bytes ≡ group_spelling g.value.0 ++ g.value.1 = both.parts ∙ ap (λ (k : ℕ). ((k ∷ []) ++ group_code g.value.0) ++ g.value.1) (sym t.0) in
                elim (lacking (groups_at most n g.value.1) (λ gs. Ok (g.value.0 ∷ gs.0, gs.1)) g.then) [
                  | inl later ↦
                      let c = groups_lacks most n g.value.1 t.1.rest_fits later in
                      completed groups_code AreGroups groups_code AreGroups bytes (group_spelling g.value.0) g.value.1 [] parts c (g.value.0 ∷ c.value) (t.2, c.legal)
                      (append_assoc (group_spelling g.value.0) (flat_map group_spelling c.value) (3 ∷ []) ∙ ap (λ (l : List ℕ). group_spelling g.value.0 ++ l) (sym (append-nil (groups_code c.value))))
                  | inr gs ↦ let never = gs.then in absurd cc
                ]
          ] in
          (elim (eqb number 3) as (λ b. Lacks (cond b (last_of left) (more_groups_of most n number left)) → Completes groups_code AreGroups bytes) [
            | true ↦ λ same. absurd cc
            | false ↦ goes_on
          ]) m.then
    ]

-- ---- the header

abbrev zeros : ℕ → List ℕ
zeros zero = []
zeros (suc n) = 0 ∷ zeros n

zeros_length : (n : ℕ) → length (zeros n) ≡ n
zeros_length zero = refl
zeros_length (suc n) = ap suc (zeros_length n)

zeros_fit : (n i : ℕ) → get_or (zeros n) i 0 < 256
zeros_fit zero i = omega arith
zeros_fit (suc n) zero = omega arith
zeros_fit (suc n) (suc i) = zeros_fit n i

padded_fit : (bytes : List ℕ) (n : ℕ) → IsBytes bytes → IsBytes (bytes ++ zeros n)
padded_fit [] n fits i = zeros_fit n i
padded_fit (b ∷ bytes) n fits zero = fits 0
padded_fit (b ∷ bytes) n fits (suc i) = padded_fit bytes n (λ j. fits (suc j)) i

-- A number that begins with these octets.
record Padded (w : Width) (limit : ℕ) (bytes : List ℕ) : Type 0 where
  number : ℕ
  more : List ℕ
  is : bytes ++ more ≡ to_be_bytes w number
  small : number < limit

padded : (w : Width) (limit : ℕ) (wide : IsWide w limit) (bytes : List ℕ) → IsBytes bytes → length bytes < byte_len w → Padded w limit bytes
padded w limit wide bytes fits few =
    let n = byte_len w - length bytes in
    let all : List ℕ = bytes ++ zeros n in
    let size : length all ≡ byte_len w = omega (arith, few, length-append bytes (zeros n), zeros_length n) in
    let all_fit = padded_fit bytes n fits in
    record { number = from_be_bytes w all; more = zeros n; is = sym (wide.back all size all_fit); small = wide.below all all_fit }

abbrev made : ℕ → ℕ → ℕ → ℕ → List Group → Message
made major minor code number groups = record { version = record { major = major; minor = minor }; code = code; request_id = cast_signed w32 number; groups = groups }

abbrev IsNumbers : ℕ → ℕ → ℕ → ℕ → Type 0
IsNumbers major minor code number = (major < 256) × (minor < 256) × (code < 2 ^ 16) × (number < 2 ^ 32)

made_is : (major minor code number : ℕ) (groups : List Group) → IsNumbers major minor code number → AreGroups groups → IsMessage (made major minor code number groups)
made_is major minor code number groups h legal = record { header = record { major = h.0; minor = h.1; code = h.2; request_id = (signed_takes number h.3).1 }; groups = legal }

-- The octets of the header, and of what follows.
made_spelled : (major minor code number : ℕ) (groups : List Group) → number < 2 ^ 32 → message_spelling (made major minor code number groups) ≡ (major ∷ minor ∷ to_be_bytes w16 code ++ to_be_bytes w32 number) ++ groups_code groups
made_spelled major minor code number groups small =
    ap (λ (k : ℕ). (major ∷ minor ∷ to_be_bytes w16 code ++ to_be_bytes w32 k) ++ groups_code groups) (signed_takes number small).0

message_lacks : (most : ℕ) (bytes : List ℕ) → IsBytes bytes → Lacks (message_at most bytes) → Completes message_spelling IsMessage bytes
unfolding message_at
message_lacks most bytes fits e =
    elim (lacking (number_at NeedMore w8 bytes) (λ major. number_at NeedMore w8 major.1 >>= λ minor. number_at NeedMore w16 minor.1 >>= λ code. number_at NeedMore w32 code.1 >>= λ request_id. groups_at most most request_id.1 >>= λ groups. message_made major.0 minor.0 code.0 (cast_signed w32 request_id.0) groups) e) [
      | inl here ↦
          let y = made 0 0 0 0 [] in
          subst (λ (l : List ℕ). Completes message_spelling IsMessage l) (sym (none_of bytes (number_lacks w8 bytes here))) (begun message_spelling IsMessage [] (message_spelling y) y (made_is 0 0 0 0 [] (omega arith, omega arith, omega arith, omega arith) tt) refl)
      | inr a ↦
          let major = a.value.0 in
          let first = (reads_octet NeedMore).takes bytes major a.value.1 fits a.was in
          elim (lacking (number_at NeedMore w8 a.value.1) (λ minor. number_at NeedMore w16 minor.1 >>= λ code. number_at NeedMore w32 code.1 >>= λ request_id. groups_at most most request_id.1 >>= λ groups. message_made major minor.0 code.0 (cast_signed w32 request_id.0) groups) a.then) [
            | inl here ↦
                let none = none_of a.value.1 (number_lacks w8 a.value.1 here) in
                let y = made major 0 0 0 [] in
                let rest : List ℕ = 0 ∷ to_be_bytes w16 0 ++ (to_be_bytes w32 0 ++ 3 ∷ []) in
                begun message_spelling IsMessage bytes rest y (made_is major 0 0 0 [] (first.1, omega arith, omega arith, omega arith) tt)
                (ap (λ (l : List ℕ). l ++ rest) (first.0.parts ∙ ap (λ (l : List ℕ). major ∷ l) none) ∙ sym (made_spelled major 0 0 0 [] (omega arith)))
            | inr b ↦
                let minor = b.value.0 in
                let second = (reads_octet NeedMore).takes a.value.1 minor b.value.1 first.0.rest_fits b.was in
                let version = first.0 ⨾ second.0 in
                elim (lacking (number_at NeedMore w16 b.value.1) (λ code. number_at NeedMore w32 code.1 >>= λ request_id. groups_at most most request_id.1 >>= λ groups. message_made major minor code.0 (cast_signed w32 request_id.0) groups) b.then) [
                  | inl here ↦
                      let p = padded w16 (2 ^ 16) wide16 b.value.1 second.0.rest_fits (number_lacks w16 b.value.1 here) in
                      let y = made major minor p.number 0 [] in
                      let x : List ℕ = to_be_bytes w32 0 ++ 3 ∷ [] in
                      begun message_spelling IsMessage bytes (p.more ++ x) y (made_is major minor p.number 0 [] (first.1, second.1, p.small, omega arith) tt)
                      (ap (λ (l : List ℕ). l ++ (p.more ++ x)) version.parts ∙ ap (λ (l : List ℕ). major ∷ minor ∷ l) (sym (append_assoc b.value.1 p.more x) ∙ ap (λ (l : List ℕ). l ++ x) p.is) ∙ sym (made_spelled major minor p.number 0 [] (omega arith)))
                  | inr c ↦
                      let code = c.value.0 in
                      let third = (reads_16 NeedMore).takes b.value.1 code c.value.1 second.0.rest_fits c.was in
                      let three = version ⨾ third.0 in
                      elim (lacking (number_at NeedMore w32 c.value.1) (λ request_id. groups_at most most request_id.1 >>= λ groups. message_made major minor code (cast_signed w32 request_id.0) groups) c.then) [
                        | inl here ↦
                            let p = padded w32 (2 ^ 32) wide32 c.value.1 third.0.rest_fits (number_lacks w32 c.value.1 here) in
                            let y = made major minor code p.number [] in
                            begun message_spelling IsMessage bytes (p.more ++ 3 ∷ []) y (made_is major minor code p.number [] (first.1, second.1, third.1, p.small) tt)
                            (ap (λ (l : List ℕ). l ++ (p.more ++ 3 ∷ [])) three.parts ∙ ap (λ (l : List ℕ). major ∷ minor ∷ to_be_bytes w16 code ++ l) (sym (append_assoc c.value.1 p.more (3 ∷ [])) ∙ ap (λ (l : List ℕ). l ++ 3 ∷ []) p.is) ∙ sym (made_spelled major minor code p.number [] p.small))
                        | inr d ↦
                            let number = d.value.0 in
                            let fourth = (reads_32 NeedMore).takes c.value.1 number d.value.1 third.0.rest_fits d.was in
                            let header = three ⨾ fourth.0 in
                            elim (lacking (groups_at most most d.value.1) (λ groups. message_made major minor code (cast_signed w32 number) groups) d.then) [
                              | inl here ↦
                                  let g = groups_lacks most most d.value.1 fourth.0.rest_fits here in
                                  completed groups_code AreGroups message_spelling IsMessage bytes ((((major ∷ []) ++ (minor ∷ [])) ++ to_be_bytes w16 code) ++ to_be_bytes w32 number) d.value.1 [] header.parts g (made major minor code number g.value)
                                  (made_is major minor code number g.value (first.1, second.1, third.1, fourth.1) g.legal)
                                  (made_spelled major minor code number g.value fourth.1 ∙ ap (λ (l : List ℕ). (major ∷ minor ∷ to_be_bytes w16 code ++ to_be_bytes w32 number) ++ l) (sym (append-nil (groups_code g.value))))
                              | inr groups ↦ let same = groups.then in absurd cc
                            ]
                      ]
                ]
          ]
    ]

-- ---- the whole

-- What is lacking has octets: otherwise the message would have been read.
lacking_some : (octets front part rest : List ℕ) (m : Message) → octets ≡ front ++ part → (part ≡ []) ⊎ (length part < length rest) → Spells m (front ++ rest) → Lacks (message_at (length octets) octets) → length part < length rest
lacking_some octets front part rest m split (inr some) spelled e = some
lacking_some octets front part [] m split (inl none) spelled e =
    let whole : octets ≡ message_spelling m ++ [] = split ∙ ap (λ (l : List ℕ). front ++ l) none ∙ spelled.spelled ∙ sym (append-nil (message_spelling m)) in
    let size : length octets ≡ length (message_spelling m) = ap length whole ∙ ap length (append-nil (message_spelling m)) in
    let read : message_at (length octets) octets ≡ Ok (m, []) = ap (message_at (length octets)) whole ∙ message_again (length octets) m [] (omega (arith, size)) spelled.message in
    let same : Err NeedMore ≡ done {A = Message × List ℕ} (m, []) = sym e ∙ read in
    absurd cc
lacking_some octets front part (b ∷ rest) m split (inl none) spelled e = let size = ap length none in omega (arith, size)

whole_lacks : (octets : List ℕ) → IsBytes octets → Lacks (message_at (length octets) octets) → CanComplete octets
whole_lacks octets fits e =
    let c = message_lacks (length octets) octets fits e in
    let spelled : Spells c.value (c.front ++ c.rest) = record { message = c.legal; spelled = c.whole } in
    record { front = c.front; part = c.part; rest = c.rest; message = c.value; split = c.split; cut = c.cut; more = lacking_some octets c.front c.part c.rest c.value c.split c.more spelled e; spelled = spelled }

record IsBelow (b : Bool) (r : Result (Message × List ℕ) DecodeFault) : Type 0 where
  below : b ≡ false
  lacks : Lacks r

limited_lacks : (b : Bool) (r : Result (Message × List ℕ) DecodeFault) → Lacks (limited b r) → IsBelow b r
limited_lacks true (Ok m) e = absurd cc
limited_lacks false (Ok m) e = absurd cc
limited_lacks true (Err NeedMore) e = absurd cc
limited_lacks false (Err NeedMore) e = record { below = refl; lacks = refl }
limited_lacks b (Err TooLarge) e = absurd cc
limited_lacks b (Err Delimiter) e = absurd cc
limited_lacks b (Err Name) e = absurd cc
limited_lacks b (Err Length) e = absurd cc
limited_lacks b (Err Text) e = absurd cc
limited_lacks b (Err Boolean) e = absurd cc
limited_lacks b (Err Collection) e = absurd cc
limited_lacks b (Err Memory) e = absurd cc

reading_lacks : (octets : List ℕ) → IsBytes octets → Lacks (reading octets) → CanComplete octets
unfolding reading
reading_lacks octets fits e =
    let w : List ℕ = take 65536 octets in
    let long = nat_le 65536 (length octets) in
    elim (lacking (limited long (message_at (length w) w)) (λ m. checked {A = ℕ} TooLarge (nat_le (value_count m.0) 4096) 0 >>= λ few. Ok (m.0, length w - length m.1)) e) [
      | inl here ↦
          let l = limited_lacks long (message_at (length w) w) here in
          let short = leb-false 65536 (length octets) l.below in
          let all : w ≡ octets = take_all 65536 octets (omega (arith, short)) in
          whole_lacks octets fits (ap (λ (o : List ℕ). message_at (length o) o) (sym all) ∙ l.lacks)
      | inr m ↦
          let c = passed (checked {A = ℕ} TooLarge (nat_le (value_count m.value.0) 4096) 0) (λ few. Ok (m.value.0, length w - length m.value.1)) (checked_never {A = ℕ} TooLarge (nat_le (value_count m.value.0) 4096) 0 large_other) m.then in
          let same = c.then in
          absurd cc
    ]

pub unfinished_of : (octets : List ℕ) (r : Result (Message × ℕ) DecodeFault) → IsBytes octets → Gives (λ x. x) r (reading octets) → IsErrOf r NeedMore → CanComplete octets
unfinished_of octets (Ok x) fits e is = absurd cc
unfinished_of octets (Err NeedMore) fits e is = reading_lacks octets fits e
unfinished_of octets (Err TooLarge) fits e is = absurd cc
unfinished_of octets (Err Delimiter) fits e is = absurd cc
unfinished_of octets (Err Name) fits e is = absurd cc
unfinished_of octets (Err Length) fits e is = absurd cc
unfinished_of octets (Err Text) fits e is = absurd cc
unfinished_of octets (Err Boolean) fits e is = absurd cc
unfinished_of octets (Err Collection) fits e is = absurd cc
unfinished_of octets (Err Memory) fits e is = absurd cc
