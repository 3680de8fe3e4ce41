-- Octets that complete a name or a value.
use Rattle.std.proofs.Common.{◌≡◌, ℕ, zero, suc, ◌+◌, ◌-◌, ◌*◌, ◌<◌, ◌≤◌, ◌||◌, true, false, cond, eqb, List, [], ◌∷◌, ◌++◌, ◌&&◌, length, Ok, refl, sym, ap, ◌∙◌, append_assoc, arith, inl, inr, ◌⊎◌}
use Rattle.std.specs.Prelude.{nat_le}
use Rattle.std.specs.Int.{w16, to_be_bytes}
use Rattle.std.specs.List.{AllByRecursion}
use Rattle.std.proofs.lemmas.Bool.{eqb-true, leb-true, ne_eqb}
use Rattle.std.proofs.lemmas.List.{append-nil, length-append}
use Rattle.std.proofs.lemmas.Nat.{be_bytes_2}
use Rattle.ipp_values.specs.declared.tags.ValueTag.{ValueTag}
use Rattle.ipp_values.specs.declared.value.Value.{Value}
use Rattle.ipp_values.specs.declared.value.Value.TheVariants as kinds
use Rattle.ipp_values.specs.ValueTexts.{tag_of}
use Rattle.ipp_codec.specs.declared.fault.DecodeFault.TheVariants.{NeedMore, Name, Length}
use Rattle.ipp_codec.specs.declared.place.Place.{Place}
use Rattle.ipp_codec.specs.declared.place.Place.TheVariants.{Outside, Begun, Named, Filled}
use Rattle.ipp_codec.specs.Collections.{ended_in, place_after}
use Rattle.ipp_codec.specs.Octets.{counted, is_length, may_begin, octets_of, IsText, IsValue}
use Rattle.ipp_codec.specs.Reading.{checked, first_passes, name_at, name_begins, number_at, part_at, text_of, value_at, value_of}
use Rattle.ipp_codec.specs.ReadSteps.{◌>>=◌}
use Rattle.ipp_codec.specs.Unfinished.{IsCut}
use Rattle.ipp_codec.proofs.Fields.{IsBytes, checked_ok, done, reads_16}
use Rattle.ipp_codec.proofs.TextLaws.{IsTag, and_parts}
use Rattle.ipp_codec.proofs.ValueLaws.{long_is}
use Rattle.ipp_codec.proofs.Samples.{filled, filled_legal, filled_length, filled_tag, least_is, least_of, letters, letters_length, letters_text}
use Rattle.ipp_codec.proofs.LackingSteps.{lacking, passed, checked_never, part_lacks, number_lacks, length_other, name_other, text_never, value_never, Lacks, IsDeep}

-- The values that end all collections.
abbrev pub ends : ℕ → List Value
ends zero = []
ends (suc depth) = kinds.EndCollection ∷ ends depth

abbrev pub closing : Place → List Value
closing Outside = []
closing (Begun depth) = ends depth
closing (Named depth) = kinds.Unsupported ∷ ends depth
closing (Filled depth) = ends depth

pub ends_legal : (depth : ℕ) → AllByRecursion IsValue (ends depth)
ends_legal zero = tt
ends_legal (suc depth) = (tt, ends_legal depth)

pub ended_twice : (depth : ℕ) → ended_in (suc (suc depth)) ≡ Filled (suc depth)
ended_twice depth =
    let other : eqb (suc (suc depth)) 1 ≡ false = ne_eqb (suc (suc depth)) 1 (λ is. omega (arith, is)) in
    let less : suc (suc depth) - 1 ≡ suc depth = omega arith in
    ap (λ b. cond b Outside (Filled (suc (suc depth) - 1))) other ∙ ap (λ (n : ℕ). Filled n) less

pub ends_close : (depth : ℕ) → place_after (Filled (suc depth)) (ends (suc depth)) ≡ done Outside
ends_close zero = refl
ends_close (suc depth) = ap (λ (p : Place). place_after p (ends (suc depth))) (ended_twice depth) ∙ ends_close depth

pub begun_close : (depth : ℕ) → place_after (Begun (suc depth)) (ends (suc depth)) ≡ done Outside
begun_close zero = refl
begun_close (suc depth) = ap (λ (p : Place). place_after p (ends (suc depth))) (ended_twice depth) ∙ ends_close depth

pub record Closes (place : Place) : Type 0 where
  pub legal : AllByRecursion IsValue (closing place)
  pub placed : place_after place (closing place) ≡ done Outside

pub closes : (place : Place) → IsDeep place → Closes place
closes Outside deep = record { legal = tt; placed = refl }
closes (Begun zero) deep = absurd (omega (arith, deep))
closes (Begun (suc depth)) deep = record { legal = ends_legal (suc depth); placed = begun_close depth }
closes (Named zero) deep = absurd (omega (arith, deep))
closes (Named (suc depth)) deep = record { legal = (tt, ends_legal (suc depth)); placed = ends_close depth }
closes (Filled zero) deep = absurd (omega (arith, deep))
closes (Filled (suc depth)) deep = record { legal = ends_legal (suc depth); placed = ends_close depth }

-- ---- completions

pub record Completes {A : Type 0} (code : A → List ℕ) (Legal : A → Type 0) (octets : List ℕ) : Type 0 where
  pub value : A
  pub legal : Legal value
  pub front : List ℕ
  pub part : List ℕ
  pub rest : List ℕ
  pub split : octets ≡ front ++ part
  pub cut : IsCut front part
  pub more : (part ≡ []) ⊎ (length part < length rest)
  pub whole : front ++ rest ≡ code value

-- All the octets are the beginning of a spelling.
pub begun : {A : Type 0} (code : A → List ℕ) (Legal : A → Type 0) (octets rest : List ℕ) (x : A) → Legal x → octets ++ rest ≡ code x → Completes code Legal octets
begun code Legal octets rest x legal whole = record { value = x; legal = legal; front = octets; part = []; rest = rest; split = sym (append-nil octets); cut = inl refl; more = inl refl; whole = whole }

pub cut_after : (text front part : List ℕ) → IsCut front part → IsCut (text ++ front) part
cut_after text front part (inl none) = inl none
cut_after text front part (inr h) = inr (record { before = text ++ h.before; announced = h.announced; length_of_field = ap (λ (l : List ℕ). text ++ l) h.length_of_field ∙ sym (append_assoc text h.before (to_be_bytes w16 h.announced)); short = h.short })

pub more_after : (part rest after : List ℕ) → (part ≡ []) ⊎ (length part < length rest) → (part ≡ []) ⊎ (length part < length (rest ++ after))
more_after part rest after (inl none) = inl none
more_after part rest after (inr some) = inr (omega (arith, some, length-append rest after))

-- What is complete comes before, and what else is needed after.
pub completed : {A B : Type 0} (code : A → List ℕ) (Legal : A → Type 0) (other : B → List ℕ) (Other : B → Type 0) (octets text left after : List ℕ) → octets ≡ text ++ left → (h : Completes code Legal left) (y : B) → Other y → other y ≡ text ++ (code h.value ++ after) → Completes other Other octets
completed code Legal other Other octets text left after parts h y legal spelled = record {
  value = y;
  legal = legal;
  front = text ++ h.front;
  part = h.part;
  rest = h.rest ++ after;
  split = parts ∙ ap (λ (l : List ℕ). text ++ l) h.split ∙ sym (append_assoc text h.front h.part);
  cut = cut_after text h.front h.part h.cut;
  more = more_after h.part h.rest after h.more;
  whole = append_assoc text h.front (h.rest ++ after) ∙ ap (λ (l : List ℕ). text ++ l) (sym (append_assoc h.front h.rest after) ∙ ap (λ (l : List ℕ). l ++ after) h.whole) ∙ sym spelled;
}

-- ---- a field after its length

-- Fewer octets than announced.
pub short_field : (n : ℕ) (bytes left field : List ℕ) (Legal : List ℕ → Type 0) → bytes ≡ to_be_bytes w16 n ++ left → length left < n → length field ≡ n → Legal field → Completes counted Legal bytes
short_field n bytes left field Legal parts short size legal = record {
  value = field;
  legal = legal;
  front = to_be_bytes w16 n;
  part = left;
  rest = field;
  split = parts;
  cut = inr (record { before = []; announced = n; length_of_field = refl; short = short });
  more = inr (omega (arith, short, size));
  whole = ap (λ (k : ℕ). to_be_bytes w16 k ++ field) (sym size);
}

pub pair_fits : (a b : ℕ) → a < 256 → b < 256 → IsBytes (a ∷ b ∷ [])
pair_fits a b low high zero = low
pair_fits a b low high (suc zero) = high
pair_fits a b low high (suc (suc i)) = omega arith

pub two_octets : (n high : ℕ) → high * 256 ≤ n → n < high * 256 + 256 → n < 65536 → to_be_bytes w16 n ≡ high ∷ (n - high * 256) ∷ []
two_octets n high least most small =
    be_bytes_2 (high ∷ (n - high * 256) ∷ []) n refl (pair_fits high (n - high * 256) (omega (arith, least, small)) (omega (arith, least, most))) (omega (arith, least, most))

-- The first octet of a length has arrived, or none.
pub first_octet : (n high : ℕ) (field : List ℕ) (Legal : List ℕ → Type 0) → Legal field → length field ≡ n → high * 256 ≤ n → n < high * 256 + 256 → n < 65536 → Completes counted Legal (high ∷ [])
first_octet n high field Legal legal size least most small =
    begun counted Legal (high ∷ []) ((n - high * 256) ∷ field) field legal (ap (λ (l : List ℕ). l ++ field) (sym (two_octets n high least most small)) ∙ ap (λ (k : ℕ). to_be_bytes w16 k ++ field) (sym size))

-- ---- values

abbrev pub IsOf : ValueTag → Value → Type 0
IsOf tag v = IsValue v × (tag_of v ≡ tag)

abbrev pub value_code : Value → List ℕ
value_code v = counted (octets_of v)

pub sample : (tag : ValueTag) (n : ℕ) → IsTag tag → is_length tag n ≡ true → IsOf tag (filled tag n)
sample tag n ok h = (filled_legal tag n ok h, filled_tag tag n)

-- Octets of a field as those of a value of this length.
pub as_value : (tag : ValueTag) (n : ℕ) (octets : List ℕ) → IsTag tag → is_length tag n ≡ true → Completes counted (λ o. o ≡ octets_of (filled tag n)) octets → Completes value_code (IsOf tag) octets
as_value tag n octets ok h c =
    completed counted (λ o. o ≡ octets_of (filled tag n)) value_code (IsOf tag) octets [] octets [] refl c (filled tag n) (sample tag n ok h) (ap counted (sym c.legal) ∙ sym (append-nil (counted c.value)))

abbrev pub high_length : ValueTag → ℕ → ℕ
high_length tag high = cond (eqb high 0) (least_of tag) (high * 256)

pub record HighLength (tag : ValueTag) (high n : ℕ) : Type 0 where
  pub legal : is_length tag n ≡ true
  pub least : high * 256 ≤ n
  pub most : n < high * 256 + 256
  pub small : n < 65536

pub high_is : (tag : ValueTag) (high : ℕ) → may_begin tag high ≡ true → HighLength tag high (high_length tag high)
high_is tag high h =
    (elim (eqb high 0) as (λ b. eqb high 0 ≡ b → (b || is_length tag (high * 256)) ≡ true → HighLength tag high (cond b (least_of tag) (high * 256))) [
      | true ↦ λ is same. let few = (least_is tag).1 in let none = eqb-true high 0 is in record { legal = (least_is tag).0; least = omega (arith, none); most = omega (arith, few); small = omega (arith, few) }
      | false ↦ λ is same. record { legal = same; least = omega arith; most = omega arith; small = let few = long_is tag (high * 256) same in omega (arith, few) }
    ]) refl h

pub value_length_lacks : (tag : ValueTag) (bytes : List ℕ) → IsTag tag → first_passes (may_begin tag) bytes ≡ true → length bytes < 2 → Completes value_code (IsOf tag) bytes
value_length_lacks tag [] ok passes few =
    let n = least_of tag in
    let h = (least_is tag).0 in
    begun value_code (IsOf tag) [] (value_code (filled tag n)) (filled tag n) (sample tag n ok h) refl
value_length_lacks tag (high ∷ []) ok passes few =
    let n = high_length tag high in
    let h = high_is tag high passes in
    as_value tag n (high ∷ []) ok h.legal (first_octet n high (octets_of (filled tag n)) (λ o. o ≡ octets_of (filled tag n)) refl (filled_length tag n h.legal) h.least h.most h.small)
value_length_lacks tag (high ∷ low ∷ bytes) ok passes few = absurd (omega (arith, few))

pub value_lacks : (tag : ValueTag) (bytes : List ℕ) → IsTag tag → IsBytes bytes → Lacks (value_at tag bytes) → Completes value_code (IsOf tag) bytes
unfolding value_at
value_lacks tag bytes ok fits e =
    let b = passed (checked {A = ℕ} Length (first_passes (may_begin tag) bytes) 0) (λ begun. number_at NeedMore w16 bytes >>= λ n. checked Length (is_length tag n.0) n.0 >>= λ long. part_at NeedMore long n.1 >>= λ part. value_of tag part.0 >>= λ v. Ok (v, part.1)) (checked_never {A = ℕ} Length (first_passes (may_begin tag) bytes) 0 length_other) e in
    let passes = checked_ok {A = ℕ} Length (first_passes (may_begin tag) bytes) 0 b.value b.was in
    elim (lacking (number_at NeedMore w16 bytes) (λ n. checked Length (is_length tag n.0) n.0 >>= λ long. part_at NeedMore long n.1 >>= λ part. value_of tag part.0 >>= λ v. Ok (v, part.1)) b.then) [
      | inl here ↦ value_length_lacks tag bytes ok passes.0 (number_lacks w16 bytes here)
      | inr n ↦
          let t = (reads_16 NeedMore).takes bytes n.value.0 n.value.1 fits n.was in
          let c = passed (checked Length (is_length tag n.value.0) n.value.0) (λ long. part_at NeedMore long n.value.1 >>= λ part. value_of tag part.0 >>= λ v. Ok (v, part.1)) (checked_never Length (is_length tag n.value.0) n.value.0 length_other) n.then in
          let k = checked_ok Length (is_length tag n.value.0) n.value.0 c.value c.was in
          elim (lacking (part_at NeedMore c.value n.value.1) (λ part. value_of tag part.0 >>= λ v. Ok (v, part.1)) c.then) [
            | inl here ↦
                let short = part_lacks c.value n.value.1 here in
                let same = k.1 in
                as_value tag n.value.0 bytes ok k.0 (short_field n.value.0 bytes n.value.1 (octets_of (filled tag n.value.0)) (λ o. o ≡ octets_of (filled tag n.value.0)) t.0.parts (omega (arith, short, same)) (filled_length tag n.value.0 k.0) refl)
            | inr p ↦ let v = passed (value_of tag p.value.0) (λ v. Ok (v, p.value.1)) (value_never tag p.value.0) p.then in let same = v.then in absurd cc
          ]
    ]

-- ---- names

pub name_sample : (n : ℕ) → 1 ≤ n → n ≤ 255 → IsText 1 255 127 (letters n)
name_sample n some few = letters_text 1 255 127 n (omega arith) some few

pub name_length_lacks : (bytes : List ℕ) → name_begins bytes ≡ true → length bytes < 2 → Completes counted (IsText 1 255 127) bytes
name_length_lacks [] passes few = begun counted (IsText 1 255 127) [] (counted (letters 1)) (letters 1) (name_sample 1 (omega arith) (omega arith)) refl
name_length_lacks (high ∷ []) passes few =
    let none = eqb-true high 0 passes in
    first_octet 1 high (letters 1) (IsText 1 255 127) (name_sample 1 (omega arith) (omega arith)) refl (omega (arith, none)) (omega (arith, none)) (omega arith)
name_length_lacks (high ∷ low ∷ bytes) passes few = absurd (omega (arith, few))

pub name_lacks : (bytes : List ℕ) → IsBytes bytes → Lacks (name_at bytes) → Completes counted (IsText 1 255 127) bytes
unfolding name_at
name_lacks bytes fits e =
    let b = passed (checked {A = ℕ} Name (name_begins bytes) 0) (λ begun. number_at NeedMore w16 bytes >>= λ n. checked Name (nat_le 1 n.0 && nat_le n.0 255) n.0 >>= λ long. part_at NeedMore long n.1 >>= λ part. text_of 1 255 127 part.0 >>= λ name. Ok (name, part.1)) (checked_never {A = ℕ} Name (name_begins bytes) 0 name_other) e in
    let passes = checked_ok {A = ℕ} Name (name_begins bytes) 0 b.value b.was in
    elim (lacking (number_at NeedMore w16 bytes) (λ n. checked Name (nat_le 1 n.0 && nat_le n.0 255) n.0 >>= λ long. part_at NeedMore long n.1 >>= λ part. text_of 1 255 127 part.0 >>= λ name. Ok (name, part.1)) b.then) [
      | inl here ↦ name_length_lacks bytes passes.0 (number_lacks w16 bytes here)
      | inr n ↦
          let t = (reads_16 NeedMore).takes bytes n.value.0 n.value.1 fits n.was in
          let c = passed (checked Name (nat_le 1 n.value.0 && nat_le n.value.0 255) n.value.0) (λ long. part_at NeedMore long n.value.1 >>= λ part. text_of 1 255 127 part.0 >>= λ name. Ok (name, part.1)) (checked_never Name (nat_le 1 n.value.0 && nat_le n.value.0 255) n.value.0 name_other) n.then in
          let k = checked_ok Name (nat_le 1 n.value.0 && nat_le n.value.0 255) n.value.0 c.value c.was in
          let both = and_parts (nat_le 1 n.value.0) (nat_le n.value.0 255) k.0 in
          elim (lacking (part_at NeedMore c.value n.value.1) (λ part. text_of 1 255 127 part.0 >>= λ name. Ok (name, part.1)) c.then) [
            | inl here ↦
                let short = part_lacks c.value n.value.1 here in
                let same = k.1 in
                short_field n.value.0 bytes n.value.1 (letters n.value.0) (IsText 1 255 127) t.0.parts (omega (arith, short, same)) (letters_length n.value.0) (name_sample n.value.0 (leb-true 1 n.value.0 both.0) (leb-true n.value.0 255 both.1))
            | inr p ↦ let v = passed (text_of 1 255 127 p.value.0) (λ name. Ok (name, p.value.1)) (text_never 1 255 127 p.value.0) p.then in let same = v.then in absurd cc
          ]
    ]
