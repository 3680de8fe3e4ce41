-- Items in ascending order that are read have these bytes as their code, and the code of such items is read as these
-- items.
use Rattle.std.proofs.Common.{◌≡◌, ℕ, zero, suc, ◌-◌, ◌^◌, ◌≤◌, true, List, [], ◌∷◌, ◌++◌, length, map, Option, Some, None, Ok, refl, sym, ap, subst, ◌∙◌, append_assoc, length-append, arith}
use Rattle.std.specs.Int.{w8, to_be_bytes}
use Rattle.std.specs.List.{flat_map, AllByRecursion}
use Rattle.std.proofs.Math.Seq.{get_or-append_seam}
use Rattle.std.proofs.lemmas.Option.{slice_get-get_or}
use Rattle.std.proofs.lemmas.List.Concat.{flat_map-cons}
use Rattle.spool_types.specs.declared.effect.Attribute.{Attribute}
use Rattle.spool_types.specs.Values.{is_reason, is_attribute_name, is_message}
use Rattle.field_codec.specs.declared.fault.CodecFault.TheVariants.{Range}
use Rattle.event_codec.specs.Spelling.{text_code, counted_code, attribute_code, IsIn, IsText, IsAttribute}
use Rattle.event_codec.specs.RowSpelling.{attributes_code, name_of, Ascend}
use Rattle.event_codec.specs.EventReading.{◌>>=◌, checked, ranged_at, text_at, list_at}
use Rattle.event_codec.specs.RowReading.{last_of, is_above, Item, reason_after, attribute_after, ascending_at, reasons_at, attributes_at}
use Rattle.event_codec.proofs.FieldLaws.{IsBytes, bind_ok, passed_ok, ok_is, Takes, Takes-then, Reads, got, again-then, again-last, wide8, reads_ranged, ok_as}
use Rattle.event_codec.proofs.TextLaws.{reads_reason, reads_attribute_name, reads_message}

-- The last of a list of texts is the text that was pushed last.
pub last_pushed : (texts : List (List ℕ)) (text : List ℕ) → last_of (texts ++ text ∷ []) ≡ Some text
last_pushed texts text =
    let k : length (texts ++ text ∷ []) - 1 ≡ length texts = omega (arith, length-append texts (text ∷ [])) in
    rw k (slice_get-get_or (texts ++ text ∷ []) (length texts) text (omega (arith, length-append texts (text ∷ []))) ∙ ap (λ (t : List ℕ). Some t) (get_or-append_seam texts text [] text))

names_pushed : (attributes : List Attribute) (x : Attribute) → map name_of (attributes ++ x ∷ []) ≡ map name_of attributes ++ x.name ∷ []
names_pushed [] x = refl
names_pushed (a ∷ attributes) x = ap (λ (l : List (List ℕ)). a.name ∷ l) (names_pushed attributes x)

pub last_name_pushed : (attributes : List Attribute) (x : Attribute) → last_of (map name_of (attributes ++ x ∷ [])) ≡ Some x.name
last_name_pushed attributes x = ap last_of (names_pushed attributes x) ∙ last_pushed (map name_of attributes) x.name

-- The item that was read after one with this key.
pub record After {A : Type 0} (key : A → List ℕ) (code : A → List ℕ) (Legal : A → Type 0) (before : Option (List ℕ)) (bytes : List ℕ) (x : A) (next : Option (List ℕ)) (rest : List ℕ) : Type 0 where
  pub taken : Takes bytes (code x) rest
  pub legal : Legal x
  pub above : is_above before (key x) ≡ true
  pub next_is : next ≡ Some (key x)

pub record ReadsAfter {A : Type 0} (one : Option (List ℕ) × List ℕ → Item A) (key : A → List ℕ) (code : A → List ℕ) (Legal : A → Type 0) : Type 0 where
  pub takes : (before : Option (List ℕ)) (bytes : List ℕ) (x : A) (next : Option (List ℕ)) (rest : List ℕ) → IsBytes bytes → one (before, bytes) ≡ Ok (x, (next, rest)) → After key code Legal before bytes x next rest
  pub again : (before : Option (List ℕ)) (x : A) (rest : List ℕ) → Legal x → is_above before (key x) ≡ true → one (before, code x ++ rest) ≡ Ok (x, (Some (key x), rest))

abbrev AscendFrom : {A : Type 0} → (A → List ℕ) → Option (List ℕ) → List A → Type 0
AscendFrom key before [] = Unit {0}
AscendFrom key before (x ∷ xs) = (is_above before (key x) ≡ true) × AscendFrom key (Some (key x)) xs

ascend_after : {A : Type 0} (key : A → List ℕ) (a : List ℕ) (xs : List A) → AscendFrom key (Some a) xs → Ascend (a ∷ map key xs)
ascend_after key a [] h = tt
ascend_after key a (x ∷ xs) h = (h.0, ascend_after key (key x) xs h.1)

to_ascend : {A : Type 0} (key : A → List ℕ) (xs : List A) → AscendFrom key None xs → Ascend (map key xs)
to_ascend key [] h = tt
to_ascend key (x ∷ xs) h = ascend_after key (key x) xs h.1

after_ascend : {A : Type 0} (key : A → List ℕ) (a : List ℕ) (xs : List A) → Ascend (a ∷ map key xs) → AscendFrom key (Some a) xs
after_ascend key a [] h = tt
after_ascend key a (x ∷ xs) h = (h.0, after_ascend key (key x) xs h.1)

from_ascend : {A : Type 0} (key : A → List ℕ) (xs : List A) → Ascend (map key xs) → AscendFrom key None xs
from_ascend key [] h = tt
from_ascend key (x ∷ xs) h = (refl, after_ascend key (key x) xs h)

record Ordered {A : Type 0} (key : A → List ℕ) (code : A → List ℕ) (Legal : A → Type 0) (before : Option (List ℕ)) (n : ℕ) (bytes : List ℕ) (xs : List A) (rest : List ℕ) : Type 0 where
  taken : Takes bytes (flat_map code xs) rest
  count : length xs ≡ n
  legal : AllByRecursion Legal xs
  ascend : AscendFrom key before xs

ordered_takes : {A : Type 0} (one : Option (List ℕ) × List ℕ → Item A) (key : A → List ℕ) (code : A → List ℕ) (Legal : A → Type 0) → ReadsAfter one key code Legal → (n : ℕ) (before : Option (List ℕ)) (bytes : List ℕ) (xs : List A) (next : Option (List ℕ)) (rest : List ℕ)
    → IsBytes bytes → list_at one n (before, bytes) ≡ Ok (xs, (next, rest)) → Ordered key code Legal before n bytes xs rest
unfolding list_at
ordered_takes {A = A} one key code Legal reads zero before bytes xs next rest fits e =
    ok_as (λ (y : List A × (Option (List ℕ) × List ℕ)). Ordered key code Legal before zero bytes y.0 y.1.1) ([], (before, bytes)) (xs, (next, rest)) e (record { taken = record { parts = refl; rest_fits = fits }; count = refl; legal = tt; ascend = tt })
ordered_takes {A = A} one key code Legal reads (suc n) before bytes xs next rest fits e =
    let a = bind_ok (one (before, bytes)) (λ first. list_at one n first.1 >>= λ others. Ok (first.0 ∷ others.0, others.1)) (xs, (next, rest)) e in
    let f = reads.takes before bytes a.value.0 a.value.1.0 a.value.1.1 fits a.was in
    let b = bind_ok (list_at one n a.value.1) (λ others. Ok (a.value.0 ∷ others.0, others.1)) (xs, (next, rest)) a.then in
    let others = ordered_takes one key code Legal reads n a.value.1.0 a.value.1.1 b.value.0 b.value.1.0 b.value.1.1 f.taken.rest_fits b.was in
    let both = Takes-then bytes (code a.value.0) a.value.1.1 (flat_map code b.value.0) b.value.1.1 f.taken others.taken in
    let ascend : AscendFrom key (Some (key a.value.0)) b.value.0 = subst (λ (k : Option (List ℕ)). AscendFrom key k b.value.0) f.next_is others.ascend in
    ok_as (λ (y : List A × (Option (List ℕ) × List ℕ)). Ordered key code Legal before (suc n) bytes y.0 y.1.1) (a.value.0 ∷ b.value.0, b.value.1) (xs, (next, rest)) b.then (record { taken = rw flat_map-cons both; count = ap suc others.count; legal = (f.legal, others.legal); ascend = (f.above, ascend) })

-- The key of the last item, or the key before all items if there are none.
abbrev end_of : {A : Type 0} → (A → List ℕ) → Option (List ℕ) → List A → Option (List ℕ)
end_of key before [] = before
end_of key before (x ∷ xs) = end_of key (Some (key x)) xs

ordered_again : {A : Type 0} (one : Option (List ℕ) × List ℕ → Item A) (key : A → List ℕ) (code : A → List ℕ) (Legal : A → Type 0) → ReadsAfter one key code Legal → (before : Option (List ℕ)) (xs : List A) (rest : List ℕ)
    → AllByRecursion Legal xs → AscendFrom key before xs → list_at one (length xs) (before, flat_map code xs ++ rest) ≡ Ok (xs, (end_of key before xs, rest))
unfolding list_at
ordered_again one key code Legal reads before [] rest h ascend = refl
ordered_again one key code Legal reads before (x ∷ xs) rest h ascend =
    ap (λ (t : List ℕ). list_at one (suc (length xs)) (before, t ++ rest)) (flat_map-cons code x xs)
    ∙ ap (λ (t : List ℕ). one (before, t) >>= λ first. list_at one (length xs) first.1 >>= λ others. Ok (first.0 ∷ others.0, others.1)) (append_assoc (code x) (flat_map code xs) rest)
    ∙ ap (λ r. r >>= λ first. list_at one (length xs) first.1 >>= λ others. Ok (first.0 ∷ others.0, others.1)) (reads.again before x (flat_map code xs ++ rest) h.0 ascend.0)
    ∙ rw (ordered_again one key code Legal reads (Some (key x)) xs rest h.1 ascend.1) refl

-- ---- such a list, after the number of its items

abbrev reads_few : Reads (ranged_at 0 64 w8) (to_be_bytes w8) (IsIn 0 64)
reads_few = reads_ranged 0 64 w8 (2 ^ 8) wide8 (omega arith)

abbrev listed_code : {A : Type 0} → (A → List ℕ) → List A → List ℕ
listed_code code xs = to_be_bytes w8 (length xs) ++ flat_map code xs

record AreInOrder {A : Type 0} (key : A → List ℕ) (Legal : A → Type 0) (xs : List A) : Type 0 where
  few : length xs ≤ 64
  each : AllByRecursion Legal xs
  ascend : AscendFrom key None xs

listed_takes : {A : Type 0} (one : Option (List ℕ) × List ℕ → Item A) (key : A → List ℕ) (code : A → List ℕ) (Legal : A → Type 0) → ReadsAfter one key code Legal → (bytes : List ℕ) (xs : List A) (rest : List ℕ) → IsBytes bytes → ascending_at one bytes ≡ Ok (xs, rest) → Takes bytes (listed_code code xs) rest × AreInOrder key Legal xs
unfolding ascending_at
listed_takes {A = A} one key code Legal reads bytes xs rest fits e =
    let a = got (ranged_at 0 64 w8) (to_be_bytes w8) (IsIn 0 64) reads_few bytes (λ count. list_at one count.0 (None, count.1) >>= λ items. Ok (items.0, items.1.1)) (xs, rest) fits e in
    let b = bind_ok (list_at one a.value (None, a.rest)) (λ items. Ok (items.0, items.1.1)) (xs, rest) a.then in
    let o = ordered_takes one key code Legal reads a.value None a.rest b.value.0 b.value.1.0 b.value.1.1 a.taken.rest_fits b.was in
    let both = Takes-then bytes (to_be_bytes w8 a.value) a.rest (flat_map code b.value.0) b.value.1.1 a.taken o.taken in
    let whole : Takes bytes (listed_code code b.value.0) b.value.1.1 = subst (λ (k : ℕ). Takes bytes (to_be_bytes w8 k ++ flat_map code b.value.0) b.value.1.1) (sym o.count) both in
    let are : AreInOrder key Legal b.value.0 = record { few = omega (arith, o.count, a.legal.at_most); each = o.legal; ascend = o.ascend } in
    ok_as (λ (y : List A × List ℕ). Takes bytes (listed_code code y.0) y.1 × AreInOrder key Legal y.0) (b.value.0, b.value.1.1) (xs, rest) b.then (whole, are)

listed_again : {A : Type 0} (one : Option (List ℕ) × List ℕ → Item A) (key : A → List ℕ) (code : A → List ℕ) (Legal : A → Type 0) → ReadsAfter one key code Legal → (xs : List A) (rest : List ℕ) → AreInOrder key Legal xs → ascending_at one (listed_code code xs ++ rest) ≡ Ok (xs, rest)
unfolding ascending_at
listed_again one key code Legal reads xs rest h =
    again-then (ranged_at 0 64 w8) (to_be_bytes w8) (IsIn 0 64) reads_few (length xs) (flat_map code xs) rest (λ count. list_at one count.0 (None, count.1) >>= λ items. Ok (items.0, items.1.1)) (record { at_least = omega arith; at_most = h.few })
    ∙ rw (ordered_again one key code Legal reads None xs rest h.each h.ascend) refl

-- ---- reasons

abbrev itself : List ℕ → List ℕ
itself text = text

reason_take : (before : Option (List ℕ)) (bytes : List ℕ) (x : List ℕ) (next : Option (List ℕ)) (rest : List ℕ) → IsBytes bytes → reason_after (before, bytes) ≡ Ok (x, (next, rest)) → After itself text_code (IsText is_reason) before bytes x next rest
unfolding reason_after checked
reason_take before bytes x next rest fits e =
    let a = got (text_at is_reason) text_code (IsText is_reason) reads_reason bytes (λ text. checked (is_above before text.0) text.0 >>= λ reason. Ok (reason, (Some reason, text.1))) (x, (next, rest)) fits e in
    let b = bind_ok (checked (is_above before a.value) a.value) (λ reason. Ok (reason, (Some reason, a.rest))) (x, (next, rest)) a.then in
    let g = passed_ok (is_above before a.value) Range a.value b.value b.was in
    let read : After itself text_code (IsText is_reason) before bytes a.value (Some a.value) a.rest = record { taken = a.taken; legal = a.legal; above = g.0; next_is = refl } in
    let same = ap (λ (t : List ℕ). (t, (Some t, a.rest))) g.1 ∙ ok_is (b.value, (Some b.value, a.rest)) (x, (next, rest)) b.then in
    subst (λ (y : List ℕ × (Option (List ℕ) × List ℕ)). After itself text_code (IsText is_reason) before bytes y.0 y.1.0 y.1.1) same read

reason_again : (before : Option (List ℕ)) (x rest : List ℕ) → IsText is_reason x → is_above before x ≡ true → reason_after (before, text_code x ++ rest) ≡ Ok (x, (Some x, rest))
unfolding reason_after checked
reason_again before x rest h above =
    again-last (text_at is_reason) text_code (IsText is_reason) reads_reason x rest (λ text. checked (is_above before text.0) text.0 >>= λ reason. Ok (reason, (Some reason, text.1))) h
    ∙ rw above refl

reads_reason_after : ReadsAfter reason_after itself text_code (IsText is_reason)
reads_reason_after = record { takes = reason_take; again = reason_again }

map_itself : (texts : List (List ℕ)) → map itself texts ≡ texts
map_itself [] = refl
map_itself (text ∷ texts) = ap (λ (l : List (List ℕ)). text ∷ l) (map_itself texts)

pub record AreReasons (texts : List (List ℕ)) : Type 0 where
  pub few : length texts ≤ 64
  pub each : AllByRecursion (IsText is_reason) texts
  pub ascend : Ascend texts

reasons_take : (bytes : List ℕ) (xs : List (List ℕ)) (rest : List ℕ) → IsBytes bytes → reasons_at bytes ≡ Ok (xs, rest) → Takes bytes (counted_code xs) rest × AreReasons xs
unfolding reasons_at
reasons_take bytes xs rest fits e =
    let l = listed_takes reason_after itself text_code (IsText is_reason) reads_reason_after bytes xs rest fits e in
    (l.0, record { few = l.1.few; each = l.1.each; ascend = subst Ascend (map_itself xs) (to_ascend itself xs l.1.ascend) })

reasons_again : (xs : List (List ℕ)) (rest : List ℕ) → AreReasons xs → reasons_at (counted_code xs ++ rest) ≡ Ok (xs, rest)
unfolding reasons_at
reasons_again xs rest h = listed_again reason_after itself text_code (IsText is_reason) reads_reason_after xs rest (record { few = h.few; each = h.each; ascend = from_ascend itself xs (subst Ascend (sym (map_itself xs)) h.ascend) })

pub reads_reasons : Reads reasons_at counted_code AreReasons
reads_reasons = record { takes = reasons_take; again = reasons_again }

-- ---- attributes

attribute_take : (before : Option (List ℕ)) (bytes : List ℕ) (x : Attribute) (next : Option (List ℕ)) (rest : List ℕ) → IsBytes bytes → attribute_after (before, bytes) ≡ Ok (x, (next, rest)) → After name_of attribute_code IsAttribute before bytes x next rest
unfolding attribute_after checked
attribute_take before bytes x next rest fits e =
    let a = got (text_at is_attribute_name) text_code (IsText is_attribute_name) reads_attribute_name bytes (λ text. checked (is_above before text.0) text.0 >>= λ name. text_at is_message text.1 >>= λ value. Ok (record { name = name; value = value.0 }, (Some name, value.1))) (x, (next, rest)) fits e in
    let b = bind_ok (checked (is_above before a.value) a.value) (λ name. text_at is_message a.rest >>= λ value. Ok (record { name = name; value = value.0 }, (Some name, value.1))) (x, (next, rest)) a.then in
    let g = passed_ok (is_above before a.value) Range a.value b.value b.was in
    let c = got (text_at is_message) text_code (IsText is_message) reads_message a.rest (λ value. Ok (record { name = b.value; value = value.0 }, (Some b.value, value.1))) (x, (next, rest)) a.taken.rest_fits b.then in
    let y : Attribute = record { name = a.value; value = c.value } in
    let both = Takes-then bytes (text_code a.value) a.rest (text_code c.value) c.rest a.taken c.taken in
    let read : After name_of attribute_code IsAttribute before bytes y (Some a.value) c.rest = record { taken = both; legal = record { name = a.legal; value = c.legal }; above = g.0; next_is = refl } in
    let same = ap (λ (t : List ℕ). (let z : Attribute = record { name = t; value = c.value } in (z, (Some t, c.rest)))) g.1 ∙ ok_is (record { name = b.value; value = c.value }, (Some b.value, c.rest)) (x, (next, rest)) c.then in
    subst (λ (z : Attribute × (Option (List ℕ) × List ℕ)). After name_of attribute_code IsAttribute before bytes z.0 z.1.0 z.1.1) same read

attribute_again : (before : Option (List ℕ)) (x : Attribute) (rest : List ℕ) → IsAttribute x → is_above before (name_of x) ≡ true → attribute_after (before, attribute_code x ++ rest) ≡ Ok (x, (Some (name_of x), rest))
unfolding attribute_after checked
attribute_again before x rest h above =
    again-then (text_at is_attribute_name) text_code (IsText is_attribute_name) reads_attribute_name x.name (text_code x.value) rest (λ text. checked (is_above before text.0) text.0 >>= λ name. text_at is_message text.1 >>= λ value. Ok (record { name = name; value = value.0 }, (Some name, value.1))) h.name
    ∙ rw above (again-last (text_at is_message) text_code (IsText is_message) reads_message x.value rest (λ value. Ok (record { name = x.name; value = value.0 }, (Some x.name, value.1))) h.value)

reads_attribute_after : ReadsAfter attribute_after name_of attribute_code IsAttribute
reads_attribute_after = record { takes = attribute_take; again = attribute_again }

pub record AreAttributes (attributes : List Attribute) : Type 0 where
  pub few : length attributes ≤ 64
  pub each : AllByRecursion IsAttribute attributes
  pub ascend : Ascend (map name_of attributes)

attributes_take : (bytes : List ℕ) (xs : List Attribute) (rest : List ℕ) → IsBytes bytes → attributes_at bytes ≡ Ok (xs, rest) → Takes bytes (attributes_code xs) rest × AreAttributes xs
unfolding attributes_at
attributes_take bytes xs rest fits e =
    let l = listed_takes attribute_after name_of attribute_code IsAttribute reads_attribute_after bytes xs rest fits e in
    (l.0, record { few = l.1.few; each = l.1.each; ascend = to_ascend name_of xs l.1.ascend })

attributes_again : (xs : List Attribute) (rest : List ℕ) → AreAttributes xs → attributes_at (attributes_code xs ++ rest) ≡ Ok (xs, rest)
unfolding attributes_at
attributes_again xs rest h = listed_again attribute_after name_of attribute_code IsAttribute reads_attribute_after xs rest (record { few = h.few; each = h.each; ascend = from_ascend name_of xs h.ascend })

pub reads_attributes : Reads attributes_at attributes_code AreAttributes
reads_attributes = record { takes = attributes_take; again = attributes_again }
