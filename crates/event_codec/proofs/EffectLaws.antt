-- Effects that are read have these bytes as their code, and the code of effects is read as these effects.
use Rattle.std.proofs.Common.{◌≡◌, ℕ, zero, suc, ◌+◌, ◌-◌, ◌^◌, ◌<◌, ◌≤◌, Bool, true, false, cond, eqb, List, [], ◌∷◌, ◌++◌, length, Some, None, Result, Ok, refl, sym, ap, subst, ◌∙◌, arith, inl, inr}
use Rattle.std.specs.Prelude.{nat_le, ◌&&◌}
use Rattle.std.specs.Int.{w8, w16, w32, to_be_bytes}
use Rattle.std.specs.List.{flat_map, list_all, AllByRecursion}
use Rattle.std.proofs.lemmas.Bool.{eqb-true}
use Rattle.std.proofs.lemmas.Bool.Decides.{nat_tests}
use Rattle.std.proofs.lemmas.List.Concat.{flat_map-cons}
use Rattle.spool_types.specs.declared.effect.Level.{Level}
use Rattle.spool_types.specs.declared.effect.Level.TheVariants as levels
use Rattle.spool_types.specs.declared.effect.Effect.{Effect}
use Rattle.spool_types.specs.declared.effect.Effect.TheVariants.{Pages, TotalPages, SetReasons, AddReasons, DropReasons, Attribute, Message}
use Rattle.spool_types.specs.Values.{is_reason, is_attribute_name, is_message}
use Rattle.spool_types.specs.Effects.{is_some_word, names_enough, effect_size, effects_size, most_effect_bytes, room_left, AreEffects}
use Rattle.field_codec.specs.declared.fault.CodecFault.{CodecFault}
use Rattle.field_codec.specs.declared.fault.CodecFault.TheVariants.{Range}
use Rattle.event_codec.specs.Spelling.{text_code, pages_code, words_code, attribute_code, level_number, message_code, effect_code, effects_code, IsIn, IsText, IsPages, AreWords, IsEffect}
use Rattle.event_codec.specs.EventReading.{Field, ◌>>=◌, number_at, ranged_at, text_at, list_at, pages_at, total_at, words_at, worded_at, attribute_at, level_of, level_at, message_at, kind_of_effect, effect_at, some_room, effect_within, listed_at, effects_at}
use Rattle.event_codec.proofs.FieldLaws.{IsBytes, bind_ok, ok_is, Takes, Takes-then, Reads, got, again-step, again-last, wide16, wide32, reads_number, reads_ranged, ok_as}
use Rattle.event_codec.proofs.TextLaws.{reads_reason, reads_attribute_name, reads_message}
use Rattle.event_codec.proofs.ListLaws.{list_takes, list_again}
use Rattle.event_codec.proofs.FilterLaws.{Anything, chosen, refused, reads_byte}
use Rattle.event_codec.proofs.Sizes.{no_more_than_bytes}

abbrev Byte : ℕ → Type 0
Byte n = n < 2 ^ 8

abbrev Wide : ℕ → Type 0
Wide n = n < 2 ^ 32

abbrev reads_wide : Reads (number_at w32) (to_be_bytes w32) Wide
reads_wide = reads_number w32 (2 ^ 32) wide32

-- An effect that satisfies the condition of its kind.
abbrev pub IsLegal : Effect → Type 0
IsLegal e = IsEffect e × (names_enough e ≡ true)

record TakesEffect (bytes : List ℕ) (x : Effect) (rest : List ℕ) : Type 0 where
  taken : Takes bytes (effect_code x) rest
  legal : IsLegal x

-- The effect that was read is the expected one.
told_as : (bytes : List ℕ) (y : Effect) (after : List ℕ) (x : Effect) (rest : List ℕ) → (let r : Result (Effect × List ℕ) CodecFault = Ok (y, after) in r) ≡ Ok (x, rest) → TakesEffect bytes y after → TakesEffect bytes x rest
told_as bytes y after x rest same this = ok_as (λ (z : Effect × List ℕ). TakesEffect bytes z.0 z.1) (y, after) (x, rest) same this

within_wide : (n : ℕ) → Wide n → IsIn 0 4294967295 n
within_wide n h = record { at_least = omega arith; at_most = omega (arith, h) }

wide_again : (n : ℕ) → IsIn 0 4294967295 n → Wide n
wide_again n h = omega (arith, h.at_most)

-- ---- pages

pages_take : (bytes after : List ℕ) (x : Effect) (rest : List ℕ) → Takes bytes (to_be_bytes w8 1) after → pages_at after ≡ Ok (x, rest) → TakesEffect bytes x rest
unfolding pages_at
pages_take bytes after x rest t e =
    let a = got (number_at w32) (to_be_bytes w32) Wide reads_wide after _ (x, rest) t.rest_fits e in
    let b = got (number_at w32) (to_be_bytes w32) Wide reads_wide a.rest _ (x, rest) a.taken.rest_fits a.then in
    let fields = Takes-then after (to_be_bytes w32 a.value) a.rest (to_be_bytes w32 b.value) b.rest a.taken b.taken in
    told_as bytes (Pages a.value b.value) b.rest x rest b.then (record {
      taken = Takes-then bytes (to_be_bytes w8 1) after (pages_code a.value b.value) b.rest t fields;
      legal = (record { page = within_wide a.value a.legal; copies = within_wide b.value b.legal }, refl);
    })

pages_again : (page copies : ℕ) (rest : List ℕ) → IsPages page copies → pages_at (pages_code page copies ++ rest) ≡ Ok (Pages page copies, rest)
unfolding pages_at
pages_again page copies rest h =
    again-step (number_at w32) (to_be_bytes w32) Wide reads_wide page (to_be_bytes w32 copies) rest _ _ (wide_again page h.page)
    (again-last (number_at w32) (to_be_bytes w32) Wide reads_wide copies rest _ (wide_again copies h.copies))

total_takes : (bytes after : List ℕ) (x : Effect) (rest : List ℕ) → Takes bytes (to_be_bytes w8 2) after → total_at after ≡ Ok (x, rest) → TakesEffect bytes x rest
unfolding total_at
total_takes bytes after x rest t e =
    let a = got (number_at w32) (to_be_bytes w32) Wide reads_wide after _ (x, rest) t.rest_fits e in
    told_as bytes (TotalPages a.value) a.rest x rest a.then (record {
      taken = Takes-then bytes (to_be_bytes w8 2) after (to_be_bytes w32 a.value) a.rest t a.taken;
      legal = (within_wide a.value a.legal, refl);
    })

total_again : (pages : ℕ) (rest : List ℕ) → IsIn 0 4294967295 pages → total_at (to_be_bytes w32 pages ++ rest) ≡ Ok (TotalPages pages, rest)
unfolding total_at
total_again pages rest h = again-last (number_at w32) (to_be_bytes w32) Wide reads_wide pages rest _ (wide_again pages h)

-- ---- words

-- At least `least` words.
record AreWordsFrom (least : ℕ) (words : List (List ℕ)) : Type 0 where
  count : IsIn least 65535 (length words)
  each : AllByRecursion (IsText is_reason) words

reads_count : (least : ℕ) → Reads (ranged_at least 65535 w16) (to_be_bytes w16) (IsIn least 65535)
reads_count least = reads_ranged least 65535 w16 (2 ^ 16) wide16 (omega arith)

words_take : (least : ℕ) (bytes : List ℕ) (words : List (List ℕ)) (rest : List ℕ) → IsBytes bytes → words_at least bytes ≡ Ok (words, rest) → Takes bytes (words_code words) rest × AreWordsFrom least words
unfolding words_at
words_take least bytes words rest fits e =
    let a = got (ranged_at least 65535 w16) (to_be_bytes w16) (IsIn least 65535) (reads_count least) bytes (λ count. list_at (text_at is_reason) count.0 count.1) (words, rest) fits e in
    let l = list_takes (text_at is_reason) text_code (IsText is_reason) reads_reason a.value a.rest words rest a.taken.rest_fits a.then in
    let both = Takes-then bytes (to_be_bytes w16 a.value) a.rest (flat_map text_code words) rest a.taken l.taken in (
      subst (λ (n : ℕ). Takes bytes (to_be_bytes w16 n ++ flat_map text_code words) rest) (sym l.count) both,
      record { count = subst (λ (n : ℕ). IsIn least 65535 n) (sym l.count) a.legal; each = l.legal },
    )

words_again : (least : ℕ) (words : List (List ℕ)) (rest : List ℕ) → AreWordsFrom least words → words_at least (words_code words ++ rest) ≡ Ok (words, rest)
unfolding words_at
words_again least words rest h =
    again-step (ranged_at least 65535 w16) (to_be_bytes w16) (IsIn least 65535) (reads_count least) (length words) (flat_map text_code words) rest (λ count. list_at (text_at is_reason) count.0 count.1) _ h.count
    (list_again (text_at is_reason) text_code (IsText is_reason) reads_reason words rest h.each)

reads_words : (least : ℕ) → Reads (words_at least) words_code (AreWordsFrom least)
reads_words least = record { takes = words_take least; again = words_again least }

worded_take : (least kind : ℕ) (effect : List (List ℕ) → Effect) (bytes after : List ℕ) (x : Effect) (rest : List ℕ)
    → ((words : List (List ℕ)) → effect_code (effect words) ≡ to_be_bytes w8 kind ++ words_code words) → ((words : List (List ℕ)) → AreWordsFrom least words → IsLegal (effect words))
    → Takes bytes (to_be_bytes w8 kind) after → worded_at least effect after ≡ Ok (x, rest) → TakesEffect bytes x rest
unfolding worded_at
worded_take least kind effect bytes after x rest coded legal t e =
    let a = got (words_at least) words_code (AreWordsFrom least) (reads_words least) after (λ words. Ok (effect words.0, words.1)) (x, rest) t.rest_fits e in
    let both = Takes-then bytes (to_be_bytes w8 kind) after (words_code a.value) a.rest t a.taken in
    told_as bytes (effect a.value) a.rest x rest a.then (record {
      taken = subst (λ (code : List ℕ). Takes bytes code a.rest) (sym (coded a.value)) both;
      legal = legal a.value a.legal;
    })

worded_again : (least : ℕ) (effect : List (List ℕ) → Effect) (words : List (List ℕ)) (rest : List ℕ) → AreWordsFrom least words → worded_at least effect (words_code words ++ rest) ≡ Ok (effect words, rest)
unfolding worded_at
worded_again least effect words rest h = again-last (words_at least) words_code (AreWordsFrom least) (reads_words least) words rest (λ words. Ok (effect words.0, words.1)) h

are_words : (least : ℕ) (words : List (List ℕ)) → AreWordsFrom least words → AreWords words
are_words least words h = record { count = h.count.at_most; each = h.each }

some_word : (words : List (List ℕ)) → AreWordsFrom 1 words → is_some_word words ≡ true
some_word [] h = let one : 1 ≤ 0 = h.count.at_least in absurd (omega arith)
some_word (word ∷ words) h = refl

from_none : (words : List (List ℕ)) → AreWords words → AreWordsFrom 0 words
from_none words h = record { count = record { at_least = omega arith; at_most = h.count }; each = h.each }

from_one : (words : List (List ℕ)) → AreWords words → is_some_word words ≡ true → AreWordsFrom 1 words
from_one [] h some = absurd cc
from_one (word ∷ words) h some = record { count = record { at_least = omega arith; at_most = h.count }; each = h.each }

-- ---- attributes and messages

attribute_takes : (bytes after : List ℕ) (x : Effect) (rest : List ℕ) → Takes bytes (to_be_bytes w8 6) after → attribute_at after ≡ Ok (x, rest) → TakesEffect bytes x rest
unfolding attribute_at
attribute_takes bytes after x rest t e =
    let a = got (text_at is_attribute_name) text_code (IsText is_attribute_name) reads_attribute_name after _ (x, rest) t.rest_fits e in
    let b = got (text_at is_message) text_code (IsText is_message) reads_message a.rest _ (x, rest) a.taken.rest_fits a.then in
    let fields = Takes-then after (text_code a.value) a.rest (text_code b.value) b.rest a.taken b.taken in
    told_as bytes (Attribute (record { name = a.value; value = b.value })) b.rest x rest b.then (record {
      taken = Takes-then bytes (to_be_bytes w8 6) after (text_code a.value ++ text_code b.value) b.rest t fields;
      legal = (record { name = a.legal; value = b.legal }, refl);
    })

attribute_again : (name value rest : List ℕ) → IsText is_attribute_name name → IsText is_message value → attribute_at ((text_code name ++ text_code value) ++ rest) ≡ Ok (Attribute (record { name = name; value = value }), rest)
unfolding attribute_at
attribute_again name value rest n v =
    again-step (text_at is_attribute_name) text_code (IsText is_attribute_name) reads_attribute_name name (text_code value) rest _ _ n
    (again-last (text_at is_message) text_code (IsText is_message) reads_message value rest _ v)

abbrev level_code : Level → List ℕ
level_code level = to_be_bytes w8 (level_number level)

is_level : (n k : ℕ) (q p : Level) → eqb n k ≡ true → level_number q ≡ k → (let r : Result Level CodecFault = Ok q in r) ≡ Ok p → n ≡ level_number p
is_level n k q p e h same = eqb-true n k e ∙ sym h ∙ ap level_number (ok_is q p same)

-- This level, or one of the others.
by_level : (n k : ℕ) (q p : Level) (others : Result Level CodecFault) → level_number q ≡ k → (others ≡ Ok p → n ≡ level_number p) → cond (eqb n k) (Ok q) others ≡ Ok p → n ≡ level_number p
by_level n k q p others h other e =
    elim (chosen (eqb n k) (Ok q) others (Ok p) e) [
      | inl i ↦ is_level n k q p i.0 h i.1
      | inr i ↦ other i.1
    ]

level_of_ok : (n : ℕ) (p : Level) → level_of n ≡ Ok p → n ≡ level_number p
unfolding level_of
level_of_ok n p e =
    by_level n 0 levels.Emergency p _ refl
    (by_level n 1 levels.Alert p _ refl
    (by_level n 2 levels.Critical p _ refl
    (by_level n 3 levels.Error p _ refl
    (by_level n 4 levels.Warning p _ refl
    (by_level n 5 levels.Notice p _ refl
    (by_level n 6 levels.Info p _ refl
    (λ refusal. absurd (refused Range p refusal)))))))) e

level_of_again : (p : Level) → level_of (level_number p) ≡ Ok p
unfolding level_of
level_of_again levels.Emergency = refl
level_of_again levels.Alert = refl
level_of_again levels.Critical = refl
level_of_again levels.Error = refl
level_of_again levels.Warning = refl
level_of_again levels.Notice = refl
level_of_again levels.Info = refl

level_small : (p : Level) → level_number p < 2 ^ 8
level_small levels.Emergency = omega arith
level_small levels.Alert = omega arith
level_small levels.Critical = omega arith
level_small levels.Error = omega arith
level_small levels.Warning = omega arith
level_small levels.Notice = omega arith
level_small levels.Info = omega arith

level_takes : (bytes : List ℕ) (p : Level) (rest : List ℕ) → IsBytes bytes → level_at bytes ≡ Ok (p, rest) → Takes bytes (level_code p) rest × Anything p
unfolding level_at
level_takes bytes p rest fits e =
    let s = got (number_at w8) (to_be_bytes w8) Byte reads_byte bytes (λ n. level_of n.0 >>= λ level. Ok (level, n.1)) (p, rest) fits e in
    let c = bind_ok (level_of s.value) (λ level. Ok (level, s.rest)) (p, rest) s.then in
    let taken : Takes bytes (level_code c.value) s.rest = subst (λ (n : ℕ). Takes bytes (to_be_bytes w8 n) s.rest) (level_of_ok s.value c.value c.was) s.taken in
    ok_as (λ (x : Level × List ℕ). Takes bytes (level_code x.0) x.1 × Anything x.0) (c.value, s.rest) (p, rest) c.then (taken, tt)

level_again : (p : Level) (rest : List ℕ) → Anything p → level_at (level_code p ++ rest) ≡ Ok (p, rest)
unfolding level_at
level_again p rest h =
    again-last (number_at w8) (to_be_bytes w8) Byte reads_byte (level_number p) rest (λ n. level_of n.0 >>= λ level. Ok (level, n.1)) (level_small p) ∙ rw (level_of_again p) refl

reads_level : Reads level_at level_code Anything
reads_level = record { takes = level_takes; again = level_again }

message_takes : (bytes after : List ℕ) (x : Effect) (rest : List ℕ) → Takes bytes (to_be_bytes w8 7) after → message_at after ≡ Ok (x, rest) → TakesEffect bytes x rest
unfolding message_at
message_takes bytes after x rest t e =
    let a = got level_at level_code Anything reads_level after _ (x, rest) t.rest_fits e in
    let b = got (text_at is_message) text_code (IsText is_message) reads_message a.rest _ (x, rest) a.taken.rest_fits a.then in
    let fields = Takes-then after (level_code a.value) a.rest (text_code b.value) b.rest a.taken b.taken in
    told_as bytes (Message a.value b.value) b.rest x rest b.then (record {
      taken = Takes-then bytes (to_be_bytes w8 7) after (message_code a.value b.value) b.rest t fields;
      legal = (b.legal, refl);
    })

message_again : (level : Level) (text rest : List ℕ) → IsText is_message text → message_at (message_code level text ++ rest) ≡ Ok (Message level text, rest)
unfolding message_at
message_again level text rest h =
    again-step level_at level_code Anything reads_level level (text_code text) rest _ _ tt
    (again-last (text_at is_message) text_code (IsText is_message) reads_message text rest _ h)

-- ---- effects

-- The fields of one kind, or else of the other kinds.
by_kind : (kind n : ℕ) (read : List ℕ → Field Effect) (others : Field Effect) (bytes after : List ℕ) (x : Effect) (rest : List ℕ) → Takes bytes (to_be_bytes w8 kind) after
    → (Takes bytes (to_be_bytes w8 n) after → read after ≡ Ok (x, rest) → TakesEffect bytes x rest) → (others ≡ Ok (x, rest) → TakesEffect bytes x rest)
    → cond (eqb kind n) (read after) others ≡ Ok (x, rest) → TakesEffect bytes x rest
by_kind kind n read others bytes after x rest t this other e =
    elim (chosen (eqb kind n) (read after) others (Ok (x, rest)) e) [
      | inl h ↦ this (subst (λ (k : ℕ). Takes bytes (to_be_bytes w8 k) after) (eqb-true kind n h.0) t) h.1
      | inr h ↦ other h.1
    ]

kind_takes : (bytes : List ℕ) (kind : ℕ) (after : List ℕ) (x : Effect) (rest : List ℕ) → Takes bytes (to_be_bytes w8 kind) after → kind_of_effect kind after ≡ Ok (x, rest) → TakesEffect bytes x rest
unfolding kind_of_effect
kind_takes bytes kind after x rest t e =
    by_kind kind 1 pages_at _ bytes after x rest t (pages_take bytes after x rest)
    (by_kind kind 2 total_at _ bytes after x rest t (total_takes bytes after x rest)
    (by_kind kind 3 (worded_at 0 (λ words. SetReasons words)) _ bytes after x rest t (worded_take 0 3 (λ words. SetReasons words) bytes after x rest (λ words. refl) (λ words h. (are_words 0 words h, refl)))
    (by_kind kind 4 (worded_at 1 (λ words. AddReasons words)) _ bytes after x rest t (worded_take 1 4 (λ words. AddReasons words) bytes after x rest (λ words. refl) (λ words h. (are_words 1 words h, some_word words h)))
    (by_kind kind 5 (worded_at 1 (λ words. DropReasons words)) _ bytes after x rest t (worded_take 1 5 (λ words. DropReasons words) bytes after x rest (λ words. refl) (λ words h. (are_words 1 words h, some_word words h)))
    (by_kind kind 6 attribute_at _ bytes after x rest t (attribute_takes bytes after x rest)
    (by_kind kind 7 message_at _ bytes after x rest t (message_takes bytes after x rest)
    (λ refusal. absurd (refused Range (x, rest) refusal)))))))) e

effect_takes : (bytes : List ℕ) (x : Effect) (rest : List ℕ) → IsBytes bytes → effect_at bytes ≡ Ok (x, rest) → Takes bytes (effect_code x) rest × IsLegal x
unfolding effect_at
effect_takes bytes x rest fits e =
    let a = got (number_at w8) (to_be_bytes w8) Byte reads_byte bytes (λ kind. kind_of_effect kind.0 kind.1) (x, rest) fits e in
    let d = kind_takes bytes a.value a.rest x rest a.taken a.then in
    (d.taken, d.legal)

-- The kind, and the fields that are read after it.
of_kind : (kind : ℕ) (more rest : List ℕ) (y : Field Effect) → kind < 2 ^ 8 → kind_of_effect kind (more ++ rest) ≡ y → effect_at ((to_be_bytes w8 kind ++ more) ++ rest) ≡ y
unfolding effect_at
of_kind kind more rest y small e = again-step (number_at w8) (to_be_bytes w8) Byte reads_byte kind more rest (λ kind. kind_of_effect kind.0 kind.1) y small e

effect_again : (x : Effect) (rest : List ℕ) → IsLegal x → effect_at (effect_code x ++ rest) ≡ Ok (x, rest)
unfolding kind_of_effect
effect_again (Pages page copies) rest h = of_kind 1 (pages_code page copies) rest _ (omega arith) (pages_again page copies rest h.0)
effect_again (TotalPages pages) rest h = of_kind 2 (to_be_bytes w32 pages) rest _ (omega arith) (total_again pages rest h.0)
effect_again (SetReasons words) rest h = of_kind 3 (words_code words) rest _ (omega arith) (worded_again 0 (λ words. SetReasons words) words rest (from_none words h.0))
effect_again (AddReasons words) rest h = of_kind 4 (words_code words) rest _ (omega arith) (worded_again 1 (λ words. AddReasons words) words rest (from_one words h.0 h.1))
effect_again (DropReasons words) rest h = of_kind 5 (words_code words) rest _ (omega arith) (worded_again 1 (λ words. DropReasons words) words rest (from_one words h.0 h.1))
effect_again (Attribute a) rest h = of_kind 6 (attribute_code a) rest _ (omega arith) (attribute_again a.name a.value rest h.0.name h.0.value)
effect_again (Message level text) rest h = of_kind 7 (message_code level text) rest _ (omega arith) (message_again level text rest h.0)

reads_effect : Reads effect_at effect_code IsLegal
reads_effect = record { takes = effect_takes; again = effect_again }

-- ---- the room of one stage

-- The room that a code uses.
placed : (size room left : ℕ) (fits : Bool) → nat_le size room ≡ fits → some_room (cond fits (Some (room - size)) None) ≡ Ok left → size + left ≡ room
unfolding some_room
placed size room left true is e =
    let le : size ≤ room = grind (arith, nat_tests) in
    let same : room - size ≡ left = ok_is (room - size) left e in
    omega arith
placed size room left false is e = absurd (refused Range left e)

placed_again : (size room left : ℕ) → size + left ≡ room → some_room (room_left size room) ≡ Ok left
unfolding some_room
placed_again size room left h =
    let le : nat_le size room ≡ true = grind (arith, nat_tests) in
    let same : room - size ≡ left = omega arith in
    rw (le, same) refl

record OneWithin (room : ℕ) (bytes : List ℕ) (x : Effect) (left : ℕ) (rest : List ℕ) : Type 0 where
  taken : Takes bytes (effect_code x) rest
  legal : IsLegal x
  fits : effect_size x + left ≡ room

within_takes : (room : ℕ) (bytes : List ℕ) (x : Effect) (left : ℕ) (rest : List ℕ) → IsBytes bytes → effect_within (room, bytes) ≡ Ok (x, (left, rest)) → OneWithin room bytes x left rest
unfolding effect_within
within_takes room bytes x left rest fits e =
    let a = got effect_at effect_code IsLegal reads_effect bytes (λ effect. some_room (room_left (effect_size effect.0) room) >>= λ left. Ok (effect.0, (left, effect.1))) (x, (left, rest)) fits e in
    let b = bind_ok (some_room (room_left (effect_size a.value) room)) (λ left. Ok (a.value, (left, a.rest))) (x, (left, rest)) a.then in
    let this : OneWithin room bytes a.value b.value a.rest = record { taken = a.taken; legal = a.legal; fits = placed (effect_size a.value) room b.value (nat_le (effect_size a.value) room) refl b.was } in
    ok_as (λ (z : Effect × (ℕ × List ℕ)). OneWithin room bytes z.0 z.1.0 z.1.1) (a.value, (b.value, a.rest)) (x, (left, rest)) b.then this

within_again : (room : ℕ) (x : Effect) (left : ℕ) (more rest : List ℕ) → IsLegal x → effect_size x + left ≡ room → effect_within (room, (effect_code x ++ more) ++ rest) ≡ Ok (x, (left, more ++ rest))
unfolding effect_within
within_again room x left more rest legal h =
    again-step effect_at effect_code IsLegal reads_effect x more rest (λ effect. some_room (room_left (effect_size effect.0) room) >>= λ left. Ok (effect.0, (left, effect.1))) _ legal
    (ap (λ (r : Result ℕ CodecFault). r >>= λ left. Ok (x, (left, more ++ rest))) (placed_again (effect_size x) room left h))

pub record Within (n room : ℕ) (bytes : List ℕ) (es : List Effect) (left : ℕ) (rest : List ℕ) : Type 0 where
  pub taken : Takes bytes (flat_map effect_code es) rest
  pub count : length es ≡ n
  pub each : AllByRecursion IsEffect es
  pub enough : list_all names_enough es ≡ true
  pub fits : effects_size es + left ≡ room

all_enough : (e : Effect) (es : List Effect) → names_enough e ≡ true → list_all names_enough es ≡ true → list_all names_enough (e ∷ es) ≡ true
all_enough e es h hs = rw (h, hs) refl

first_enough : (b c : Bool) → (b && c) ≡ true → (b ≡ true) × (c ≡ true)
first_enough true c e = (refl, e)
first_enough false c e = absurd cc

pub listed_takes : (n room : ℕ) (bytes : List ℕ) (es : List Effect) (left : ℕ) (rest : List ℕ) → IsBytes bytes → list_at effect_within n (room, bytes) ≡ Ok (es, (left, rest)) → Within n room bytes es left rest
unfolding list_at
listed_takes zero room bytes es left rest fits e =
    let none : Within zero room bytes [] room bytes = record { taken = record { parts = refl; rest_fits = fits }; count = refl; each = tt; enough = refl; fits = omega arith } in
    ok_as (λ (y : List Effect × (ℕ × List ℕ)). Within zero room bytes y.0 y.1.0 y.1.1) ([], (room, bytes)) (es, (left, rest)) e none
listed_takes (suc n) room bytes es left rest fits e =
    let a = bind_ok (effect_within (room, bytes)) (λ first. list_at effect_within n first.1 >>= λ others. Ok (first.0 ∷ others.0, others.1)) (es, (left, rest)) e in
    let x = a.value.0 in
    let room_then = a.value.1.0 in
    let after = a.value.1.1 in
    let one = within_takes room bytes x room_then after fits a.was in
    let b = bind_ok (list_at effect_within n (room_then, after)) (λ others. Ok (x ∷ others.0, others.1)) (es, (left, rest)) a.then in
    let others = listed_takes n room_then after b.value.0 b.value.1.0 b.value.1.1 one.taken.rest_fits b.was in
    let both = Takes-then bytes (effect_code x) after (flat_map effect_code b.value.0) b.value.1.1 one.taken others.taken in
    let this : Within (suc n) room bytes (x ∷ b.value.0) b.value.1.0 b.value.1.1 = record {
      taken = rw flat_map-cons both;
      count = ap suc others.count;
      each = (one.legal.0, others.each);
      enough = all_enough x b.value.0 one.legal.1 others.enough;
      fits = omega (arith, one.fits, others.fits);
    } in
    ok_as (λ (y : List Effect × (ℕ × List ℕ)). Within (suc n) room bytes y.0 y.1.0 y.1.1) (x ∷ b.value.0, (b.value.1.0, b.value.1.1)) (es, (left, rest)) b.then this

pub listed_again : (es : List Effect) (room left : ℕ) (rest : List ℕ) → AllByRecursion IsEffect es → list_all names_enough es ≡ true → effects_size es + left ≡ room → list_at effect_within (length es) (room, flat_map effect_code es ++ rest) ≡ Ok (es, (left, rest))
unfolding list_at
listed_again [] room left rest each enough h =
    let same : room ≡ left = omega arith in
    rw same refl
listed_again (e ∷ es) room left rest each enough h =
    let both = first_enough (names_enough e) (list_all names_enough es) enough in
    let first = within_again room e (effects_size es + left) (flat_map effect_code es) rest (each.0, both.0) (omega (arith, h)) in
    ap (λ (t : List ℕ). list_at effect_within (suc (length es)) (room, t ++ rest)) (flat_map-cons effect_code e es)
    ∙ ap (λ r. r >>= λ first. list_at effect_within (length es) first.1 >>= λ others. Ok (first.0 ∷ others.0, others.1)) first
    ∙ rw (listed_again es (effects_size es + left) left rest each.1 both.1 refl) refl

-- The effects of one stage, each within its limits.
pub record IsAllEffects (es : List Effect) : Type 0 where
  pub are : AreEffects es
  pub each : AllByRecursion IsEffect es

-- A number, and the effects that are read after it.
record Numbered (bytes : List ℕ) (es : List Effect) (rest : List ℕ) : Type 0 where
  taken : Takes bytes (effects_code es) rest
  legal : IsAllEffects es

numbered_take : (bytes : List ℕ) (count : ℕ) (after : List ℕ) (es : List Effect) (rest : List ℕ) → Takes bytes (to_be_bytes w16 count) after → listed_at count after ≡ Ok (es, rest) → Numbered bytes es rest
unfolding listed_at
numbered_take bytes count after es rest t e =
    let b = bind_ok (list_at effect_within count (most_effect_bytes, after)) (λ effects. Ok (effects.0, effects.1.1)) (es, rest) e in
    let w = listed_takes count most_effect_bytes after b.value.0 b.value.1.0 b.value.1.1 t.rest_fits b.was in
    let both = Takes-then bytes (to_be_bytes w16 count) after (flat_map effect_code b.value.0) b.value.1.1 t w.taken in
    let this : Numbered bytes b.value.0 b.value.1.1 = record {
      taken = subst (λ (n : ℕ). Takes bytes (to_be_bytes w16 n ++ flat_map effect_code b.value.0) b.value.1.1) (sym w.count) both;
      legal = record { are = record { enough = w.enough; short = omega (arith, w.fits) }; each = w.each };
    } in
    ok_as (λ (y : List Effect × List ℕ). Numbered bytes y.0 y.1) (b.value.0, b.value.1.1) (es, rest) b.then this

abbrev reads_total : Reads (number_at w16) (to_be_bytes w16) (λ n. n < 2 ^ 16)
reads_total = reads_number w16 (2 ^ 16) wide16

effects_take : (bytes : List ℕ) (es : List Effect) (rest : List ℕ) → IsBytes bytes → effects_at bytes ≡ Ok (es, rest) → Takes bytes (effects_code es) rest × IsAllEffects es
unfolding effects_at
effects_take bytes es rest fits e =
    let a = got (number_at w16) (to_be_bytes w16) (λ n. n < 2 ^ 16) reads_total bytes (λ count. listed_at count.0 count.1) (es, rest) fits e in
    let n = numbered_take bytes a.value a.rest es rest a.taken a.then in
    (n.taken, n.legal)

-- Effects that were read are those of one stage.
pub are_effects : (bytes : List ℕ) (count : ℕ) (after : List ℕ) (es : List Effect) (rest : List ℕ) → IsBytes bytes → number_at w16 bytes ≡ Ok (count, after) → listed_at count after ≡ Ok (es, rest) → AreEffects es
are_effects bytes count after es rest fits number e =
    let t = reads_total.takes bytes count after fits number in
    let n = numbered_take bytes count after es rest t.0 e in
    n.legal.are

effects_again : (es : List Effect) (rest : List ℕ) → IsAllEffects es → effects_at (effects_code es ++ rest) ≡ Ok (es, rest)
unfolding effects_at listed_at
effects_again es rest h =
    let few : length es < 2 ^ 16 = omega (arith, no_more_than_bytes es, h.are.short) in
    let room : effects_size es + (most_effect_bytes - effects_size es) ≡ most_effect_bytes = omega (arith, h.are.short) in
    again-step (number_at w16) (to_be_bytes w16) (λ n. n < 2 ^ 16) reads_total (length es) (flat_map effect_code es) rest (λ count. listed_at count.0 count.1) _ few
    (ap (λ r. r >>= λ effects. Ok (effects.0, effects.1.1)) (listed_again es most_effect_bytes (most_effect_bytes - effects_size es) rest h.each h.are.enough room))

pub reads_effects : Reads effects_at effects_code IsAllEffects
reads_effects = record { takes = effects_take; again = effects_again }
