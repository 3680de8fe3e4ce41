-- The bytes of a buffer with a piece and the byte after it.
use Rattle.std.proofs.Common.{◌≡◌, ℕ, inl, inr, ◌+◌, ◌≤◌, ◌<◌, List, [], ◌∷◌, ◌++◌, Option, None, Some, arith, length, take, drop, min, slice_index_or, slice_set, sym, ap, ◌∙◌, append_assoc}
use Rattle.std.proofs.lemmas.Bool.Decides.{leb_tells}
use Rattle.std.proofs.lemmas.List.{drop_all, drop_more, take_all, take-append-drop, take-append-le, length-take, length-take-le, length-drop}
use Rattle.std.proofs.Math.Seq.{take-append-add, take-suc-set}
use Rattle.std.specs.Io.KnownBytes.{Consumes, IsAtEnd, prepend_known}
use Rattle.spool_front.specs.PieceBounds.{ahead_in, piece_in}

-- The buffer has no byte after a piece that does not fill it.
pub ahead_none : (filled : ℕ) (buffer : List ℕ) → filled ≤ 131071 → ahead_in filled buffer ≡ []
ahead_none filled buffer h = drop_all 131071 (take filled buffer) (omega (arith, length-take filled buffer))

-- A byte after the piece fills the buffer.
pub ahead_one : (filled : ℕ) (buffer : List ℕ) → length buffer ≡ 131072 → 131071 < filled → ahead_in filled buffer ≡ slice_index_or buffer 131071 0 ∷ []
ahead_one filled buffer room more =
    let whole : take filled buffer ≡ buffer = take_all filled buffer (omega (arith, room, more)) in
    ap (drop 131071) whole ∙ drop_more buffer 131071 0 (omega (arith, room))
    ∙ ap (λ l. slice_index_or buffer 131071 0 ∷ l) (drop_all 131072 buffer (omega (arith, room)))

none_is_one : (b : ℕ) (bytes : List ℕ) → bytes ≡ b ∷ [] → bytes ≡ [] → ⊥
none_is_one b bytes one none = cc

pub goes_on : (filled : ℕ) (buffer : List ℕ) → length buffer ≡ 131072 → 131071 < filled → ahead_in filled buffer ≡ [] → ⊥
goes_on filled buffer room more none = none_is_one _ _ (ahead_one filled buffer room more) none

pub front_set : (buffer : List ℕ) (b : ℕ) → length buffer ≡ 131072 → take 1 (slice_set buffer 0 b) ≡ b ∷ []
front_set buffer b room = take-suc-set buffer 0 b (omega (arith, room))

pub parts : (filled : ℕ) (buffer : List ℕ) → piece_in filled buffer ++ ahead_in filled buffer ≡ take filled buffer
parts filled buffer = take-append-drop 131071 (take filled buffer)

-- What follows the bytes that were kept.
pub joined : (kept count : ℕ) (old part rest : List ℕ) → kept ≤ length old → count ≤ length part
    → take kept old ++ take count part ≡ take (kept + count) (take kept old ++ (part ++ rest))
joined kept count old part rest within fits =
    sym (ap (λ n. take (n + count) (take kept old ++ (part ++ rest))) (sym (length-take-le kept old within))
    ∙ take-append-add (take kept old) (part ++ rest) count
    ∙ ap (λ l. take kept old ++ l) (take-append-le count part rest fits))

pub ahead_short : (filled : ℕ) (buffer : List ℕ) → filled ≤ 131072 → length (ahead_in filled buffer) ≤ 1
ahead_short filled buffer h = omega (arith, length-drop 131071 (take filled buffer), length-take filled buffer, h)

pub piece_length : (filled : ℕ) (buffer : List ℕ) → length buffer ≡ 131072 → filled ≤ 131072 → min filled 131071 ≡ length (piece_in filled buffer)
piece_length filled buffer room h = omega (arith, length-take 131071 (take filled buffer), length-take filled buffer, room, h)

pub long : (filled : ℕ) (buffer : List ℕ) → length buffer ≡ 131072 → filled ≤ 131072 → 131071 < filled → length (piece_in filled buffer) ≡ 131071
long filled buffer room h more =
    let least : min filled 131071 ≡ 131071 = omega (arith, more) in
    sym (piece_length filled buffer room h) ∙ least

pub piece_min : (filled : ℕ) (buffer : List ℕ) → length buffer ≡ 131072 → take (min filled 131071) buffer ≡ piece_in filled buffer
piece_min filled buffer room = elim (leb_tells filled 131071) [
  | inl (_, h) ↦
      let least : min filled 131071 ≡ filled = omega (arith, h) in
      ap (λ n. take n buffer) least ∙ sym (take_all 131071 (take filled buffer) (omega (arith, length-take filled buffer, h)))
  | inr (_, h) ↦
      let least : min filled 131071 ≡ 131071 = omega (arith, h) in
      ap (λ n. take n buffer) least ∙ ap (take 131071) (sym (take-append-drop filled buffer))
      ∙ take-append-le 131071 (take filled buffer) (drop filled buffer) (omega (arith, length-take filled buffer, room, h))
]

pub at_end : (ahead : List ℕ) (known : Option (List ℕ)) → ahead ≡ [] → IsAtEnd known → IsAtEnd (prepend_known ahead known)
at_end ahead None none h = tt
at_end ahead (Some xs) none h = ap (λ l. l ++ xs) none ∙ h

-- The kept bytes and the bytes that were read after them are the piece and the byte after it.
pub read_more : (kept read piece ahead : List ℕ) (old new : Option (List ℕ)) → kept ++ read ≡ piece ++ ahead → Consumes old new read
    → Consumes (prepend_known kept old) (prepend_known ahead new) piece
read_more kept read piece ahead None new e h = tt
read_more kept read piece ahead (Some xs) None e h = absurd h
read_more kept read piece ahead (Some xs) (Some ys) e h =
    ap (λ l. kept ++ l) h ∙ sym (append_assoc kept read ys) ∙ ap (λ l. l ++ ys) e ∙ append_assoc piece ahead ys
