-- An exit that is read has these bytes as its code, and the code of an exit is read as this exit.
use Rattle.std.proofs.Common.{◌≡◌, ℕ, ◌^◌, ◌<◌, true, eqb, List, ◌++◌, Ok, Err, subst, ◌∙◌, arith, inl, inr}
use Rattle.std.specs.Int.{w8, to_be_bytes}
use Rattle.std.proofs.lemmas.Bool.{eqb-true}
use Rattle.spool_types.specs.declared.effect.Exit.{Exit}
use Rattle.spool_types.specs.declared.effect.Exit.TheVariants.{Code, Signal, NoStart, Lost}
use Rattle.field_codec.specs.declared.fault.CodecFault.TheVariants.{Range}
use Rattle.event_codec.specs.Spelling.{exit_code, IsIn, IsExit}
use Rattle.event_codec.specs.EventReading.{number_at, status_at, kind_of_exit, exit_at}
use Rattle.event_codec.proofs.FieldLaws.{IsBytes, done, Takes, Takes-then, Reads, got, again-then, again-last, ok_as}
use Rattle.event_codec.proofs.FilterLaws.{chosen, refused, reads_byte}

abbrev pub Byte : ℕ → Type 0
Byte n = n < 2 ^ 8

record Exited (bytes : List ℕ) (x : Exit) (rest : List ℕ) : Type 0 where
  taken : Takes bytes (exit_code x) rest
  legal : IsExit x

-- The first byte is this kind.
pub of_byte : (bytes : List ℕ) (kind k : ℕ) (after : List ℕ) → Takes bytes (to_be_bytes w8 kind) after → eqb kind k ≡ true → Takes bytes (to_be_bytes w8 k) after
of_byte bytes kind k after t e = subst (λ (n : ℕ). Takes bytes (to_be_bytes w8 n) after) (eqb-true kind k e) t

-- An exit of one byte.
bare : (bytes after : List ℕ) (y x : Exit) (rest : List ℕ) → Takes bytes (exit_code y) after → IsExit y → done {A = Exit × List ℕ} (y, after) ≡ Ok (x, rest) → Exited bytes x rest
bare bytes after y x rest t legal same =
    let this : Exited bytes y after = record { taken = t; legal = legal } in
    ok_as (λ (z : Exit × List ℕ). Exited bytes z.0 z.1) (y, after) (x, rest) same this

-- An exit with a status.
coded : (bytes after : List ℕ) (x : Exit) (rest : List ℕ) → Takes bytes (to_be_bytes w8 0) after → status_at after ≡ Ok (x, rest) → Exited bytes x rest
unfolding status_at
coded bytes after x rest t e =
    let a = got (number_at w8) (to_be_bytes w8) Byte reads_byte after (λ status. Ok (Code status.0, status.1)) (x, rest) t.rest_fits e in
    let both = Takes-then bytes (to_be_bytes w8 0) after (to_be_bytes w8 a.value) a.rest t a.taken in
    let within : IsIn 0 255 a.value = record { at_least = omega arith; at_most = omega (arith, a.legal) } in
    let this : Exited bytes (Code a.value) a.rest = record { taken = both; legal = within } in
    ok_as (λ (z : Exit × List ℕ). Exited bytes z.0 z.1) (Code a.value, a.rest) (x, rest) a.then this

kind_take : (bytes : List ℕ) (kind : ℕ) (after : List ℕ) (x : Exit) (rest : List ℕ) → Takes bytes (to_be_bytes w8 kind) after → kind_of_exit kind after ≡ Ok (x, rest) → Exited bytes x rest
unfolding kind_of_exit
kind_take bytes kind after x rest t e =
    elim (chosen (eqb kind 0) (status_at after) _ (Ok (x, rest)) e) [
      | inl h ↦ coded bytes after x rest (of_byte bytes kind 0 after t h.0) h.1
      | inr h ↦ elim (chosen (eqb kind 1) (Ok (Signal, after)) _ (Ok (x, rest)) h.1) [
        | inl i ↦ bare bytes after Signal x rest (of_byte bytes kind 1 after t i.0) tt i.1
        | inr i ↦ elim (chosen (eqb kind 2) (Ok (NoStart, after)) _ (Ok (x, rest)) i.1) [
          | inl j ↦ bare bytes after NoStart x rest (of_byte bytes kind 2 after t j.0) tt j.1
          | inr j ↦ elim (chosen (eqb kind 3) (Ok (Lost, after)) (Err Range) (Ok (x, rest)) j.1) [
            | inl k ↦ bare bytes after Lost x rest (of_byte bytes kind 3 after t k.0) tt k.1
            | inr k ↦ absurd (refused Range (x, rest) k.1)
          ]
        ]
      ]
    ]

exit_takes : (bytes : List ℕ) (x : Exit) (rest : List ℕ) → IsBytes bytes → exit_at bytes ≡ Ok (x, rest) → Takes bytes (exit_code x) rest × IsExit x
unfolding exit_at
exit_takes bytes x rest fits e =
    let a = got (number_at w8) (to_be_bytes w8) Byte reads_byte bytes (λ kind. kind_of_exit kind.0 kind.1) (x, rest) fits e in
    let d = kind_take bytes a.value a.rest x rest a.taken a.then in
    (d.taken, d.legal)

status_again : (status : ℕ) (rest : List ℕ) → IsIn 0 255 status → status_at (to_be_bytes w8 status ++ rest) ≡ Ok (Code status, rest)
unfolding status_at
status_again status rest h = again-last (number_at w8) (to_be_bytes w8) Byte reads_byte status rest (λ status. Ok (Code status.0, status.1)) (omega (arith, h.at_most))

exit_again : (x : Exit) (rest : List ℕ) → IsExit x → exit_at (exit_code x ++ rest) ≡ Ok (x, rest)
unfolding exit_at kind_of_exit
exit_again (Code status) rest h =
    again-then (number_at w8) (to_be_bytes w8) Byte reads_byte 0 (to_be_bytes w8 status) rest (λ kind. kind_of_exit kind.0 kind.1) (omega arith)
    ∙ status_again status rest h
exit_again Signal rest h = again-last (number_at w8) (to_be_bytes w8) Byte reads_byte 1 rest (λ kind. kind_of_exit kind.0 kind.1) (omega arith)
exit_again NoStart rest h = again-last (number_at w8) (to_be_bytes w8) Byte reads_byte 2 rest (λ kind. kind_of_exit kind.0 kind.1) (omega arith)
exit_again Lost rest h = again-last (number_at w8) (to_be_bytes w8) Byte reads_byte 3 rest (λ kind. kind_of_exit kind.0 kind.1) (omega arith)

pub reads_exit : Reads exit_at exit_code IsExit
reads_exit = record { takes = exit_takes; again = exit_again }
