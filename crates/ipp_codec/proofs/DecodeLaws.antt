-- What decoding returns, in terms of spellings.
use Rattle.std.proofs.Common.{◌≡◌, ℕ, ◌+◌, ◌-◌, ◌≤◌, Bool, true, false, List, [], ◌++◌, length, take, drop, Result, Ok, Err, refl, sym, ap, subst, ◌∙◌, append_assoc, arith}
use Rattle.std.specs.Prelude.{nat_le, IfOk}
use Rattle.std.proofs.lemmas.List.{append-nil, length-append, length-take, length-take-le, take-append-drop, take_all, take_at}
use Rattle.std.proofs.lemmas.Bool.{le-leb, leb-true}
use Rattle.std.proofs.Math.Seq.{take-append-add}
use Rattle.ipp_values.specs.declared.message.Message.{Message}
use Rattle.ipp_codec.specs.declared.fault.DecodeFault.{DecodeFault}
use Rattle.ipp_codec.specs.declared.fault.DecodeFault.TheVariants.{NeedMore, TooLarge, Delimiter, Name, Length, Text, Boolean, Collection, Memory}
use Rattle.ipp_codec.specs.Reading.{at_limit, checked, limited, message_at, reading}
use Rattle.ipp_codec.specs.MessageSpelling.{message_spelling, value_count, IsMessage, Spells}
use Rattle.ipp_codec.specs.ReadSteps.{◌>>=◌, Fails, Gives}
use Rattle.ipp_codec.proofs.Fields.{IsBytes, IsBytes-take, bind_ok, checked_again, checked_ok, done, ok_as, ok_is}
use Rattle.ipp_codec.proofs.Loops.{checked_not}
use Rattle.ipp_codec.proofs.MessageLaws.{message_takes, message_again}

limited_ok : {A : Type 0} (b : Bool) (r : Result A DecodeFault) (x : A) → limited b r ≡ done x → r ≡ done x
limited_ok b (Ok y) x e = e
limited_ok b (Err d) x e = absurd cc

abbrev taken_of : Message → ℕ → Result (Message × ℕ) DecodeFault
taken_of m n = Ok (m, n)

-- The message that was read, and its octets.
pub record IsTaken (octets : List ℕ) (m : Message) (n : ℕ) : Type 0 where
  pub spells : Spells m (take n octets)
  pub short : n ≤ 65536
  pub within : n ≤ length octets
  pub few : value_count m ≤ 4096

pub read_spells : (octets : List ℕ) (m : Message) (n : ℕ) → IsBytes octets → reading octets ≡ Ok (m, n) → IsTaken octets m n
unfolding reading
read_spells octets m n fits e =
    let w : List ℕ = take 65536 octets in
    let s = bind_ok (limited (nat_le 65536 (length octets)) (message_at (length w) w)) (λ m. checked {A = ℕ} TooLarge (nat_le (value_count m.0) 4096) 0 >>= λ few. taken_of m.0 (length w - length m.1)) (m, n) e in
    let found = s.value.0 in
    let rest = s.value.1 in
    let k = bind_ok (checked {A = ℕ} TooLarge (nat_le (value_count found) 4096) 0) (λ few. taken_of found (length w - length rest)) (m, n) s.then in
    let few = checked_ok {A = ℕ} TooLarge (nat_le (value_count found) 4096) 0 k.value k.was in
    let t = message_takes (length w) w found rest (IsBytes-take 65536 octets fits) (limited_ok (nat_le 65536 (length octets)) (message_at (length w) w) s.value s.was) in
    let text = message_spelling found in
    let sizes : length w ≡ length text + length rest = ap length t.0.parts ∙ length-append text rest in
    let size : length w - length rest ≡ length text = omega (arith, sizes) in
    let wide = length-take 65536 octets in
    let whole : octets ≡ text ++ (rest ++ drop 65536 octets) =
    sym (take-append-drop 65536 octets) ∙ ap (λ (l : List ℕ). l ++ drop 65536 octets) t.0.parts ∙ append_assoc text rest (drop 65536 octets) in
    let taken : take (length w - length rest) octets ≡ text = ap (take (length w - length rest)) whole ∙ take_at text (rest ++ drop 65536 octets) (length w - length rest) (sym size) in
    ok_as (λ (x : Message × ℕ). IsTaken octets x.0 x.1) (found, length w - length rest) (m, n) k.then (record {
      spells = record { message = t.1; spelled = taken };
      short = omega (arith, wide, size);
      within = omega (arith, wide, size);
      few = leb-true (value_count found) 4096 few.0;
    })

pub spelling_read : (octets : List ℕ) (m : Message) (n : ℕ) → IsTaken octets m n → reading octets ≡ Ok (m, n)
unfolding reading
spelling_read octets m n h =
    let short = h.short in
    let text = message_spelling m in
    let after = drop n octets in
    let size : length text ≡ n = ap length (sym h.spells.spelled) ∙ length-take-le n octets h.within in
    let parts : octets ≡ text ++ after = sym (take-append-drop n octets) ∙ ap (λ (l : List ℕ). l ++ after) h.spells.spelled in
    let left = take (65536 - length text) after in
    let fits : 65536 ≡ length text + (65536 - length text) = omega (arith, size, short) in
    let w : List ℕ = take 65536 octets in
    let front : w ≡ text ++ left = ap (take 65536) parts ∙ ap (λ k. take k (text ++ after)) fits ∙ take-append-add text after (65536 - length text) in
    let sizes : length w ≡ length text + length left = ap length front ∙ length-append text left in
    let most = length w in
    let same : most - length left ≡ n = omega (arith, sizes, size) in
    let read : message_at most w ≡ Ok (m, left) = ap (message_at most) front ∙ message_again most m left (omega (arith, sizes)) h.spells.message in
    ap (λ r. limited (nat_le 65536 (length octets)) r >>= λ m. checked {A = ℕ} TooLarge (nat_le (value_count m.0) 4096) 0 >>= λ few. taken_of m.0 (most - length m.1)) read
    ∙ ap (λ r. r >>= λ few. taken_of m (most - length left)) (checked_again {A = ℕ} TooLarge (nat_le (value_count m) 4096) 0 (le-leb (value_count m) 4096 h.few))
    ∙ ap (λ (k : ℕ). taken_of m k) same

-- What was read of octets is read of them if others follow.
pub spelling_read_first : (m : Message) (document : List ℕ) → IsMessage m → length (message_spelling m) ≤ 65536 → value_count m ≤ 4096 → reading (message_spelling m ++ document) ≡ Ok (m, length (message_spelling m))
spelling_read_first m document h short few =
    spelling_read (message_spelling m ++ document) m (length (message_spelling m)) (record {
      spells = record { message = h; spelled = take_at (message_spelling m) document (length (message_spelling m)) refl };
      short = short;
      within = omega (arith, length-append (message_spelling m) document);
      few = few;
    })

whole_spells : (octets : List ℕ) (m : Message) → Spells m octets → message_at (length octets) octets ≡ Ok (m, [])
whole_spells octets m h =
    let sizes : length octets ≡ length (message_spelling m) = ap length h.spelled in
    ap (message_at (length octets)) (h.spelled ∙ sym (append-nil (message_spelling m))) ∙ message_again (length octets) m [] (omega (arith, sizes)) h.message

first_same : {A B : Type 0} (a c : A) (b d : B) → done {A = A × B} (a, b) ≡ done {A = A × B} (c, d) → a ≡ c
first_same {A = A} {B = B} a c b d e = ap (λ (x : A × B). x.0) (ok_is (a, b) (c, d) e)

pub one_spelled : (octets : List ℕ) (m other : Message) → Spells m octets → Spells other octets → m ≡ other
one_spelled octets m other h k = first_same {B = List ℕ} m other [] [] (sym (whole_spells octets m h) ∙ whole_spells octets other k)

-- ---- the clauses

pub sound_of : (octets : List ℕ) (r : Result (Message × ℕ) DecodeFault) → IsBytes octets → Gives (λ x. x) r (reading octets) → IfOk r (λ x. Spells x.0 (take x.1 octets))
sound_of octets (Ok x) fits e = (read_spells octets x.0 x.1 fits e).spells
sound_of octets (Err d) fits e = tt

pub short_of : (octets : List ℕ) (r : Result (Message × ℕ) DecodeFault) → IsBytes octets → Gives (λ x. x) r (reading octets) → IfOk r (λ x. (x.1 ≤ 65536) × (x.1 ≤ length octets))
short_of octets (Ok x) fits e = let t = read_spells octets x.0 x.1 fits e in (t.short, t.within)
short_of octets (Err d) fits e = tt

pub few_of : (octets : List ℕ) (r : Result (Message × ℕ) DecodeFault) → IsBytes octets → Gives (λ x. x) r (reading octets) → IfOk r (λ x. value_count x.0 ≤ 4096)
few_of octets (Ok x) fits e = (read_spells octets x.0 x.1 fits e).few
few_of octets (Err d) fits e = tt

pub complete_of : (octets : List ℕ) (r : Result (Message × ℕ) DecodeFault) → Gives (λ x. x) r (reading octets) → (m : Message) (n : ℕ) → n ≤ 65536 → n ≤ length octets → value_count m ≤ 4096 → Spells m (take n octets) → Gives (λ x. x) r (Ok (m, n))
complete_of octets r e m n short within few spells =
    let P : Result (Message × ℕ) DecodeFault → Type 0 = λ read. Gives (λ x. x) r read in
    subst P (spelling_read octets m n (record { spells = spells; short = short; within = within; few = few })) e

-- ---- the parts of `read_message`

pub short_window : (octets : List ℕ) → length octets ≤ 65536 → octets ≡ take 65536 octets
short_window octets short = sym (take_all 65536 octets short)

abbrev failure_of : Bool → DecodeFault → Result (Message × ℕ) DecodeFault
failure_of b d = Err (at_limit b d)

window_read : (octets w : List ℕ) (m : Message) (rest : List ℕ) (b : Bool) → w ≡ take 65536 octets → message_at (length w) w ≡ Ok (m, rest) → b ≡ nat_le (value_count m) 4096 → reading octets ≡ (checked {A = ℕ} TooLarge b 0 >>= λ few. taken_of m (length w - length rest))
unfolding reading
window_read octets w m rest b is read few =
    ap (λ (l : List ℕ). limited (nat_le 65536 (length octets)) (message_at (length l) l) >>= λ m. checked {A = ℕ} TooLarge (nat_le (value_count m.0) 4096) 0 >>= λ few. taken_of m.0 (length l - length m.1)) (sym is)
    ∙ ap (λ r. limited (nat_le 65536 (length octets)) r >>= λ m. checked {A = ℕ} TooLarge (nat_le (value_count m.0) 4096) 0 >>= λ few. taken_of m.0 (length w - length m.1)) read
    ∙ ap (λ b. checked {A = ℕ} TooLarge b 0 >>= λ few. taken_of m (length w - length rest)) (sym few)

pub message_read : (octets w : List ℕ) (m : Message) (rest : List ℕ) (n : ℕ) (b : Bool) → w ≡ take 65536 octets → message_at (length w) w ≡ Ok (m, rest) → b ≡ nat_le (value_count m) 4096 → b ≡ true → n ≡ length w - length rest → reading octets ≡ Ok (m, n)
message_read octets w m rest n b is read few passes size =
    window_read octets w m rest b is read few
    ∙ ap (λ r. r >>= λ few. taken_of m (length w - length rest)) (checked_again {A = ℕ} TooLarge b 0 passes)
    ∙ ap (λ (k : ℕ). taken_of m k) (sym size)

pub many_read : (octets w : List ℕ) (m : Message) (rest : List ℕ) (b : Bool) → w ≡ take 65536 octets → message_at (length w) w ≡ Ok (m, rest) → b ≡ nat_le (value_count m) 4096 → b ≡ false → reading octets ≡ Err TooLarge
many_read octets w m rest b is read few fails =
    window_read octets w m rest b is read few
    ∙ ap (λ r. r >>= λ few. taken_of m (length w - length rest)) (checked_not {A = ℕ} TooLarge b 0 fails)

fault_read : (octets w : List ℕ) (b : Bool) (d : DecodeFault) → w ≡ take 65536 octets → b ≡ nat_le 65536 (length octets) → message_at (length w) w ≡ Err d → reading octets ≡ Err (at_limit b d)
unfolding reading
fault_read octets w b d is long read =
    ap (λ (l : List ℕ). limited (nat_le 65536 (length octets)) (message_at (length l) l) >>= λ m. checked {A = ℕ} TooLarge (nat_le (value_count m.0) 4096) 0 >>= λ few. taken_of m.0 (length l - length m.1)) (sym is)
    ∙ ap (λ r. limited (nat_le 65536 (length octets)) r >>= λ m. checked {A = ℕ} TooLarge (nat_le (value_count m.0) 4096) 0 >>= λ few. taken_of m.0 (length w - length m.1)) read
    ∙ ap (λ t. failure_of t d) (sym long)

pub fault_carried : (octets w : List ℕ) (b : Bool) (d : DecodeFault) → w ≡ take 65536 octets → b ≡ nat_le 65536 (length octets) → Fails d (message_at (length w) w) → Fails (at_limit b d) (reading octets)
fault_carried octets w true NeedMore is long read = fault_read octets w true NeedMore is long read
fault_carried octets w false NeedMore is long read = fault_read octets w false NeedMore is long read
fault_carried octets w b TooLarge is long read = fault_read octets w b TooLarge is long read
fault_carried octets w b Delimiter is long read = fault_read octets w b Delimiter is long read
fault_carried octets w b Name is long read = fault_read octets w b Name is long read
fault_carried octets w b Length is long read = fault_read octets w b Length is long read
fault_carried octets w b Text is long read = fault_read octets w b Text is long read
fault_carried octets w b Boolean is long read = fault_read octets w b Boolean is long read
fault_carried octets w b Collection is long read = fault_read octets w b Collection is long read
fault_carried octets w b Memory is long read = tt

pub fault_as : (octets w : List ℕ) (b : Bool) (d e : DecodeFault) → w ≡ take 65536 octets → b ≡ nat_le 65536 (length octets) → Fails d (message_at (length w) w) → e ≡ at_limit b d → Fails e (reading octets)
fault_as octets w b d e is long read is_e =
    let Q : DecodeFault → Type 0 = λ f. Fails f (reading octets) in
    subst Q (sym is_e) (fault_carried octets w b d is long read)
