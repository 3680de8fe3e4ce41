-- The number that the text of an option represents.
use Rattle.std.proofs.Common.{◌≡◌, ◌≤◌, ℕ, Option, Some, None, refl, ap}
use Rattle.std.specs.Prelude.{Ok, Err, Result, option_map, unwrap_or}
use Rattle.std.specs.Str.Parse.{ParsesUnsigned}
use Rattle.clap.specs.Matches.{ReadsOne}
use Rattle.clap.specs.Values.{IsUnsignedIn}
use Rattle.clap.specs.Walk.{Text}
use Rattle.spool_runtime.specs.ProgramArguments.{number_of}

-- `r` is the result of `get_one` for the text that was found.
pub number_read : {E : Type 0} (least most : ℕ) (G : Text → Result ℕ E → Type 0) (found : Option Text) (r : Option ℕ)
    → ((u : Text) (x : Result ℕ E) → G u x → ParsesUnsigned 64 10 u x)
    → (found ≡ None → r ≡ None) → ((t : Text) → found ≡ Some t → ReadsOne G t r)
    → ((t : Text) → found ≡ Some t → IsUnsignedIn least most t)
    → r ≡ option_map number_of found
number_read least most G None r only none some range = none refl
number_read least most G (Some t) (Some n) only none some range = ap Some (only t (Ok n) (some t refl)).1
number_read least most G (Some t) None only none some range =
    let unread = some t refl in
    let given = range t refl in
    absurd (only t (Err unread.0) unread.1 (given.0, given.1))

-- So the number that counts is in the range of the option.
pub number_within : {E : Type 0} (least most usual : ℕ) (G : Text → Result ℕ E → Type 0) (found : Option Text) (r : Option ℕ)
    → ((u : Text) (x : Result ℕ E) → G u x → ParsesUnsigned 64 10 u x)
    → (found ≡ None → r ≡ None) → ((t : Text) → found ≡ Some t → ReadsOne G t r)
    → ((t : Text) → found ≡ Some t → IsUnsignedIn least most t) → least ≤ usual → usual ≤ most
    → (least ≤ unwrap_or r usual) × (unwrap_or r usual ≤ most)
number_within least most usual G None r only none some range low high =
    let is : r ≡ None = none refl in
    rw is (low, high)
number_within least most usual G (Some t) (Some n) only none some range low high =
    let given = range t refl in
    let is = (only t (Ok n) (some t refl)).1 in
    (rw is given.2, rw is given.3)
number_within least most usual G (Some t) None only none some range low high =
    let unread = some t refl in
    let given = range t refl in
    absurd (only t (Err unread.0) unread.1 (given.0, given.1))
