-- The results of the bytes of a session, in pieces.
use Rattle.std.proofs.Common.{◌≡◌, ◌≢◌, ℕ, zero, suc, ◌<◌, List, [], ◌∷◌, ◌++◌, length, take, drop, Ok, Err, refl, sym, ap, ◌∙◌, arith, ◌-◌, append_assoc, take_all, inl, inr}
use Rattle.std.proofs.lemmas.Bool.{cases_lt, le-leb, lt-leb}
use Rattle.std.specs.Prelude.{cond, nat_le}
use Rattle.std.specs.Int.{w16, from_be_bytes}
use Rattle.side_channel.specs.SideAnswers.{Reply, answer_of, reply_bytes}
use Rattle.side_channel.specs.SideSessions.{Session, session, ends, after}
use Rattle.side_channel.specs.SessionPieces.{Answered, Finished, TakesAll, Exchange, Wanting, answer_for, to_come, told_in, took_in}
use Rattle.side_channel.specs.SessionBytes.{Comes, IsHeld, Reaches, after_head}
use Rattle.side_channel.specs.declared.devices.Device.{Device}
use Rattle.side_channel.specs.declared.endings.Ending.TheVariants.{End}
use Rattle.side_channel.specs.declared.endings.SideFault.TheVariants.{Cut}
use Rattle.side_channel.specs.declared.pieces.Came.{Came}
use Rattle.side_channel.specs.declared.pieces.Came.TheVariants as came
use Rattle.side_channel.specs.declared.pieces.Held.{Held}
use Rattle.side_channel.specs.declared.pieces.Held.TheVariants.{Nothing, One, Two, Three, Data, Over}
use Rattle.side_channel.proofs.PacketLaws.{message}
use Rattle.side_channel.proofs.SessionLaws.{after_both, session-front, session-cut}

-- A stored request is truncated if no further byte arrives.
pub cut_here : (h : Held) → h ≢ Nothing → h ≢ Over → IsHeld h → (d : Device) → to_come d h [] ≡ ends (Err Cut) []
cut_here Nothing some on held d = absurd (some refl)
cut_here (One c) some on held d = session-cut d (c ∷ []) refl
cut_here (Two c s) some on held d = session-cut d (c ∷ s ∷ []) refl
cut_here (Three c s h) some on held d = session-cut d (c ∷ s ∷ h ∷ []) refl
cut_here (Data c n left) some on held d =
    ap (λ b. cond b (after (answer_for d c n) (session d (drop left []))) (ends (Err Cut) [])) (lt-leb left 0 held)
cut_here Over some on held d = absurd (on refl)

-- The fourth byte of a request.
pub fourth : (c s h l : ℕ) (d : Device) (more : List ℕ) → session d (c ∷ s ∷ h ∷ l ∷ more) ≡ after_head c s (from_be_bytes w16 (h ∷ l ∷ [])) d more
fourth c s h l d more = session-front d (c ∷ s ∷ h ∷ l ∷ more)

-- Equal sessions have equal results.
pub comes_as : (f g : Device → List ℕ → Session) → ((d : Device) (more : List ℕ) → f d more ≡ g d more) → (c : Came) (new : Held) → Comes g c new → Comes f c new
comes_as f g same came.Part new h = (h.0, λ d more. same d more ∙ h.1 d more)
comes_as f g same (came.Request command n) new h = (h.0, λ d more. same d more ∙ h.1 d more)
comes_as f g same came.End new h = (h.0, λ d more. same d more ∙ h.1 d more)

one_less_fits : (k n : ℕ) → nat_le (suc k) (suc n) ≡ nat_le k n
one_less_fits k n = elim (cases_lt n k) [
  | inl lt ↦ lt-leb (suc k) (suc n) (omega (arith, lt)) ∙ sym (lt-leb k n lt)
  | inr le ↦ le-leb (suc k) (suc n) (omega (arith, le)) ∙ sym (le-leb k n le)
]

-- A byte of the missing data.
pub one_less : (c n left b : ℕ) → 0 < left → (d : Device) (more : List ℕ) → to_come d (Data c n left) (b ∷ more) ≡ to_come d (Data c n (left - 1)) more
one_less c n zero b some d more = absurd (omega arith)
one_less c n (suc k) b some d more =
    let same : k ≡ suc k - 1 = omega arith in
    ap (λ fits. cond fits (after (answer_for d c n) (session d (drop k more))) (ends (Err Cut) [])) (one_less_fits k (length more))
    ∙ ap (λ left. to_come d (Data c n left) more) same

-- ## A piece

pub wants : (old : Held) (piece : List ℕ) (count : ℕ) (new : Held) → Reaches old piece count came.Part new → (d : Device) → Wanting d old piece new
wants old piece count new r d =
    let all = r.all refl in
    record {
      takes = λ more. ap (λ l. to_come d old (l ++ more)) (sym (take_all count piece (omega (arith, all)))) ∙ r.comes.1 d more;
      on = r.comes.0.before;
    }

pub answers : (old : Held) (piece : List ℕ) (count command n : ℕ) (new : Held) → Reaches old piece count (came.Request command n) new → (d : Device) (reply : Reply)
    → reply ≡ answer_of d (message command 0 n []) → Answered d old piece count (reply_bytes reply) new
answers old piece count command n new r d reply is = record {
  some = r.some (λ e. cc);
  within = r.within;
  takes = λ more. r.comes.1 d more ∙ ap (λ a. after (reply_bytes a) (to_come d new more)) (sym is);
  on = λ e. let nothing : Nothing ≡ Over = sym r.comes.0 ∙ e in cc;
}

pub finishes : (old : Held) (piece : List ℕ) (count : ℕ) (new : Held) → Reaches old piece count came.End new → (d : Device) → Finished d old piece count new
finishes old piece count new r d = record { within = r.within; ends = r.comes.1 d; over = r.comes.0 }

-- ## All pieces

all_taken : (d : Device) (old new : Held) (exchanges : List Exchange) (more : List ℕ) → TakesAll d old exchanges new → to_come d old (took_in exchanges ++ more) ≡ after (told_in exchanges) (to_come d new more)
all_taken d old new [] more same = ap (λ h. to_come d h more) (sym same)
all_taken d old new (t ∷ ts) more (next, takes, others) =
    ap (to_come d old) (append_assoc t.bytes (took_in ts) more)
    ∙ takes (took_in ts ++ more)
    ∙ ap (after t.answers) (all_taken d next new ts more others)
    ∙ after_both t.answers (told_in ts) (to_come d new more)

pub any_turns : (d : Device) (begun new : Held) (exchanges : List Exchange) (more : List ℕ) → ((bytes : List ℕ) → to_come d begun bytes ≡ session d bytes) → TakesAll d begun exchanges new → session d (took_in exchanges ++ more) ≡ after (told_in exchanges) (to_come d new more)
any_turns d begun new exchanges more first all = sym (first (took_in exchanges ++ more)) ∙ all_taken d begun new exchanges more all

pub any_end : (d : Device) (begun mid new : Held) (exchanges : List Exchange) (piece : List ℕ) (count : ℕ) (more : List ℕ) → ((bytes : List ℕ) → to_come d begun bytes ≡ session d bytes) → TakesAll d begun exchanges mid → Finished d mid piece count new
    → session d (took_in exchanges ++ (take count piece ++ more)) ≡ after (told_in exchanges) (ends (Ok End) more)
any_end d begun mid new exchanges piece count more first all end =
    any_turns d begun mid exchanges (take count piece ++ more) first all ∙ ap (after (told_in exchanges)) (end.ends more)
