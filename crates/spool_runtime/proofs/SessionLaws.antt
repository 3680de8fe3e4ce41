-- A client's requests are answered in order.
use Rattle.std.proofs.Common.{◌≡◌, ◌∙◌, ℕ, ◌+◌, ◌-◌, List, [], ◌++◌, length, take, drop, Some, Ok, Err, false, refl, ap, sym, arith, append_assoc, append-nil, length-drop, take_all, take-append-drop}
use lib.Seq.{take-append-add}
use Rattle.side_channel.specs.SessionPieces.{Finished, Takes, Wanting, to_come}
use Rattle.side_channel.specs.SideSessions.{after}
use Rattle.side_channel.specs.Streams.{WritesPacket}
use Rattle.side_channel.specs.declared.devices.Device.{Device}
use Rattle.side_channel.specs.declared.endings.SideFault.{SideFault}
use Rattle.side_channel.specs.declared.endings.SideFault.TheVariants.{Read, Write, Cut, Memory}
use Rattle.side_channel.specs.declared.pieces.Held.{Held}
use Rattle.side_channel.proofs.SessionLaws.{after_both}
use Rattle.spool_runtime.specs.ClientSessions.{AnswersPiece, AnswersToEnd}

-- The answers to a piece were written, except for this rest of the piece.
pub record Progress (d : Device) (old new : Held) (piece rest had has : List ℕ) : Type 0 where
  pub front : List ℕ
  pub whole : piece ≡ front ++ rest
  pub text : List ℕ
  pub takes : Takes d old front text new
  pub wrote : has ≡ had ++ text

pub begun : (d : Device) (old : Held) (piece had : List ℕ) → Progress d old old piece piece had had
begun d old piece had =
    record { front = []; whole = refl; text = []; takes = λ (more : List ℕ). refl; wrote = sym (append-nil had) }

takes_both : (d : Device) (a b c : Held) (front back t u : List ℕ) → Takes d a front t b → Takes d b back u c → Takes d a (front ++ back) (t ++ u) c
takes_both d a b c front back t u first second more =
    ap (to_come d a) (append_assoc front back more)
    ∙ first (back ++ more)
    ∙ ap (after t) (second more)
    ∙ after_both t u (to_come d c more)

split : (piece front rest : List ℕ) (count : ℕ) → piece ≡ front ++ rest → piece ≡ (front ++ take count rest) ++ drop count rest
split piece front rest count whole =
    whole ∙ ap (λ l. front ++ l) (sym (take-append-drop count rest)) ∙ sym (append_assoc front (take count rest) (drop count rest))

behind : (had mid has t u : List ℕ) → mid ≡ had ++ t → has ≡ mid ++ u → has ≡ had ++ (t ++ u)
behind had mid has t u first second = second ∙ ap (λ l. l ++ u) first ∙ append_assoc had t u

left : (xs : List ℕ) (n : ℕ) → drop n xs ≡ take (length xs - n) (drop n xs)
left xs n = sym (take_all (length xs - n) (drop n xs) (omega (arith, length-drop n xs)))

-- One more request is answered.
pub further : (d : Device) (a b c : Held) (piece rest had mid has u : List ℕ) (count : ℕ) → Progress d a b piece rest had mid → Takes d b (take count rest) u c → has ≡ mid ++ u
    → Progress d a c piece (take (length rest - count) (drop count rest)) had has
further d a b c piece rest had mid has u count p takes wrote =
    record {
      front = p.front ++ take count rest;
      whole = split piece p.front rest count p.whole ∙ ap (λ l. (p.front ++ take count rest) ++ l) (left rest count);
      text = p.text ++ u;
      takes = takes_both d a b c p.front (take count rest) p.text u p.takes takes;
      wrote = behind had mid has p.text u p.wrote wrote;
    }

pub wants_more : (d : Device) (a b c : Held) (piece rest had has : List ℕ) → Progress d a b piece rest had has → Wanting d b rest c → AnswersPiece d a c piece had has (Ok false)
wants_more d a b c piece rest had has p wants = (
  record {
    text = p.text ++ [];
    takes = λ (more : List ℕ). ap (λ l. to_come d a (l ++ more)) p.whole ∙ takes_both d a b c p.front rest p.text [] p.takes wants.takes more;
    wrote = behind had has has p.text [] p.wrote (sym (append-nil has));
  },
  wants.on,
)

pub ended : (d : Device) (a b c : Held) (piece rest had has : List ℕ) (count : ℕ) → Progress d a b piece rest had has → Finished d b rest count c → AnswersToEnd d a c piece had has
ended d a b c piece rest had has count p end =
    record {
      front = p.front ++ take count rest;
      rest = drop count rest;
      whole = split piece p.front rest count p.whole;
      answers = record {
        text = p.text;
        takes = λ (more : List ℕ).
            ap (to_come d a) (append_assoc p.front (take count rest) more)
            ∙ p.takes (take count rest ++ more)
            ∙ ap (after p.text) (end.ends more ∙ ap (λ h. to_come d h more) (sym end.over));
        wrote = p.wrote;
      };
      over = end.over;
    }

pub unwritten : (d : Device) (a b c : Held) (piece rest had mid has u : List ℕ) (count : ℕ) (fault : SideFault) → Progress d a b piece rest had mid → Takes d b (take count rest) u c
    → WritesPacket (Some mid) (Some has) u (Err fault) → AnswersPiece d a c piece had has (Err fault)
unwritten d a b c piece rest had mid has u count Read p takes wrote = absurd wrote
unwritten d a b c piece rest had mid has u count Cut p takes wrote = absurd wrote
unwritten d a b c piece rest had mid has u count Memory p takes wrote = absurd wrote
unwritten d a b c piece rest had mid has u count Write p takes wrote = (
  refl,
  record {
    front = p.front ++ take count rest;
    rest = drop count rest;
    whole = split piece p.front rest count p.whole;
    text = p.text ++ u;
    takes = takes_both d a b c p.front (take count rest) p.text u p.takes takes;
    count = length p.text + wrote.count;
    wrote = behind had mid has p.text (take wrote.count u) p.wrote wrote.front ∙ ap (λ l. had ++ l) (sym (take-append-add p.text u wrote.count));
  },
)
