-- A session continues after each packet that is answered, whatever follows.
use Rattle.std.proofs.Common.{◌≡◌, ℕ, zero, suc, ◌+◌, ◌<◌, ◌≤◌, List, [], ◌∷◌, ◌++◌, length, take, drop, Bool, true, false, Option, None, Some, Result, Ok, Err, refl, sym, ap, ◌∙◌, subst, arith, append_assoc, append-nil, length-drop, length-append}
use Rattle.std.proofs.KnownBytes.{Consumes-nil, Consumes-trans, Appends-nil, Appends-trans}
use Rattle.std.specs.Prelude.{cond, nat_le}
use Rattle.std.specs.Int.{w16, from_be_bytes}
use Rattle.std.specs.Io.KnownBytes.{Appends, Consumes, IsAtEnd}
use lib.Seq.{take-append_seam, take-append-add, take-append-le}
use Rattle.side_channel.specs.Packets.{Message, Front, nothing, cut, whole, front_of, kept, IsShort, is_end}
use Rattle.side_channel.specs.SideAnswers.{Reply, answer_of, reply_bytes}
use Rattle.side_channel.specs.SideSessions.{Session, ends, after, from_packet, from_front, session_within, session}
use Rattle.whole_writes.specs.Writes.{WroteSome}
use Rattle.side_channel.specs.Streams.{ReadWhole, ReadNothing, ReadsPacket, WritesPacket, WroteFront, Tells, Ended, IsAnswered, HoldsSession, AnswersWhatItRead}
use Rattle.side_channel.specs.declared.devices.Device.{Device}
use Rattle.side_channel.specs.declared.endings.Ending.{Ending}
use Rattle.side_channel.specs.declared.endings.Ending.TheVariants.{End, Stopped}
use Rattle.side_channel.specs.declared.endings.SideFault.{SideFault}
use Rattle.side_channel.specs.declared.endings.SideFault.TheVariants.{Read, Write, Cut, Memory}
use Rattle.side_channel.proofs.PacketLaws.{message}

-- ## A session without a count

same_packet : (f g : List ℕ → Session) (d : Device) (p : Message) (rest : List ℕ) → f rest ≡ g rest → from_packet f d p rest ≡ from_packet g d p rest
same_packet f g d p rest e = ap (λ s. cond (is_end p) (ends (Ok End) rest) (after (reply_bytes (answer_of d p)) s)) e

same_if : (f g : List ℕ → Session) (d : Device) (p : Message) (rest : List ℕ) (fits : Bool) → f rest ≡ g rest → from_front f d (cond fits (whole p rest) cut) ≡ from_front g d (cond fits (whole p rest) cut)
same_if f g d p rest true e = same_packet f g d p rest e
same_if f g d p rest false e = refl

-- It depends only on shorter rests.
same_front : (f g : List ℕ → Session) (d : Device) (bytes : List ℕ) → ((rest : List ℕ) → length rest < length bytes → f rest ≡ g rest) → from_front f d (front_of bytes) ≡ from_front g d (front_of bytes)
same_front f g d [] same = refl
same_front f g d (c ∷ []) same = refl
same_front f g d (c ∷ s ∷ []) same = refl
same_front f g d (c ∷ s ∷ h ∷ []) same = refl
same_front f g d (c ∷ s ∷ h ∷ l ∷ rest) same =
    let n = from_be_bytes w16 (h ∷ l ∷ []) in
    same_if f g d (message c s n (kept (take n rest))) (drop n rest) (nat_le n (length rest))
    (same (drop n rest) (omega (arith, length-drop n rest)))

-- Any count that is at least the number of bytes suffices.
enough : (k j : ℕ) (d : Device) (bytes : List ℕ) → length bytes ≤ k → length bytes ≤ j → session_within k d bytes ≡ session_within j d bytes
unfolding session_within
enough zero zero d bytes p q = refl
enough zero (suc j) d [] p q = refl
enough zero (suc j) d (b ∷ bs) p q = absurd (omega arith)
enough (suc k) zero d [] p q = refl
enough (suc k) zero d (b ∷ bs) p q = absurd (omega arith)
enough (suc k) (suc j) d bytes p q =
    same_front (session_within k d) (session_within j d) d bytes (λ (rest : List ℕ) (lt : length rest < length bytes). enough k j d rest (omega arith) (omega arith))

one_more : (n : ℕ) (d : Device) (bytes : List ℕ) → session_within (suc n) d bytes ≡ from_front (session_within n d) d (front_of bytes)
unfolding session_within
one_more n d bytes = refl

pub session-front : (d : Device) (bytes : List ℕ) → session d bytes ≡ from_front (session d) d (front_of bytes)
unfolding session
session-front d bytes =
    let n = length bytes in
    enough n (suc n) d bytes (omega arith) (omega arith)
    ∙ one_more n d bytes
    ∙ same_front (session_within n d) (session d) d bytes (λ (rest : List ℕ) (lt : length rest < length bytes). enough n (length rest) d rest (omega arith) (omega arith))

pub session-nothing : (d : Device) → session d [] ≡ ends (Ok Stopped) []
session-nothing d = session-front d []

pub session-cut : (d : Device) (bytes : List ℕ) → front_of bytes ≡ cut → session d bytes ≡ ends (Err Cut) []
session-cut d bytes is = session-front d bytes ∙ ap (from_front (session d) d) is

pub session-end : (d : Device) (bytes : List ℕ) (p : Message) (rest : List ℕ) → front_of bytes ≡ whole p rest → is_end p ≡ true → session d bytes ≡ ends (Ok End) rest
session-end d bytes p rest is end =
    session-front d bytes
    ∙ ap (from_front (session d) d) is
    ∙ ap (λ b. cond b (ends (Ok End) rest) (after (reply_bytes (answer_of d p)) (session d rest))) end

pub session-on : (d : Device) (bytes : List ℕ) (p : Message) (rest : List ℕ) → front_of bytes ≡ whole p rest → is_end p ≡ false → session d bytes ≡ after (reply_bytes (answer_of d p)) (session d rest)
session-on d bytes p rest is on =
    session-front d bytes
    ∙ ap (from_front (session d) d) is
    ∙ ap (λ b. cond b (ends (Ok End) rest) (after (reply_bytes (answer_of d p)) (session d rest))) on

no_answer : (d : Device) (front : Front) → IsShort front → (from_front (session d) d front).text ≡ []
no_answer d nothing short = refl
no_answer d cut short = refl
no_answer d (whole p rest) short = absurd short

-- Bytes without a whole packet have no answer.
short_text : (d : Device) (bytes : List ℕ) → IsShort (front_of bytes) → (session d bytes).text ≡ []
short_text d bytes short = ap (λ s. s.text) (session-front d bytes) ∙ no_answer d (front_of bytes) short

-- ## A session as far as it went

-- These bytes were read and have this answer, whatever follows them.
pub record Progress (d : Device) (known left old new : Option (List ℕ)) : Type 0 where
  pub bytes : List ℕ
  pub read : Consumes known left bytes
  pub text : List ℕ
  pub wrote : Appends old new text
  pub on : (more : List ℕ) → session d (bytes ++ more) ≡ after text (session d more)

pub begun : (d : Device) (known old : Option (List ℕ)) → Progress d known known old old
begun d known old =
    record { bytes = []; read = Consumes-nil known; text = []; wrote = Appends-nil old; on = λ (more : List ℕ). refl }

pub after_both : (t u : List ℕ) (s : Session) → after t (after u s) ≡ after (t ++ u) s
after_both t u s = ap (λ l. record s { text = l }) (sym (append_assoc t u s.text))

-- One more packet is answered.
pub answered : (d : Device) (a b c old mid new : Option (List ℕ)) (p : Message) → Progress d a b old mid → ReadWhole b c p → is_end p ≡ false → Appends mid new (reply_bytes (answer_of d p)) → Progress d a c old new
answered d a b c old mid new p g w on wrote =
    record {
      bytes = g.bytes ++ w.bytes;
      read = Consumes-trans a b c g.bytes w.bytes g.read w.read;
      text = g.text ++ reply_bytes (answer_of d p);
      wrote = Appends-trans old mid new g.text (reply_bytes (answer_of d p)) g.wrote wrote;
      on = λ (more : List ℕ).
          ap (session d) (append_assoc g.bytes w.bytes more)
          ∙ g.on (w.bytes ++ more)
          ∙ ap (after g.text) (session-on d (w.bytes ++ more) p more (w.is more) on)
          ∙ after_both g.text (reply_bytes (answer_of d p)) (session d more);
    }

-- ## The remaining bytes of a reader, if they are known

left_bytes : Option (List ℕ) → List ℕ
left_bytes None = []
left_bytes (Some bytes) = bytes

tells_left : (left : Option (List ℕ)) → Tells left (left_bytes left)
unfolding left_bytes
tells_left None = tt
tells_left (Some bytes) = refl

tells_all : (known left : Option (List ℕ)) (bytes : List ℕ) → Consumes known left bytes → Tells known (bytes ++ left_bytes left)
unfolding left_bytes
tells_all None left bytes read = tt
tells_all (Some all) None bytes read = absurd read
tells_all (Some all) (Some rest) bytes read = read

none_left : (left : Option (List ℕ)) → IsAtEnd left → left_bytes left ≡ []
unfolding left_bytes
none_left None end = refl
none_left (Some rest) end = end

-- ## The ending

ended : (s : Session) (t : List ℕ) (ending : Result Ending SideFault) (rest : List ℕ) (left old new : Option (List ℕ)) → s ≡ after t (ends ending rest) → Tells left rest → Appends old new t → Ended s ending left old new
ended s t ending rest left old new is tells wrote =
    record {
      ending_is = ap (λ s. s.ending) is;
      rest = subst (Tells left) (sym (ap (λ s. s.rest) is)) tells;
      wrote = subst (Appends old new) (sym (ap (λ s. s.text) is ∙ append-nil t)) wrote;
    }

front_wrote : (s u : Session) (t : List ℕ) (old new : Option (List ℕ)) → s ≡ after t u → Appends old new t → WroteFront old new s.text
front_wrote s u t old new is wrote =
    record {
      count = length t;
      front = subst (Appends old new) (sym (ap (λ s. take (length t) s.text) is ∙ take-append_seam t u.text)) wrote;
    }

-- The written part of an answer follows the earlier answers.
more_written : (t answer rest : List ℕ) (k : ℕ) → k < length answer → take (length t + k) (t ++ (answer ++ rest)) ≡ t ++ take k answer
more_written t answer rest k short =
    take-append-add t (answer ++ rest) k ∙ ap (λ l. t ++ l) (take-append-le k answer rest (omega arith))

longer : (t answer : List ℕ) (k : ℕ) → k < length answer → length t + k < length (t ++ (answer ++ []))
longer t answer k short = omega (arith, length-append t (answer ++ []), length-append answer [])

-- The bytes that were read since have no answer.
same_text : (d : Device) (a b old new : Option (List ℕ)) (bytes : List ℕ) → (g : Progress d a b old new) → (session d bytes).text ≡ [] → (session d (g.bytes ++ bytes)).text ≡ g.text
same_text d a b old new bytes g none = ap (λ s. s.text) (g.on bytes) ∙ ap (λ l. g.text ++ l) none ∙ append-nil g.text

exactly : (d : Device) (a b c old new : Option (List ℕ)) (bytes : List ℕ) (result : Result Ending SideFault) → (g : Progress d a b old new) → Consumes b c bytes → (session d bytes).text ≡ [] → ((text : List ℕ) → Appends old new text → IsAnswered text result old new) → AnswersWhatItRead d a c old new result
exactly d a b c old new bytes result g read none by =
    record {
      bytes = g.bytes ++ bytes;
      read = Consumes-trans a b c g.bytes bytes g.read read;
      are = by (session d (g.bytes ++ bytes)).text (subst (Appends old new) (sym (same_text d a b old new bytes g none)) g.wrote);
    }

as_far : (d : Device) (a b c old new : Option (List ℕ)) (bytes : List ℕ) → (g : Progress d a b old new) → Consumes b c bytes → WroteFront old new (session d ((g.bytes ++ bytes) ++ left_bytes c)).text
as_far d a b c old new bytes g read =
    front_wrote (session d ((g.bytes ++ bytes) ++ left_bytes c)) (session d (bytes ++ left_bytes c)) g.text old new
    (ap (session d) (append_assoc g.bytes bytes (left_bytes c)) ∙ g.on (bytes ++ left_bytes c)) g.wrote

-- The end packet.
pub end-session : (d : Device) (a b c old new : Option (List ℕ)) (p : Message) → Progress d a b old new → ReadWhole b c p → is_end p ≡ true → HoldsSession d a c old new (Ok End)
end-session d a b c old new p g w end =
    let rest = left_bytes c in
    record {
      bytes = (g.bytes ++ w.bytes) ++ rest;
      had = tells_all a c (g.bytes ++ w.bytes) (Consumes-trans a b c g.bytes w.bytes g.read w.read);
      is = ended (session d ((g.bytes ++ w.bytes) ++ rest)) g.text (Ok End) rest c old new
          (ap (session d) (append_assoc g.bytes w.bytes rest) ∙ g.on (w.bytes ++ rest) ∙ ap (after g.text) (session-end d (w.bytes ++ rest) p rest (w.is rest) end))
          (tells_left c) g.wrote;
    }

pub end-answered : (d : Device) (a b c old new : Option (List ℕ)) (p : Message) → Progress d a b old new → ReadWhole b c p → is_end p ≡ true → AnswersWhatItRead d a c old new (Ok End)
end-answered d a b c old new p g w end =
    let alone = ap front_of (sym (append-nil w.bytes)) ∙ w.is [] in
    exactly d a b c old new w.bytes (Ok End) g w.read (ap (λ s. s.text) (session-end d w.bytes p [] alone end)) (λ (text : List ℕ) (h : Appends old new text). h)

-- The end of the input.
pub stopped-session : (d : Device) (a b c old new : Option (List ℕ)) → Progress d a b old new → ReadNothing b c → HoldsSession d a c old new (Ok Stopped)
stopped-session d a b c old new g r =
    let rest = left_bytes c in
    let none = none_left c r.end in
    record {
      bytes = (g.bytes ++ []) ++ rest;
      had = tells_all a c (g.bytes ++ []) (Consumes-trans a b c g.bytes [] g.read r.read);
      is = ended (session d ((g.bytes ++ []) ++ rest)) g.text (Ok Stopped) [] c old new
          (ap (session d) (append_assoc g.bytes [] rest) ∙ g.on rest ∙ ap (λ l. after g.text (session d l)) none ∙ ap (after g.text) (session-nothing d))
          (subst (Tells c) none (tells_left c)) g.wrote;
    }

pub stopped-answered : (d : Device) (a b c old new : Option (List ℕ)) → Progress d a b old new → ReadNothing b c → AnswersWhatItRead d a c old new (Ok Stopped)
stopped-answered d a b c old new g r =
    exactly d a b c old new [] (Ok Stopped) g r.read (ap (λ s. s.text) (session-nothing d)) (λ (text : List ℕ) (h : Appends old new text). h)

-- A packet that was not read.
pub fault-session : (d : Device) (a b c old new : Option (List ℕ)) (fault : SideFault) → Progress d a b old new → ReadsPacket b c (Err fault) → HoldsSession d a c old new (Err fault)
fault-session d a b c old new Read g r =
    record {
      bytes = (g.bytes ++ r.bytes) ++ left_bytes c;
      had = tells_all a c (g.bytes ++ r.bytes) (Consumes-trans a b c g.bytes r.bytes g.read r.read);
      is = as_far d a b c old new r.bytes g r.read;
    }
fault-session d a b c old new Write g r = absurd r
fault-session d a b c old new Cut g r =
    let rest = left_bytes c in
    let none = none_left c r.end in
    record {
      bytes = (g.bytes ++ r.bytes) ++ rest;
      had = tells_all a c (g.bytes ++ r.bytes) (Consumes-trans a b c g.bytes r.bytes g.read r.read);
      is = ended (session d ((g.bytes ++ r.bytes) ++ rest)) g.text (Err Cut) [] c old new
          (ap (session d) (append_assoc g.bytes r.bytes rest) ∙ g.on (r.bytes ++ rest) ∙ ap (λ l. after g.text (session d (r.bytes ++ l))) none
          ∙ ap (λ l. after g.text (session d l)) (append-nil r.bytes) ∙ ap (after g.text) (session-cut d r.bytes r.is))
          (subst (Tells c) none (tells_left c)) g.wrote;
    }
fault-session d a b c old new Memory g r =
    record {
      bytes = (g.bytes ++ r.bytes) ++ left_bytes c;
      had = tells_all a c (g.bytes ++ r.bytes) (Consumes-trans a b c g.bytes r.bytes g.read r.read);
      is = as_far d a b c old new r.bytes g r.read;
    }

pub fault-answered : (d : Device) (a b c old new : Option (List ℕ)) (fault : SideFault) → Progress d a b old new → ReadsPacket b c (Err fault) → AnswersWhatItRead d a c old new (Err fault)
fault-answered d a b c old new Read g r =
    exactly d a b c old new r.bytes (Err Read) g r.read (short_text d r.bytes r.short) (λ (text : List ℕ) (h : Appends old new text). h)
fault-answered d a b c old new Write g r = absurd r
fault-answered d a b c old new Cut g r =
    exactly d a b c old new r.bytes (Err Cut) g r.read (ap (λ s. s.text) (session-cut d r.bytes r.is)) (λ (text : List ℕ) (h : Appends old new text). h)
fault-answered d a b c old new Memory g r =
    exactly d a b c old new r.bytes (Err Memory) g r.read (short_text d r.bytes r.short) (λ (text : List ℕ) (h : Appends old new text). h)

-- An answer that was not written completely.
written : (d : Device) (a b c old mid : Option (List ℕ)) (p : Message) (g : Progress d a b old mid) (w : ReadWhole b c p) → is_end p ≡ false → (more : List ℕ) → session d ((g.bytes ++ w.bytes) ++ more) ≡ after g.text (after (reply_bytes (answer_of d p)) (session d more))
written d a b c old mid p g w on more =
    ap (session d) (append_assoc g.bytes w.bytes more)
    ∙ g.on (w.bytes ++ more)
    ∙ ap (after g.text) (session-on d (w.bytes ++ more) p more (w.is more) on)

part-session : (d : Device) (a b c old mid new : Option (List ℕ)) (p : Message) → Progress d a b old mid → ReadWhole b c p → is_end p ≡ false → WroteSome mid new (reply_bytes (answer_of d p)) → HoldsSession d a c old new (Err Write)
part-session d a b c old mid new p g w on some =
    let rest = left_bytes c in
    let answer = reply_bytes (answer_of d p) in
    record {
      bytes = (g.bytes ++ w.bytes) ++ rest;
      had = tells_all a c (g.bytes ++ w.bytes) (Consumes-trans a b c g.bytes w.bytes g.read w.read);
      is = record {
        count = length g.text + some.count;
        front = subst (Appends old new)
            (sym (ap (λ s. take (length g.text + some.count) s.text) (written d a b c old mid p g w on rest) ∙ more_written g.text answer (session d rest).text some.count some.short))
            (Appends-trans old mid new g.text (take some.count answer) g.wrote some.front);
      };
    }

part-answered : (d : Device) (a b c old mid new : Option (List ℕ)) (p : Message) → Progress d a b old mid → ReadWhole b c p → is_end p ≡ false → WroteSome mid new (reply_bytes (answer_of d p)) → AnswersWhatItRead d a c old new (Err Write)
part-answered d a b c old mid new p g w on some =
    let answer = reply_bytes (answer_of d p) in
    let is : (session d (g.bytes ++ w.bytes)).text ≡ g.text ++ (answer ++ []) =
    ap (λ l. (session d l).text) (sym (append-nil (g.bytes ++ w.bytes)))
    ∙ ap (λ s. s.text) (written d a b c old mid p g w on [])
    ∙ ap (λ s. g.text ++ (answer ++ s.text)) (session-nothing d) in
    record {
      bytes = g.bytes ++ w.bytes;
      read = Consumes-trans a b c g.bytes w.bytes g.read w.read;
      are = record {
        count = length g.text + some.count;
        short = subst (λ l. length g.text + some.count < length l) (sym is) (longer g.text answer some.count some.short);
        front = subst (Appends old new)
            (sym (ap (take (length g.text + some.count)) is ∙ more_written g.text answer [] some.count some.short))
            (Appends-trans old mid new g.text (take some.count answer) g.wrote some.front);
      };
    }

pub write-session : (d : Device) (a b c old mid new : Option (List ℕ)) (p : Message) (fault : SideFault) → Progress d a b old mid → ReadWhole b c p → is_end p ≡ false → WritesPacket mid new (reply_bytes (answer_of d p)) (Err fault) → HoldsSession d a c old new (Err fault)
write-session d a b c old mid new p Read g w on wrote = absurd wrote
write-session d a b c old mid new p Write g w on wrote = part-session d a b c old mid new p g w on wrote
write-session d a b c old mid new p Cut g w on wrote = absurd wrote
write-session d a b c old mid new p Memory g w on wrote = absurd wrote

pub write-answered : (d : Device) (a b c old mid new : Option (List ℕ)) (p : Message) (fault : SideFault) → Progress d a b old mid → ReadWhole b c p → is_end p ≡ false → WritesPacket mid new (reply_bytes (answer_of d p)) (Err fault) → AnswersWhatItRead d a c old new (Err fault)
write-answered d a b c old mid new p Read g w on wrote = absurd wrote
write-answered d a b c old mid new p Write g w on wrote = part-answered d a b c old mid new p g w on wrote
write-answered d a b c old mid new p Cut g w on wrote = absurd wrote
write-answered d a b c old mid new p Memory g w on wrote = absurd wrote

-- ## The contracts of its calls

pub whole_read : (old new : Option (List ℕ)) (found : Option Message) (p : Message) → found ≡ Some p → ReadsPacket old new (Ok found) → ReadWhole old new p
whole_read old new found p is read = subst (λ f. ReadsPacket old new (Ok f)) is read

pub nothing_read : (old new : Option (List ℕ)) (found : Option Message) → found ≡ None → ReadsPacket old new (Ok found) → ReadNothing old new
nothing_read old new found is read = subst (λ f. ReadsPacket old new (Ok f)) is read

pub answer_written : (old new : Option (List ℕ)) (given wanted : Reply) (result : Result (Unit {0}) SideFault) → given ≡ wanted → WritesPacket old new (reply_bytes given) result → WritesPacket old new (reply_bytes wanted) result
answer_written old new given wanted result is wrote = subst (λ r. WritesPacket old new (reply_bytes r) result) is wrote
