-- One command and its reply.
use Rattle.std.specs.Prelude.{◌≡◌, ℕ, List, [], ◌∷◌, ◌++◌, map, refl, Option, None, Some, Vec}
use Rattle.std.specs.Global.{Global}
use Rattle.std.specs.List.{All, flat_map}
use Rattle.std.proofs.Common.{sym, ◌∙◌, ap, subst, append_assoc}
use Rattle.std.proofs.lemmas.List.{append-nil}
use Rattle.std.proofs.lemmas.Grind.{flat_map-append}
use Rattle.std.proofs.lemmas.List.Elements.{All-push, All-head}
use Rattle.service_client.specs.Lines.{lines_text}
use Rattle.service_client.specs.Pipelines.{Answer, Grows, Standing, answer_of}
use Rattle.service_client.specs.Replies.{IsReply, ReplyText, reply_bytes, told}
use Rattle.service_client.specs.Traces.{Adds, Exchange, Hears, IsTalk, Receives, Reports, Sends}
use Rattle.service_client.specs.declared.pipeline.Answered.{Answered}
use Rattle.service_client.proofs.Growth.{adds_then}

reports_more : (a b : Option (List ℕ)) (all piece whole : List ℕ) → Adds a piece b → Reports a all → all ++ piece ≡ whole → Reports b whole
reports_more None b all piece whole adds reports e = subst (λ (o : Option (List ℕ)). Reports o whole) (sym adds) tt
reports_more (Some xs) b all piece whole adds reports e =
    subst (λ (o : Option (List ℕ)). Reports o whole) (sym adds) (ap (λ (l : List ℕ). l ++ piece) reports ∙ e)

-- No reply came while no command waited.
none_came : {T : Type 0} (more : List (Answered T)) (tags : List T) → map (λ (answer : Answer T). answer.tag) (map answer_of more) ++ tags ≡ [] → (more ≡ []) × (tags ≡ [])
none_came [] tags e = (refl, e)
none_came (a ∷ more) tags e = absurd (cc)

-- Exactly one reply came.
one_came : {T : Type 0} (more : List (Answered T)) (tags : List T) (tag : T) → map (λ (answer : Answer T). answer.tag) (map answer_of more) ++ tags ≡ tag ∷ [] → tags ≡ []
    → (answered : Answered T) × (more ≡ answered ∷ [])
one_came [] tags tag e none = absurd (cc)
one_came (a ∷ []) tags tag e none = (a, refl)
one_came (a ∷ b ∷ more) tags tag e none = absurd (cc)

last_one : {T : Type 0} (found : Answered T) (rest : List (Answered T)) (answered : Answered T) → found ∷ [] ≡ rest ++ answered ∷ [] → found ≡ answered
last_one found [] answered e = cc
last_one found (a ∷ []) answered e = absurd (cc)
last_one found (a ∷ b ∷ rest) answered e = absurd (cc)

pub record OneCame {T : Type 0} (old new : Standing T) (came has : Option (List ℕ)) (answered : Answered T) : Type 0 where
  pub piece : List ℕ
  pub adds : Adds came piece has
  pub bytes : reply_bytes (told answered.reply) ++ new.rest ≡ old.rest ++ piece
  pub whole : IsReply (told answered.reply)

pub one_exchange : {T : Type 0} (old mid new : Standing T) (came has found : Option (List ℕ)) (before first second rest : List (Answered T)) (tag : T) (answered : Answered T)
    → Sends old came before first tag mid has → Receives mid has first second new found → before ≡ [] → old.tags ≡ [] → new.tags ≡ [] → second ≡ rest ++ answered ∷ []
    → OneCame old new came found answered
one_exchange {T} old mid new came has found before first second rest tag answered s r empty settled ends popped =
    let g = s.receives.grows in
    let h = r.grows in
    let none = none_came g.more s.mid.tags (g.takes.in_order ∙ settled) in
    let first_is : first ≡ [] = g.appended ∙ ap (λ (l : List (Answered T)). l ++ g.more) empty ∙ none.0 in
    let mid_tags : mid.tags ≡ tag ∷ [] = s.tags ∙ ap (λ (l : List T). l ++ tag ∷ []) none.1 in
    let one = one_came h.more new.tags tag (h.takes.in_order ∙ mid_tags) ends in
    let second_is : second ≡ one.0 ∷ [] = h.appended ∙ ap (λ (l : List (Answered T)). l ++ h.more) first_is ∙ one.1 in
    let same : one.0 ≡ answered = last_one one.0 rest answered (sym second_is ∙ popped) in
    let more_is : h.more ≡ answered ∷ [] = one.1 ∙ ap (λ (x : Answered T). x ∷ []) same in
    let bytes = λ (answer : Answer T). reply_bytes answer.reply in
    let mid_rest : mid.rest ≡ old.rest ++ s.receives.piece =
    s.rest ∙ sym (ap (λ (l : List (Answered T)). flat_map bytes (map answer_of l) ++ s.mid.rest) none.0) ∙ g.takes.bytes in
    record {
      piece = s.receives.piece ++ r.piece;
      adds = adds_then came has found s.receives.piece r.piece s.receives.adds r.adds;
      bytes = ap (λ (l : List ℕ). l ++ new.rest) (sym (append-nil (reply_bytes (told answered.reply))))
          ∙ sym (ap (λ (l : List (Answered T)). flat_map bytes (map answer_of l) ++ new.rest) more_is)
          ∙ h.takes.bytes ∙ ap (λ (l : List ℕ). l ++ r.piece) mid_rest ∙ append_assoc old.rest s.receives.piece r.piece;
      whole = All-head (λ (answer : Answer T). IsReply answer.reply) (answer_of answered) []
          (subst (λ (l : List (Answered T)). All (λ (answer : Answer T). IsReply answer.reply) (map answer_of l)) more_is h.takes.replies);
    }

pub talk_more : {T : Type 0} (old new : Standing T) (sent now came found : Option (List ℕ)) (text : List ℕ) (answered : Answered T) (exchanges : List Exchange)
    → OneCame old new came found answered → Adds sent text now → IsTalk sent came old.rest exchanges
    → IsTalk now found new.rest (exchanges ++ record { command = text; reply = told answered.reply } ∷ [])
talk_more old new sent now came found text answered exchanges one adds talk =
    let exchange : Exchange = record { command = text; reply = told answered.reply } in
    let command = λ (exchange : Exchange). exchange.command in
    let bytes = λ (exchange : Exchange). reply_bytes exchange.reply in
    record {
      commands = reports_more sent now (flat_map command exchanges) text (flat_map command (exchanges ++ exchange ∷ [])) adds talk.commands
          (sym (flat_map-append command exchanges (exchange ∷ []) ∙ ap (λ (l : List ℕ). flat_map command exchanges ++ l) (append-nil text)));
      replies = reports_more came found (flat_map bytes exchanges ++ old.rest) one.piece (flat_map bytes (exchanges ++ exchange ∷ []) ++ new.rest) one.adds talk.replies
          (append_assoc (flat_map bytes exchanges) old.rest one.piece ∙ ap (λ (l : List ℕ). flat_map bytes exchanges ++ l) (sym one.bytes)
          ∙ sym (append_assoc (flat_map bytes exchanges) (reply_bytes (told answered.reply)) new.rest)
          ∙ ap (λ (l : List ℕ). l ++ new.rest) (sym (flat_map-append bytes exchanges (exchange ∷ []) ∙ ap (λ (l : List ℕ). flat_map bytes exchanges ++ l) (append-nil (reply_bytes (told answered.reply))))));
      each = All-push (λ (exchange : Exchange). IsReply exchange.reply) exchanges exchange talk.each one.whole;
    }

-- Bytes have come, and no line was ended by them.
pub hears_more : {T : Type 0} (first before : List ℕ) (c d : Standing T) (x y z : Option (List ℕ)) (xs ys : List (Answered T)) (lines : List (Vec ℕ Global)) → Hears first x [] before y
    → Receives c y xs ys d z → lines_text lines ++ c.rest ≡ before → lines ≡ [] → c.tags ≡ [] → Hears first x [] d.rest z
hears_more {T} first before c d x y z xs ys lines h r taken none settled =
    let g = r.grows in
    let empty = none_came g.more d.tags (g.takes.in_order ∙ settled) in
    let bytes = λ (answer : Answer T). reply_bytes answer.reply in
    let same : c.rest ≡ before = sym (ap (λ (l : List (Vec ℕ Global)). lines_text l ++ c.rest) none) ∙ taken in
    record {
      piece = h.piece ++ r.piece;
      adds = adds_then x y z h.piece r.piece h.adds r.adds;
      are_lines = sym (ap (λ (l : List (Answered T)). flat_map bytes (map answer_of l) ++ d.rest) empty.0) ∙ g.takes.bytes
          ∙ ap (λ (l : List ℕ). l ++ r.piece) (same ∙ h.are_lines) ∙ append_assoc first h.piece r.piece;
    }

-- No command waits afterwards either.
pub still_settled : {T : Type 0} (old new : Standing T) (came has : Option (List ℕ)) (before after : List (Answered T)) → Receives old came before after new has → old.tags ≡ [] → new.tags ≡ []
still_settled old new came has before after r settled = (none_came r.grows.more new.tags (r.grows.takes.in_order ∙ settled)).1
