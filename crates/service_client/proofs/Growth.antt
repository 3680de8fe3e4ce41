-- Pieces that follow one another.
use Rattle.std.specs.Prelude.{◌≡◌, ℕ, ◌+◌, ◌<◌, ◌⊎◌, OnErr, Result, Ok, Err, List, [], ◌∷◌, ◌++◌, length, map, refl, take, Option, None, Some}
use Rattle.std.specs.List.{flat_map}
use Rattle.std.proofs.Common.{sym, ◌∙◌, ap, subst, append_assoc, get_or, suc, drop, drop-cons, take-append-drop}
use Rattle.std.proofs.lemmas.List.{append-nil, map-append, take_more}
use Rattle.std.proofs.lemmas.Grind.{flat_map-append}
use Rattle.std.proofs.lemmas.List.Elements.{All-append}
use Rattle.service_client.specs.Pipelines.{Answer, Ends, EndsUnasked, Grows, IsUnasked, Keeps, Standing, Takes, answer_of}
use Rattle.service_client.specs.Replies.{IsReply, reply_bytes}
use Rattle.service_client.specs.Traces.{Adds, Receives}
use Rattle.service_client.specs.declared.pipeline.Answered.{Answered}

takes_then : {T : Type 0} (a b c : Standing T) (p q : List ℕ) (xs ys : List (Answer T)) → Takes a p xs b → Takes b q ys c → Takes a (p ++ q) (xs ++ ys) c
takes_then {T} a b c p q xs ys t u =
    let tag = λ (answer : Answer T). answer.tag in
    let bytes = λ (answer : Answer T). reply_bytes answer.reply in
    record {
      in_order = ap (λ l. l ++ c.tags) (map-append tag xs ys) ∙ append_assoc (map tag xs) (map tag ys) c.tags ∙ ap (λ l. map tag xs ++ l) u.in_order ∙ t.in_order;
      bytes = ap (λ l. l ++ c.rest) (flat_map-append bytes xs ys) ∙ append_assoc (flat_map bytes xs) (flat_map bytes ys) c.rest
          ∙ ap (λ l. flat_map bytes xs ++ l) u.bytes ∙ sym (append_assoc (flat_map bytes xs) b.rest q) ∙ ap (λ l. l ++ q) t.bytes ∙ append_assoc a.rest p q;
      replies = All-append (λ answer. IsReply answer.reply) xs ys t.replies u.replies;
    }

keeps_then : {T : Type 0} (a b c : Standing T) (p : List ℕ) (xs ys : List (Answer T)) → Takes a p xs b → Keeps b ys c → Keeps a (xs ++ ys) c
keeps_then {T} a b c p xs ys t u =
    let tag = λ (answer : Answer T). answer.tag in
    record {
      in_order = ap (λ l. l ++ c.tags) (map-append tag xs ys) ∙ append_assoc (map tag xs) (map tag ys) c.tags ∙ ap (λ l. map tag xs ++ l) u.in_order ∙ t.in_order;
    }

pub grows_then : {T : Type 0} (a b c : Standing T) (p q : List ℕ) (xs ys zs : List (Answered T)) → Grows a p xs ys b → Grows b q ys zs c → Grows a (p ++ q) xs zs c
grows_then a b c p q xs ys zs g h = record {
  more = g.more ++ h.more;
  appended = h.appended ∙ ap (λ l. l ++ h.more) g.appended ∙ append_assoc xs g.more h.more;
  takes = subst (λ l. Takes a (p ++ q) l c) (sym (map-append answer_of g.more h.more))
      (takes_then a b c p q (map answer_of g.more) (map answer_of h.more) g.takes h.takes);
}

-- The next byte of a piece has come.
pub grows_more : {T : Type 0} (a b c : Standing T) (piece : List ℕ) (i x : ℕ) (xs ys zs : List (Answered T)) → Grows a (take i piece) xs ys b → Grows b (x ∷ []) ys zs c
    → i < length piece → get_or piece i x ≡ x → Grows a (take (i + 1) piece) xs zs c
grows_more a b c piece i x xs ys zs g h inside is =
    let joined : take (i + 1) piece ≡ take i piece ++ x ∷ [] = take_more piece i x inside ∙ ap (λ y. take i piece ++ y ∷ []) is in
    subst (λ l. Grows a l xs zs c) (sym joined) (grows_then a b c (take i piece) (x ∷ []) xs ys zs g h)

pub ends_same : {T : Type 0} (a b : Standing T) (before after : List (Answered T)) → after ≡ before → b.tags ≡ a.tags → Ends a before after b
ends_same a b before after same e = record { more = []; appended = same ∙ sym (append-nil before); keeps = record { in_order = e } }

pub ends_then : {T : Type 0} (a b c : Standing T) (p : List ℕ) (xs ys zs : List (Answered T)) → Grows a p xs ys b → Ends b ys zs c → Ends a xs zs c
ends_then a b c p xs ys zs g h = record {
  more = g.more ++ h.more;
  appended = h.appended ∙ ap (λ l. l ++ h.more) g.appended ∙ append_assoc xs g.more h.more;
  keeps = subst (λ l. Keeps a l c) (sym (map-append answer_of g.more h.more))
      (keeps_then a b c p (map answer_of g.more) (map answer_of h.more) g.takes h.keeps);
}

-- The next byte of a piece ends a reply without a command.
pub ends_unasked : {T : Type 0} (a b : Standing T) (piece : List ℕ) (i x : ℕ) (xs ys zs : List (Answered T)) → Grows a (take i piece) xs ys b → IsUnasked b x → zs ≡ ys
    → i < length piece → get_or piece i x ≡ x → EndsUnasked a piece xs zs
ends_unasked a b piece i x xs ys zs g u same inside is = record {
  front = take i piece;
  byte = x;
  left = drop (suc i) piece;
  cut = sym (take-append-drop i piece) ∙ ap (λ l. take i piece ++ l) (drop-cons piece i x inside ∙ ap (λ y. y ∷ drop (suc i) piece) is);
  mid = b;
  grows = subst (λ l. Grows a (take i piece) xs l b) (sym same) g;
  unasked = u;
}

pub ends_of : {T : Type 0} (a b : Standing T) (p : List ℕ) (xs ys : List (Answered T)) → Grows a p xs ys b → Ends a xs ys b
ends_of a b p xs ys g = record { more = g.more; appended = g.appended; keeps = record { in_order = g.takes.in_order } }

pub adds_none : (a : Option (List ℕ)) → Adds a [] a
adds_none None = refl
adds_none (Some xs) = ap (λ l. Some l) (sym (append-nil xs))

pub adds_then : (a b c : Option (List ℕ)) (p q : List ℕ) → Adds a p b → Adds b q c → Adds a (p ++ q) c
adds_then None b c p q x y = subst (λ o. Adds o q c) x y
adds_then (Some xs) b c p q x y =
    let at : Adds (Some (xs ++ p)) q c = subst (λ o. Adds o q c) x y in
    at ∙ ap (λ l. Some l) (append_assoc xs p q)

pub receives_then : {T : Type 0} (a b c : Standing T) (x y z : Option (List ℕ)) (xs ys zs : List (Answered T)) → Receives a x xs ys b y → Receives b y ys zs c z → Receives a x xs zs c z
receives_then a b c x y z xs ys zs g h = record {
  piece = g.piece ++ h.piece;
  adds = adds_then x y z g.piece h.piece g.adds h.adds;
  grows = grows_then a b c g.piece h.piece xs ys zs g.grows h.grows;
}

-- A fact that holds whatever the result is.
pub on_err : {A E P : Type 0} (r : Result A E) → P → OnErr r P
on_err (Ok x) p = tt
on_err (Err e) p = p

-- After replies have come, a command may or may not have been sent.
pub send_fails : {T : Type 0} (a mid new : Standing T) (x y : Option (List ℕ)) (xs ys : List (Answered T)) (tag : T) → Receives a x xs ys mid y
    → (new.tags ≡ mid.tags) ⊎ (new.tags ≡ mid.tags ++ tag ∷ []) → (m : Standing T) × Ends a xs ys m × ((new.tags ≡ m.tags) ⊎ (new.tags ≡ m.tags ++ tag ∷ []))
send_fails a mid new x y xs ys tag r e = (mid, ends_of a mid r.piece xs ys r.grows, e)
