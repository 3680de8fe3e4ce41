-- Commands are answered, lost or wait, each once.
use Rattle.std.proofs.Common.{◌≡◌, List, [], ◌∷◌, ◌++◌, map, refl, ap, sym, subst, ◌∙◌, append_assoc}
use Rattle.std.proofs.lemmas.List.{append-nil, map-append}
use Rattle.service_client.specs.Pipelines.{Answer, Ends, Keeps, Standing, answer_of}
use Rattle.service_client.specs.declared.pipeline.Answered.{Answered}
use Rattle.service_client.specs.declared.pipeline.Asked.{Asked}
use Rattle.ipp_sockets.specs.LinkStates.{AreOnce}
use Rattle.ipp_sockets.specs.declared.link.Tag.{Tag}

-- Further answers are appended.
pub ends_append : (a b c : Standing Tag) (xs ys zs : List (Answered Tag)) → Ends a xs ys b → Ends b ys zs c → Ends a xs zs c
ends_append a b c xs ys zs g h =
    let tag = λ (answer : Answer Tag). answer.tag in
    let first = map answer_of g.more in
    let later = map answer_of h.more in
    record {
      more = g.more ++ h.more;
      appended = h.appended ∙ ap (λ l. l ++ h.more) g.appended ∙ append_assoc xs g.more h.more;
      keeps = subst (λ l. Keeps a l c) (sym (map-append answer_of g.more h.more)) (record {
        in_order = ap (λ l. l ++ c.tags) (map-append tag first later) ∙ append_assoc (map tag first) (map tag later) c.tags
            ∙ ap (λ l. map tag first ++ l) h.keeps.in_order ∙ g.keeps.in_order;
      });
    }

tags_of : (more : List (Answered Tag)) → map (λ answer. answer.tag) (map answer_of more) ≡ map (λ answered. answered.tag) more
tags_of [] = refl
tags_of (x ∷ xs) = ap (λ l. x.tag ∷ l) (tags_of xs)

-- The commands without an answer are lost, or wait still.
pub once_of : (a b : Standing Tag) (before after : List (Answered Tag)) (lost : List (Asked Tag)) (new : List Tag) → Ends a before after b →
    map (λ asked. asked.tag) lost ++ new ≡ b.tags → AreOnce a.tags before after lost new
once_of a b before after lost new ends left = record {
  more = ends.more;
  appended = ends.appended;
  in_order = ap (λ l. map (λ (answered : Answered Tag). answered.tag) ends.more ++ l) left ∙ ap (λ l. l ++ b.tags) (sym (tags_of ends.more)) ∙ ends.keeps.in_order;
}

-- None of them is lost.
pub none_lost : (a b : Standing Tag) (before after : List (Answered Tag)) (lost : List (Asked Tag)) → Ends a before after b → lost ≡ [] → AreOnce a.tags before after lost b.tags
none_lost a b before after lost ends none =
    once_of a b before after lost b.tags ends (ap (λ l. map (λ (asked : Asked Tag). asked.tag) l ++ b.tags) none)

-- All of them are lost.
pub all_lost : (a b : Standing Tag) (before after : List (Answered Tag)) (lost : List (Asked Tag)) (new : List Tag) → Ends a before after b →
    map (λ asked. asked.tag) lost ≡ b.tags → new ≡ [] → AreOnce a.tags before after lost new
all_lost a b before after lost new ends are none =
    once_of a b before after lost new ends (ap (λ l. map (λ (asked : Asked Tag). asked.tag) lost ++ l) none ∙ append-nil (map (λ (asked : Asked Tag). asked.tag) lost) ∙ are)
