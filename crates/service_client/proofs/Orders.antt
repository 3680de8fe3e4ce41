-- The laws on runs of a pipeline.
use Rattle.std.specs.Prelude.{◌≡◌, ℕ, ◌⊎◌, List, [], ◌∷◌, ◌++◌, map, refl}
use Rattle.std.specs.List.{All, flat_map}
use Rattle.std.proofs.Common.{sym, ◌∙◌, ap, append_assoc}
use Rattle.std.proofs.lemmas.List.{append-nil, map-append}
use Rattle.std.proofs.lemmas.Grind.{flat_map-append}
use Rattle.std.proofs.lemmas.List.Folds.{flat_map-map}
use Rattle.std.proofs.lemmas.List.Elements.{All-append, All-map, All-nil}
use Rattle.service_client.specs.Pipelines.{Answer, Keeps, Standing, Takes}
use Rattle.service_client.specs.PipelineRuns.{Call, IsOneConnection, IsRun, Outcome, answered, asked_in, asks, breaks, bytes_in, loses, lost_one, nothing, outcomes_in, replies_in, takes}
use Rattle.service_client.specs.Replies.{Cuts, IsPartial, IsReply, ReplyText, reply_bytes}

answered_tags : {T : Type 0} (answers : List (Answer T)) → map (λ outcome. outcome.tag) (map answered answers) ≡ map (λ answer. answer.tag) answers
answered_tags [] = refl
answered_tags (a ∷ answers) = ap (λ tags. a.tag ∷ tags) (answered_tags answers)

lost_tags : {T : Type 0} (lost : List T) → map (λ (outcome : Outcome T). outcome.tag) (map lost_one lost) ≡ lost
lost_tags [] = refl
lost_tags (l ∷ lost) = ap (λ tags. l ∷ tags) (lost_tags lost)

pub outcomes_from : {T : Type 0} (old : Standing T) (calls : List (Call T)) (end : Standing T) → IsRun old calls end →
    map (λ (outcome : Outcome T). outcome.tag) (outcomes_in calls) ++ end.tags ≡ old.tags ++ asked_in calls
outcomes_from old [] end r = ap (λ s. s.tags) (sym r) ∙ sym (append-nil old.tags)
outcomes_from old (asks tag ∷ calls) end r =
    outcomes_from (record { tags = old.tags ++ tag ∷ []; rest = old.rest }) calls end r ∙ append_assoc old.tags (tag ∷ []) (asked_in calls)
outcomes_from {T} old (takes piece answers ∷ calls) end r =
    let next = outcomes_from r.0 calls end r.2 in
    let tags = λ (outcome : Outcome T). outcome.tag in
    ap (λ xs. xs ++ end.tags) (map-append tags (map answered answers) (outcomes_in calls))
    ∙ append_assoc (map tags (map answered answers)) (map tags (outcomes_in calls)) end.tags
    ∙ ap (λ xs. map tags (map answered answers) ++ xs) next
    ∙ ap (λ xs. xs ++ (r.0.tags ++ asked_in calls)) (answered_tags answers)
    ∙ sym (append_assoc (map (λ answer. answer.tag) answers) r.0.tags (asked_in calls))
    ∙ ap (λ xs. xs ++ asked_in calls) r.1.in_order
outcomes_from {T} old (breaks answers lost ∷ calls) end r =
    let next = outcomes_from nothing calls end r.3 in
    let tags = λ (outcome : Outcome T). outcome.tag in
    ap (λ xs. xs ++ end.tags) (map-append tags (map answered answers) (map lost_one lost ++ outcomes_in calls)
    ∙ ap (λ xs. map tags (map answered answers) ++ xs) (map-append tags (map lost_one lost) (outcomes_in calls)))
    ∙ append_assoc (map tags (map answered answers)) (map tags (map lost_one lost) ++ map tags (outcomes_in calls)) end.tags
    ∙ ap (λ xs. map tags (map answered answers) ++ xs) (append_assoc (map tags (map lost_one lost)) (map tags (outcomes_in calls)) end.tags)
    ∙ ap (λ xs. map tags (map answered answers) ++ (map tags (map lost_one lost) ++ xs)) next
    ∙ ap (λ xs. xs ++ (map tags (map lost_one lost) ++ asked_in calls)) (answered_tags answers)
    ∙ ap (λ xs. map (λ answer. answer.tag) answers ++ (xs ++ asked_in calls)) (lost_tags lost ∙ r.2)
    ∙ sym (append_assoc (map (λ answer. answer.tag) answers) r.0.tags (asked_in calls))
    ∙ ap (λ xs. xs ++ asked_in calls) r.1.in_order
outcomes_from {T} old (loses lost ∷ calls) end r =
    let next = outcomes_from nothing calls end r.1 in
    let tags = λ (outcome : Outcome T). outcome.tag in
    ap (λ xs. xs ++ end.tags) (map-append tags (map lost_one lost) (outcomes_in calls))
    ∙ append_assoc (map tags (map lost_one lost)) (map tags (outcomes_in calls)) end.tags
    ∙ ap (λ xs. map tags (map lost_one lost) ++ xs) next
    ∙ ap (λ xs. xs ++ asked_in calls) (lost_tags lost ∙ r.0)

pub replies_from : {T : Type 0} (old : Standing T) (calls : List (Call T)) (end : Standing T) → IsRun old calls end → IsOneConnection calls →
    (flat_map reply_bytes (replies_in calls) ++ end.rest ≡ old.rest ++ bytes_in calls) × All IsReply (replies_in calls)
replies_from old [] end r one = (ap (λ s. s.rest) (sym r) ∙ sym (append-nil old.rest), All-nil IsReply)
replies_from old (asks tag ∷ calls) end r one = replies_from (record { tags = old.tags ++ tag ∷ []; rest = old.rest }) calls end r one
replies_from {T} old (takes piece answers ∷ calls) end r one =
    let next = replies_from r.0 calls end r.2 one in
    let reply = λ (answer : Answer T). answer.reply in
    let first = flat_map (λ (answer : Answer T). reply_bytes answer.reply) answers in (
      ap (λ xs. xs ++ end.rest) (flat_map-append reply_bytes (map reply answers) (replies_in calls))
          ∙ append_assoc (flat_map reply_bytes (map reply answers)) (flat_map reply_bytes (replies_in calls)) end.rest
          ∙ ap (λ xs. flat_map reply_bytes (map reply answers) ++ xs) next.0
          ∙ ap (λ xs. xs ++ (r.0.rest ++ bytes_in calls)) (flat_map-map reply_bytes reply answers)
          ∙ sym (append_assoc first r.0.rest (bytes_in calls))
          ∙ ap (λ xs. xs ++ bytes_in calls) r.1.bytes
          ∙ append_assoc old.rest piece (bytes_in calls),
      All-append IsReply (map reply answers) (replies_in calls) (All-map IsReply reply answers r.1.replies) next.1,
    )
replies_from old (breaks answers lost ∷ calls) end r one = absurd one
replies_from old (loses lost ∷ calls) end r one = absurd one

pub cut_of : {T : Type 0} (calls : List (Call T)) (end : Standing T) → IsRun nothing calls end → IsOneConnection calls → IsPartial end.rest →
    Cuts (bytes_in calls) (replies_in calls) end.rest
cut_of calls end r one partial =
    let both = replies_from nothing calls end r one in
    record { whole = sym both.0; each = both.1; partial = partial }
