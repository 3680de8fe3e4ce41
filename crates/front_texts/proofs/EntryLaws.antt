-- The jobs that `lpq` shows, appended in order.
use Rattle.std.proofs.Common.{◌≡◌, Bool, ℕ, ◌+◌, ◌<◌, List, ◌∷◌, ◌++◌, length, get_or, drop, ap, sym, ◌∙◌, append_assoc}
use Rattle.std.proofs.lemmas.List.{drop_more}
use Rattle.front_texts.specs.Lpq.{entry_part, rank_after, entries}
use Rattle.front_texts.specs.declared.job_line.JobLine.{JobLine}

-- The next job was appended if it is shown.
pub entry_more : (long : Bool) (queue : List ℕ) (rank next i : ℕ) (js : List JobLine) (j : JobLine) (before after whole : List ℕ) → j ≡ get_or js i j → i < length js → after ≡ before ++ entry_part long queue rank j → next ≡ rank_after queue rank j → before ++ entries long queue rank (drop i js) ≡ whole → after ++ entries long queue next (drop (i + 1) js) ≡ whole
entry_more long queue rank next i js j before after whole is less added ranked same =
    let here : drop i js ≡ j ∷ drop (i + 1) js = drop_more js i j less ∙ ap (λ (x : JobLine). x ∷ drop (i + 1) js) (sym is) in
    ap (λ t. t ++ entries long queue next (drop (i + 1) js)) added
    ∙ append_assoc before (entry_part long queue rank j) (entries long queue next (drop (i + 1) js))
    ∙ ap (λ n. before ++ (entry_part long queue rank j ++ entries long queue n (drop (i + 1) js))) ranked
    ∙ ap (λ (l : List JobLine). before ++ entries long queue rank l) (sym here)
    ∙ same
