-- The jobs in rows, read row by row.
use Rattle.std.proofs.Common.{◌≡◌, ℕ, ◌+◌, ◌<◌, ◌≤◌, List, ◌∷◌, ◌++◌, length, get_or, drop, ap, sym, ◌∙◌, append_assoc, Option, Vec}
use Rattle.std.specs.Global.{Global}
use Rattle.std.proofs.lemmas.List.{drop_all, drop_more}
use Rattle.front_texts.specs.AgedJobs.{aged_after, aged_in, ended_before, fields_with}
use Rattle.front_texts.specs.declared.aged_jobs.AgedJob.{AgedJob}

-- The next row was read.
pub aged_more : (now : Option ℕ) (fields next : List ℕ) (i : ℕ) (rows : List (Vec ℕ Global)) (row : Vec ℕ Global) (before after whole : List AgedJob) → row ≡ get_or rows i row → i < length rows → after ≡ before ++ ended_before now fields row.items → next ≡ fields_with fields row.items → before ++ aged_after now fields (drop i rows) ≡ whole → after ++ aged_after now next (drop (i + 1) rows) ≡ whole
aged_more now fields next i rows row before after whole is less added kept same =
    let here : drop i rows ≡ row ∷ drop (i + 1) rows = drop_more rows i row less ∙ ap (λ (x : Vec ℕ Global). x ∷ drop (i + 1) rows) (sym is) in
    ap (λ t. t ++ aged_after now next (drop (i + 1) rows)) added
    ∙ append_assoc before (ended_before now fields row.items) (aged_after now next (drop (i + 1) rows))
    ∙ ap (λ f. before ++ (ended_before now fields row.items ++ aged_after now f (drop (i + 1) rows))) kept
    ∙ ap (λ (l : List (Vec ℕ Global)). before ++ aged_after now fields l) (sym here)
    ∙ same

-- All rows were read, and the last job was added.
pub aged_end : (now : Option ℕ) (fields : List ℕ) (i : ℕ) (rows : List (Vec ℕ Global)) (before after whole : List AgedJob) → length rows ≤ i → after ≡ before ++ aged_in now fields → before ++ aged_after now fields (drop i rows) ≡ whole → after ≡ whole
aged_end now fields i rows before after whole le added same =
    added ∙ ap (λ (l : List (Vec ℕ Global)). before ++ aged_after now fields l) (sym (drop_all i rows le)) ∙ same
