use Rattle.std.proofs.Common.{◌≡◌, arith, sym, ap, subst, ◌∙◌, ◌++◌, ◌∷◌, inl, inr, take, drop, refl}
use Rattle.std.proofs.lemmas.List.{take-append-drop}
use Rattle.std.proofs.lemmas.Str.Pattern.{NoCharPasses-char, drop_at_char}
use Rattle.spool_front.specs.JobDrafts.{HasNoSlash}
use Rattle.spool_front.proofs.printing.base_name.Goals as goal

pub returns-in-Some : goal.returns-in-Some
returns-in-Some c =
    let path = c.args.path.now in
    let at = c.in-Some.ensures.cases.0 in
    let behind = c.in-Some.ensures.cases.1 in
    let found = c.in-Some.ensures.cases.2 in
    let back : c.in-Some.name.now ≡ drop behind path = c.in-Some.ensures.cases.4 in
    let none : HasNoSlash (drop behind path) = λ i small is. NoCharPasses-char 47 (drop behind path) i found.0 (omega arith) small is in
    let here : drop at path ≡ 47 ∷ drop behind path = drop_at_char 47 path at behind found.1 (omega arith) in
    let whole : path ≡ take at path ++ 47 ∷ drop behind path = sym (take-append-drop at path) ∙ ap (λ rest. take at path ++ rest) here in
    (subst HasNoSlash (sym back) none, inr (take at path, whole ∙ ap (λ name. take at path ++ 47 ∷ name) (sym back)))

pub returns-in-None : goal.returns-in-None
returns-in-None c = (λ i small is. NoCharPasses-char 47 c.args.path.now i c.in-None.ensures.cases (omega arith) small is, inl refl)
