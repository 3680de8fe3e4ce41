-- The copy contains all texts that were found.
use Rattle.std.proofs.Common.{◌≡◌, ◌∙◌, List, [], Option, ap, map, sym}
use Rattle.std.specs.Borrow.{Bor}
use Rattle.std.specs.Prelude.{unwrap_or}
use Rattle.std.specs.Option.{option_map}
use Rattle.std.proofs.lemmas.Result.{IfOk-weaker}
use Rattle.clap.specs.Words.{Text, all_of, found_of, rows_of}
use Rattle.clap.proofs.WalkLemmas.{raw_values-rows}
use Rattle.front_words.proofs.given.texts_given.Goals as goal

abbrev texts_in : Option (Bor (List (Bor Text))) → Option (List Text)
texts_in r = option_map (λ s. map (λ v. v.now) s.now) r

pub returns-in-Some : goal.returns-in-Some
returns-in-Some c =
    let f = found_of c.args.matches.now in
    let is : texts_in c.get_strs-found.result ≡ all_of c.args.name.now (rows_of f) = c.get_strs-found.ensures ∙ raw_values-rows f c.args.name.now in
    IfOk-weaker c.copy_of.result _ _ (λ texts same. ap (map (λ v. v.now)) same
    ∙ ap (λ (o : Option (List Text)). unwrap_or o []) (sym (ap texts_in c.in-Some.is) ∙ is)) c.copy_of.ensures

pub returns-in-None : goal.returns-in-None
returns-in-None c =
    let f = found_of c.args.matches.now in
    let is : texts_in c.get_strs-found.result ≡ all_of c.args.name.now (rows_of f) = c.get_strs-found.ensures ∙ raw_values-rows f c.args.name.now in
    ap (map (λ v. v.now)) c.new.ensures.items ∙ ap (λ (o : Option (List Text)). unwrap_or o []) (sym (ap texts_in c.in-None.is) ∙ is)
