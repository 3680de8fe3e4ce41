use Rattle.std.proofs.Common.{◌∙◌, ap, subst, refl, codes, map}
use Rattle.std.specs.Prelude.{IfOk, MatchResult, Ok, Err, Result}
use Rattle.clap.specs.Words.{App, matches_of}
use Rattle.clap.specs.declared.parser.matches.ArgMatches.{ArgMatches}
use Rattle.spool_runtime.specs.ProgramArguments.{AreFaultlessFor, IsMistake, PassParsers, RefusesOnly}
use Rattle.spool_runtime.specs.declared.options.WordsFault.{WordsFault}
use Rattle.spool_runtime.specs.declared.options.WordsFault.TheVariants.{Refused, Memory}
use Rattle.spool_runtime.proofs.Accepted.{has_flag, has_number}
use Rattle.spool_service.specs.ChildArguments.{HasChildNumbers}
use Rattle.spool_service.specs.ServiceArguments.{AreFaultless, AreTaken, Fit, HasFlags, HasNumbers, IsAsked, service_app}
use Rattle.spool_service.specs.declared.words.ServiceWords.{ServiceWords}
use Rattle.spool_service.proofs.words.read_words.Goals as goal

has_child_numbers : (m : ArgMatches) → PassParsers service_app m → HasChildNumbers m
has_child_numbers m pass = record {
  memory = has_number service_app m (codes "child-memory") 0 1048576 pass (λ none. cc) (refl, refl);
  processes = has_number service_app m (codes "child-processes") 0 100000 pass (λ none. cc) (refl, refl);
  file_size = has_number service_app m (codes "child-file-size") 1 1048576 pass (λ none. cc) (refl, refl);
  open_files = has_number service_app m (codes "child-open-files") 0 1048576 pass (λ none. cc) (refl, refl);
}

has_numbers : (m : ArgMatches) → PassParsers service_app m → HasNumbers m
has_numbers m pass = record {
  size = has_number service_app m (codes "size") 4096 1073741824 pass (λ none. cc) (refl, refl);
  keep = has_number service_app m (codes "keep") 0 1000000 pass (λ none. cc) (refl, refl);
  room = has_number service_app m (codes "room") 1 90 pass (λ none. cc) (refl, refl);
  children = has_number service_app m (codes "children") 1 1000 pass (λ none. cc) (refl, refl);
  clients = has_number service_app m (codes "clients") 1 1000 pass (λ none. cc) (refl, refl);
  incoming = has_number service_app m (codes "incoming") 1 86400 pass (λ none. cc) (refl, refl);
  child = has_child_numbers m pass;
}

has_flags : (m : ArgMatches) → PassParsers service_app m → HasFlags m
has_flags m pass = record {
  show_all = has_flag service_app m (codes "show-all") pass (λ none. cc) (refl, refl);
  quiet = has_flag service_app m (codes "quiet") pass (λ none. cc) (refl, refl);
  verbose = has_flag service_app m (codes "verbose") pass (λ none. cc) (refl, refl);
}

-- If q implies p, a refusal that contradicts p contradicts q.
less_refused : (p q : Type 0) (fault : WordsFault) → (q → p) → RefusesOnly p fault → RefusesOnly q fault
less_refused p q (Refused error) more only = λ held. only (more held)
less_refused p q Memory more only = tt

taken_so : (p q : Type 0) (r : Result ServiceWords WordsFault) → p → MatchResult r (λ _. q) (RefusesOnly q) → MatchResult r (λ _. p × q) (RefusesOnly (p × q))
taken_so p q (Ok words) held fit = (held, fit)
taken_so p q (Err fault) held fit = less_refused q (p × q) fault (λ both. both.1) fit

pub words_in-requires : goal.words_in-requires
words_in-requires g c =
    let m = c.in-Ok-parse.matches in
    let pass : PassParsers service_app m = subst (λ (a : App). PassParsers a m) c.in-Ok.ensures c.in-Ok-parse.ensures.pass in
    record { numbers = has_numbers m pass; flags = has_flags m pass }

pub returns-in-Ok-parse-clause-asked : goal.returns-in-Ok-parse-clause-asked
returns-in-Ok-parse-clause-asked g c =
    let words = map g.S.AsStr.text c.args.words.now in
    let rows_are = c.in-Ok-parse.ensures.found ∙ ap (λ (a : App). matches_of a words) c.in-Ok.ensures in
    subst (λ rows. IfOk c.words_in.result (IsAsked rows)) rows_are c.words_in.ensures.asked

pub returns-in-Ok-parse-clause-taken : goal.returns-in-Ok-parse-clause-taken
returns-in-Ok-parse-clause-taken g c =
    let words = map g.S.AsStr.text c.args.words.now in
    let rows_are = c.in-Ok-parse.ensures.found ∙ ap (λ (a : App). matches_of a words) c.in-Ok.ensures in
    taken_so (AreFaultless words) (Fit (matches_of service_app words)) c.words_in.result
    (subst (λ (a : App). AreFaultlessFor a words) c.in-Ok.ensures c.in-Ok-parse.ensures.taken)
    (subst (λ rows. MatchResult c.words_in.result (λ _. Fit rows) (RefusesOnly (Fit rows))) rows_are c.words_in.ensures.fit)

-- Arguments without an error are refused only if memory runs out.
no_mistake : (p : Type 0) (fault : WordsFault) → RefusesOnly p fault → p → IsMistake fault
no_mistake p (Refused error) only held = absurd (only held)
no_mistake p Memory only held = tt

pub returns-clause-taken : goal.returns-clause-taken
returns-clause-taken g c =
    let words = map g.S.AsStr.text c.args.words.now in
    less_refused (AreFaultless words) (AreTaken words) c.in-Err.fault (λ taken. taken.0)
    (subst (λ (a : App). RefusesOnly (AreFaultlessFor a words) c.in-Err.fault) c.in-Ok.ensures c.in-Err.ensures.taken)

pub returns-clause-mistake : goal.returns-clause-mistake
returns-clause-mistake g c = λ faultless.
    let words = map g.S.AsStr.text c.args.words.now in
    no_mistake (AreFaultless words) c.in-Err.fault
    (subst (λ (a : App). RefusesOnly (AreFaultlessFor a words) c.in-Err.fault) c.in-Ok.ensures c.in-Err.ensures.taken) faultless
