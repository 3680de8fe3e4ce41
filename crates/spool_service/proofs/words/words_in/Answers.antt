-- The values found are returned.
use Rattle.std.proofs.Common.{rules, ◌≡◌, ◌∙◌, ◌<◌, ◌≤◌, ℕ, Option, Some, None, is_none, true, false, IsTrue, length, refl, ap, sym, subst, arith, codes}
use Rattle.std.specs.Prelude.{IfSome, IsSome, IsSomeAnd}
use Rattle.std.specs.Borrow.{Bor}
use Rattle.std.specs.Option.{option_map}
use Rattle.clap.specs.Words.{Text, first_of, first_value, found_of, one_of, rows_of}
use Rattle.clap.specs.declared.parser.matches.Found.{Found}
use Rattle.clap.proofs.WalkLemmas.{first_value-rows}
use Rattle.spool_runtime.specs.ProgramArguments.{number_or}
use Rattle.spool_runtime.proofs.Refusals.{refuses}
use Rattle.client_standing.specs.declared.rules.Trust.{Trust}
use Rattle.spool_service.specs.ChildArguments.{children_fit}
use Rattle.spool_service.specs.ServiceArguments.{Fit, IsMode, IsTrust, SaysMode, SaysTrust, usual_trust}
use Rattle.spool_service.proofs.words.words_in.Goals as goal

-- A text that `get_str` returns is the first value in the rows.
first_is : (f : Found) (id : Text) (r : Option (Bor Text)) → option_map (λ s. s.now) r ≡ first_value f id → first_of id (rows_of f) ≡ option_map (λ s. s.now) r
first_is f id r gives = sym (gives ∙ first_value-rows f id)

abbrev IsShort : Option (Bor Text) → Type 0
IsShort r = IsSomeAnd (option_map (λ (s : Bor Text). s.now) r) (λ dir. length dir ≤ 64)

lacks : (r : Option (Bor Text)) → r ≡ None → IsShort r → ⊥
lacks None is short = absurd short
lacks (Some root) is short = cc

is_long : (r : Option (Bor Text)) (root : Bor Text) → r ≡ Some root → 64 < length root.now → IsShort r → ⊥
is_long None root is long short = absurd short
is_long (Some x) root is long short =
    let same : x ≡ root = cc in
    let bad : length root.now ≤ 64 = subst (λ (s : Bor Text). length s.now ≤ 64) same short in
    absurd (omega (arith, long, bad))

is_short : (r : Option (Bor Text)) (root : Bor Text) → r ≡ Some root → length root.now ≤ 64 → IsShort r
is_short r root is short = subst IsShort (sym is) short

no_mode : (given : Option Text) (mode : Option ℕ) → SaysMode given mode → mode ≡ None → IfSome given IsMode → ⊥
no_mode None mode says none is = cc
no_mode (Some text) None says none is = says is
no_mode (Some text) (Some n) says none is = cc

is_mode : (given : Option Text) (mode : ℕ) → SaysMode given (Some mode) → IfSome given IsMode
is_mode None mode says = tt
is_mode (Some text) mode says = says.0

mode_within : (given : Option Text) (mode : ℕ) → SaysMode given (Some mode) → mode ≤ 511
mode_within None mode says =
    let same : mode ≡ 432 = cc in
    omega (arith, same)
mode_within (Some text) mode says = omega (arith, says.0.1, says.1)

no_trust : (given : Option Text) (mode : ℕ) (trust : Option Trust) → SaysTrust given mode trust → trust ≡ None → IfSome given IsTrust → ⊥
no_trust None mode trust says none is =
    let bad : None ≡ Some (usual_trust mode) = sym none ∙ says in
    cc
no_trust (Some text) mode trust says none is =
    let bad : IsSome {T = Trust} None = subst IsSome (sym says ∙ none) is in
    cc

is_trust : (given : Option Text) (mode : ℕ) (trust : Trust) → SaysTrust given mode (Some trust) → IfSome given IsTrust
is_trust None mode trust says = tt
is_trust (Some text) mode trust says = subst IsSome says refl

-- The values about children fit exactly if there is no mistake.
children_fit_so : (row : Option Text) (dir : Text) (given users : Option Text) (limit processes : ℕ) (mistake : Option (Bor Text)) → row ≡ Some dir → given ≡ users
    → limit ≡ processes → is_none mistake ≡ children_fit given limit dir → mistake ≡ None → IfSome row (λ d. IsTrue (children_fit users processes d))
children_fit_so row dir given users limit processes mistake is same equal told none =
    let fit : children_fit given limit dir ≡ true = sym told ∙ ap is_none none in
    subst (λ (o : Option Text). IfSome o (λ d. IsTrue (children_fit users processes d))) (sym is)
    (subst (λ (n : ℕ). IsTrue (children_fit users n dir)) equal (subst (λ (o : Option Text). IsTrue (children_fit o limit dir)) same fit))

children_unfit : (row : Option Text) (dir : Text) (given users : Option Text) (limit processes : ℕ) (mistake : Option (Bor Text)) (text : Bor Text) → row ≡ Some dir → given ≡ users
    → limit ≡ processes → is_none mistake ≡ children_fit given limit dir → mistake ≡ Some text → IfSome row (λ d. IsTrue (children_fit users processes d)) → ⊥
children_unfit row dir given users limit processes mistake text is same equal told some fits =
    let here : IsTrue (children_fit users processes dir) = subst (λ (o : Option Text). IfSome o (λ d. IsTrue (children_fit users processes d))) is fits in
    let fit : children_fit given limit dir ≡ true =
    subst (λ (n : ℕ). IsTrue (children_fit given n dir)) (sym equal) (subst (λ (o : Option Text). IsTrue (children_fit o processes dir)) (sym same) here) in
    let bad : false ≡ true = ap is_none (sym some) ∙ (told ∙ fit) in
    cc

pub returns-in_default-clause-fit : goal.returns-in_default-clause-fit
returns-in_default-clause-fit c =
    let f = found_of c.args.matches.now in
    refuses (Fit (rows_of f)) c.mistake.result (λ fit. lacks c.get_str.result c.in_default.is
    (subst (λ (o : Option Text). IsSomeAnd o (λ dir. length dir ≤ 64)) (first_is f (codes "root") c.get_str.result c.get_str.ensures) fit.0))

pub returns-then-root-gt-LONGEST_ROOT-clause-fit : goal.returns-then-root-gt-LONGEST_ROOT-clause-fit
returns-then-root-gt-LONGEST_ROOT-clause-fit c =
    let f = found_of c.args.matches.now in
    refuses (Fit (rows_of f)) c.long_root.result (λ fit. is_long c.get_str.result c.in-Some.root c.in-Some.is c.if-root-gt-LONGEST_ROOT.true
    (subst (λ (o : Option Text). IsSomeAnd o (λ dir. length dir ≤ 64)) (first_is f (codes "root") c.get_str.result c.get_str.ensures) fit.0))

pub returns-in_default-mode_of-clause-fit : goal.returns-in_default-mode_of-clause-fit
returns-in_default-mode_of-clause-fit c =
    let f = found_of c.args.matches.now in
    refuses (Fit (rows_of f)) c.mistake-in_default-mode_of.result
    (λ fit. no_mode (option_map (λ s. s.now) c.get_str-2.result) c.mode_of.result c.mode_of.ensures c.in_default-mode_of.is
    (subst (λ (o : Option Text). IfSome o IsMode) (first_is f (codes "mode") c.get_str-2.result c.get_str-2.ensures) fit.1))

pub returns-in_default-trust_of-clause-fit : goal.returns-in_default-trust_of-clause-fit
returns-in_default-trust_of-clause-fit c =
    let f = found_of c.args.matches.now in
    refuses (Fit (rows_of f)) c.mistake-in_default-trust_of.result
    (λ fit. no_trust (option_map (λ s. s.now) c.get_str-3.result) c.in-Some-mode_of.mode c.trust_of.result c.trust_of.ensures c.in_default-trust_of.is
    (subst (λ (o : Option Text). IfSome o IsTrust) (first_is f (codes "trust") c.get_str-3.result c.get_str-3.ensures) fit.2))

pub returns-in-Some-child_mistake-clause-fit : goal.returns-in-Some-child_mistake-clause-fit
returns-in-Some-child_mistake-clause-fit c =
    let f = found_of c.args.matches.now in
    refuses (Fit (rows_of f)) c.mistake-in-Some-child_mistake.result
    (λ fit. children_unfit (first_of (codes "root") (rows_of f)) c.in-Some.root.now _ (first_of (codes "children-user") (rows_of f)) _
    (number_or 0 (one_of (codes "child-processes") (rows_of f))) c.child_mistake.result c.in-Some-child_mistake.text
    (first_is f (codes "root") c.get_str.result c.get_str.ensures ∙ ap (option_map (λ s. s.now)) c.in-Some.is) c.child_words-child.ensures.asked.users
    c.child_words-child.ensures.asked.processes c.child_mistake.ensures c.in-Some-child_mistake.is fit.3)

pub returns-clause-asked : goal.returns-clause-asked
returns-clause-asked c =
    let f = found_of c.args.matches.now in
    let says : SaysMode (option_map (λ s. s.now) c.get_str-2.result) (Some c.in-Some-mode_of.mode) =
    subst (SaysMode (option_map (λ s. s.now) c.get_str-2.result)) c.in-Some-mode_of.is c.mode_of.ensures in
    let trusts : SaysTrust (option_map (λ s. s.now) c.get_str-3.result) c.in-Some-mode_of.mode (Some c.in-Some-trust_of.trust) =
    subst (SaysTrust (option_map (λ s. s.now) c.get_str-3.result) c.in-Some-mode_of.mode) c.in-Some-trust_of.is c.trust_of.ensures in
    let usual : c.from.result ≡ 25 = search rules in
    record {
      root = first_is f (codes "root") c.get_str.result c.get_str.ensures ∙ ap (option_map (λ s. s.now)) c.in-Some.is;
      listen = c.get_str-4.ensures ∙ first_value-rows f (codes "listen");
      mode = subst (λ (o : Option Text). SaysMode o (Some c.in-Some-mode_of.mode)) (sym (first_is f (codes "mode") c.get_str-2.result c.get_str-2.ensures)) says;
      trust =
          subst (λ (o : Option Text). SaysTrust o c.in-Some-mode_of.mode (Some c.in-Some-trust_of.trust))
          (sym (first_is f (codes "trust") c.get_str-3.result c.get_str-3.ensures)) trusts;
      show_all = c.flag_given.ensures;
      operators = c.get_str-5.ensures ∙ first_value-rows f (codes "operators");
      operators_socket = c.get_str-6.ensures ∙ first_value-rows f (codes "operators-socket");
      proofs = c.get_str-7.ensures ∙ first_value-rows f (codes "proofs");
      types = c.get_str-8.ensures ∙ first_value-rows f (codes "types");
      convs = c.get_str-9.ensures ∙ first_value-rows f (codes "convs");
      programs = c.get_str-10.ensures ∙ first_value-rows f (codes "programs");
      size = c.number_given.ensures.number;
      keep = c.number_given-2.ensures.number;
      room = c.number_given-3.ensures.number ∙ ap (λ (n : ℕ). number_or n (one_of (codes "room") (rows_of f))) usual;
      children = c.number_given-4.ensures.number;
      clients = c.number_given-5.ensures.number;
      incoming = c.number_given-6.ensures.number;
      child = c.child_words-child.ensures.asked;
      level = c.level_given.ensures;
    }

pub returns-clause-in_range : goal.returns-clause-in_range
returns-clause-in_range c =
    let says : SaysMode (option_map (λ s. s.now) c.get_str-2.result) (Some c.in-Some-mode_of.mode) =
    subst (SaysMode (option_map (λ s. s.now) c.get_str-2.result)) c.in-Some-mode_of.is c.mode_of.ensures in
    let usual : c.from.result ≡ 25 = search rules in
    record {
      root = c.if-root-gt-LONGEST_ROOT.false;
      mode = mode_within (option_map (λ s. s.now) c.get_str-2.result) c.in-Some-mode_of.mode says;
      size = c.number_given.ensures.in_range 4096 1073741824 c.requires.numbers.size (omega arith) (omega arith);
      keep = (c.number_given-2.ensures.in_range 0 1000000 c.requires.numbers.keep (omega arith) (omega arith)).1;
      room = c.number_given-3.ensures.in_range 1 90 c.requires.numbers.room (omega (arith, usual)) (omega (arith, usual));
      children = c.number_given-4.ensures.in_range 1 1000 c.requires.numbers.children (omega arith) (omega arith);
      clients = c.number_given-5.ensures.in_range 1 1000 c.requires.numbers.clients (omega arith) (omega arith);
      incoming = c.number_given-6.ensures.in_range 1 86400 c.requires.numbers.incoming (omega arith) (omega arith);
      child = c.child_words-child.ensures.in_range;
    }

pub returns-clause-fit : goal.returns-clause-fit
returns-clause-fit c =
    let f = found_of c.args.matches.now in
    let says : SaysMode (option_map (λ s. s.now) c.get_str-2.result) (Some c.in-Some-mode_of.mode) =
    subst (SaysMode (option_map (λ s. s.now) c.get_str-2.result)) c.in-Some-mode_of.is c.mode_of.ensures in
    let trusts : SaysTrust (option_map (λ s. s.now) c.get_str-3.result) c.in-Some-mode_of.mode (Some c.in-Some-trust_of.trust) =
    subst (SaysTrust (option_map (λ s. s.now) c.get_str-3.result) c.in-Some-mode_of.mode) c.in-Some-trust_of.is c.trust_of.ensures in (
      subst (λ (o : Option Text). IsSomeAnd o (λ dir. length dir ≤ 64)) (sym (first_is f (codes "root") c.get_str.result c.get_str.ensures))
          (is_short c.get_str.result c.in-Some.root c.in-Some.is c.if-root-gt-LONGEST_ROOT.false),
      subst (λ (o : Option Text). IfSome o IsMode) (sym (first_is f (codes "mode") c.get_str-2.result c.get_str-2.ensures))
          (is_mode (option_map (λ s. s.now) c.get_str-2.result) c.in-Some-mode_of.mode says),
      subst (λ (o : Option Text). IfSome o IsTrust) (sym (first_is f (codes "trust") c.get_str-3.result c.get_str-3.ensures))
          (is_trust (option_map (λ s. s.now) c.get_str-3.result) c.in-Some-mode_of.mode c.in-Some-trust_of.trust trusts),
      children_fit_so (first_of (codes "root") (rows_of f)) c.in-Some.root.now _ (first_of (codes "children-user") (rows_of f)) _
          (number_or 0 (one_of (codes "child-processes") (rows_of f))) c.child_mistake.result
          (first_is f (codes "root") c.get_str.result c.get_str.ensures ∙ ap (option_map (λ s. s.now)) c.in-Some.is) c.child_words-child.ensures.asked.users
          c.child_words-child.ensures.asked.processes c.child_mistake.ensures c.in_default-child_mistake.is,
    )
