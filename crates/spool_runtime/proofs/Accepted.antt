-- The values that a parse finds, by the parsers of their arguments.
use Rattle.std.proofs.Common.{◌≡◌, ◌⊎◌, ◌∙◌, ◌<◌, ℕ, List, [], ◌∷◌, Bool as Truth, Option, Some, None, true, false, refl, sym, ap}
use Rattle.std.proofs.Common.{subst, inl, inr, arith, length, map, codes, suc, cond, ◌||◌, ◌&&◌, ◌≤◌}
use Rattle.std.specs.Prelude.{filter, option_map, slice_get, unwrap_or}
use Rattle.std.specs.List.{All, slice_index_or}
use Rattle.std.specs.Str.{bytes_eq}
use Rattle.std.specs.Borrow.{Bor}
use Rattle.std.proofs.lemmas.List.{get_or-map, length-map}
use Rattle.std.proofs.lemmas.List.Elements.{All-cons, All-get_or, All-nil}
use Rattle.std.proofs.lemmas.Slice.Eq.{bytes_eq-Decides}
use Rattle.clap.specs.Facts.{Entry, EntryPasses, HasReading, PassesArg, ValuesPass, args_of, parser_of_value}
use Rattle.clap.specs.Matches.{first_value, matched_of, one_text}
use Rattle.clap.specs.Faults.{is_simple_and_free}
use Rattle.clap.specs.Simple.{App, app_of, built, has_simple_rules, is_buildable, is_ready, is_simple, matches_of}
use Rattle.clap.specs.Values.{Accepts, read_as, reading_of}
use Rattle.clap.specs.Walk.{Rule, Text, first_of, one_of, rows_of, rule_of}
use Rattle.clap.specs.declared.builder.arg.Arg.{Arg}
use Rattle.clap.specs.declared.builder.command.Command.{Command}
use Rattle.clap.specs.declared.builder.value_parser.Reading.{Reading}
use Rattle.clap.specs.declared.builder.value_parser.Reading.TheVariants.{AsWritten}
use Rattle.clap.specs.declared.builder.value_parser.ValueParser.{ValueParser}
use Rattle.clap.specs.declared.builder.value_parser.ValueParser.TheVariants.{Bool, Unsigned}
use Rattle.clap.specs.declared.parser.matches.Found.{Found}
use Rattle.clap.specs.declared.parser.matches.MatchedArg.{MatchedArg}
use Rattle.clap.proofs.CallerLemmas.{entry_by_id}
use Rattle.clap.proofs.SimpleLemmas.{plain_fields}
use Rattle.clap.proofs.WalkLemmas.{first_value-rows}
use Rattle.clap.specs.declared.parser.matches.ArgMatches.{ArgMatches}
use Rattle.spool_runtime.specs.ProgramArguments.{HasFlag, HasNumberIn, HasOption, PassParsers, is_told, parsers_of}

-- ---- the command's arguments

-- Each argument with this id has this parser.
abbrev Takes : Text → ValueParser → Rule → Type 0
Takes id parser r = bytes_eq r.id id ≡ true → r.parser ≡ Some parser

-- If the parsers of the arguments with this id are all this one, each of these arguments has it.
takes_one : (id : Text) (parser : ValueParser) (r : Rule) (rs : List Rule) (b : Truth) → bytes_eq r.id id ≡ b
    → All (λ p. p ≡ Some parser) (map (λ (x : Rule). x.parser) (cond b (r ∷ filter (λ (x : Rule). bytes_eq x.id id) rs) (filter (λ (x : Rule). bytes_eq x.id id) rs)))
    → Takes id parser r × All (λ p. p ≡ Some parser) (parsers_of id rs)
takes_one id parser r rs true is all = (λ same. all 0 None (omega arith), λ k d lt. all (suc k) d (omega (arith, lt)))
takes_one id parser r rs false is all =
    let other : bytes_eq r.id id ≡ true → r.parser ≡ Some parser = λ same. let bad : false ≡ true = sym is ∙ same in cc in
    (other, all)

takes_all : (id : Text) (parser : ValueParser) (rules : List Rule) → All (λ p. p ≡ Some parser) (parsers_of id rules) → All (Takes id parser) rules
takes_all id parser [] all = All-nil (Takes id parser)
takes_all id parser (r ∷ rs) all =
    let one = takes_one id parser r rs (bytes_eq r.id id) refl all in
    All-cons (Takes id parser) r rs one.0 (takes_all id parser rs one.1)

one_takes : (id : Text) (parser : ValueParser) (rules : List Rule) → parsers_of id rules ≡ Some parser ∷ [] → All (Takes id parser) rules
one_takes id parser rules is =
    takes_all id parser rules (subst (All (λ p. p ≡ Some parser)) (sym is)
    (All-cons (λ p. p ≡ Some parser) (Some parser) [] refl (All-nil (λ p. p ≡ Some parser))))

-- The command before a parse, or as the parse built it.
abbrev pub IsFor : App → Command → Type 0
IsFor app c = (app_of c ≡ app) ⊎ (app_of c ≡ built app)

both : (a b : Truth) → (a && b) ≡ true → (a ≡ true) × (b ≡ true)
both true b is = (refl, is)
both false b is = cc

-- A simple command can be built, and is plain before and after.
pub is_simple_by : (app : App) → is_simple_and_free app ≡ true → is_simple app ≡ true
is_simple_by app simple = (both (is_simple app) _ simple).0

pub is_buildable_by : (app : App) → is_simple_and_free app ≡ true → is_buildable app ≡ true
is_buildable_by app simple = (both (is_buildable app) _ (is_simple_by app simple)).0

pub is_plain : (app : App) → is_simple_and_free app ≡ true → (c : Command) → IsFor app c → (app_of c).top.is_plain ≡ true
is_plain app simple c (inl is) = ap (λ (a : App). a.top.is_plain) is ∙ (both app.top.is_plain _ (both (has_simple_rules app.top) _ (is_buildable_by app simple)).0).0
is_plain app simple c (inr is) =
    let ready = (both (is_ready (built app).top) _ (both (is_buildable app) _ (is_simple_by app simple)).1).0 in
    ap (λ (a : App). a.top.is_plain) is ∙ (both (built app).top.is_plain _ (both (has_simple_rules (built app).top) _ ready).0).0

each_arg : (P : Rule → Type 0) (xs : List Arg) → All P (map rule_of xs) → All (λ a. P (rule_of a)) xs
each_arg P xs h k d lt = subst P (get_or-map rule_of xs k d (rule_of d) lt) (h k (rule_of d) (rw (length-map xs rule_of) lt))

first_read : (Q : Text → Type 0) (vals : List (Bor Text)) → All (λ v. Q v.now) vals → (text : Text)
    → option_map (λ s. read_as AsWritten s.now) (slice_get vals 0) ≡ Some text → Q text
first_read Q [] all text some = cc
first_read Q (v ∷ vs) all text some =
    subst Q (ap (λ (o : Option Text). unwrap_or o []) some) (All-get_or (λ w. Q w.now) (v ∷ vs) 0 v (omega arith) all)

-- ---- the entry of an argument whose values are read as written

module _ (app : App) (simple : is_simple_and_free app ≡ true) (id : Text) (parser : ValueParser) (some_id : id ≡ [] → ⊥)
    (plain : reading_of parser ≡ AsWritten) (option : HasOption app id parser) where
  rules_take : (c : Command) → IsFor app c → All (Takes id parser) (app_of c).top.rules
  rules_take c (inl is) = subst (λ (a : App). All (Takes id parser) a.top.rules) (sym is) (one_takes id parser app.top.rules option.0)
  rules_take c (inr is) = subst (λ (a : App). All (Takes id parser) a.top.rules) (sym is) (one_takes id parser (built app).top.rules option.1)

  arg_takes : (c : Command) → IsFor app c → (k : ℕ) (x : Arg) → k < length (args_of c) → slice_index_or (args_of c) k x ≡ x
      → bytes_eq x.id.now id ≡ true → x.value_parser ≡ Some parser
  arg_takes c shell k x lt at same =
      subst (λ (y : Arg). Takes id parser (rule_of y)) at (each_arg (Takes id parser) (args_of c) (rules_take c shell) k x lt) same

  abbrev P : Text → Type 0
  P text = (any_case : Truth) × Accepts any_case parser text

  passes : (c : Command) → IsFor app c → (text : Text) → PassesArg c id text → P text
  passes c shell text any = (
    any.1.ignore_case,
    subst (λ (p : Option ValueParser). Accepts any.1.ignore_case (parser_of_value p) text)
        (arg_takes c shell any.0 any.1 any.2 any.3 any.4.0) any.4.1,
  )

  reads : (c : Command) → IsFor app c → (how : Reading) → HasReading c id how → how ≡ AsWritten
  reads c shell how any =
      sym any.4.1 ∙ ap (λ (p : Option ValueParser). reading_of (parser_of_value p)) (arg_takes c shell any.0 any.1 any.2 any.3 any.4.0) ∙ plain

  entry_read : (c : Command) → IsFor app c → (x : MatchedArg) (e : Entry) → e.1 ≡ x → e.0.now ≡ id → EntryPasses c e
      → (text : Text) → option_map (λ s. read_as x.reading s.now) (slice_get x.vals.items 0) ≡ Some text → P text
  entry_read c shell x e same key pass text some =
      let no_group : e.1.is_group ≡ true → ⊥ = λ g. elim (pass.3 g) [
        | inl empty ↦ some_id (sym key ∙ empty)
        | inr lots ↦
            let bad : 0 < 0 = rw (plain_fields c (is_plain app simple c shell)).groups at lots in
            absurd (omega arith)
      ] in
      let all : All (λ v. PassesArg c id v.now) x.vals.items = elim pass.0 [
        | inl g ↦ absurd (no_group g)
        | inr vals ↦ subst (λ (w : Text). All (λ v. PassesArg c w v.now) x.vals.items) key (rw same at vals)
      ] in
      let is : e.1.reading ≡ AsWritten = elim pass.4 [
        | inl g ↦ absurd (no_group g)
        | inr h ↦ reads c shell e.1.reading (subst (λ (w : Text). HasReading c w e.1.reading) key h)
      ] in
      let how : x.reading ≡ AsWritten = ap (λ (y : MatchedArg). y.reading) (sym same) ∙ is in
      passes c shell text (first_read (PassesArg c id) x.vals.items all text
      (subst (λ (r : Reading). option_map (λ s. read_as r s.now) (slice_get x.vals.items 0) ≡ Some text) how some))

  pub accepted : (c : Command) (f : Found) → IsFor app c → ValuesPass c f → (text : Text) → one_text f id ≡ Some text → P text
  accepted c f shell values text some = go (matched_of f id) refl
    where
      step : (x : MatchedArg) → option_map (λ s. read_as x.reading s.now) (slice_get x.vals.items 0) ≡ Some text
          → ((e : Entry) × (e.1 ≡ x) × (bytes_eq e.0.now id ≡ true) × EntryPasses c e) → P text
      step x first got = entry_read c shell x got.0 got.1 ((bytes_eq-Decides got.0.0.now id).0 got.2) got.3 text first

      go : (o : Option MatchedArg) → matched_of f id ≡ o → P text
      go None e =
          let bad : None ≡ Some text = rw e at some in
          cc
      go (Some x) e = step x (rw e at some) (entry_by_id (EntryPasses c) f.entries.items id x values e)

-- ---- numbers and flags

-- A number that was found is in its range.
pub has_number : (app : App) (m : ArgMatches) (id : Text) (least most : ℕ) → PassParsers app m → (id ≡ [] → ⊥) → HasOption app id (Unsigned least most)
    → HasNumberIn least most id m
has_number app m id least most pass some_id option text some = (pass id text (Unsigned least most) some_id refl option some).1

-- The numbers of a range are also numbers of a wider range.
pub wider : (m : ArgMatches) (id : Text) (least most low high : ℕ) → low ≤ least → most ≤ high → HasNumberIn least most id m → HasNumberIn low high id m
wider m id least most low high below above has text some =
    let given = has text some in
    (given.0, given.1, omega (arith, below, given.2), omega (arith, above, given.3))

either : (b d : Truth) (p q : Type 0) → (b ≡ true → p) → (d ≡ true → q) → (b || d) ≡ true → p ⊎ q
either true d p q x y h = inl (x refl)
either false d p q x y h = inr (y h)

-- A flag that was found has one of its two values.
pub has_flag : (app : App) (m : ArgMatches) (id : Text) → PassParsers app m → (id ≡ [] → ⊥) → HasOption app id Bool → HasFlag id m
has_flag app m id pass some_id option text some =
    either (bytes_eq text (codes "true")) (bytes_eq text (codes "false")) (text ≡ codes "true") (text ≡ codes "false")
    (bytes_eq-Decides text (codes "true")).0 (bytes_eq-Decides text (codes "false")).0 (pass id text Bool some_id refl option some).1

-- ---- the flag

-- `r` is the result of `get_flag` for the text that was found.
pub flag_read : (found : Option Text) (r : Truth) → (found ≡ None → r ≡ false) → (found ≡ Some (codes "true") → r ≡ true)
    → (found ≡ Some (codes "false") → r ≡ false) → ((t : Text) → found ≡ Some t → (t ≡ codes "true") ⊎ (t ≡ codes "false")) → r ≡ is_told found
flag_read None r none set unset range = none refl
flag_read (Some t) r none set unset range = elim (range t refl) [
  | inl is ↦ set (ap Some is) ∙ sym (ap is_told (ap Some is))
  | inr is ↦ unset (ap Some is) ∙ sym (ap is_told (ap Some is))
]

-- ---- values found by a program's own command

-- A text that `get_str` returns is the first value in the arguments.
pub text_found : (app other : App) (words : List Text) (f : Found) (id : Text) (r : Option (Bor Text)) → option_map (λ s. s.now) r ≡ first_value f id
    → rows_of f ≡ matches_of other words → other ≡ app → option_map (λ s. s.now) r ≡ first_of id (matches_of app words)
text_found app other words f id r gives found is =
    gives ∙ first_value-rows f id ∙ ap (first_of id) found ∙ ap (λ (a : App). first_of id (matches_of a words)) is

-- A result computed from the value that was found is the result for the value in the arguments.
pub one_found : {T : Type 0} (made : Option Text → T) (app other : App) (words : List Text) (f : Found) (id : Text) (r : T) → r ≡ made (one_of id (rows_of f))
    → rows_of f ≡ matches_of other words → other ≡ app → r ≡ made (one_of id (matches_of app words))
one_found made app other words f id r gives found is =
    gives ∙ ap (λ rows. made (one_of id rows)) found ∙ ap (λ (a : App). made (one_of id (matches_of a words))) is
