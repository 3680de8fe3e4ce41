-- The client that is replaced first, among some and one more.
use Rattle.std.proofs.Common.{◌≡◌, ℕ, ◌+◌, ◌<◌, Bool, true, false, cond, ◌==◌, nat_lt, List, [], ◌∷◌, ◌++◌, length, take, get_or, Option, None, Some, sym, subst, ◌∙◌, IsTrue, MatchOption, arith}
use Rattle.std.proofs.Math.Logic.{⊎_elim}
use Rattle.std.proofs.lemmas.Bool.{both_ways}
use Rattle.std.proofs.lemmas.Bool.Decides.{nat_tests}
use Rattle.std.proofs.lemmas.List.{take_more}
use Rattle.std.proofs.lemmas.List.Elements.{Contains-push, Contains-push_cases, Contains-append_left}
use Rattle.std.specs.List.{Contains}
use Rattle.service_rules.specs.declared.slots.Client.{Client}
use Rattle.service_rules.specs.ClientAdmission.{is_idle, goes_before, IsFirstToGo, HasNoneIdle}

-- The first one to be replaced, or none if none is idle.
abbrev pub FirstOf : ℕ → List Client → Option Client → Type 0
FirstOf now clients None = HasNoneIdle clients now
FirstOf now clients (Some c) = IsFirstToGo clients now c

irreflexive : (c : Client) → goes_before c c ≡ false
irreflexive c = grind (arith, nat_tests)

goes_on : (a i b j c k : ℕ) → cond (a == b) (nat_lt i j) (nat_lt a b) ≡ true → cond (b == c) (nat_lt j k) (nat_lt b c) ≡ true → cond (a == c) (nat_lt i k) (nat_lt a c) ≡ true
goes_on a i b j c k h g = grind (arith, nat_tests)

transitive : (b c d : Client) → IsTrue (goes_before b c) → IsTrue (goes_before c d) → IsTrue (goes_before b d)
transitive b c d = goes_on b.heard b.key c.heard c.key d.heard d.key

-- A property of each client of the list and of one more is one of each client of the longer list.
each_more : (P : Client → Type 0) (clients : List Client) (c : Client) → ((d : Client) → Contains clients d → P d) → P c → (d : Client) → Contains (clients ++ c ∷ []) d → P d
each_more P clients c each here d there = ⊎_elim (each d) (λ e. subst P e here) (Contains-push_cases clients c d there)

module _ (now : ℕ) (clients : List Client) (c : Client) where
  -- An idle client that precedes the first one is the first.
  pub taken : (first : Option Client) → FirstOf now clients first → IsTrue (is_idle now c)
      → (before : Bool) → MatchOption first (before ≡ true) (λ other. before ≡ goes_before c other) → before ≡ true → FirstOf now (clients ++ c ∷ []) (Some c)
  taken None none idle before is so = record {
    there = Contains-push clients c;
    idle = idle;
    first = each_more (λ d. IsTrue (is_idle now d) → ¬ (IsTrue (goes_before d c))) clients c
        (λ d there idle_too _. both_ways (is_idle now d) (none d there) idle_too)
        (λ _. both_ways (goes_before c c) (irreflexive c));
  }
  taken (Some other) first idle before is so = record {
    there = Contains-push clients c;
    idle = idle;
    first = each_more (λ d. IsTrue (is_idle now d) → ¬ (IsTrue (goes_before d c))) clients c
        (λ d there idle_too goes. first.first d there idle_too (transitive d c other goes (sym is ∙ so)))
        (λ _. both_ways (goes_before c c) (irreflexive c));
  }

  -- A client that is not idle changes nothing.
  pub awake : (first : Option Client) → FirstOf now clients first → is_idle now c ≡ false → FirstOf now (clients ++ c ∷ []) first
  awake None none fails = each_more (λ d. is_idle now d ≡ false) clients c none fails
  awake (Some other) first fails = record {
    there = Contains-append_left clients (c ∷ []) other first.there;
    idle = first.idle;
    first = each_more (λ d. IsTrue (is_idle now d) → ¬ (IsTrue (goes_before d other))) clients c first.first
        (λ idle_too _. both_ways (is_idle now c) fails idle_too);
  }

  -- Nor does a client that does not precede the first one.
  pub behind : (first : Option Client) → FirstOf now clients first
      → (before : Bool) → MatchOption first (before ≡ true) (λ other. before ≡ goes_before c other) → before ≡ false → FirstOf now (clients ++ c ∷ []) first
  behind None none before is not_so = absurd (both_ways before not_so is)
  behind (Some other) first before is not_so = record {
    there = Contains-append_left clients (c ∷ []) other first.there;
    idle = first.idle;
    first = each_more (λ d. IsTrue (is_idle now d) → ¬ (IsTrue (goes_before d other))) clients c first.first
        (λ _. both_ways (goes_before c other) (sym is ∙ not_so));
  }

-- The clients up to the next one.
pub onward : (now : ℕ) (clients : List Client) (i : ℕ) (d : Client) (first : Option Client) → i < length clients
    → FirstOf now (take i clients ++ get_or clients i d ∷ []) first → FirstOf now (take (i + 1) clients) first
onward now clients i d first inside = subst (λ cs. FirstOf now cs first) (sym (take_more clients i d inside))
