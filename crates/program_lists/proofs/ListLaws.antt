-- A list of programs that grows by lines.
use Rattle.std.proofs.Common.{◌≡◌, ℕ, ◌+◌, ◌<◌, ◌≤◌, Bool, true, false, ◌&&◌, ◌||◌, not, cond, List, [], ◌∷◌, ◌++◌, length, map, get_or, take, drop, Option, None, Some, is_some, is_none, refl, ap, sym, ◌∙◌, arith, Bor}
use Rattle.std.specs.List.{list_all, list_any, flat_map, find}
use Rattle.std.specs.Option.{option_map}
use Rattle.std.proofs.lemmas.Bool.{and_parts, leb-true, not-true}
use Rattle.std.proofs.lemmas.Grind.{flat_map-append}
use Rattle.std.proofs.lemmas.Simd.{map-map}
use Rattle.std.proofs.lemmas.List.{take_more, take-append-drop, drop_more, map-append, append-nil, length-append}
use Rattle.std.proofs.lemmas.List.Folds.{list_any-append, list_all-append}
use Rattle.program_lists.specs.ProgramLines.{lines_of, words_of, said_by, said_in}
use Rattle.program_lists.specs.Programs.{Programs, programs_of, filters_said, backends_said, sides_said, first, is_read, is_named, are_distinct, is_at_most_one, reads_of, program_of, program_named, fits, with_said}
use Rattle.spool_types.specs.declared.kinds.FilterNameKind.{FilterNameKind}
use Rattle.program_lists.specs.declared.kinds.BackendNameKind.{BackendNameKind}
use Rattle.program_lists.specs.declared.line.Listed.{Listed}
use Rattle.program_lists.specs.declared.line.ListedProgram.{ListedProgram}
use Rattle.program_lists.specs.declared.line.Said.{Said}
use Rattle.program_lists.specs.declared.line.Said.TheVariants.{Nothing, Filter, Backend, Side, Unread}

-- ## Names

named_any : {K : Type 0} (name : List ℕ) (list : List (Listed K)) → is_some (program_named name list) ≡ list_any (is_named name) list
named_any name [] = refl
named_any name (x ∷ xs) =
    elim (is_named name x) as (λ v. is_some (option_map program_of (cond v (Some x) (find (is_named name) xs))) ≡ (v || list_any (is_named name) xs)) [
      | true ↦ refl
      | false ↦ named_any name xs
    ]

some_map : {A B : Type 0} (f : A → B) (o : Option A) → is_some o ≡ is_some (option_map f o)
some_map f None = refl
some_map f (Some x) = refl

-- A program was found if the name exists.
pub found_any : {K : Type 0} (name : List ℕ) (list : List (Listed K)) (found : Option (Bor ListedProgram))
    → option_map (λ program. program.now) found ≡ program_named name list → is_some found ≡ list_any (is_named name) list
found_any name list found same = some_map (λ program. program.now) found ∙ ap is_some same ∙ named_any name list

or_parts : (a b : Bool) → (a || b) ≡ false → (a ≡ false) × (b ≡ false)
or_parts true b h = absurd (cc)
or_parts false b h = (refl, h)

both : (a b : Bool) → a ≡ true → b ≡ true → (a && b) ≡ true
both a b p q = ap (λ v. v && b) p ∙ q

distinct_push : {K : Type 0} (xs : List (Listed K)) (y : Listed K) → are_distinct xs ≡ true → list_any (is_named y.name) xs ≡ false → are_distinct (xs ++ y ∷ []) ≡ true
distinct_push [] y h free = refl
distinct_push (x ∷ xs) y h free =
    let parts = and_parts (not (list_any (λ other. is_named other.name x) xs)) (are_distinct xs) h in
    let frees = or_parts (is_named y.name x) (list_any (is_named y.name) xs) free in
    both (not (list_any (λ other. is_named other.name x) (xs ++ y ∷ []))) (are_distinct (xs ++ y ∷ []))
    (ap not (list_any-append (λ other. is_named other.name x) xs (y ∷ [])
    ∙ ap (λ v. v || (is_named y.name x || false)) (not-true (list_any (λ other. is_named other.name x) xs) parts.0) ∙ ap (λ v. v || false) frees.0))
    (distinct_push xs y parts.1 frees.1)

distinct_free : {K : Type 0} (xs ys : List (Listed K)) (y : Listed K) → are_distinct (xs ++ y ∷ ys) ≡ true → list_any (is_named y.name) xs ≡ false
distinct_free [] ys y h = refl
distinct_free (x ∷ xs) ys y h =
    let parts = and_parts (not (list_any (λ other. is_named other.name x) (xs ++ y ∷ ys))) (are_distinct (xs ++ y ∷ ys)) h in
    let none = not-true (list_any (λ other. is_named other.name x) (xs ++ y ∷ ys)) parts.0 in
    let split = or_parts (list_any (λ other. is_named other.name x) xs) (is_named y.name x || list_any (λ other. is_named other.name x) ys)
    (sym (list_any-append (λ other. is_named other.name x) xs (y ∷ ys)) ∙ none) in
    let seam = or_parts (is_named y.name x) (list_any (λ other. is_named other.name x) ys) split.1 in
    ap (λ v. v || list_any (is_named y.name) xs) seam.0 ∙ distinct_free xs ys y parts.1

-- ## A text that is accepted

record Reads (said : List Said) : Type 0 where
  pub read : list_all is_read said ≡ true
  pub filters : are_distinct (flat_map filters_said said) ≡ true
  pub backends : are_distinct (flat_map backends_said said) ≡ true
  pub side : is_at_most_one (flat_map sides_said said) ≡ true

parts : (said : List Said) → reads_of said ≡ true → Reads said
parts said h =
    let halves = and_parts (list_all is_read said && are_distinct (flat_map filters_said said))
    (are_distinct (flat_map backends_said said) && is_at_most_one (flat_map sides_said said)) h in
    let front = and_parts (list_all is_read said) (are_distinct (flat_map filters_said said)) halves.0 in
    let back = and_parts (are_distinct (flat_map backends_said said)) (is_at_most_one (flat_map sides_said said)) halves.1 in
    record { read = front.0; filters = front.1; backends = back.0; side = back.1 }

whole : (said : List Said) → Reads said → reads_of said ≡ true
whole said r =
    both (list_all is_read said && are_distinct (flat_map filters_said said)) (are_distinct (flat_map backends_said said) && is_at_most_one (flat_map sides_said said))
    (both (list_all is_read said) (are_distinct (flat_map filters_said said)) r.read r.filters)
    (both (are_distinct (flat_map backends_said said)) (is_at_most_one (flat_map sides_said said)) r.backends r.side)

no_side : (programs : List ListedProgram) → is_none (first programs) ≡ true → programs ≡ []
no_side [] h = refl
no_side (x ∷ xs) h = absurd (cc)

-- If a list has at most one element, none precedes it.
alone : {A : Type 0} (xs ys : List A) (y : A) → is_at_most_one (xs ++ y ∷ ys) ≡ true → xs ≡ []
alone [] ys y h = refl
alone (x ∷ xs) ys y h =
    let short : length (x ∷ xs ++ y ∷ ys) ≤ 1 = leb-true (length (x ∷ xs ++ y ∷ ys)) 1 h in
    let long = length-append xs (y ∷ ys) in
    absurd (omega (arith, short, long))

-- A further line that is not one too many.
pub read_push : (xs : List Said) (s : Said) → reads_of xs ≡ true → fits (programs_of xs) s ≡ true → reads_of (xs ++ s ∷ []) ≡ true
read_push xs s h fit = whole (xs ++ s ∷ []) (more s fit)
  where
    old : Reads xs
    old = parts xs h

    all : (t : Said) → is_read t ≡ true → list_all is_read (xs ++ t ∷ []) ≡ true
    all t r = list_all-append is_read xs (t ∷ []) ∙ both (list_all is_read xs) (is_read t && true) old.read (both (is_read t) true r refl)

    filters : (t : Said) → flat_map filters_said (xs ++ t ∷ []) ≡ flat_map filters_said xs ++ (filters_said t ++ [])
    filters t = flat_map-append filters_said xs (t ∷ [])

    backends : (t : Said) → flat_map backends_said (xs ++ t ∷ []) ≡ flat_map backends_said xs ++ (backends_said t ++ [])
    backends t = flat_map-append backends_said xs (t ∷ [])

    sides : (t : Said) → flat_map sides_said (xs ++ t ∷ []) ≡ flat_map sides_said xs ++ (sides_said t ++ [])
    sides t = flat_map-append sides_said xs (t ∷ [])

    same_filters : (t : Said) → filters_said t ≡ [] → are_distinct (flat_map filters_said (xs ++ t ∷ [])) ≡ true
    same_filters t e = ap are_distinct (filters t ∙ ap (λ l. flat_map filters_said xs ++ (l ++ [])) e ∙ append-nil (flat_map filters_said xs)) ∙ old.filters

    same_backends : (t : Said) → backends_said t ≡ [] → are_distinct (flat_map backends_said (xs ++ t ∷ [])) ≡ true
    same_backends t e = ap are_distinct (backends t ∙ ap (λ l. flat_map backends_said xs ++ (l ++ [])) e ∙ append-nil (flat_map backends_said xs)) ∙ old.backends

    same_sides : (t : Said) → sides_said t ≡ [] → is_at_most_one (flat_map sides_said (xs ++ t ∷ [])) ≡ true
    same_sides t e = ap is_at_most_one (sides t ∙ ap (λ l. flat_map sides_said xs ++ (l ++ [])) e ∙ append-nil (flat_map sides_said xs)) ∙ old.side

    more : (t : Said) → fits (programs_of xs) t ≡ true → Reads (xs ++ t ∷ [])
    more Nothing f = record { read = all Nothing refl; filters = same_filters Nothing refl; backends = same_backends Nothing refl; side = same_sides Nothing refl }
    more (Filter l) f = record {
      read = all (Filter l) refl;
      filters = ap are_distinct (filters (Filter l)) ∙ distinct_push (flat_map filters_said xs) l old.filters (not-true (list_any (is_named l.name) (flat_map filters_said xs)) f);
      backends = same_backends (Filter l) refl;
      side = same_sides (Filter l) refl;
    }
    more (Backend l) f = record {
      read = all (Backend l) refl;
      filters = same_filters (Backend l) refl;
      backends = ap are_distinct (backends (Backend l)) ∙ distinct_push (flat_map backends_said xs) l old.backends (not-true (list_any (is_named l.name) (flat_map backends_said xs)) f);
      side = same_sides (Backend l) refl;
    }
    more (Side p) f = record {
      read = all (Side p) refl;
      filters = same_filters (Side p) refl;
      backends = same_backends (Side p) refl;
      side = ap is_at_most_one (sides (Side p) ∙ ap (λ l. l ++ p ∷ []) (no_side (flat_map sides_said xs) f));
    }
    more Unread f = absurd (cc)

-- Its program comes after the others.
pub programs_push : (xs : List Said) (s : Said) → fits (programs_of xs) s ≡ true → with_said (programs_of xs) s ≡ programs_of (xs ++ s ∷ [])
programs_push xs s fit = more s fit
  where
    of : List (Listed FilterNameKind) → List (Listed BackendNameKind) → Option ListedProgram → Programs
    of filters backends side = record { filters = filters; backends = backends; side = side }

    grown : (t : Said) → of (flat_map filters_said xs ++ (filters_said t ++ [])) (flat_map backends_said xs ++ (backends_said t ++ [])) (first (flat_map sides_said xs ++ (sides_said t ++ []))) ≡ programs_of (xs ++ t ∷ [])
    grown t =
        sym (ap (λ l. of l (flat_map backends_said (xs ++ t ∷ [])) (first (flat_map sides_said (xs ++ t ∷ [])))) (flat_map-append filters_said xs (t ∷ []))
        ∙ ap (λ l. of (flat_map filters_said xs ++ (filters_said t ++ [])) l (first (flat_map sides_said (xs ++ t ∷ [])))) (flat_map-append backends_said xs (t ∷ []))
        ∙ ap (λ l. of (flat_map filters_said xs ++ (filters_said t ++ [])) (flat_map backends_said xs ++ (backends_said t ++ [])) (first l)) (flat_map-append sides_said xs (t ∷ [])))

    no_filter : flat_map filters_said xs ≡ flat_map filters_said xs ++ []
    no_filter = sym (append-nil (flat_map filters_said xs))

    no_backend : flat_map backends_said xs ≡ flat_map backends_said xs ++ []
    no_backend = sym (append-nil (flat_map backends_said xs))

    no_more : first (flat_map sides_said xs) ≡ first (flat_map sides_said xs ++ [])
    no_more = ap first (sym (append-nil (flat_map sides_said xs)))

    three : {f g : List (Listed FilterNameKind)} {b d : List (Listed BackendNameKind)} {s t : Option ListedProgram} → f ≡ g → b ≡ d → s ≡ t → of f b s ≡ of g d t
    three {f} {g} {b} {d} {s} {t} p q r = ap (λ l. of l b s) p ∙ ap (λ l. of g l s) q ∙ ap (λ o. of g d o) r

    more : (t : Said) → fits (programs_of xs) t ≡ true → with_said (programs_of xs) t ≡ programs_of (xs ++ t ∷ [])
    more Nothing f = three no_filter no_backend no_more ∙ grown Nothing
    more (Filter l) f = three refl no_backend no_more ∙ grown (Filter l)
    more (Backend l) f = three no_filter refl no_more ∙ grown (Backend l)
    more (Side p) f = three no_filter no_backend (ap (λ l. first (l ++ p ∷ [])) (sym (no_side (flat_map sides_said xs) f))) ∙ grown (Side p)
    more Unread f = absurd (cc)

-- In a text that is accepted no line is one too many.
pub read_fits : (xs ys : List Said) (s : Said) → reads_of (xs ++ s ∷ ys) ≡ true → fits (programs_of xs) s ≡ true
read_fits xs ys s h = each s (parts (xs ++ s ∷ ys) h)
  where
    each : (t : Said) → Reads (xs ++ t ∷ ys) → fits (programs_of xs) t ≡ true
    each Nothing r = refl
    each (Filter l) r = ap not (distinct_free (flat_map filters_said xs) (flat_map filters_said ys) l (ap are_distinct (sym (flat_map-append filters_said xs (Filter l ∷ ys))) ∙ r.filters))
    each (Backend l) r = ap not (distinct_free (flat_map backends_said xs) (flat_map backends_said ys) l (ap are_distinct (sym (flat_map-append backends_said xs (Backend l ∷ ys))) ∙ r.backends))
    each (Side p) r =
        ap (λ l. is_none (first l)) (alone (flat_map sides_said xs) (flat_map sides_said ys) p (ap is_at_most_one (sym (flat_map-append sides_said xs (Side p ∷ ys))) ∙ r.side))
    each Unread r =
        (and_parts (is_read Unread) (list_all is_read ys) (and_parts (list_all is_read xs) (list_all is_read (Unread ∷ ys)) (sym (list_all-append is_read xs (Unread ∷ ys)) ∙ r.read)).1).0

-- ## The lines so far

abbrev pub says : Bor (List ℕ) → Said
says line = said_by (words_of line.now)

module _ (lines : List (Bor (List ℕ))) (i : ℕ) (d : Bor (List ℕ)) (less : i < length lines) where
  one_more : map says (take i lines) ++ says (get_or lines i d) ∷ [] ≡ map says (take (i + 1) lines)
  one_more = sym (ap (map says) (take_more lines i d less) ∙ map-append says (take i lines) (get_or lines i d ∷ []))

  pub more_read : reads_of (map says (take i lines)) ≡ true → fits (programs_of (map says (take i lines))) (says (get_or lines i d)) ≡ true
      → reads_of (map says (take (i + 1) lines)) ≡ true
  more_read h fit = ap reads_of (sym one_more) ∙ read_push (map says (take i lines)) (says (get_or lines i d)) h fit

  pub more_programs : fits (programs_of (map says (take i lines))) (says (get_or lines i d)) ≡ true
      → with_said (programs_of (map says (take i lines))) (says (get_or lines i d)) ≡ programs_of (map says (take (i + 1) lines))
  more_programs fit = programs_push (map says (take i lines)) (says (get_or lines i d)) fit ∙ ap programs_of one_more

  around : map says lines ≡ map says (take i lines) ++ says (get_or lines i d) ∷ map says (drop (i + 1) lines)
  around =
      ap (map says) (sym (take-append-drop i lines) ∙ ap (λ l. take i lines ++ l) (drop_more lines i d less))
      ∙ map-append says (take i lines) (get_or lines i d ∷ drop (i + 1) lines)

  pub unread : fits (programs_of (map says (take i lines))) (says (get_or lines i d)) ≡ false → reads_of (map says lines) ≡ false
  unread bad = go (reads_of (map says lines)) refl
    where
      go : (v : Bool) → reads_of (map says lines) ≡ v → v ≡ false
      go false e = refl
      go true e =
          let good = read_fits (map says (take i lines)) (map says (drop (i + 1) lines)) (says (get_or lines i d)) (ap reads_of (sym around) ∙ e) in
          sym good ∙ bad

-- The contents of the lines of a text, once all have been read.
pub lines_said : (lines : List (Bor (List ℕ))) (text : List ℕ) → map (λ line. line.now) lines ≡ lines_of text → map says lines ≡ said_in text
lines_said lines text same = sym (map-map (λ line. said_by (words_of line)) (λ line. line.now) lines) ∙ ap (map (λ line. said_by (words_of line))) same
