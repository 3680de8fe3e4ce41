-- A name is split at its dashes in one way, since neither a kind nor a number contains a dash.
use Rattle.std.proofs.Common.{◌≡◌, ◌≢◌, ◌∙◌, ℕ, ◌<◌, Bool, true, false, List, ◌∷◌, ◌++◌, length, get_or, None, Some, refl, ap, sym, arith, append_assoc}
use Rattle.std.proofs.lemmas.Bool.{false≢true}
use Rattle.std.proofs.lemmas.List.Folds.{list_all_at}
use Rattle.std.proofs.lemmas.Str.Pattern.{IsSplitOnceResult, split_after, split_parts}
use Rattle.std.specs.Prelude.{◌&&◌, codes, nat_le}
use Rattle.std.specs.List.{list_all}
use Rattle.std.specs.Char.{is_ascii_digit, is_ascii_lowercase}
use Rattle.filter_args.specs.Files.{prefix_of}
use Rattle.filter_args.specs.declared.files.ChildFile.{ChildFile}
use Rattle.filter_args.specs.declared.files.ChildFile.TheVariants.{Input, Output, Errors, Side}
use Rattle.spool_runtime.specs.Leftovers.{IsNameOf, IsNoName, are_numbers, is_number}
use denote.Ref.{Bor}

-- ---- no dash

abbrev HasNoDash : List ℕ → Type 0
HasNoDash text = (i : ℕ) → i < length text → get_or text i 0 ≢ 45

no_dash_where : (allowed : ℕ → Bool) → allowed 45 ≡ false → (text : List ℕ) → list_all allowed text ≡ true → HasNoDash text
no_dash_where allowed not text all i l e = false≢true (sym (list_all_at allowed text i 0 l (ap allowed e ∙ not)) ∙ all)

no_dash_in_prefix : (file : ChildFile) → HasNoDash (prefix_of file)
no_dash_in_prefix Input = no_dash_where is_ascii_lowercase refl (prefix_of Input) refl
no_dash_in_prefix Output = no_dash_where is_ascii_lowercase refl (prefix_of Output) refl
no_dash_in_prefix Errors = no_dash_where is_ascii_lowercase refl (prefix_of Errors) refl
no_dash_in_prefix Side = no_dash_where is_ascii_lowercase refl (prefix_of Side) refl

last : (a b : Bool) → (a && b) ≡ true → b ≡ true
last true b e = e
last false b e = absurd (false≢true e)

no_dash_in_number : (text : List ℕ) → is_number text ≡ true → HasNoDash text
no_dash_in_number text is = no_dash_where is_ascii_digit refl text (last (nat_le 1 (length text)) (list_all is_ascii_digit text) is)

first_two : (a b c : Bool) → (a && b && c) ≡ true → (a ≡ true) × (b ≡ true)
first_two true true c e = (refl, refl)
first_two true false c e = absurd (false≢true e)
first_two false b c e = absurd (false≢true e)

no_dash_in_numbers : (job attempt stage : List ℕ) → are_numbers job attempt stage ≡ true → HasNoDash job × HasNoDash attempt
no_dash_in_numbers job attempt stage are =
    let two = first_two (is_number job) (is_number attempt) (is_number stage) are in
    (no_dash_in_number job two.0, no_dash_in_number attempt two.1)

-- ---- the parts around a dash

unsplit : (text front back : List ℕ) → IsSplitOnceResult 45 text None → text ≡ front ++ (45 ∷ back) → HasNoDash front → ⊥
unsplit text front back h e free = split_after 45 text front back None h (omega arith) e free

same_parts : (text front back : List ℕ) (x : Bor (List ℕ) × Bor (List ℕ)) → IsSplitOnceResult 45 text (Some x) → text ≡ front ++ (45 ∷ back) → HasNoDash front → (x.0.now ≡ front) × (x.1.now ≡ back)
same_parts text front back x h e free = split_after 45 text front back (Some x) h (omega arith) e free

parts : (text : List ℕ) (x : Bor (List ℕ) × Bor (List ℕ)) → IsSplitOnceResult 45 text (Some x) → text ≡ x.0.now ++ (45 ∷ x.1.now)
parts text x h = (split_parts 45 text (Some x) h (omega arith)).0

spelled : (kind job attempt stage : List ℕ) → kind ++ codes "-" ++ job ++ codes "-" ++ attempt ++ codes "-" ++ stage ≡ kind ++ (45 ∷ (job ++ (45 ∷ (attempt ++ (45 ∷ stage)))))
spelled kind job attempt stage = simp append_assoc

-- ---- the first dash of a name

pub record FirstParts (name kind rest : List ℕ) : Type 0 where
  pub whole : name ≡ kind ++ (45 ∷ rest)
  pub only : (file : ChildFile) (job attempt stage : List ℕ) → IsNameOf name file job attempt stage
      → (kind ≡ prefix_of file) × (rest ≡ job ++ (45 ∷ (attempt ++ (45 ∷ stage))))

behind_kind : (name : List ℕ) (file : ChildFile) (job attempt stage : List ℕ) → IsNameOf name file job attempt stage → name ≡ prefix_of file ++ (45 ∷ (job ++ (45 ∷ (attempt ++ (45 ∷ stage)))))
behind_kind name file job attempt stage n = n.name_is ∙ spelled (prefix_of file) job attempt stage

pub no_first : (name : List ℕ) → IsSplitOnceResult 45 name None → IsNoName name
no_first name h file job attempt stage n =
    unsplit name (prefix_of file) (job ++ (45 ∷ (attempt ++ (45 ∷ stage)))) h (behind_kind name file job attempt stage n) (no_dash_in_prefix file)

pub first_parts : (name : List ℕ) (x : Bor (List ℕ) × Bor (List ℕ)) → IsSplitOnceResult 45 name (Some x) → FirstParts name x.0.now x.1.now
first_parts name x h = record {
  whole = parts name x h;
  only = λ file job attempt stage n.
      same_parts name (prefix_of file) (job ++ (45 ∷ (attempt ++ (45 ∷ stage)))) x h (behind_kind name file job attempt stage n) (no_dash_in_prefix file);
}

-- ---- the second dash

pub record TwoParts (name kind job rest : List ℕ) : Type 0 where
  pub whole : name ≡ kind ++ (45 ∷ (job ++ (45 ∷ rest)))
  pub only : (file : ChildFile) (j a s : List ℕ) → IsNameOf name file j a s
      → (kind ≡ prefix_of file) × (job ≡ j) × (rest ≡ a ++ (45 ∷ s))

pub no_second : (name kind rest : List ℕ) → FirstParts name kind rest → IsSplitOnceResult 45 rest None → IsNoName name
no_second name kind rest p h file job attempt stage n =
    unsplit rest job (attempt ++ (45 ∷ stage)) h (p.only file job attempt stage n).1 (no_dash_in_numbers job attempt stage n.numbers).0

pub two_parts : (name kind rest : List ℕ) (x : Bor (List ℕ) × Bor (List ℕ)) → FirstParts name kind rest → IsSplitOnceResult 45 rest (Some x) → TwoParts name kind x.0.now x.1.now
two_parts name kind rest x p h = record {
  whole = p.whole ∙ ap (λ l. kind ++ (45 ∷ l)) (parts rest x h);
  only = λ file job attempt stage n.
      let first = p.only file job attempt stage n in
      let second = same_parts rest job (attempt ++ (45 ∷ stage)) x h first.1 (no_dash_in_numbers job attempt stage n.numbers).0 in
      (first.0, second.0, second.1);
}

-- ---- the third dash

pub record AllParts (name kind job attempt stage : List ℕ) : Type 0 where
  pub whole : name ≡ kind ++ (45 ∷ (job ++ (45 ∷ (attempt ++ (45 ∷ stage)))))
  pub only : (file : ChildFile) (j a s : List ℕ) → IsNameOf name file j a s
      → (kind ≡ prefix_of file) × (job ≡ j) × (attempt ≡ a) × (stage ≡ s)

pub no_third : (name kind job rest : List ℕ) → TwoParts name kind job rest → IsSplitOnceResult 45 rest None → IsNoName name
no_third name kind job rest p h file j a s n = unsplit rest a s h (p.only file j a s n).2 (no_dash_in_numbers j a s n.numbers).1

pub all_parts : (name kind job rest : List ℕ) (x : Bor (List ℕ) × Bor (List ℕ)) → TwoParts name kind job rest → IsSplitOnceResult 45 rest (Some x) → AllParts name kind job x.0.now x.1.now
all_parts name kind job rest x p h = record {
  whole = p.whole ∙ ap (λ l. kind ++ (45 ∷ (job ++ (45 ∷ l)))) (parts rest x h);
  only = λ file j a s n.
      let two = p.only file j a s n in
      let third = same_parts rest a s x h two.2 (no_dash_in_numbers j a s n.numbers).1 in
      (two.0, two.1, third.0, third.1);
}

-- ---- the parts

pub other_kind : (name kind job attempt stage : List ℕ) → AllParts name kind job attempt stage → ((file : ChildFile) → kind ≢ prefix_of file) → IsNoName name
other_kind name kind job attempt stage p not file j a s n = not file (p.only file j a s n).0

pub no_numbers : (name kind job attempt stage : List ℕ) → AllParts name kind job attempt stage → are_numbers job attempt stage ≡ false → IsNoName name
no_numbers name kind job attempt stage p not file j a s n =
    let (_, job_is, attempt_is, stage_is) = p.only file j a s n in
    let same : are_numbers job attempt stage ≡ are_numbers j a s = cc in
    false≢true (sym not ∙ same ∙ n.numbers)

pub named : (name kind job attempt stage : List ℕ) (file : ChildFile) → AllParts name kind job attempt stage → kind ≡ prefix_of file → are_numbers job attempt stage ≡ true
    → IsNameOf name file job attempt stage
named name kind job attempt stage file p is numbers = record {
  name_is = p.whole ∙ ap (λ l. l ++ (45 ∷ (job ++ (45 ∷ (attempt ++ (45 ∷ stage)))))) is ∙ sym (spelled (prefix_of file) job attempt stage);
  numbers = numbers;
}
