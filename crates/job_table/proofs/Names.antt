-- The positions of queues among the names, and of jobs among the numbers.
use Rattle.std.proofs.Common.{◌≡◌, ℕ, zero, suc, ◌<◌, ◌≤◌, IsTrue, List, [], ◌∷◌, length, get_or, map, Result, Ok, Err, IfOk, IfErr, true, refl, sym, ap, subst, ◌∙◌, inl, inr, arith}
use Rattle.std.specs.declared.cmp.Ordering.TheVariants.{Less, Equal}
use Rattle.std.specs.List.{Contains, insert}
use Rattle.std.specs.Option.{is_some}
use Rattle.std.specs.Ordering.{nat_cmp, eq_by_cmp, is_eq}
use Rattle.std.specs.Cmp.Lexicographic.{slice_cmp, nat_list_cmp_total}
use Rattle.std.specs.FinMap as finite
use Rattle.std.proofs.lemmas.Bool.{cases_lt}
use Rattle.std.proofs.lemmas.Cmp.{tied_itself}
use Rattle.std.proofs.lemmas.List.{length-map, get_or-map}
use Rattle.std.proofs.lemmas.List.Folds.{list_any_at}
use Rattle.std.proofs.lemmas.Map.Lookups.{exact_bytes}
use Rattle.std.proofs.lemmas.Map.Views.{tells_apart}
use Rattle.spool_types.specs.State.{State, queue_at}
use Rattle.spool_types.specs.declared.rows.QueueRow.{QueueRow}
use Rattle.job_table.specs.QueuePositions.{IsNameAt, IsNameGap}
use Rattle.job_table.specs.TableRows.{queue_entry}
use Rattle.job_table.proofs.Choice.{passing}
use Rattle.job_table.proofs.Rows as rows
use Rattle.job_table.proofs.Tables.{IsQueuePlace, IsQueueGap, queues_of, keys_queues, get_no_queue, insert_queue, sorted_insert_queue}

pub if_ok_weaker : {X Y : Type 0} {P Q : X → Type 0} (r : Result X Y) → ((x : X) → P x → Q x) → IfOk r P → IfOk r Q
if_ok_weaker (Ok x) weaker holds = weaker x holds
if_ok_weaker (Err y) weaker holds = tt

pub if_err_weaker : {X Y : Type 0} {P Q : Y → Type 0} (r : Result X Y) → ((y : Y) → P y → Q y) → IfErr r P → IfErr r Q
if_err_weaker (Ok x) weaker holds = tt
if_err_weaker (Err y) weaker holds = weaker y holds

some_row : (ys : List QueueRow) (i : ℕ) → i < length ys → QueueRow
some_row [] i lt = absurd (omega (arith, lt))
some_row (y ∷ ys) i lt = y

names_insert : (ys : List QueueRow) (i : ℕ) (y : QueueRow) → i ≤ length ys → map (λ r. r.name) (insert ys i y) ≡ insert (map (λ r. r.name) ys) i y.name
names_insert ys zero y le = refl
names_insert [] (suc i) y le = absurd (omega (arith, le))
names_insert (z ∷ ys) (suc i) y le = ap (λ ns. z.name ∷ ns) (names_insert ys i y (omega (arith, le)))

module _ (ys : List QueueRow) (h : IsTrue (finite.is_sorted (slice_cmp nat_cmp) (map queue_entry ys))) where
  abbrev names : List (List ℕ)
  names = finite.keys (queues_of ys)

  len_names : length names ≡ length ys
  len_names = ap length (keys_queues ys h) ∙ length-map ys (λ (r : QueueRow). r.name)

  get_name : (i : ℕ) (d : QueueRow) → i < length ys → get_or names i [] ≡ (get_or ys i d).name
  get_name i d lt = ap (λ ks. get_or ks i []) (keys_queues ys h) ∙ get_or-map (λ (r : QueueRow). r.name) ys i d [] lt

  -- A name occurs only once.
  apart : (i j : ℕ) (d : QueueRow) → i < j → j < length ys → (get_or ys i d).name ≡ (get_or ys j d).name → ⊥
  apart i j d lt within same =
      let less : slice_cmp nat_cmp (get_or ys i d).name (get_or ys j d).name ≡ Less = rows.rise (slice_cmp nat_cmp) nat_list_cmp_total (λ r. r.name) (λ r. r) ys (rows.t_from _ h) i j d lt within in
      let equal : slice_cmp nat_cmp (get_or ys i d).name (get_or ys j d).name ≡ Equal = ap (slice_cmp nat_cmp (get_or ys i d).name) (sym same) ∙ tied_itself nat_list_cmp_total (get_or ys i d).name in
      let no : Less ≡ Equal = sym less ∙ equal in
      absurd (cc)

  pub name_place : (name : List ℕ) (i : ℕ) → IsQueuePlace ys name i → IsNameAt names name i
  name_place name i at =
      let d = some_row ys i at.in_range in
      let own : (get_or ys i d).name ≡ name = tells_apart exact_bytes (get_or ys i d).name name (ap is_eq (at.same d)) in
      record {
        in_range = subst (λ n. i < n) (sym len_names) at.in_range;
        own = get_name i d at.in_range ∙ own;
        only = λ j lt same.
            let within : j < length ys = subst (λ n. j < n) len_names lt in
            let same_names : (get_or ys j d).name ≡ (get_or ys i d).name = sym (get_name j d within) ∙ same ∙ sym own in
            elim (cases_lt j i) [
              | inl below ↦ absurd (apart j i d below at.in_range same_names)
              | inr above ↦ elim (cases_lt i j) [
                | inl below ↦ absurd (apart i j d below within (sym same_names))
                | inr above_too ↦ omega (arith, above, above_too)
              ]
            ];
      }

  pub name_gap : (name : List ℕ) (i : ℕ) → IsQueueGap ys name i → IsNameGap (queues_of ys) name i
  name_gap name i gap = record {
    in_range = subst (λ n. i ≤ n) (sym len_names) gap.in_range;
    absent = get_no_queue ys h name i gap;
    goes = λ q is. subst (λ n. finite.keys (finite.insert (queues_of ys) n q) ≡ insert names i n) is
        (let own : IsQueueGap ys q.name i = subst (λ n. IsQueueGap ys n i) (sym is) gap in
        ap finite.keys (sym (insert_queue ys h q i own))
        ∙ keys_queues (insert ys i q) (sorted_insert_queue ys h q i own)
        ∙ names_insert ys i q gap.in_range
        ∙ ap (λ ns. insert ns i q.name) (sym (keys_queues ys h)));
  }

-- ## The names of the existing queues

pub name_there : (s : State) (name : List ℕ) → is_some (queue_at s name) ≡ true → Contains (finite.keys s.queues) name
name_there s name there =
    let some = passing (eq_by_cmp (slice_cmp nat_cmp) name) (finite.keys s.queues) (sym (finite.contains_key-keys s.queues name) ∙ there) in
    subst (Contains (finite.keys s.queues)) (sym (tells_apart exact_bytes name some.0 some.2)) some.1

pub there_name : (s : State) (name : List ℕ) (at : ℕ) → IsNameAt (finite.keys s.queues) name at → is_some (queue_at s name) ≡ true
there_name s name at place =
    finite.contains_key-keys s.queues name
    ∙ list_any_at (eq_by_cmp (slice_cmp nat_cmp) name) (finite.keys s.queues) at [] place.in_range
    (ap (eq_by_cmp (slice_cmp nat_cmp) name) place.own ∙ ap is_eq (tied_itself nat_list_cmp_total name))
