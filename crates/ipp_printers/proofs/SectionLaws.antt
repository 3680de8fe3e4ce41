-- Sections that grow by lines.
use Rattle.std.proofs.Common.{◌≡◌, ℕ, zero, suc, Bool, true, false, ◌||◌, cond, List, [], ◌∷◌, ◌++◌, length, get_or, Option, None, Some, is_some, option_map, refl, ap, ◌∙◌, arith, Bor}
use Rattle.std.specs.Prelude.{slice_set}
use Rattle.std.specs.List.{list_any, find}
use Rattle.ipp_printers.specs.MediaNames.{same}
use Rattle.ipp_printers.specs.PrinterSections as part
use Rattle.ipp_printers.specs.PrinterSections.{Sections, sections_of, is_named, last_of, onto_section, onto_last, with_line}
use Rattle.ipp_printers.specs.PrinterFacts.{section_named}
use Rattle.ipp_printers.specs.SectionFields.{part_of, parts_of, properties_of}
use Rattle.ipp_printers.specs.declared.list.Section.{Section}
use Rattle.ipp_printers.specs.declared.property.Property as properties
use Rattle.ipp_printers.specs.declared.line.Line.{Line}
use Rattle.ipp_printers.specs.declared.line.Line.TheVariants.{Blank, Queue, Property, Invalid}

-- ## A further line

after_property : (q : properties.Property) (all : List properties.Property) (sections : List part.Section) (line : Line)
    → (q ∷ (with_line (all, sections) line).0, (with_line (all, sections) line).1) ≡ with_line (q ∷ all, sections) line
after_property q all sections Blank = refl
after_property q all sections (Invalid fault) = refl
after_property q all sections (Queue name) = refl
after_property q all [] (Property p) = refl
after_property q all (section ∷ sections) (Property p) = refl

after_queue : (name : List ℕ) (all : List properties.Property) (sections : List part.Section) (line : Line)
    → ([], (name, (with_line (all, sections) line).0) ∷ (with_line (all, sections) line).1) ≡ with_line ([], (name, all) ∷ sections) line
after_queue name all sections Blank = refl
after_queue name all sections (Invalid fault) = refl
after_queue name all sections (Queue other) = refl
after_queue name all [] (Property p) = refl
after_queue name all (section ∷ sections) (Property p) = refl

first_line : (line : Line) → sections_of (line ∷ []) ≡ with_line ([], []) line
first_line Blank = refl
first_line (Invalid fault) = refl
first_line (Queue name) = refl
first_line (Property p) = refl

-- A further line comes after the others.
pub sections_push : (lines : List Line) (line : Line) → sections_of (lines ++ line ∷ []) ≡ with_line (sections_of lines) line
sections_push [] line = first_line line
sections_push (Blank ∷ lines) line = sections_push lines line
sections_push (Invalid fault ∷ lines) line = sections_push lines line
sections_push (Property q ∷ lines) line =
    ap (λ (s : Sections). (q ∷ s.0, s.1)) (sections_push lines line) ∙ after_property q (sections_of lines).0 (sections_of lines).1 line
sections_push (Queue name ∷ lines) line =
    ap (λ (s : Sections). ([], (name, s.0) ∷ s.1)) (sections_push lines line) ∙ after_queue name (sections_of lines).0 (sections_of lines).1 line

-- ## The sections in memory

-- A section was found if the queue has one.
pub section_any : (name : List ℕ) (sections : List Section) → is_some (find (λ section. same section.queue name) sections) ≡ list_any (is_named name) (parts_of sections)
section_any name [] = refl
section_any name (x ∷ xs) =
    elim (same x.queue name) as (λ v. is_some (cond v (Some x) (find (λ section. same section.queue name) xs)) ≡ (v || list_any (is_named name) (parts_of xs))) [
      | true ↦ refl
      | false ↦ section_any name xs
    ]

pub section_found : (name : List ℕ) (sections : List Section) → properties_of (find (λ section. same section.queue name) sections) ≡ section_named name (parts_of sections)
section_found name [] = refl
section_found name (x ∷ xs) =
    elim (same x.queue name) as (λ v. properties_of (cond v (Some x) (find (λ section. same section.queue name) xs)) ≡ cond v x.properties.items (section_named name (parts_of xs))) [
      | true ↦ refl
      | false ↦ section_found name xs
    ]

pub any_found : {A : Type 0} (test : A → Bool) (xs : List A) → is_some (find test xs) ≡ list_any test xs
any_found test [] = refl
any_found test (x ∷ xs) =
    elim (test x) as (λ v. is_some (cond v (Some x) (find test xs)) ≡ (v || list_any test xs)) [
      | true ↦ refl
      | false ↦ any_found test xs
    ]

pub some_now : {A : Type 0} (o : Option (Bor A)) → is_some o ≡ is_some (option_map (λ x. x.now) o)
some_now None = refl
some_now (Some x) = refl

pub find_first : {A : Type 0} (test : A → Bool) (xs ys : List A) (x : A) → Some x ≡ find test xs → Some x ≡ find test (xs ++ ys)
find_first test [] ys x h = absurd (cc)
find_first test (y ∷ xs) ys x h = by (test y) h (find_first test xs ys x)
  where
    by : (v : Bool) → Some x ≡ cond v (Some y) (find test xs) → (Some x ≡ find test xs → Some x ≡ find test (xs ++ ys)) → Some x ≡ cond v (Some y) (find test (xs ++ ys))
    by true e more = e
    by false e more = more e

pub find_rest : {A : Type 0} (test : A → Bool) (xs ys : List A) → None ≡ find test xs → find test ys ≡ find test (xs ++ ys)
find_rest test [] ys h = refl
find_rest test (y ∷ xs) ys h = by (test y) h (find_rest test xs ys)
  where
    by : (v : Bool) → None ≡ cond v (Some y) (find test xs) → (None ≡ find test xs → find test ys ≡ find test (xs ++ ys)) → find test ys ≡ cond v (Some y) (find test (xs ++ ys))
    by true e more = absurd (cc)
    by false e more = more e

-- The last section.
pub last_at : (all : List properties.Property) (list : List Section) (d : Section) (i : ℕ) → suc i ≡ length list
    → (get_or list i d).properties.items ≡ last_of all (parts_of list)
last_at all [] d i e = absurd (omega (arith, e))
last_at all (q ∷ []) d zero e = refl
last_at all (q ∷ []) d (suc i) e = absurd (omega (arith, e))
last_at all (q ∷ r ∷ rs) d zero e = absurd (omega (arith, e))
last_at all (q ∷ r ∷ rs) d (suc i) e = last_at q.properties.items (r ∷ rs) d i (omega (arith, e))

-- A further property of the last section.
pub last_set : (all : List properties.Property) (p : properties.Property) (list : List Section) (d new : Section) (i : ℕ) → suc i ≡ length list
    → new.queue ≡ (get_or list i d).queue → new.properties.items ≡ (get_or list i d).properties.items ++ p ∷ []
    → (all, parts_of (slice_set list i new)) ≡ onto_last p all (parts_of list)
last_set all p [] d new i e named pushed = absurd (omega (arith, e))
last_set all p (q ∷ []) d new zero e named pushed = ap (λ x. (all, (x, new.properties.items) ∷ [])) named ∙ ap (λ x. (all, (q.queue, x) ∷ [])) pushed
last_set all p (q ∷ []) d new (suc i) e named pushed = absurd (omega (arith, e))
last_set all p (q ∷ r ∷ rs) d new zero e named pushed = absurd (omega (arith, e))
last_set all p (q ∷ r ∷ rs) d new (suc i) e named pushed =
    ap (λ (s : Sections). (all, part_of q ∷ s.1)) (last_set all p (r ∷ rs) d new i (omega (arith, e)) named pushed)
