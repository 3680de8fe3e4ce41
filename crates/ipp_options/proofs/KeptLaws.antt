-- Each step keeps the hold that was asked for, never takes back a refusal, and adds no option with a control character.
use Rattle.std.proofs.Common.{◌≡◌, ◌⊎◌, ℕ, Bool, true, false, ◌||◌, ◌&&◌, not, cond, ◌==◌, List, [], ◌∷◌, codes, Option, None, Some, refl, ap, sym, subst, ◌∙◌, inl, inr, arith}
use Rattle.std.specs.List.{AllByRecursion, list_all, list_any}
use Rattle.std.specs.Cmp.Lexicographic.{bytes_decides}
use Rattle.std.proofs.lemmas.Bool.{true≢false, eqb-true, and_parts}
use denote.Ref.{Bor}
use Rattle.ipp_values.specs.declared.message.Attribute.{Attribute}
use Rattle.ipp_printers.specs.declared.property.Property.{Property}
use Rattle.std.specs.Option.{option_and_then}
use Rattle.ipp_printers.specs.PrinterFacts as facts
use Rattle.ipp_printers.specs.PrinterFacts.{property_of}
use Rattle.ipp_printers.specs.declared.kind.PropertyKind.TheVariants as kinds
use Rattle.ipp_options.specs.AttributeWords.{same, integer_in}
use Rattle.ipp_options.specs.PaperValues.{size_in, are_honored}
use Rattle.ipp_options.specs.HoldValues.{hold_in, hold_time_in, is_free, same_hold}
use Rattle.ipp_options.specs.OptionValues.{name_of, choice_named, choice_value, is_passed, is_reserved, other_value}
use Rattle.ipp_options.specs.JobSettings.{ranged, with_unknown, with_refused, with_copies, with_priority, with_asked, with_hold, absent_names, must_be_none, are_none, with_none, with_bad, with_value, no_settings, settings_of, with_option, with_size, with_media_col, with_passed, with_other, with_choice, with_attribute, with_all}
use Rattle.ipp_options.specs.KeptHolds.{IsAsked, IsKept}
use Rattle.ipp_options.specs.declared.hold.Hold.{Hold}
use Rattle.ipp_options.specs.declared.hold.Hold.TheVariants.{Free, Indefinite, Until}
use Rattle.ipp_options.specs.declared.choice.Choice.{Choice}
use Rattle.ipp_options.specs.declared.choice.Choice.TheVariants.{Media, Sides, NumberUp, Orientation, PageRanges, Quality, ColorMode, Scaling, Resolution, OutputBin, Finishings, Handling}
use Rattle.spool_types.specs.Values.{is_plain}
use Rattle.filter_args.specs.Pairs.{Pair, is_option_name, put}
use Rattle.ipp_options.proofs.PlainLaws.{ArePlain, put_plain}
use Rattle.ipp_options.specs.declared.settings.Settings.{Settings}

-- A refusal stays, a hold stays once there is one, and options have no control characters.
record Step (s t : Settings) : Type 0 where
  pub stays : t.refused ≡ false → s.refused ≡ false
  pub grows : (s.hold ≡ Free) ⊎ (t.hold ≡ s.hold)
  pub plain : ArePlain s.options → ArePlain t.options

same_options : (s t : Settings) → t.options ≡ s.options → ArePlain s.options → ArePlain t.options
same_options s t o all = subst (λ (ps : List Pair). ArePlain ps) (sym o) all

idle : (s t : Settings) → t.refused ≡ s.refused → t.hold ≡ s.hold → t.options ≡ s.options → Step s t
idle s t r h o = record { stays = λ e. sym r ∙ e; grows = inr h; plain = same_options s t o }

halts : (s t : Settings) → t.refused ≡ true → t.hold ≡ s.hold → t.options ≡ s.options → Step s t
halts s t r h o = record { stays = λ e. absurd (true≢false (sym r ∙ e)); grows = inr h; plain = same_options s t o }

joined : {s t u : Settings} → Step s t → Step t u → Step s u
joined {s} {t} {u} a b = record { stays = λ e. a.stays (b.stays e); grows = join a.grows b.grows; plain = λ all. b.plain (a.plain all) }
  where
    join : (s.hold ≡ Free) ⊎ (t.hold ≡ s.hold) → (t.hold ≡ Free) ⊎ (u.hold ≡ t.hold) → (s.hold ≡ Free) ⊎ (u.hold ≡ s.hold)
    join (inl e) k = inl e
    join (inr e) (inl k) = inl (sym e ∙ k)
    join (inr e) (inr k) = inr (k ∙ e)

free_from : (h : Hold) → is_free h ≡ true → h ≡ Free
free_from Free e = refl
free_from Indefinite e = absurd (cc)
free_from (Until m) e = absurd (cc)

step_cond : (s x y : Settings) (v : Bool) → Step s x → Step s y → Step s (cond v x y)
step_cond s x y true a b = a
step_cond s x y false a b = b

name_valid : (choice : Choice) → is_option_name (name_of choice) ≡ true
name_valid Media = refl
name_valid Sides = refl
name_valid NumberUp = refl
name_valid Orientation = refl
name_valid PageRanges = refl
name_valid Quality = refl
name_valid ColorMode = refl
name_valid Scaling = refl
name_valid Resolution = refl
name_valid OutputBin = refl
name_valid Finishings = refl
name_valid Handling = refl

module _ (s : Settings) (a : Bor Attribute) where
  step_copies : (n : Option ℕ) → Step s (with_copies s a n)
  step_copies None = idle s (with_copies s a None) refl refl refl
  step_copies (Some n) = idle s (with_copies s a (Some n)) refl refl refl

  step_priority : (n : Option ℕ) → Step s (with_priority s a n)
  step_priority None = idle s (with_priority s a None) refl refl refl
  step_priority (Some n) = idle s (with_priority s a (Some n)) refl refl refl

  step_asked : (h : Hold) → Step s (with_asked s a h)
  step_asked h =
      step_cond s s (cond (is_free s.hold) (record s { hold = h }) (with_refused s a)) (is_free h || same_hold h s.hold) (idle s s refl refl refl) (by (is_free s.hold) refl)
    where
      by : (v : Bool) → is_free s.hold ≡ v → Step s (cond v (record s { hold = h }) (with_refused s a))
      by true e = record { stays = λ k. k; grows = inl (free_from s.hold e); plain = λ all. all }
      by false e = halts s (with_refused s a) refl refl refl

  step_hold : (o : Option Hold) → Step s (with_hold s a o)
  step_hold None = halts s (with_refused s a) refl refl refl
  step_hold (Some h) = step_asked h

  step_none : Step s (with_none s a)
  step_none = step_cond s s (with_refused s a) (are_none a.now.values) (idle s s refl refl refl) (halts s (with_refused s a) refl refl refl)

  step_value : (name value : List ℕ) (t : Settings) → is_option_name name ≡ true → Step s t → Step s (with_value s name value t)
  step_value name value t valid other = by (list_all is_plain value) refl
    where
      by : (v : Bool) → list_all is_plain value ≡ v → Step s (cond v (record s { options = put s.options (name, value) }) t)
      by true e = record { stays = λ k. k; grows = inr refl; plain = λ all. put_plain s.options (name, value) all (valid, e) }
      by false e = other

  step_option : (name : List ℕ) → is_option_name name ≡ true → (o : Option (List ℕ)) → Step s (with_option s a name o)
  step_option name valid None = idle s (with_option s a name None) refl refl refl
  step_option name valid (Some value) = step_value name value (with_bad s a) valid (idle s (with_bad s a) refl refl refl)

  step_size : (honored : Bool) (o : Option (List ℕ)) → Step s (with_size s a honored o)
  step_size honored None = idle s (with_size s a honored None) refl refl refl
  step_size true (Some size) = step_option (codes "media") refl (Some size)
  step_size false (Some size) =
      let sized = with_option s a (codes "media") (Some size) in
      joined (step_option (codes "media") refl (Some size)) (idle sized (with_bad sized a) refl refl refl)

  step_passed : is_option_name a.now.name ≡ true → (o : Option (List ℕ)) → Step s (with_passed s a o)
  step_passed valid None = idle s (with_passed s a None) refl refl refl
  step_passed valid (Some value) = step_value a.now.name value (with_unknown s a) valid (idle s (with_unknown s a) refl refl refl)

  step_other : (fidelity : Bool) → Step s (with_other fidelity s a)
  step_other true = idle s (with_unknown s a) refl refl refl
  step_other false = by (is_passed a.now.name) refl
    where
      by : (v : Bool) → is_passed a.now.name ≡ v → Step s (cond v (with_passed s a (other_value a.now.values)) (with_unknown s a))
      by true e = step_passed (and_parts (is_option_name a.now.name) (not (is_reserved a.now.name)) e).0 (other_value a.now.values)
      by false e = idle s (with_unknown s a) refl refl refl

  step_choice : (printer : List Property) (fidelity : Bool) (o : Option Choice) → Step s (with_choice printer fidelity s a o)
  step_choice printer fidelity None = step_other fidelity
  step_choice printer fidelity (Some choice) = step_option (name_of choice) (name_valid choice) (choice_value printer choice a.now.values)

module _ (printer : List Property) (fidelity : Bool) (now : ℕ) (s : Settings) (a : Bor Attribute) where
  -- The settings after the tests of the names that precede a name.
  abbrev after_media_col : List ℕ → Settings
  after_media_col name = with_choice printer fidelity s a (choice_named name)

  abbrev after_none : List ℕ → Settings
  after_none name = cond (same name (codes "media-col")) (with_media_col printer s a) (after_media_col name)

  abbrev after_time : List ℕ → Settings
  after_time name = cond (must_be_none name) (with_none s a) (after_none name)

  abbrev after_word : List ℕ → Settings
  after_word name = cond (same name (codes "job-hold-until-time")) (with_hold s a (hold_time_in a.now.values)) (after_time name)

  abbrev after_priority : List ℕ → Settings
  after_priority name = cond (same name (codes "job-hold-until")) (with_hold s a (hold_in now a.now.values)) (after_word name)

  abbrev asked_priority : Option ℕ
  asked_priority = option_and_then (ranged 1 100) (integer_in a.now.values)

  abbrev after_copies : List ℕ → Settings
  after_copies name = cond (same name (codes "job-priority")) (with_priority s a asked_priority) (after_priority name)

  abbrev asked_copies : Option ℕ
  asked_copies = option_and_then (ranged 1 9999) (integer_in a.now.values)

  abbrev by_name : List ℕ → Settings
  by_name name = cond (same name (codes "copies")) (with_copies s a asked_copies) (after_copies name)

  step_media_col : Step s (with_media_col printer s a)
  step_media_col = step_size s a (are_honored a.now.values) (size_in (facts.media_of (property_of kinds.Media printer)) a.now.values)

  step : Step s (with_attribute printer fidelity now s a)
  step =
      let name : List ℕ = a.now.name in
      step_cond s (with_copies s a asked_copies) (after_copies name) (same name (codes "copies")) (step_copies s a asked_copies)
      (step_cond s (with_priority s a asked_priority) (after_priority name) (same name (codes "job-priority")) (step_priority s a asked_priority)
      (step_cond s (with_hold s a (hold_in now a.now.values)) (after_word name) (same name (codes "job-hold-until")) (step_hold s a (hold_in now a.now.values))
      (step_cond s (with_hold s a (hold_time_in a.now.values)) (after_time name) (same name (codes "job-hold-until-time")) (step_hold s a (hold_time_in a.now.values))
      (step_cond s (with_none s a) (after_none name) (must_be_none name) (step_none s a)
      (step_cond s (with_media_col printer s a) (after_media_col name) (same name (codes "media-col")) step_media_col
      (step_choice s a printer fidelity (choice_named name)))))))

  -- ## The step of an attribute of a hold or of a banner

  at_word : a.now.name ≡ codes "job-hold-until" → with_attribute printer fidelity now s a ≡ with_hold s a (hold_in now a.now.values)
  at_word e = ap by_name e

  at_time : a.now.name ≡ codes "job-hold-until-time" → with_attribute printer fidelity now s a ≡ with_hold s a (hold_time_in a.now.values)
  at_time e = ap by_name e

  -- A name of which only `none` is supported is none of the names before it.
  abbrev IsThere : List ℕ → Type 0
  IsThere name = by_name name ≡ with_none s a

  at_each : (names : List (List ℕ)) → AllByRecursion IsThere names → list_any (same a.now.name) names ≡ true → with_attribute printer fidelity now s a ≡ with_none s a
  at_each [] all e = absurd (true≢false (sym e))
  at_each (name ∷ names) all e = by (same a.now.name name) refl e (λ k. at_each names all.1 k)
    where
      by : (v : Bool) → same a.now.name name ≡ v → (v || list_any (same a.now.name) names) ≡ true
          → (list_any (same a.now.name) names ≡ true → with_attribute printer fidelity now s a ≡ with_none s a) → with_attribute printer fidelity now s a ≡ with_none s a
      by true h k more = ap by_name ((bytes_decides a.now.name name).0 h) ∙ all.0
      by false h k more = more k

  at_none : must_be_none a.now.name ≡ true → with_attribute printer fidelity now s a ≡ with_none s a
  at_none e = at_each absent_names (refl, (refl, (refl, (refl, (refl, (refl, (refl, (refl, tt)))))))) e

module _ (printer : List Property) (fidelity : Bool) (now : ℕ) where
  steps : (s : Settings) (list : List (Bor Attribute)) → Step s (with_all printer fidelity now s list)
  steps s [] = idle s s refl refl refl
  steps s (a ∷ list) = joined (step printer fidelity now s a) (steps (with_attribute printer fidelity now s a) list)

  -- No option has a control character.
  pub plain : (list : List (Bor Attribute)) → ArePlain (settings_of printer fidelity now list).options
  plain list = (steps no_settings list).plain tt

asked_same : (h k : Hold) → same_hold h k ≡ true → h ≡ k
asked_same Free Free e = refl
asked_same Free Indefinite e = absurd (cc)
asked_same Free (Until n) e = absurd (cc)
asked_same Indefinite Free e = absurd (cc)
asked_same Indefinite Indefinite e = refl
asked_same Indefinite (Until n) e = absurd (cc)
asked_same (Until m) Free e = absurd (cc)
asked_same (Until m) Indefinite e = absurd (cc)
asked_same (Until m) (Until n) e = ap (λ x. Until x) (eqb-true m n e)

-- A hold that is not refused was asked for, or there was none.
asked_of : (s : Settings) (a : Bor Attribute) (o : Option Hold) → (with_hold s a o).refused ≡ false → IsAsked o (with_hold s a o).hold
asked_of s a None e = absurd (true≢false e)
asked_of s a (Some h) e = by (is_free h) refl (same_hold h s.hold) refl (is_free s.hold) e
  where
    by : (v : Bool) → is_free h ≡ v → (w : Bool) → same_hold h s.hold ≡ w → (x : Bool)
        → (cond (v || w) s (cond x (record s { hold = h }) (with_refused s a))).refused ≡ false
        → IsAsked (Some h) (cond (v || w) s (cond x (record s { hold = h }) (with_refused s a))).hold
    by true f w k x e = inl (ap (λ y. Some y) (free_from h f))
    by false f true k x e = inr (ap (λ y. Some y) (asked_same h s.hold k))
    by false f false k true e = inr refl
    by false f false k false e = absurd (true≢false e)

none_of : (s : Settings) (a : Bor Attribute) → (with_none s a).refused ≡ false → are_none a.now.values ≡ true
none_of s a e = by (are_none a.now.values) e
  where
    by : (v : Bool) → (cond v s (with_refused s a)).refused ≡ false → v ≡ true
    by true e = refl
    by false e = absurd (true≢false e)

later : (o : Option Hold) (s t : Settings) → IsAsked o s.hold → (s.hold ≡ Free) ⊎ (t.hold ≡ s.hold) → IsAsked o t.hold
later o s t (inl e) g = inl e
later o s t (inr e) (inl f) = inl (e ∙ ap (λ h. Some h) f)
later o s t (inr e) (inr g) = inr (e ∙ ap (λ h. Some h) (sym g))

module _ (printer : List Property) (fidelity : Bool) (now : ℕ) where
  carry : (s : Settings) (a : Bor Attribute) (list : List (Bor Attribute)) (o : Option Hold)
      → (with_all printer fidelity now s (a ∷ list)).refused ≡ false → with_attribute printer fidelity now s a ≡ with_hold s a o
      → IsAsked o (with_all printer fidelity now s (a ∷ list)).hold
  carry s a list o e same_step =
      let next = with_attribute printer fidelity now s a in
      let rest = steps printer fidelity now next list in
      let here : IsAsked o (with_hold s a o).hold = asked_of s a o (ap (λ (t : Settings). t.refused) (sym same_step) ∙ rest.stays e) in
      later o next (with_all printer fidelity now next list) (subst (λ (t : Settings). IsAsked o t.hold) (sym same_step) here) rest.grows

  -- The settings of a request that is not refused have the hold that each attribute asks for.
  pub kept : (s : Settings) (list : List (Bor Attribute)) → (with_all printer fidelity now s list).refused ≡ false
      → AllByRecursion (IsKept now (with_all printer fidelity now s list).hold) list
  kept s [] e = tt
  kept s (a ∷ list) e =
      let next = with_attribute printer fidelity now s a in (
        record {
          word = λ n. carry s a list (hold_in now a.now.values) e (at_word printer fidelity now s a n);
          time = λ n. carry s a list (hold_time_in a.now.values) e (at_time printer fidelity now s a n);
          banner = λ n. none_of s a (ap (λ (t : Settings). t.refused) (sym (at_none printer fidelity now s a n)) ∙ (steps printer fidelity now next list).stays e);
        },
        kept next list e,
      )
