-- Entries of the index of tokens.
use Rattle.std.proofs.Common.{◌≡◌, ℕ, Bool, true, false, ◌&&◌, cond, List, [], ◌∷◌, ◌++◌, Option, None, Some, refl, sym, ap, subst, ◌∙◌}
use Rattle.std.proofs.lemmas.Str.{IsUtf8-from_is_utf8, is_utf8-from_IsUtf8}
use Rattle.std.specs.Prelude.{is_some, nat_eq}
use Rattle.std.specs.BTreeMap.{get}
use Rattle.std.specs.Cmp.Lexicographic.{bytes_decides, pointwise, slice_cmp, texts_ties}
use Rattle.std.specs.Ordering.{is_eq, nat_cmp}
use Rattle.std.specs.Str.{IsUtf8, is_utf8}
use Rattle.spool_types.specs.State.{Job}
use Rattle.spool_types.specs.Values.{text_in}
use Rattle.service_texts.specs.SubmissionTokens.{HasSame, IsPut, all_noted_for, entry_for, is_job, is_token, job_in, is_some_text, left_for, noted_for, token_of}
use Rattle.service_texts.specs.declared.tokens.Tokens.{Tokens}

-- The entries after this key was given another value, or was removed.
abbrev pub IsUpdate : Tokens → List ℕ → Option (Option ℕ) → Tokens → Type 0
IsUpdate old key value new = (q : List ℕ) → get (slice_cmp nat_cmp) new.jobs q ≡ cond (is_eq (slice_cmp nat_cmp key q)) value (get (slice_cmp nat_cmp) old.jobs q)

chosen : (b : Bool) (x y : Option (Option ℕ)) → job_in (cond b x y) ≡ cond b (job_in x) (job_in y)
chosen true x y = refl
chosen false x y = refl

pub put_from : (old new : Tokens) (key : List ℕ) (value : Option (Option ℕ)) → IsUpdate old key value new → IsPut old key (job_in value) new
put_from old new key value update token =
    ap job_in (update token)
    ∙ ap (λ b. job_in (cond b value (get (slice_cmp nat_cmp) old.jobs token))) (sym (texts_ties key token))
    ∙ chosen (pointwise nat_eq key token) value (get (slice_cmp nat_cmp) old.jobs token)

-- A token without a place has no job.
pub no_place : (o : Option (Option ℕ)) → is_some o ≡ false → job_in o ≡ None
no_place None none = refl
no_place (Some job) none = absurd (cc)

-- A place without a job was made or removed.
pub put_same : (old new : Tokens) (key : List ℕ) → entry_for old key ≡ None → IsPut old key None new → HasSame old new
put_same old new key none put token = put token ∙ by_test (pointwise nat_eq key token) refl
  where
    by_test : (b : Bool) → pointwise nat_eq key token ≡ b → cond b None (entry_for old token) ≡ entry_for old token
    by_test true same = sym none ∙ ap (entry_for old) ((bytes_decides key token).0 same)
    by_test false other = refl

pub noted : (old new : Tokens) (key : List ℕ) (r : Job) → token_of r.options ≡ Some key → IsPut old key (Some r.id) new → (token : List ℕ) → entry_for new token ≡ noted_for token (entry_for old token) r
noted old new key r is put token = put token ∙ sym (ap (λ o. cond (is_some_text o token) (Some r.id) (entry_for old token)) is)

-- One more job was noted.
pub noted_last : (token : List ℕ) (entry : Option ℕ) (rows : List Job) (r : Job) → all_noted_for token entry (rows ++ r ∷ []) ≡ noted_for token (all_noted_for token entry rows) r
noted_last token entry [] r = refl
noted_last token entry (q ∷ rows) r = noted_last token (noted_for token entry q) rows r

pub forgot : (old new : Tokens) (key : List ℕ) (job : ℕ) → is_job (entry_for old key) job ≡ true → IsPut old key None new → (token : List ℕ) → entry_for new token ≡ left_for token (entry_for old token) key job
forgot old new key job is put token = put token ∙ by_test (pointwise nat_eq key token) refl
  where
    by_test : (b : Bool) → pointwise nat_eq key token ≡ b → cond b None (entry_for old token) ≡ cond (b && is_job (entry_for old token) job) None (entry_for old token)
    by_test true same = ap (λ v. cond v None (entry_for old token)) (sym (subst (λ (k : List ℕ). is_job (entry_for old k) job ≡ true) ((bytes_decides key token).0 same) is))
    by_test false other = refl

-- ## Bytes that are a token or not

utf8_false : (bytes : List ℕ) → (IsUtf8 bytes → ⊥) → is_utf8 bytes ≡ false
utf8_false bytes not =
    (elim (is_utf8 bytes) as (λ v. is_utf8 bytes ≡ v → v ≡ false) [ true ↦ λ h. absurd (not (IsUtf8-from_is_utf8 bytes h)) | false ↦ λ h. refl ]) refl

pub no_token : (bytes : List ℕ) → (IsUtf8 bytes → ⊥) → None ≡ text_in is_token bytes
no_token bytes not = sym (ap (λ v. cond (v && is_token bytes) (Some bytes) None) (utf8_false bytes not))

pub some_token : (bytes text : List ℕ) → (text ≡ bytes) × IsUtf8 bytes → is_token text ≡ true → Some text ≡ text_in is_token bytes
some_token bytes text (read, utf8) is =
    let ok : is_token bytes ≡ true = ap is_token (sym read) ∙ is in
    ap Some read
    ∙ sym (ap (λ v. cond (v && is_token bytes) (Some bytes) None) (is_utf8-from_IsUtf8 bytes utf8) ∙ ap (λ v. cond v (Some bytes) None) ok)
