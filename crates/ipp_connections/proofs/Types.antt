-- Requests that are meant for this machine.
use Rattle.std.proofs.Common.{◌≡◌, ◌⊎◌, inl, inr, ℕ, Bool, true, List, [], codes, subst, sym, ◌∙◌, ap}
use Rattle.http_requests.specs.HttpRoutes.{is_ipp_type, is_own_host}
use Rattle.httparse.specs.declared.spans.HeaderSpan.{HeaderSpan}
use Rattle.ipp_access.specs.declared.Place.{Place}
use Rattle.ipp_connections.specs.HeadParts.{IsOwn, field, is_local}

no_type : (bytes : List ℕ) → is_ipp_type [] ≡ true → is_ipp_type bytes ≡ true
no_type bytes h = cc

-- A text that is empty if the bytes are none has the type of IPP only if the bytes have.
of_ipp : (text bytes : List ℕ) → (text ≡ bytes) ⊎ (text ≡ []) → is_ipp_type text ≡ true → is_ipp_type bytes ≡ true
of_ipp text bytes (inl e) h = subst (λ (l : List ℕ). is_ipp_type l ≡ true) e h
of_ipp text bytes (inr e) h = no_type bytes (subst (λ (l : List ℕ). is_ipp_type l ≡ true) e h)

own_host : (names : List (List ℕ)) (place : Place) (local : Bool) (host there : List ℕ) → local ≡ is_local place → host ≡ there
    → (local ≡ true) ⊎ (is_own_host names host ≡ true) → (is_local place ≡ true) ⊎ (is_own_host names there ≡ true)
own_host names place local host there l h (inl is) = inl (sym l ∙ is)
own_host names place local host there l h (inr is) = inr (sym (ap (λ (x : List ℕ). is_own_host names x) h) ∙ is)

-- The input is the slice that was read.
pub is_own : (names : List (List ℕ)) (place : Place) (input read : List ℕ) (fields : List HeaderSpan) (local : Bool) (host media text : List ℕ)
    → read ≡ input → local ≡ is_local place → host ≡ field read fields (codes "host") → media ≡ field read fields (codes "content-type")
    → (text ≡ media) ⊎ (text ≡ [])
    → (local ≡ true) ⊎ (is_own_host names host ≡ true) → is_ipp_type text ≡ true → IsOwn names place input fields
is_own names place input read fields local host media text e l h m t own type = record {
  host = own_host names place local host (field input fields (codes "host")) l (h ∙ ap (λ (i : List ℕ). field i fields (codes "host")) e) own;
  media = subst (λ (x : List ℕ). is_ipp_type x ≡ true) (m ∙ ap (λ (i : List ℕ). field i fields (codes "content-type")) e) (of_ipp text media t type);
}
