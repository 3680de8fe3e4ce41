-- Laws of the images of a device, which prove the laws of the disk.
use Rattle.std.proofs.Common.{◌≡◌, ◌⊎◌, ℕ, zero, suc, ◌≤◌, List, [], ◌∷◌, ◌++◌, length, refl, subst, inl, inr, arith, Some}
use Rattle.std.specs.Prelude.{slice_get}
use Rattle.std.proofs.lemmas.Option.{slice_get_within}
use Rattle.spool_disk.specs.Images.{Device, IsImage, IsImageSince}

-- The bytes that a read returns are an image.
pub what_is_read : (device : Device) → IsImage device device.bytes
what_is_read device = record { size = refl; each = λ k. inl refl }

-- An element of a list with one more item is in the list, or is that item.
get_push : {X : Type 0} (xs : List X) (y : X) (k : ℕ) (z : X) → slice_get (xs ++ y ∷ []) k ≡ Some z → (slice_get xs k ≡ Some z) ⊎ ((k ≡ length xs) × (z ≡ y))
get_push [] y zero z is = let same : z ≡ y = cc in inr (refl, same)
get_push [] y (suc k) z is = absurd (cc)
get_push (x ∷ xs) y zero z is = inl is
get_push (x ∷ xs) y (suc k) z is = elim (get_push xs y k z is) [ inl here ↦ inl here | inr last ↦ inr (omega (arith, last.0), last.1) ]

get_within : {X : Type 0} (xs : List X) (y : X) (k : ℕ) (z : X) → slice_get xs k ≡ Some z → slice_get (xs ++ y ∷ []) k ≡ Some z
get_within [] y k z is = absurd (cc)
get_within (x ∷ xs) y zero z is = is
get_within (x ∷ xs) y (suc k) z is = get_within xs y k z is

get_end : {X : Type 0} (xs : List X) (y : X) → slice_get (xs ++ y ∷ []) (length xs) ≡ Some y
get_end [] y = refl
get_end (x ∷ xs) y = get_end xs y

module _ (past : List Device) (now : Device) where
  -- An image since a moment is of the past or of now.
  pub past_or_now : (t : ℕ) (c : List ℕ) → IsImageSince (past ++ now ∷ []) t c → IsImageSince past t c ⊎ ((t ≤ length past) × IsImage now c)
  past_or_now t c (k, device, from, is, image) = elim (get_push past now k device is) [
    | inl here ↦ inl (k, device, from, here, image)
    | inr last ↦ let P : Device → Type 0 = λ d. IsImage d c in inr (omega (arith, last.0, from), subst P last.1 image)
  ]

  pub still_since : (t : ℕ) (c : List ℕ) → IsImageSince past t c → IsImageSince (past ++ now ∷ []) t c
  still_since t c (k, device, from, is, image) = (k, device, from, get_within past now k device is, image)

  -- The images of this moment are among those since an earlier one.
  pub counts_now : (t : ℕ) (c : List ℕ) → t ≤ length past → IsImage now c → IsImageSince (past ++ now ∷ []) t c
  counts_now t c from image = (length past, now, from, get_end past now, image)

  -- Since this moment there is no other.
  pub only_now : (c : List ℕ) → IsImageSince (past ++ now ∷ []) (length past) c → IsImage now c
  only_now c since = elim (past_or_now (length past) c since) [
    | inl gone ↦ absurd (omega (arith, gone.2, slice_get_within past gone.0 gone.1 gone.3))
    | inr here ↦ here.1
  ]
