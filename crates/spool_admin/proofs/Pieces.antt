-- Pieces that are copied in order.
use Rattle.std.proofs.Common.{◌≡◌, ◌∙◌, ◌+◌, ◌≤◌, ◌++◌, ℕ, List, Option, Some, length, take, drop, sym, ap, ap₂, arith, length-drop}
use Rattle.std.specs.Option.{option_map}
use Rattle.std.proofs.lemmas.List.{take_at, drop_at, drop-drop, length-take-le}
use Rattle.std.proofs.Math.Seq.{take-add}
use Rattle.spool_disk.specs.Disk.{DiskView, IsLawful, overwritten}

-- The first bytes are those of xs, the others those of t.
abbrev pub copied : ℕ → List ℕ → List ℕ → List ℕ
copied n xs t = take n xs ++ drop n t

-- One more piece.
pub one_more : (done len : ℕ) (xs t : List ℕ) → done + len ≤ length xs → overwritten done (take len (drop done xs)) (copied done xs t) ≡ copied (done + len) xs t
one_more done len xs t within =
    let a = take done xs in
    let p = take len (drop done xs) in
    let d = drop done t in
    let long : length a ≡ done = length-take-le done xs (omega (arith, within)) in
    let some : length p ≡ len = length-take-le len (drop done xs) (omega (arith, within, length-drop done xs)) in
    let front : take done (a ++ d) ≡ a = take_at a d done long in
    let back : drop (done + length p) (a ++ d) ≡ drop (done + len) t =
    ap (λ (n : ℕ). drop (done + n) (a ++ d)) some ∙ sym (drop-drop len done (a ++ d)) ∙ ap (drop len) (drop_at a d done long) ∙ drop-drop len done t in
    ap₂ (λ (x y : List ℕ). (x ++ p) ++ y) front back ∙ ap (λ (x : List ℕ). x ++ drop (done + len) t) (sym (take-add done len xs))

-- The same for a disk's bytes.
pub more_told : (from done len : ℕ) (r t : List ℕ) (mid new : Option (List ℕ)) → from + done + len ≤ length r → mid ≡ Some (copied done (drop from r) t)
    → new ≡ option_map (overwritten done (take len (drop (from + done) r))) mid → new ≡ Some (copied (done + len) (drop from r) t)
more_told from done len r t mid new within told written =
    written ∙ ap (option_map (overwritten done (take len (drop (from + done) r)))) told
    ∙ ap (λ (l : List ℕ). Some (overwritten done (take len l) (copied done (drop from r) t))) (sym (drop-drop done from r))
    ∙ ap Some (one_more done len (drop from r) t (omega (arith, within, length-drop from r)))

-- The bytes that a disk shows have the disk's length.
pub told_long : {D : Type 0} (v : DiskView D) → IsLawful v → (d : D) (r : List ℕ) → v.bytes d ≡ Some r → length r ≡ v.size d
told_long v lawful d r tells = lawful.image_size d r (lawful.reads_image d r tells)
