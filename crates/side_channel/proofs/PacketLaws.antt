-- The first packet of bytes that were read in pieces.
use Rattle.std.proofs.Common.{◌≡◌, ◌≢◌, ℕ, ◌-◌, ◌<◌, ◌≤◌, List, [], ◌∷◌, ◌++◌, length, take, drop, Option, Err, refl, sym, ap, ◌∙◌, subst, arith, append_assoc, append-nil, length-append}
use Rattle.std.proofs.lemmas.Bool.{le-leb, lt-leb}
use Rattle.std.proofs.KnownBytes.{Consumes-trans}
use Rattle.std.specs.Prelude.{cond, slice_index}
use Rattle.std.specs.Int.{w16, from_be_bytes}
use Rattle.std.specs.Io.KnownBytes.{Consumes}
use lib.Seq.{take-append_seam, drop-append_seam}
use Rattle.side_channel.specs.Packets.{Message, Front, cut, whole, with_data, front_of, kept, IsShort}
use Rattle.side_channel.specs.Streams.{ReadWhole, ReadFewer, SkipsData, TakesData, FailsData, ReadsPacket}
use Rattle.side_channel.specs.declared.endings.SideFault.{SideFault}
use Rattle.side_channel.specs.declared.endings.SideFault.TheVariants.{Read, Write, Cut, Memory}

-- A packet with this body.
abbrev pub message : ℕ → ℕ → ℕ → List ℕ → Message
message c s n body = record { command = c; status = s; length = n; body = body }

abbrev pub length_in : List ℕ → ℕ
length_in h = from_be_bytes w16 (slice_index h 2 ∷ slice_index h 3 ∷ [])

pub with_data-whole : (c s : ℕ) (bytes more : List ℕ) → with_data c s (length bytes) (bytes ++ more) ≡ whole (message c s (length bytes) (kept bytes)) more
with_data-whole c s bytes more =
    let fits = le-leb (length bytes) (length (bytes ++ more)) (omega (arith, length-append bytes more)) in
    ap (λ b. cond b (whole (message c s (length bytes) (kept (take (length bytes) (bytes ++ more)))) (drop (length bytes) (bytes ++ more))) cut) fits
    ∙ ap (λ l. whole (message c s (length bytes) (kept l)) (drop (length bytes) (bytes ++ more))) (take-append_seam bytes more)
    ∙ ap (λ l. whole (message c s (length bytes) (kept bytes)) l) (drop-append_seam bytes more)

pub with_data-cut : (c s n : ℕ) (bytes : List ℕ) → length bytes < n → with_data c s n bytes ≡ cut
with_data-cut c s n bytes fewer =
    ap (λ b. cond b (whole (message c s n (kept (take n bytes))) (drop n bytes)) cut) (lt-leb n (length bytes) fewer)

pub front_of-head : (h rest : List ℕ) → length h ≡ 4 → front_of (h ++ rest) ≡ with_data (slice_index h 0) (slice_index h 1) (length_in h) rest
front_of-head [] rest four = absurd (omega arith)
front_of-head (a ∷ []) rest four = absurd (omega arith)
front_of-head (a ∷ b ∷ []) rest four = absurd (omega arith)
front_of-head (a ∷ b ∷ c ∷ []) rest four = absurd (omega arith)
front_of-head (a ∷ b ∷ c ∷ d ∷ []) rest four = refl
front_of-head (a ∷ b ∷ c ∷ d ∷ e ∷ r) rest four = absurd (omega arith)

pub front_of-some : (h : List ℕ) → 0 < length h → length h < 4 → front_of h ≡ cut
front_of-some [] some few = absurd (omega arith)
front_of-some (a ∷ []) some few = refl
front_of-some (a ∷ b ∷ []) some few = refl
front_of-some (a ∷ b ∷ c ∷ []) some few = refl
front_of-some (a ∷ b ∷ c ∷ d ∷ r) some few = absurd (omega arith)

-- A packet with less data than its length states is truncated.
cut_front : (h bytes : List ℕ) (n : ℕ) → length h ≡ 4 → n ≡ length_in h → length bytes < n → front_of (h ++ bytes) ≡ cut
cut_front h bytes n four is fewer =
    front_of-head h bytes four
    ∙ ap (λ m. with_data (slice_index h 0) (slice_index h 1) m bytes) (sym is)
    ∙ with_data-cut (slice_index h 0) (slice_index h 1) n bytes fewer

cut_is_short : (front : Front) → front ≡ cut → IsShort front
cut_is_short front is = subst IsShort (sym is) tt

-- The first four bytes, and then the data.
pub head_and_data : (a b c : Option (List ℕ)) (h body : List ℕ) (n : ℕ) → length h ≡ 4 → n ≡ length_in h → Consumes a b h → TakesData b c n body → ReadWhole a c (message (slice_index h 0) (slice_index h 1) n body)
head_and_data a b c h body n four is head t =
    record {
      bytes = h ++ t.bytes;
      read = Consumes-trans a b c h t.bytes head t.read;
      is = λ (more : List ℕ).
          ap front_of (append_assoc h t.bytes more)
          ∙ front_of-head h (t.bytes ++ more) four
          ∙ ap (λ m. with_data (slice_index h 0) (slice_index h 1) m (t.bytes ++ more)) (sym is ∙ sym t.all)
          ∙ with_data-whole (slice_index h 0) (slice_index h 1) t.bytes more
          ∙ ap (λ m. whole (message (slice_index h 0) (slice_index h 1) m (kept t.bytes)) more) t.all
          ∙ ap (λ l. whole (message (slice_index h 0) (slice_index h 1) n l) more) (sym t.kept_is);
    }

-- The first four bytes, and then only part of the data.
pub head_alone : (a b c : Option (List ℕ)) (h : List ℕ) (n : ℕ) (fault : SideFault) → length h ≡ 4 → n ≡ length_in h → Consumes a b h → FailsData b c n fault → ReadsPacket a c (Err fault)
head_alone a b c h n Read four is head f =
    record {
      bytes = h ++ f.bytes;
      read = Consumes-trans a b c h f.bytes head f.read;
      short = cut_is_short _ (cut_front h f.bytes n four is f.fewer);
    }
head_alone a b c h n Write four is head f = f
head_alone a b c h n Cut four is head f =
    record {
      bytes = h ++ f.0.bytes;
      read = Consumes-trans a b c h f.0.bytes head f.0.read;
      is = cut_front h f.0.bytes n four is f.0.fewer;
      end = f.1;
    }
head_alone a b c h n Memory four is head f =
    record {
      bytes = h;
      read = subst (Consumes a c) (append-nil h) (Consumes-trans a b c h [] head f.1);
      head = four;
      short = cut_is_short _ (ap front_of (sym (append-nil h)) ∙ cut_front h [] n four is f.0);
    }

-- Skipped data, and then more.
pub skips_more : (a b c : Option (List ℕ)) (n left w : ℕ) → left ≤ n → w ≤ left → SkipsData a b (n - left) → SkipsData b c w → SkipsData a c (n - (left - w))
skips_more a b c n left w le more s t =
    record {
      bytes = s.bytes ++ t.bytes;
      all = let h = s.all in let k = t.all in omega (arith, length-append s.bytes t.bytes, h, k);
      read = Consumes-trans a b c s.bytes t.bytes s.read t.read;
    }

fewer_later : (a b c : Option (List ℕ)) (n left w : ℕ) → left ≤ n → w ≤ left → SkipsData a b (n - left) → ReadFewer b c w → ReadFewer a c n
fewer_later a b c n left w le more s t =
    record {
      bytes = s.bytes ++ t.bytes;
      fewer = let h = s.all in let k = t.fewer in omega (arith, length-append s.bytes t.bytes, h, k);
      read = Consumes-trans a b c s.bytes t.bytes s.read t.read;
    }

-- Skipped data, and then only part of the rest.
pub fails_later : (a b c : Option (List ℕ)) (n left w : ℕ) (fault : SideFault) → left ≤ n → w ≤ left → SkipsData a b (n - left) → FailsData b c w fault → fault ≢ Memory → FailsData a c n fault
fails_later a b c n left w Read le more s t ne = fewer_later a b c n left w le more s t
fails_later a b c n left w Write le more s t ne = t
fails_later a b c n left w Cut le more s t ne = (fewer_later a b c n left w le more s t.0, t.1)
fails_later a b c n left w Memory le more s t ne = absurd (ne refl)
