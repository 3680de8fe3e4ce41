-- The result of a document.
use Rattle.std.specs.Prelude.{◌≡◌, ℕ, Bool, true, false, ◌⊎◌, zero, suc, ◌==◌, cond, List, [], ◌∷◌, ◌++◌, Option, Some}
use Rattle.std.specs.List.{count_by, flat_map}
use Rattle.std.specs.Io.KnownBytes.{Appends, Consumes, IsAtEnd}
use Rattle.whole_writes.specs.Writes.{WroteSome}
use Rattle.builtin_stages.specs.declared.fault.ToolFault.{ToolFault}
use Rattle.builtin_stages.specs.declared.fault.ToolFault.TheVariants.{Memory, Read, Write}
use Rattle.builtin_stages.specs.declared.results.Form.{Form}
use Rattle.builtin_stages.specs.declared.results.Form.TheVariants.{Lines, Plain}

-- ---- the bytes

-- A byte for a line printer: CR LF for LF.
abbrev pub printed_byte : ℕ → List ℕ
printed_byte b = cond (b == 10) (13 ∷ 10 ∷ []) (b ∷ [])

-- The result of a piece of the document.
abbrev pub piece_of : Form → List ℕ → List ℕ
piece_of Plain bytes = bytes
piece_of Lines bytes = flat_map printed_byte bytes

-- The end of the result, after all pieces: a form feed for a line printer.
abbrev pub end_of : Form → List ℕ
end_of Plain = []
end_of Lines = 12 ∷ []

-- The result of the whole document.
abbrev pub result_of : Form → List ℕ → List ℕ
result_of form bytes = piece_of form bytes ++ end_of form

-- The bytes n times.
abbrev pub repeated : ℕ → List ℕ → List ℕ
repeated zero bytes = []
repeated (suc n) bytes = repeated n bytes ++ bytes

abbrev pub form_feeds : List ℕ → ℕ
form_feeds bytes = count_by (λ b. b == 12) bytes

-- ---- the calls

-- The bytes were not all written: the writer accepted only some of them, or memory for them ran out and nothing was written. A piece that
-- is written unchanged needs no memory.
abbrev pub IsUnwritten : Form → List ℕ → Option (List ℕ) → Option (List ℕ) → ToolFault → Type 0
IsUnwritten form bytes old new fault =
    ((fault ≡ Write) × WroteSome old new bytes) ⊎ ((fault ≡ Memory) × (form ≡ Lines) × (new ≡ old))

-- The document cannot be read.
abbrev pub is_read : ToolFault → Bool
is_read (Read error) = true
is_read fault = false

-- The document cannot be read, its result cannot be written, or memory for it ran out. A document that is written unchanged needs none.
abbrev pub IsOfResult : Form → ToolFault → Type 0
IsOfResult form fault = (is_read fault ≡ true) ⊎ (fault ≡ Write) ⊎ ((fault ≡ Memory) × (form ≡ Lines))

-- The reader reached its end, the result of its bytes was written, and `feeds` is the number of form feeds in the result.
pub record WroteResult (form : Form) (known left old new : Option (List ℕ)) (feeds : ℕ) : Type 0 where
  pub bytes : List ℕ
  pub read : Consumes known left bytes
  pub end : IsAtEnd left
  pub wrote : Appends old new (result_of form bytes)
  pub counted : feeds ≡ form_feeds (result_of form bytes)

-- Bytes were written, and `feeds` is the number of form feeds in them. If the document is known, they are `copies` times its result.
pub record Copied (form : Form) (copies : ℕ) (known old new : Option (List ℕ)) (feeds : ℕ) : Type 0 where
  pub bytes : List ℕ
  pub wrote : Appends old new bytes
  pub counted : feeds ≡ form_feeds bytes
  pub copied : (document : List ℕ) → known ≡ Some document → bytes ≡ repeated copies (result_of form document)
