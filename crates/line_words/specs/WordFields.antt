-- The meaning of a word in memory.
use Rattle.std.specs.Prelude.{ℕ, List}
use Rattle.line_words.specs.declared.words.Word.{Word}
use Rattle.line_words.specs.declared.words.Word.TheVariants.{Borrowed, Owned}

abbrev pub bytes_of : Word → List ℕ
bytes_of (Borrowed bytes) = bytes.now
bytes_of (Owned bytes) = bytes.items
