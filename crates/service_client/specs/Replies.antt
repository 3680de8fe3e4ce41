-- The replies in the bytes that a service sends.
use Rattle.std.specs.Prelude.{◌≡◌, ℕ, Bool, true, false, ◌||◌, List, ◌++◌, codes, map, nat_eq}
use Rattle.std.specs.Cmp.Lexicographic.{pointwise}
use Rattle.std.specs.List.{All, flat_map}
use Rattle.line_words.specs.Blanks.{word_here}
use Rattle.service_client.specs.Lines.{IsLine, with_feed}
use Rattle.service_client.specs.declared.reply.Reply.{Reply}

-- A reply: its rows and its last line, each without its line feed.
pub record ReplyText : Type 0 where
  pub rows : List (List ℕ)
  pub last : List ℕ

-- The bytes of a reply.
abbrev pub reply_bytes : ReplyText → List ℕ
reply_bytes reply = flat_map with_feed reply.rows ++ with_feed reply.last

abbrev pub is_word : List ℕ → List ℕ → Bool
is_word word name = pointwise nat_eq word name

-- The line ends a reply: its first word is `ok` or `error`.
abbrev pub is_last : List ℕ → Bool
is_last line = is_word (word_here line) (codes "ok") || is_word (word_here line) (codes "error")

-- A line that ends no reply.
pub record IsRow (line : List ℕ) : Type 0 where
  pub whole : IsLine line
  pub goes_on : is_last line ≡ false

-- A line that ends a reply.
pub record IsLast (line : List ℕ) : Type 0 where
  pub whole : IsLine line
  pub ends : is_last line ≡ true

-- Exactly one complete reply.
pub record IsReply (reply : ReplyText) : Type 0 where
  pub rows : All IsRow reply.rows
  pub last : IsLast reply.last

-- Less than a reply: rows, and part of a line.
pub record IsPartial (bytes : List ℕ) : Type 0 where
  pub rows : List (List ℕ)
  pub part : List ℕ
  pub are_rows : All IsRow rows
  pub is_part : IsLine part
  pub cut : bytes ≡ flat_map with_feed rows ++ part

-- The bytes are these replies, and then less than another one.
pub record Cuts (bytes : List ℕ) (replies : List ReplyText) (rest : List ℕ) : Type 0 where
  pub whole : bytes ≡ flat_map reply_bytes replies ++ rest
  pub each : All IsReply replies
  pub partial : IsPartial rest

-- A reply of the code.
abbrev pub told : Reply → ReplyText
told reply = record { rows = map (λ row. row.items) reply.rows.items; last = reply.last.items }
