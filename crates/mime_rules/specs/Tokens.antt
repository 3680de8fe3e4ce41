-- The tokens of a list of rules, left to right, up to the first error.
use Rattle.std.specs.Prelude.{ℕ, zero, suc, Bool, false, ◌||◌, ◌&&◌, cond, ◌==◌, List, [], ◌∷◌, length, Option, None, Some, codes}
use Rattle.std.specs.Str.{bytes_eq}
use Rattle.spool_types.specs.declared.warning.WarningKind.{WarningKind}
use Rattle.spool_types.specs.declared.warning.WarningKind.TheVariants.{BadRule, UnknownRule}
use Rattle.line_words.specs.Blanks.{is_blank, after_blanks}
use Rattle.mime_lines.specs.RuleNumbers.{greatest}
use Rattle.mime_rules.specs.RuleReading.{Read, read, wrong, on}
use Rattle.mime_rules.specs.Tests.{Subject, suffix_test, ascii_test, printable_test, string_test, istring_test, contains_test, locale_test}
use Rattle.mime_rules.specs.Patterns.{Piece, pattern_of, match_test}
use Rattle.mime_rules.specs.TestArguments.{number_then, text_at, value_at}
use Rattle.mime_rules.specs.declared.arguments.Width.{Width}
use Rattle.mime_rules.specs.declared.arguments.Width.TheVariants.{Char, Short, Int}
use Rattle.mime_rules.specs.declared.names.RuleName.{RuleName}
use Rattle.mime_rules.specs.declared.names.RuleName.TheVariants.{Match, Ascii, Printable, Text, FoldedText, ValueChar, ValueShort, ValueInt, Contains, Locale, Priority}

pub data Token : Type 0 where
  gap : Token
  comma : Token
  plus : Token
  bang : Token
  opening : Token
  closing : Token
  test : (Subject → Bool) → Token
  priority : ℕ → Token
  fault : WarningKind → Token

-- `&&` comes next.
abbrev pub is_and : List ℕ → Bool
is_and [] = false
is_and (a ∷ []) = false
is_and (a ∷ b ∷ bs) = a == 38 && b == 38

-- The bytes after the second byte of `&&`.
abbrev pub behind_and : List ℕ → List ℕ
behind_and [] = []
behind_and (b ∷ bs) = bs

-- A byte that no bare word contains: a blank, or one of `,+()!"`.
abbrev pub is_sign : ℕ → Bool
is_sign b = is_blank b || b == 44 || b == 43 || b == 40 || b == 41 || b == 33 || b == 34

abbrev pub ends_word : List ℕ → Bool
ends_word [] = false
ends_word (b ∷ bs) = is_sign b || is_and (b ∷ bs)

abbrev pub word_here : List ℕ → List ℕ
word_here [] = []
word_here (b ∷ bs) = cond (ends_word (b ∷ bs)) [] (b ∷ word_here bs)

abbrev pub behind_word : List ℕ → List ℕ
behind_word [] = []
behind_word (b ∷ bs) = cond (ends_word (b ∷ bs)) (b ∷ bs) (behind_word bs)

abbrev pub other_name : List ℕ → Option RuleName
other_name w =
    cond (bytes_eq w (codes "char")) (Some ValueChar)
    (cond (bytes_eq w (codes "short")) (Some ValueShort)
    (cond (bytes_eq w (codes "int")) (Some ValueInt)
    (cond (bytes_eq w (codes "contains")) (Some Contains)
    (cond (bytes_eq w (codes "locale")) (Some Locale)
    (cond (bytes_eq w (codes "priority")) (Some Priority) None)))))

-- The rule with this name, which must be in lower case.
abbrev pub rule_name : List ℕ → Option RuleName
rule_name w =
    cond (bytes_eq w (codes "match")) (Some Match)
    (cond (bytes_eq w (codes "ascii")) (Some Ascii)
    (cond (bytes_eq w (codes "printable")) (Some Printable)
    (cond (bytes_eq w (codes "string")) (Some Text)
    (cond (bytes_eq w (codes "istring")) (Some FoldedText)
    (other_name w)))))

-- A pattern, if its sets are closed.
abbrev pub match_token : Option (List Piece) → List ℕ → Read ℕ Token
match_token None rest = wrong BadRule
match_token (Some pattern) rest = read (test (match_test pattern)) rest

-- match(p)
abbrev pub pattern_token : List ℕ → Read ℕ Token
pattern_token bytes = on (λ t. match_token (pattern_of t)) (text_at bytes)

-- ascii(o,n)
abbrev pub ascii_token : List ℕ → Read ℕ Token
ascii_token bytes = on (λ o behind. on (λ n. read (test (ascii_test o n))) (number_then 41 greatest behind)) (number_then 44 greatest bytes)

-- printable(o,n)
abbrev pub printable_token : List ℕ → Read ℕ Token
printable_token bytes = on (λ o behind. on (λ n. read (test (printable_test o n))) (number_then 41 greatest behind)) (number_then 44 greatest bytes)

-- string(o,t)
abbrev pub string_token : List ℕ → Read ℕ Token
string_token bytes = on (λ o behind. on (λ t. read (test (string_test o t))) (text_at behind)) (number_then 44 greatest bytes)

-- istring(o,t)
abbrev pub istring_token : List ℕ → Read ℕ Token
istring_token bytes = on (λ o behind. on (λ t. read (test (istring_test o t))) (text_at behind)) (number_then 44 greatest bytes)

-- char(o,v), short(o,v) and int(o,v)
abbrev pub value_token : Width → List ℕ → Read ℕ Token
value_token w bytes = on (λ o behind. on (λ t. read (test (string_test o t))) (value_at w behind)) (number_then 44 greatest bytes)

-- contains(o,n,t)
abbrev pub contains_token : List ℕ → Read ℕ Token
contains_token bytes =
    on (λ o behind. on (λ n further. on (λ t. read (test (contains_test o n t))) (text_at further)) (number_then 44 greatest behind)) (number_then 44 greatest bytes)

-- locale(t)
abbrev pub locale_token : List ℕ → Read ℕ Token
locale_token bytes = on (λ t. read (test (locale_test t))) (text_at bytes)

-- priority(n)
abbrev pub priority_token : List ℕ → Read ℕ Token
priority_token bytes = on (λ n. read (priority n)) (number_then 41 200 bytes)

-- The rule with this name, whose arguments are next.
abbrev pub named_token : Option RuleName → List ℕ → Read ℕ Token
named_token None bytes = wrong UnknownRule
named_token (Some Match) bytes = pattern_token bytes
named_token (Some Ascii) bytes = ascii_token bytes
named_token (Some Printable) bytes = printable_token bytes
named_token (Some Text) bytes = string_token bytes
named_token (Some FoldedText) bytes = istring_token bytes
named_token (Some ValueChar) bytes = value_token Char bytes
named_token (Some ValueShort) bytes = value_token Short bytes
named_token (Some ValueInt) bytes = value_token Int bytes
named_token (Some Contains) bytes = contains_token bytes
named_token (Some Locale) bytes = locale_token bytes
named_token (Some Priority) bytes = priority_token bytes

-- A word directly before `(` is the name of a rule. Any other word is a suffix of names.
abbrev pub word_token : List ℕ → List ℕ → Read ℕ Token
word_token w [] = read (test (suffix_test (46 ∷ w))) []
word_token w (b ∷ bs) = cond (b == 40) (named_token (rule_name w) bs) (read (test (suffix_test (46 ∷ w))) (b ∷ bs))

-- The bytes after a `+` or `&&`, if one is next.
abbrev pub behind_plus : List ℕ → Option (List ℕ)
behind_plus [] = None
behind_plus (b ∷ bs) = cond (b == 43) (Some bs) (cond (is_and (b ∷ bs)) (Some (behind_and bs)) None)

-- The token of a byte that no word contains. A `"` begins no token, and neither does a `+` that is no plus.
abbrev pub sign_token : ℕ → List ℕ → Read ℕ Token
sign_token b bs =
    cond (is_blank b) (read gap (after_blanks bs))
    (cond (b == 44) (read comma bs)
    (cond (b == 33) (read bang (after_blanks bs))
    (cond (b == 40) (read opening bs)
    (cond (b == 41) (read closing bs)
    (wrong BadRule)))))

-- A token that is not a plus.
abbrev pub other_token : List ℕ → Read ℕ Token
other_token [] = wrong BadRule
other_token (b ∷ bs) = cond (is_sign b) (sign_token b bs) (word_token (word_here (b ∷ bs)) (behind_word (b ∷ bs)))

abbrev pub plus_or : Option (List ℕ) → List ℕ → Read ℕ Token
plus_or None bytes = other_token bytes
plus_or (Some behind) bytes = read plus (after_blanks behind)

-- The token that begins here. Blanks next to a plus and after a `!` are part of it.
abbrev pub token_at : List ℕ → Read ℕ Token
token_at bytes = plus_or (behind_plus (after_blanks bytes)) bytes

-- This token, and then the tokens of the rest. An error is the last token.
abbrev pub with_token : (List ℕ → List Token) → Read ℕ Token → List Token
with_token reading (read t rest) = t ∷ reading rest
with_token reading (wrong kind) = fault kind ∷ []

-- The tokens of a list of rules, at most n of them.
unfoldable pub tokens_within : ℕ → List ℕ → List Token
tokens_within zero bytes = []
tokens_within (suc n) [] = []
tokens_within (suc n) (b ∷ bs) = with_token (tokens_within n) (token_at (b ∷ bs))

-- The tokens of a list of rules. No list has more tokens than bytes.
unfoldable pub tokens_of : List ℕ → List Token
tokens_of bytes = tokens_within (length bytes) bytes
