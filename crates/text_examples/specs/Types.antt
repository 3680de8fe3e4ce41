-- Examples of mime.types(5): the types of documents, and the errors in lines.
use Prim.Native.String.{String}
use Rattle.std.specs.Prelude.{◌≡◌, ℕ, List, [], ◌∷◌, map, codes, unwrap_or}
use Rattle.spool_types.specs.declared.warning.Warning.{Warning}
use Rattle.spool_types.specs.declared.warning.WarningKind.{WarningKind}
use Rattle.spool_types.specs.declared.warning.WarningKind.TheVariants.{BadType, BadRule, UnknownRule, BadNumber, BadText}
use Rattle.mime_rules.specs.RuleLines.{alternatives_of, warnings_of}
use Rattle.mime_rules.specs.BestType.{type_of}
use Rattle.text_examples.specs.Written.{text}

-- A valid file, the name and the bytes of a document, and its type, or nothing if it has none.
pub record Typing : Type 0 where
  pub file : List ℕ
  pub name : List ℕ
  pub bytes : List ℕ
  pub media : List ℕ

abbrev pub typing : String → String → List ℕ → String → Typing
typing file name bytes media = record { file = text file; name = text name; bytes = bytes; media = text media }

-- Its type in the locale `de`, and the warnings of its file.
abbrev pub found : Typing → List ℕ × List Warning
found t = (unwrap_or (type_of (record { name = t.name; bytes = t.bytes; locale = codes "de" }) (alternatives_of t.file)) [], warnings_of t.file)

abbrev pub wanted : Typing → List ℕ × List Warning
wanted t = (t.media, [])

abbrev pub AreTyped : List Typing → Type 0
AreTyped rows = map found rows ≡ map wanted rows

-- A file of one line, and its first error.
pub record Fault : Type 0 where
  pub file : List ℕ
  pub kind : WarningKind

abbrev pub fault : String → WarningKind → Fault
fault file kind = record { file = text file; kind = kind }

abbrev pub warning : ℕ → WarningKind → Warning
warning line kind = record { line = line; kind = kind }

abbrev pub AreFaulty : List Fault → Type 0
AreFaulty rows = map (λ (f : Fault). warnings_of f.file) rows ≡ map (λ (f : Fault). warning 1 f.kind ∷ []) rows

abbrev pub jpeg : String
jpeg = "image/jpeg jpeg jpg string(0,<FFD8FF>) && (char(3,0xe0) char(3,0xe1))"

-- A type has several rules.
abbrev pub JpegRows : Type 0
JpegRows = AreTyped (
    typing jpeg "x" (255 ∷ 216 ∷ 255 ∷ []) ""
    ∷ typing jpeg "x" (255 ∷ 216 ∷ 255 ∷ 224 ∷ []) "image/jpeg"
    ∷ typing jpeg "x" (255 ∷ 216 ∷ 255 ∷ 226 ∷ []) ""
    ∷ typing jpeg "x.JPG" [] "image/jpeg"
    ∷ typing jpeg "jpg" [] ""
    ∷ [])

abbrev pub postscript : String
postscript = "text/plain printable(0,1024)|application/postscript priority(150) string(0,%!)|"

-- The higher priority wins.
abbrev pub PriorityRows : Type 0
PriorityRows = AreTyped (
    typing postscript "x" (codes "%!PS") "application/postscript"
    ∷ typing postscript "x" (codes "PS") "text/plain"
    ∷ [])

-- Of equal priorities the type that is alphabetically first wins.
abbrev pub NameRows : Type 0
NameRows = AreTyped (
    typing "b/b string(0,x)|a/z string(0,x)|a/y string(0,y)|" "x" (codes "x") "a/z"
    ∷ typing "b/b x|a/b x" "n.x" [] "a/b"
    ∷ [])

abbrev pub joined : String
joined = "application/pdf pdf string(0,%PDF)|text/html html htm printable(0,1024) + \\|(string(0,\"<HTML>\") string(0,\"<!DOCTYPE\"))|"

-- Lines joined by a backslash are one line.
abbrev pub JoinedRows : Type 0
JoinedRows = AreTyped (
    typing joined "x" (codes "%PDF-1") "application/pdf"
    ∷ typing joined "x" (codes "<HTML>") "text/html"
    ∷ typing joined "x" (codes "<html>") ""
    ∷ [])

-- Items are alternatives, and all factors of an item must match.
abbrev pub ItemRows : Type 0
ItemRows = AreTyped (
    typing "a/b gif,,jpg , png" "x.png" [] "a/b"
    ∷ typing "a/b gif !jpg" "x" [] "a/b"
    ∷ typing "a/b x & y" "a.&" [] "a/b"
    ∷ typing "a/b x&&match(a*)" "a.x" [] "a/b"
    ∷ typing "a/b x && match(a*)" "b.x" [] ""
    ∷ typing "a/b" "x" [] ""
    ∷ typing "a/b string (0,x)" "a.0" [] "a/b"
    ∷ [])

-- An exclamation mark negates.
abbrev pub NegationRows : Type 0
NegationRows = AreTyped (
    typing "a/b !x" "y" [] "a/b"
    ∷ typing "a/b ! x" "y.x" [] ""
    ∷ typing "a/b !!x" "y.x" [] "a/b"
    ∷ typing "a/b !( priority(5) )" "y" [] "a/b"
    ∷ typing "a/b !priority(5)" "y" [] ""
    ∷ typing "a/b x + priority(5)" "y.x" [] "a/b"
    ∷ typing "a/b priority(5)" "y.x" [] ""
    ∷ [])

-- Groups are nested sixteen deep.
abbrev pub GroupRows : Type 0
GroupRows = AreTyped (
    typing "a/b ((((((((((((((((x))))))))))))))))" "y.x" [] "a/b"
    ∷ [])

abbrev pub BadGroupRows : Type 0
BadGroupRows = AreFaulty (
    fault "a/b (((((((((((((((((x)))))))))))))))))" BadRule
    ∷ [])

-- The last priority of a line counts.
abbrev pub LastPriorityRows : Type 0
LastPriorityRows = AreTyped (
    typing "a/a x priority(50) priority(120)|a/c x priority(110)|" "n.x" [] "a/a"
    ∷ typing "a/a x priority(99)|b/b x" "n.x" [] "b/b"
    ∷ typing "a/a x priority(200)|b/b x" "n.x" [] "a/a"
    ∷ [])

abbrev pub BadLastPriorityRows : Type 0
BadLastPriorityRows = AreFaulty (
    fault "a/b priority(201)" BadNumber
    ∷ fault "a/b priority()" BadNumber
    ∷ [])

-- Capitals of types are folded.
abbrev pub CapitalRows : Type 0
CapitalRows = AreTyped (
    typing "~Image/GIF gif" "x.gif" [] "image/gif"
    ∷ [])

-- Patterns of names.
abbrev pub PatternRows : Type 0
PatternRows = AreTyped (
    typing "a/b match(*.tar.?z)" "a.tar.tar.gz" [] "a/b"
    ∷ typing "a/b match(*.tar.?z)" "a.tar.gz." [] ""
    ∷ typing "a/b match(a)" "ab" [] ""
    ∷ typing "a/b match(a)" "A" [] ""
    ∷ typing "a/b match(\"a b\")" "a b" [] "a/b"
    ∷ typing "a/b match(*a*b*c)" "xaybbzabc" [] "a/b"
    ∷ typing "a/b match(\"*\")" "any" [] "a/b"
    ∷ [])

-- Sets in patterns.
abbrev pub SetRows : Type 0
SetRows = AreTyped (
    typing "a/b match([a-c]x)" "bx" [] "a/b"
    ∷ typing "a/b match([a-c]x)" "dx" [] ""
    ∷ typing "a/b match([])" "a" [] ""
    ∷ typing "a/b match([^a])" "a" [] "a/b"
    ∷ typing "a/b match([a-])" "-" [] "a/b"
    ∷ typing "a/b match([c-a])" "b" [] ""
    ∷ [])

abbrev pub BadSetRows : Type 0
BadSetRows = AreFaulty (
    fault "a/b match([a)" BadRule
    ∷ [])

-- Special characters in a pattern, which are not special in a set.
abbrev pub SpecialByteRows : Type 0
SpecialByteRows = AreTyped (
    typing "a/b match(<2A>)" "any" [] "a/b"
    ∷ typing "a/b match([*])" "any" [] ""
    ∷ typing "a/b match([*])" "*" [] "a/b"
    ∷ typing "a/b match([a-c-e])" "e" [] "a/b"
    ∷ typing "a/b match([a-c-e])" "d" [] ""
    ∷ typing "a/b match([--a])" "0" [] "a/b"
    ∷ typing "a/b match([]a])" "a" [] ""
    ∷ [])

-- Bytes of a text.
abbrev pub TextByteRows : Type 0
TextByteRows = AreTyped (
    typing "a/b ascii(1,2)" "x" (0 ∷ 8 ∷ 126 ∷ 127 ∷ []) "a/b"
    ∷ typing "a/b ascii(1,3)" "x" (0 ∷ 8 ∷ 126 ∷ 127 ∷ []) ""
    ∷ typing "a/b ascii(9,3)" "x" (0 ∷ []) "a/b"
    ∷ typing "a/b printable(0,3)" "x" (128 ∷ 254 ∷ 13 ∷ 11 ∷ []) "a/b"
    ∷ typing "a/b printable(0,3)" "x" (128 ∷ 255 ∷ 13 ∷ []) ""
    ∷ typing "a/b printable(0,3)" "x" (127 ∷ []) ""
    ∷ [])

-- Texts at offsets.
abbrev pub TextRows : Type 0
TextRows = AreTyped (
    typing "a/b string(0x2, \"b c\" d )" "x" (codes "aab c d") "a/b"
    ∷ typing "a/b string(1,ab)" "x" (codes "aa") ""
    ∷ typing "a/b string(99,)" "x" (codes "aa") "a/b"
    ∷ typing "a/b istring(0,<48>i)" "x" (codes "hI") "a/b"
    ∷ typing "a/b string(0,'\"')" "x" (codes "\"") "a/b"
    ∷ typing "a/b string(0,<>a,b(c)" "x" (codes "a,b(c") "a/b"
    ∷ [])

-- Values of one, two and four bytes.
abbrev pub ValueRows : Type 0
ValueRows = AreTyped (
    typing "a/b short(0,12)" "x" (0 ∷ 12 ∷ []) "a/b"
    ∷ typing "a/b short(0,1a)" "x" (codes "1a") "a/b"
    ∷ typing "a/b short(0,08)" "x" (codes "08") "a/b"
    ∷ typing "a/b short(0,\"12\")" "x" (codes "12") "a/b"
    ∷ typing "a/b int(1,0x01020304)" "x" (120 ∷ 1 ∷ 2 ∷ 3 ∷ 4 ∷ []) "a/b"
    ∷ [])

abbrev pub BadValueRows : Type 0
BadValueRows = AreFaulty (
    fault "a/b char(0,256)" BadNumber
    ∷ fault "a/b char(0,abc)" BadText
    ∷ fault "a/b char(0,12" BadRule
    ∷ [])

-- Contained texts.
abbrev pub ContainedRows : Type 0
ContainedRows = AreTyped (
    typing "a/b contains(1,4,bcd)" "x" (codes "aabcd") "a/b"
    ∷ typing "a/b contains(1,3,bcd)" "x" (codes "aabcd") ""
    ∷ typing "a/b contains(3,4,bcd)" "x" (codes "aabcd") ""
    ∷ typing "a/b contains(9,9,)" "x" [] "a/b"
    ∷ [])

-- The locale.
abbrev pub LocaleRows : Type 0
LocaleRows = AreTyped (
    typing "a/b locale(de)" "x" [] "a/b"
    ∷ typing "a/b locale(d)" "x" [] ""
    ∷ [])

-- Each kind of error, by its line.
abbrev pub KindRows : Type 0
KindRows = warnings_of (text "a/a regex(0,\"x\")|image gif|a/b \\|priority(201)|a/c string(0,<F>)|a/d (x")
    ≡ warning 1 UnknownRule ∷ warning 2 BadType ∷ warning 3 BadNumber ∷ warning 5 BadText ∷ warning 6 BadRule ∷ []

-- The first error of a line counts.
abbrev pub FirstFaultRows : Type 0
FirstFaultRows = AreFaulty (
    fault "a/b a + , ascii(x,1)" BadRule
    ∷ fault "a/b ascii(x,1) + ," BadNumber
    ∷ fault "a ascii(x,1)" BadType
    ∷ fault "a/b regex(" UnknownRule
    ∷ [])

-- An operator needs a factor.
abbrev pub OperatorRows : Type 0
OperatorRows = AreFaulty (
    fault "a/b a +" BadRule
    ∷ fault "a/b + a" BadRule
    ∷ fault "a/b a + , b" BadRule
    ∷ fault "a/b (a + )" BadRule
    ∷ fault "a/b !" BadRule
    ∷ fault "a/b ! , a" BadRule
    ∷ fault "a/b (!)" BadRule
    ∷ [])

-- A factor needs a separator after it.
abbrev pub SeparatorRows : Type 0
SeparatorRows = AreFaulty (
    fault "a/b a!b" BadRule
    ∷ fault "a/b (a)(b)" BadRule
    ∷ fault "a/b match(x)match(y)" BadRule
    ∷ fault "a/b a\"b" BadRule
    ∷ fault "a/b a)" BadRule
    ∷ fault "a/b (a" BadRule
    ∷ [])

-- Arguments of rules.
abbrev pub ArgumentRows : Type 0
ArgumentRows = AreFaulty (
    fault "a/b ascii(" BadNumber
    ∷ fault "a/b ascii(4294967296,1)" BadNumber
    ∷ fault "a/b ascii(1)" BadRule
    ∷ fault "a/b ascii(1,2,3)" BadRule
    ∷ fault "a/b string(0,\"a)" BadText
    ∷ fault "a/b string(0,<0g>)" BadText
    ∷ fault "a/b string(0,a" BadRule
    ∷ [])

-- An error where a separator is required.
abbrev pub WantedSeparatorRows : Type 0
WantedSeparatorRows = AreFaulty (
    fault "a/b match(x)regex(0,y)" UnknownRule
    ∷ fault "a/b match(x)ascii(y,1)" BadNumber
    ∷ fault "a/b x) regex(0,y)" BadRule
    ∷ fault "a/b (x regex(0,y)" UnknownRule
    ∷ [])
