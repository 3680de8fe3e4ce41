-- The lines of passwd(5) and group(5), and the groups that id(1) prints.
use Rattle.std.specs.Prelude.{ℕ, Bool, false, ◌||◌, ◌==◌, nat_eq, cond, List, [], ◌∷◌, Option, None, Some}
use Rattle.std.specs.List.{list_any, slice_split}
use Rattle.std.specs.Cmp.Lexicographic.{pointwise}
use Rattle.line_words.specs.DecimalNumbers.{decimal}
use Rattle.spool_types.specs.Values.{is_user_name, text_in}
use Rattle.user_proofs.specs.declared.lines.UserNumbers.{UserNumbers}

-- ## Numbers

-- The number of a user or of a group, in decimal digits.
abbrev pub id_in : List ℕ → Option ℕ
id_in word = decimal 4294967295 word

abbrev pub is_same_id : ℕ → Option ℕ → Bool
is_same_id id None = false
is_same_id id (Some number) = number == id

-- The word is this number.
abbrev pub is_id : ℕ → List ℕ → Bool
is_id id word = is_same_id id (id_in word)

-- ## Lines of fields

-- The fields of a line, which colons separate. The last one has the line feed.
abbrev pub is_colon : ℕ → Bool
is_colon b = b == 58

abbrev pub fields_of : List ℕ → List (List ℕ)
fields_of line = slice_split is_colon line

-- The name of a user with this number, if it may be that of a job's user.
abbrev pub user_if : ℕ → List ℕ → List ℕ → Option (List ℕ)
user_if uid id name = cond (is_id uid id) (text_in is_user_name name) None

-- The name in a line of passwd(5) (NAME:PASSWORD:UID:GID:COMMENT:HOME:SHELL), if it is the line of this user.
abbrev pub user_by : ℕ → List (List ℕ) → Option (List ℕ)
user_by uid (name ∷ password ∷ id ∷ group ∷ comment ∷ home ∷ shell ∷ []) = user_if uid id name
user_by uid fields = None

abbrev pub user_in : ℕ → List ℕ → Option (List ℕ)
user_in uid line = user_by uid (fields_of line)

abbrev pub is_word : List ℕ → List ℕ → Bool
is_word word other = pointwise nat_eq word other

-- The number in a line of group(5) (NAME:PASSWORD:GID:MEMBERS), if it is the line of the group with this name or number.
abbrev pub group_by : List ℕ → List (List ℕ) → Option ℕ
group_by asked (name ∷ password ∷ id ∷ members ∷ []) = cond (is_word name asked || is_word id asked) (id_in id) None
group_by asked fields = None

abbrev pub group_in : List ℕ → List ℕ → Option ℕ
group_in asked line = group_by asked (fields_of line)

-- Both numbers, if both words are numbers.
abbrev pub numbers_if : Option ℕ → Option ℕ → Option UserNumbers
numbers_if (Some uid) (Some gid) = Some (record { uid = uid; gid = gid })
numbers_if uid gid = None

abbrev pub numbers_of : List ℕ → List ℕ → Option UserNumbers
numbers_of id group = numbers_if (id_in id) (id_in group)

-- The numbers in a line of passwd(5), if it is the line of the user with this name or number.
abbrev pub numbers_by : List ℕ → List (List ℕ) → Option UserNumbers
numbers_by asked (name ∷ password ∷ id ∷ group ∷ comment ∷ home ∷ shell ∷ []) = cond (is_word name asked || is_word id asked) (numbers_of id group) None
numbers_by asked fields = None

abbrev pub numbers_in : List ℕ → List ℕ → Option UserNumbers
numbers_in asked line = numbers_by asked (fields_of line)

-- ## The output of `id -G`

-- A space, or the line feed at the end.
abbrev pub is_gap : ℕ → Bool
is_gap b = b == 32 || b == 10

-- The group is one of these.
abbrev pub is_member : ℕ → List ℕ → Bool
is_member gid text = list_any (is_id gid) (slice_split is_gap text)
