-- Progress of a client: its replies are written, and its text is read and served, unless its connection reports that this is impossible.
use Rattle.std.specs.Prelude.{◌≡◌, ◌⊎◌, ℕ, ◌<◌, ◌≤◌, Bool, true, false, cond, nat_eq, nat_le, nat_lt, not, ◌&&◌, ◌||◌, List, [], ◌++◌, length, codes, Option, Some, Ok, IfSome, is_some}
use Rattle.std.specs.Io.KnownBytes.{Consumes, Keeps}
use Rattle.spool_types.specs.State.{State}
use Rattle.spool_core.specs.OpenSpools.{OpenSpool}
use Rattle.service_rules.specs.Bounds.{most_unread}
use Rattle.service_texts.specs.Notices.{Noted, change_text, told}
use Rattle.service_texts.specs.Shown.{has_settled}
use Rattle.service_texts.specs.declared.own_words.OwnWord.{OwnWord}
use Rattle.service_texts.specs.declared.own_words.OwnWord.TheVariants.{Shutdown, Watch, WatchFrom}
use Rattle.client_reader.specs.AwaitedRequests.{Awaits, is_in_send}
use Rattle.client_reader.specs.declared.ask.Ask.{Ask}
use Rattle.service_loop.specs.AdmissionViews.{unread, watches}
use Rattle.service_loop.specs.ConnectionViews.{ConnectionView, has_no_more, is_cut, takes_later, takes_no_more}
use Rattle.service_loop.specs.declared.client.Client.{Client}
use Rattle.service_loop.specs.declared.client.Disconnect.{Disconnect}
use Rattle.service_loop.specs.declared.client.Disconnect.TheVariants.{Device, Left}
use Rattle.service_loop.specs.declared.client.Step.{Step}
use Rattle.service_loop.specs.declared.client.Step.TheVariants.{Served, Goes, Rests, Lost}
use Rattle.service_loop.specs.declared.client.Turn.{Turn}

-- ## Unchanged fields

-- A client, with the fields that writing to its connection may change taken from another.
abbrev pub as_given : {L : Type 0} → Client L → Client L → Client L
as_given old new = record old { connection = new.connection; replies = new.replies; taken = new.taken; writable = new.writable; last_active = new.last_active }

-- A client, with the fields that reading its connection may change taken from another.
abbrev pub as_read : {L : Type 0} → Client L → Client L → Client L
as_read old new = record old { connection = new.connection; reader = new.reader; readable = new.readable; over = new.over; last_active = new.last_active }

-- A client, with the fields that an answer may change taken from another.
abbrev pub as_answered : {L : Type 0} → Client L → Client L → Client L
as_answered old new = record old { connection = new.connection; replies = new.replies; waits = new.waits; watches = new.watches; counts = new.counts; standing = new.standing }

-- A client, with the fields that a notice may change taken from another.
abbrev pub as_told : {L : Type 0} → Client L → Client L → Client L
as_told old new = record old { replies = new.replies; missed = new.missed }

-- ## Its connection

-- A client whose connection is ready.
abbrev pub signed : {L : Type 0} → Client L → Bool → Bool → Client L
signed c writable gone = record c { readable = true; writable = c.writable || writable; gone = c.gone || gone }

-- Its connection is not read, or not written, only if it reported last that nothing comes now or ever, or that it takes nothing now.
pub record IsMarked {L : Type 0} (view : ConnectionView L) (c : Client L) : Type 0 where
  pub readable : c.readable ≡ false → IfSome (view.gave c.connection) (λ last. has_no_more last ≡ true)
  pub writable : c.writable ≡ false → IfSome (view.took c.connection) (λ last. takes_later last ≡ true)

-- Its connection reported that it takes nothing any more.
abbrev pub IsUnheard : {L : Type 0} → ConnectionView L → Client L → Type 0
IsUnheard view c = IfSome (view.took c.connection) (λ last. takes_no_more last ≡ true)

-- Its connection reported that it cannot be read.
abbrev pub IsCut : {L : Type 0} → ConnectionView L → Client L → Type 0
IsCut view c = IfSome (view.gave c.connection) (λ last. is_cut last ≡ true)

-- ## Its replies are written

-- All of them, or as much as its connection takes now.
abbrev pub IsGiven : {L : Type 0} → Client L → Type 0
IsGiven c = (unread c ≡ 0) ⊎ (c.writable ≡ false)

-- It was heard now if it has taken something.
abbrev pub heard_after : {L : Type 0} → Client L → ℕ → Client L → ℕ
heard_after old now new = cond (nat_lt (unread new) (unread old)) now old.last_active

-- ## Its text is read

-- Its connection brought a piece, and its reader took it.
pub record IsRead {L : Type 0} (view : ConnectionView L) (old : Client L) (piece : List ℕ) (new : Client L) : Type 0 where
  pub consumed : Consumes (view.remaining old.connection) (view.remaining new.connection) piece
  pub kept : Keeps (view.contents old.connection) (view.contents new.connection)
  pub took : (asks : List ℕ → List Ask) → Awaits old.reader asks → Awaits new.reader (λ more. asks (piece ++ more))
  pub taken : new.taken ≡ old.taken
  pub replies : new.replies.items ≡ old.replies.items

-- Some bytes came. It was heard now if they are of a send.
pub record HasPiece {L : Type 0} (view : ConnectionView L) (old : Client L) (now : ℕ) (new : Client L) : Type 0 where
  pub piece : List ℕ
  pub some : 0 < length piece
  pub read : IsRead view old piece new
  pub over : new.over ≡ old.over
  pub heard : new.last_active ≡ cond (is_in_send old.reader) now old.last_active

-- Nothing comes now, or its text has ended.
pub record HasNoMore {L : Type 0} (view : ConnectionView L) (old new : Client L) : Type 0 where
  pub readable : new.readable ≡ false
  pub reader : new.reader ≡ old.reader
  pub over : (new.over ≡ old.over) ⊎ ((new.over ≡ true) × IfSome (view.gave new.connection) (λ last. last ≡ Ok 0))
  pub heard : new.last_active ≡ old.last_active

-- The result of a read.
abbrev pub HasRead : {L : Type 0} → ConnectionView L → Client L → ℕ → Client L → Type 0
HasRead view old now new = HasPiece view old now new ⊎ HasNoMore view old new

-- The result of a step that reads. If nothing can be read, nothing was.
abbrev pub IsReadAs : {L : Type 0} → ConnectionView L → Client L → ℕ → Step → Client L → Type 0
IsReadAs view old now Served new = ⊥
IsReadAs view old now Goes new = HasRead view old now new
IsReadAs view old now Rests new = (new ≡ old) × (old.readable ≡ false)
IsReadAs view old now Lost new = IsCut view new

-- ## Notices

-- What a client is sent of some changes: their lines, as far as it may see them, and the number of the last change, if it counts them.
abbrev pub news_for : {L : Type 0} → State → Noted → ℕ → Client L → List ℕ
news_for s noted last c = told c.standing s noted ++ cond c.counts (change_text last) []

-- The part of a notice that it is sent: nothing if it does not watch or left too much unread.
abbrev pub text_for : {L : Type 0} → Client L → List ℕ → List ℕ
text_for c text = cond (watches c && nat_lt (unread c) most_unread) (cond c.missed (codes "missed\n" ++ text) text) []

-- Whether it missed some of it then.
abbrev pub misses : {L : Type 0} → Client L → Bool
misses c = cond (watches c) (nat_le most_unread (unread c)) c.missed

-- ## A turn

-- The word that requests notices, and the word that ends the service.
abbrev pub is_watch : OwnWord → Bool
is_watch Watch = true
is_watch (WatchFrom number) = true
is_watch word = false

abbrev pub is_shutdown : OwnWord → Bool
is_shutdown Shutdown = true
is_shutdown word = false

-- A turn that served something, and perhaps saw a request to end.
abbrev pub as_served : Turn → Turn → Turn
as_served old new = record old { served = new.served; shutdown = new.shutdown }

-- Nothing can be done for it now: the end that it waits for has not come, or nothing more of its text comes now.
abbrev pub IsAtRest : {L : Type 0} → State → Client L → Type 0
IsAtRest s c = ((job : ℕ) × (c.waits ≡ Some job) × (has_settled s job ≡ false)) ⊎ (c.readable ≡ false)

-- It left too much unread.
abbrev pub IsBacklogged : {L : Type 0} → Client L → Type 0
IsBacklogged c = most_unread ≤ unread c

-- Its text has ended, there is no more to serve, it waits for nothing, and it has all replies.
abbrev pub has_ended : {L : Type 0} → Client L → Bool → Bool
has_ended c more = c.over && (not more && (not (is_some c.waits) && nat_eq (unread c) 0))

-- After its replies were written, it can be served again, as too much of them is unread no longer, or it has ended.
abbrev pub goes_further : {L : Type 0} → Bool → Client L → Bool
goes_further was_backlogged c = (was_backlogged && nat_lt (unread c) most_unread) || has_ended c false

-- Its connection is lost, or it hung up while it waited for an end, or its text has ended and it has all replies.
abbrev pub HasLeft : {L : Type 0} → ConnectionView L → Client L → Type 0
HasLeft view c = IsUnheard view c ⊎ IsCut view c ⊎ ((c.gone ≡ true) × (is_some c.waits ≡ true)) ⊎ ((c.over ≡ true) × (unread c ≡ 0))

-- Why a client is disconnected, if it is: it had left, memory ran out for it, or the device of this spool failed. Its marks stay true.
pub record Leaves {D L : Type 0} (view : ConnectionView L) (spool : OpenSpool D) (was : Client L) (disconnect : Option Disconnect) (is : Client L) : Type 0 where
  pub left : disconnect ≡ Some Left → HasLeft view is
  pub fails : disconnect ≡ Some Device → spool.dead ≡ true
  pub marked : IsMarked view was → IsMarked view is
