-- The requests that take room of the journal, and when they are refused for its reserve.
use Rattle.std.specs.Prelude.{ℕ, Bool, Option, None, Some}
use Rattle.service_texts.specs.declared.own_words.OwnWord.{OwnWord}
use Rattle.service_texts.specs.declared.own_words.OwnWord.TheVariants as words
use Rattle.client_reader.specs.declared.ask.Ask.{Ask}
use Rattle.client_reader.specs.declared.ask.Ask.TheVariants as asking
use Rattle.print_rounds.specs.RunStates.{RunState}
use Rattle.service_rules.specs.Reserve.{close_cost, document_room}
use Rattle.engine_reserve.specs.CommandRoom.{command_cost, journal_of, takes_reserve}

-- ## The bytes that a request needs at most, if it takes room

abbrev pub word_cost : OwnWord → Option ℕ
word_cost (words.CloseAs job name media) = Some close_cost
word_cost (words.CloseAt job size name media) = Some close_cost
word_cost word = None

-- Every other request may use the reserve.
abbrev pub cost_of : Ask → Option ℕ
cost_of (asking.Command command) = command_cost command
cost_of (asking.Own word) = word_cost word

-- ## The decision

-- The request would take room from the reserve.
abbrev pub is_reserved : {D : Type 0} → ℕ → RunState D → Ask → Bool
is_reserved area s ask = takes_reserve area s (cost_of ask)

-- The longest document that is let in now.
abbrev pub room_for : {D : Type 0} → ℕ → RunState D → ℕ
room_for area s = document_room (journal_of area s)
