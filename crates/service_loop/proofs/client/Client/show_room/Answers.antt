-- One action: the longest document that is let in.
use Rattle.std.proofs.Common.{refl}
use Rattle.service_texts.specs.MeasuredTexts.{room_text}
use Rattle.service_texts.specs.declared.own_words.OwnWord.TheVariants as words
use Rattle.service_loop.specs.ClientSteps.{IsAdded}
use Rattle.service_loop.proofs.ClientStepLaws.{answered_by_word}
use Rattle.service_loop.proofs.client.Client.show_room.Goals as goal

pub returns-clause-done : goal.returns-clause-done
returns-clause-done g c =
    let old = c.args.self.now in
    let bytes = c.room_for_document-bytes.result in
    let added : IsAdded old (room_text bytes) (record old { replies = c.push_room.new.text }) = record { connection = refl; reader = refl; taken = refl; replies = c.in_ok-push_room.ensures } in
    answered_by_word _ _ c.args.shared.now.engine _ _ words.Room (room_text bytes) c.requires.role (bytes, refl) added c.requires.waits refl
