-- The session of joined requests.
use Rattle.std.proofs.Common.{◌≡◌, ℕ, ◌<◌, ◌^◌, List, [], ◌∷◌, ◌++◌, length, Ok, refl, ap, ◌∙◌, arith, append_assoc}
use Rattle.std.proofs.lemmas.Nat.{from_be_bytes-to_be_bytes_2}
use Rattle.side_channel.specs.Packets.{with_data, whole, front_of, kept, spelling}
use Rattle.side_channel.specs.SideAnswers.{answer_of, reply_bytes}
use Rattle.side_channel.specs.SideSessions.{session, ends, after}
use Rattle.side_channel.specs.Requests.{Request, message_of, AreAsked, asked, told}
use Rattle.side_channel.specs.declared.devices.Device.{Device}
use Rattle.side_channel.specs.declared.endings.Ending.TheVariants.{End}
use Rattle.side_channel.proofs.PacketLaws.{message, with_data-whole}
use Rattle.side_channel.proofs.SessionLaws.{session-on, session-end, after_both}

pub front_of-spelling : (c s : ℕ) (bytes more : List ℕ) → length bytes < 2 ^ 16 → front_of (spelling c s bytes ++ more) ≡ whole (message c s (length bytes) (kept bytes)) more
front_of-spelling c s bytes more fits =
    ap (λ m. with_data c s m (bytes ++ more)) (from_be_bytes-to_be_bytes_2 (length bytes) fits) ∙ with_data-whole c s bytes more

pub session-asked : (d : Device) (rs : List Request) (rest : List ℕ) → AreAsked rs → session d (asked rs ++ rest) ≡ after (told d rs) (session d rest)
session-asked d [] rest are = refl
session-asked d (r ∷ rs) rest are =
    let first = spelling r.command r.status r.bytes in
    let answer = reply_bytes (answer_of d (message_of r)) in
    ap (session d) (append_assoc first (asked rs) rest)
    ∙ session-on d (first ++ (asked rs ++ rest)) (message_of r) (asked rs ++ rest) (front_of-spelling r.command r.status r.bytes (asked rs ++ rest) are.0) are.1
    ∙ ap (after answer) (session-asked d rs rest are.2)
    ∙ after_both answer (told d rs) (session d rest)

pub session-end_packet : (d : Device) (rest : List ℕ) → session d (255 ∷ 0 ∷ 0 ∷ 0 ∷ rest) ≡ ends (Ok End) rest
session-end_packet d rest =
    session-end d (255 ∷ 0 ∷ 0 ∷ 0 ∷ rest) (message 255 0 0 []) rest (front_of-spelling 255 0 [] rest (omega arith)) refl
