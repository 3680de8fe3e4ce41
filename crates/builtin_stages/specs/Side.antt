-- The answers of the side channel.
use Rattle.std.specs.Prelude.{ℕ, ◌&&◌, ◌==◌, cond, nat_le, List, Option, None, Some}
use Rattle.side_channel.specs.Packets.{Message}

-- The data of an answer to GET_DEVICE_ID with the status OK whose data are stored.
abbrev pub id_in : Message → Option (List ℕ)
id_in p = cond ((p.command == 4) && (p.status == 1) && nat_le p.length 2048) (Some p.body) None
