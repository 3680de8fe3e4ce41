use Rattle.std.proofs.Common.{◌++◌, List, ℕ, ap, sym, map}
use Rattle.std.proofs.lemmas.List.Elements.{All-map}
use Rattle.service_client.specs.Replies.{IsRow}
use Rattle.service_client.proofs.ReplyLaws.{rows_bytes, text_of}
use Rattle.service_client.proofs.reader.ReplyReader.is_partial.Goals as goal

pub returns : goal.returns
returns c =
    let reader = c.args.self.now in
    record {
      rows = map text_of reader.rows.items;
      part = reader.lines.part.items;
      are_rows = All-map IsRow text_of reader.rows.items reader.are_rows;
      is_part = reader.lines.is_part;
      cut = ap (λ (l : List ℕ). l ++ reader.lines.part.items) (sym (rows_bytes reader.rows.items));
    }
