use Rattle.std.proofs.Common.{rules, arith, ◌≡◌, ◌++◌, ◌∷◌, [], IfSome, ℕ, List, Option, map, subst, sym}
use Rattle.std.specs.Prelude.{Vec, true}
use Rattle.std.specs.Global.{Global}
use Rattle.std.specs.List.{All, flat_map}
use Rattle.std.proofs.lemmas.Grind.{common_steps}
use Rattle.std.proofs.lemmas.List.Elements.{All-map}
use Rattle.service_client.specs.HeldBytes.{held}
use Rattle.service_client.specs.Lines.{IsLine, with_feed}
use Rattle.service_client.specs.Replies.{IsRow, is_last}
use Rattle.service_client.proofs.ReplyLaws.{ends_reply, text_of}
use Rattle.service_client.proofs.reader.ReplyReader.take.Goals as goal

pub returns-clause-reply : goal.returns-clause-reply
returns-clause-reply c =
    let old = c.args.self.now in
    let line = subst (λ (o : Option (Vec ℕ Global)). IfSome o (λ (l : Vec ℕ Global). with_feed l.items ≡ old.lines.part.items ++ c.args.byte ∷ [])) c.in-Some.is c.in_ok-line.ensures.line in
    subst (λ (rows : Vec (Vec ℕ Global) Global). flat_map with_feed (map text_of rows.items) ++ with_feed c.in-Some.line.items ≡ held old ++ c.args.byte ∷ [])
    (sym c.replace-rows.ensures.value) (ends_reply old.rows.items c.in-Some.line.items old.lines.part.items c.args.byte line)

pub returns-clause-whole : goal.returns-clause-whole
returns-clause-whole c =
    let old = c.args.self.now in
    let whole = subst (λ (o : Option (Vec ℕ Global)). IfSome o (λ (l : Vec ℕ Global). IsLine l.items)) c.in-Some.is c.in_ok-line.ensures.whole in
    let ends : is_last c.in-Some.line.items ≡ true = grind (arith, common_steps) in
    record {
      rows = subst (λ (rows : Vec (Vec ℕ Global) Global). All IsRow (map text_of rows.items)) (sym c.replace-rows.ensures.value) (All-map IsRow text_of old.rows.items old.are_rows);
      last = record { whole = whole; ends = ends };
    }
