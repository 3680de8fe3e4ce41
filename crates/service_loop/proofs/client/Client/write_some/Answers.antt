-- Some bytes are written, and then forgotten.
use Rattle.std.proofs.Common.{refl, subst, ℕ, ◌≤◌, List, length, take, arith}
use Rattle.std.specs.Io.KnownBytes.{Appends}
use Rattle.std.proofs.lemmas.List.{length-drop}
use Rattle.service_loop.proofs.ClientStepLaws.{delivers_none, delivers_then, goes_written, unwritten}
use Rattle.service_loop.proofs.client.Client.write_some.Goals as goal

pub returns-in-Ok-clause-delivers : goal.returns-in-Ok-clause-delivers
returns-in-Ok-clause-delivers g c =
    let wrote = c.in-Ok.ensures in
    let client = c.args.self.now in
    let piece = unwritten c.deref.result.now client.replies.items client.taken c.deref.ensures.value in
    let count_fits = subst (λ (l : List ℕ). c.in-Ok.count ≤ length l) piece wrote.bound in
    delivers_then _ _ _ _ (
      _,
      goes_written _ client c.in-Ok.count _ (record {
        kept = wrote.kept;
        wrote = subst (λ (l : List ℕ). Appends (g.L.Connection.view.contents client.connection) (g.L.Connection.view.contents c.write_to.new.connection) (take c.in-Ok.count l)) piece wrote.bytes;
        reader = refl;
        taken = refl;
        replies = refl;
        within = omega (arith, count_fits, length-drop client.taken client.replies.items);
        proofs = wrote.proofs;
      }),
    ) (delivers_none _ _ _ c.forget_taken.ensures.goes)
