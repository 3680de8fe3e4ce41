use Rattle.std.proofs.Common.{◌≡◌, ℕ, List, [], ◌∷◌, ◌++◌, map, Option, None, Some, IfSome, String, string_bytes, ap, subst, sym, arith}
use Rattle.std.proofs.lemmas.Grind.{common_steps}
use Rattle.std.specs.Global.{Global}
use Rattle.std.specs.List.{Contains}
use Rattle.front_texts.specs.declared.queue_line.QueueLine.{QueueLine}
use Rattle.spool_front.specs.QueueChoice.{noted, place_at}
use Rattle.spool_front.proofs.services.only_queue.Goals as goal

-- A property of the socket of a row, and of the queue stored before, holds for the queue stored then.
noted_at : {T : Type 0} (P : List ℕ → Type 0) (text : T → List ℕ) (old new : Option (T × String Global)) (socket : List ℕ) (rows : List QueueLine)
    → noted new text ≡ noted old text ++ map (place_at socket) rows → IfSome old (λ service. P (text service.0)) → P socket → IfSome new (λ service. P (text service.0))
noted_at P text old None socket rows is h p = tt
noted_at P text (Some before) (Some after) socket rows is h p =
    let both : (text after.0, string_bytes after.1) ≡ (text before.0, string_bytes before.1) = cc in
    subst P (sym (ap (λ (service : List ℕ × List ℕ). service.0) both)) h
noted_at P text None (Some after) socket [] is h p = cc
noted_at P text None (Some after) socket (row ∷ rows) is h p =
    let both : (text after.0, string_bytes after.1) ≡ place_at socket row = cc in
    subst P (sym (ap (λ (service : List ℕ × List ℕ). service.0) both)) p

pub loop-socket-preserved : goal.loop-socket-preserved
loop-socket-preserved c =
    noted_at (Contains (map (λ socket. socket.now) c.args.services.sockets.now)) (λ service. service.now) c.loop-socket.only c.note_only.new.only _ _
    c.in_ok-note_only.ensures c.loop-socket.invariant (grind (arith, common_steps))
