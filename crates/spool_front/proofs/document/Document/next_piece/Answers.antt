use Rattle.std.proofs.Common.{List, ℕ, [], ◌≡◌, arith, rules, length, subst, sym, ◌∙◌, ◌≤◌}
use borrow.Author.Tests.{leb-true, leb-false}
use Rattle.std.proofs.lemmas.List.{with_items_is, places}
use Rattle.std.specs.Io.KnownBytes.{Consumes, IsAtEnd, prepend_known}
use Rattle.spool_front.specs.PieceBounds.{ahead_in, piece_in}
use Rattle.spool_front.proofs.Pieces.{ahead_none, at_end, goes_on, long, piece_length}
use Rattle.spool_front.proofs.document.Document.next_piece.Goals as goal

pub returns-clause-bytes : goal.returns-clause-bytes
returns-clause-bytes g c =
    let read = c.in_ok-self.field-0 in
    let left = g.S.Read.remaining c.read_on.new.source in
    subst (λ (l : List ℕ). Consumes (prepend_known (ahead_in c.args.self.now.filled c.args.self.now.buffer.items) (g.S.Read.remaining c.args.self.now.source))
    (prepend_known (ahead_in read l) left) (piece_in read l))
    (sym (with_items_is c.args.self.now.buffer c.read_on.new.buffer (search (rules, places))))
    (subst (λ (l : List ℕ). Consumes (prepend_known (ahead_in c.args.self.now.filled l) (g.S.Read.remaining c.args.self.now.source))
    (prepend_known (ahead_in read c.read_on.new.buffer) left) (piece_in read c.read_on.new.buffer)) c.deref_mut.ensures.value c.in_ok-self.ensures.bytes)

pub returns-clause-count : goal.returns-clause-count
returns-clause-count g c =
    subst (λ (l : List ℕ). c.min.result ≡ length (piece_in c.in_ok-self.field-0 l))
    (sym (with_items_is c.args.self.now.buffer c.read_on.new.buffer (search (rules, places))))
    (c.min.ensures ∙ piece_length c.in_ok-self.field-0 c.read_on.new.buffer c.in_ok-self.ensures.room c.in_ok-self.ensures.bound)

pub returns-clause-end : goal.returns-clause-end
returns-clause-end g c = λ ended.
    let least : c.in_ok-self.field-0 ≤ 131071 = leb-true _ _ ended in
    subst (λ (l : List ℕ). IsAtEnd (prepend_known (ahead_in c.in_ok-self.field-0 l) (g.S.Read.remaining c.read_on.new.source)))
    (sym (with_items_is c.args.self.now.buffer c.read_on.new.buffer (search (rules, places))))
    (at_end _ _ (ahead_none c.in_ok-self.field-0 c.read_on.new.buffer least) (c.in_ok-self.ensures.end (omega (arith, least))))

pub returns-clause-more : goal.returns-clause-more
returns-clause-more g c = λ more.
    subst (λ (l : List ℕ). ahead_in c.in_ok-self.field-0 l ≡ [] → ⊥)
    (sym (with_items_is c.args.self.now.buffer c.read_on.new.buffer (search (rules, places))))
    (goes_on c.in_ok-self.field-0 c.read_on.new.buffer c.in_ok-self.ensures.room (leb-false _ _ more))

pub returns-clause-long : goal.returns-clause-long
returns-clause-long g c = λ more.
    subst (λ (l : List ℕ). length (piece_in c.in_ok-self.field-0 l) ≡ 131071)
    (sym (with_items_is c.args.self.now.buffer c.read_on.new.buffer (search (rules, places))))
    (long c.in_ok-self.field-0 c.read_on.new.buffer c.in_ok-self.ensures.room c.in_ok-self.ensures.bound (leb-false _ _ more))
