-- Each early answer is the first test that fails.
use borrow.Author.Tests.{lt-ltb, le-ltb}
use mathlib.Core.Path.{◌≡◌, sym, ap, ◌∙◌}
use mathlib.Core.Bool.{Bool}
use Prim.Native.Nat.{ℕ}
use lib.Dec.{ltb}
use Rattle.answer.specs.Answer.{Accepted}
use Rattle.layout.specs.Check.{check_of}
use Rattle.layout.specs.Layout.{bytes_for, buses_in, branches_in, book_of}
use Rattle.forms.specs.Move.{ratings_differ, would_lose}
use Rattle.forms.proofs.Moving.{differing, small_head, length_by, by_book, by_ratings, by_room, by_none}
use Rattle.answer.proofs.Refusals.{gave_up, handed_on}
use Rattle.forms.proofs.check.Goals as goal

pub returns-in_err-check_with : goal.returns-in_err-check_with
returns-in_err-check_with c = handed_on c.in_err-check_with.was c.from_residual.ensures ∙ by_book _ _ _ _ c.check_with.ensures (gave_up c.in_err-check_with.was)

pub would_lose-requires : goal.would_lose-requires
would_lose-requires c =
    let ok : check_of c.args.book.now ≡ Accepted = sym c.check_with.ensures ∙ c.in_ok-check_with.was in
    small_head _ _ c.requires ok

pub bytes_for-requires : goal.bytes_for-requires
bytes_for-requires c =
    let ok : check_of c.args.book.now ≡ Accepted = sym c.check_with.ensures ∙ c.in_ok-check_with.was in
    let s = small_head _ _ c.requires ok in (s.few_buses, s.few_branches)

pub returns-then-would_lose : goal.returns-then-would_lose
returns-then-would_lose c =
    let ok : check_of c.args.book.now ≡ Accepted = sym c.check_with.ensures ∙ c.in_ok-check_with.was in
    let lost : let a = c.args in c.would_lose.result ≡ would_lose a.form (ratings_differ (book_of a.book.now)) = c.would_lose.ensures ∙ ap (λ (t : Bool). would_lose c.args.form t) (differing _ _ c.requires) in
    let short : let a = c.args in ltb a.room c.bytes_for.result ≡ ltb a.room (bytes_for a.form (buses_in a.book.now) (branches_in a.book.now)) = ap (λ (n : ℕ). ltb c.args.room n) (c.bytes_for.ensures ∙ length_by _ _ c.args.form c.requires) in
    by_ratings _ _ _ ok _ _ lost short c.if-would_lose.true

pub returns-then-short : goal.returns-then-short
returns-then-short c =
    let ok : check_of c.args.book.now ≡ Accepted = sym c.check_with.ensures ∙ c.in_ok-check_with.was in
    let lost : let a = c.args in c.would_lose.result ≡ would_lose a.form (ratings_differ (book_of a.book.now)) = c.would_lose.ensures ∙ ap (λ (t : Bool). would_lose c.args.form t) (differing _ _ c.requires) in
    let short : let a = c.args in ltb a.room c.bytes_for.result ≡ ltb a.room (bytes_for a.form (buses_in a.book.now) (branches_in a.book.now)) = ap (λ (n : ℕ). ltb c.args.room n) (c.bytes_for.ensures ∙ length_by _ _ c.args.form c.requires) in
    by_room _ _ _ ok _ _ lost short c.if-would_lose.false (lt-ltb _ _ c.if-short.true)

pub returns : goal.returns
returns c =
    let ok : check_of c.args.book.now ≡ Accepted = sym c.check_with.ensures ∙ c.in_ok-check_with.was in
    let lost : let a = c.args in c.would_lose.result ≡ would_lose a.form (ratings_differ (book_of a.book.now)) = c.would_lose.ensures ∙ ap (λ (t : Bool). would_lose c.args.form t) (differing _ _ c.requires) in
    let short : let a = c.args in ltb a.room c.bytes_for.result ≡ ltb a.room (bytes_for a.form (buses_in a.book.now) (branches_in a.book.now)) = ap (λ (n : ℕ). ltb c.args.room n) (c.bytes_for.ensures ∙ length_by _ _ c.args.form c.requires) in
    by_none _ _ _ ok _ _ lost short c.if-would_lose.false (le-ltb _ _ c.if-short.false)
