-- `write` leaves the written book and its length, or nothing changed and the length that there was: both are within the space.
use native.Mathlib.Omega.{arith}
use mathlib.Core.Path.{refl}
use Rattle.std.proofs.lemmas.List.{length-take}
use Rattle.tables.proofs.Written.{is_accepted, is_refused, written, written_into}
use Rattle.tables.proofs.write.Goals as goal

pub bytes_for-requires : goal.bytes_for-requires
bytes_for-requires c =
    let w = written c.write_book-answer.ensures (is_accepted _ c.is_ok.ensures.value c.if-is_ok.true) in
    (omega (arith, w.range.few_buses), omega (arith, w.range.few_branches))

pub returns-then-is_ok : goal.returns-then-is_ok
returns-then-is_ok c =
    let call = c.write_book-answer in
    let accepted = is_accepted _ c.is_ok.ensures.value c.if-is_ok.true in
    let w = written call.ensures accepted in
    written_into _ _ c.in_ok-asked.ensures.some call.auto.out call.ensures (λ _. c.bytes_for.ensures) (λ z. absurd (z accepted))
    (omega (arith, c.bytes_for.ensures, w.fits, length-take c.in_ok-asked.asked.room c.args.book.now))

pub returns-else-is_ok : goal.returns-else-is_ok
returns-else-is_ok c =
    let call = c.write_book-answer in
    written_into _ _ c.in_ok-asked.ensures.some call.auto.out call.ensures (λ a. absurd (is_refused _ c.is_ok.ensures.value c.if-is_ok.false a)) (λ _. refl) c.requires.1
