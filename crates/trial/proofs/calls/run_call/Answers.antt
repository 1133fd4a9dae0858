-- One letter, one call: where a line fails to be written the call was made all the same.
use mathlib.Core.Path.{refl}
use Rattle.trial.specs.InsideCalls.{screens, takes_out, brings_back, moves_load, reads, meters, dumps}
use Rattle.trial.proofs.Failed.{call_made, call_stands}
use Rattle.trial.proofs.calls.run_call.Goals as goal

pub returns-in_err-dump-in-68-clause-err : goal.returns-in_err-dump-in-68-clause-err
returns-in_err-dump-in-68-clause-err g c =
    call_stands _ 1 (dumps c.in-68.is refl refl
    (record { stand = record { percent_is = refl; bytes_is = refl; shelf_is = refl }; injections_is = refl; branches_is = refl }))

pub returns-in-83-clause-err : goal.returns-in-83-clause-err
returns-in-83-clause-err g c =
    call_made _ 5 c.tell.ensures.err (λ e. screens c.in-83.is (rw e at c.run_screen-screened.ensures)
    (record { stand = record { percent_is = refl; bytes_is = refl; shelf_is = refl }; injections_is = refl; branches_is = refl }))

pub returns-in-79-clause-err : goal.returns-in-79-clause-err
returns-in-79-clause-err g c =
    call_made _ 7 c.tell-in-79.ensures.err (λ e. takes_out c.in-79.is (rw e at c.run_out-taken.ensures)
    (record { stand = record { percent_is = refl; bytes_is = refl; shelf_is = refl }; injections_is = refl; branches_is = refl }))

pub returns-in-75-clause-err : goal.returns-in-75-clause-err
returns-in-75-clause-err g c =
    call_made _ 7 c.tell-in-75.ensures.err (λ e. brings_back c.in-75.is (rw e at c.run_back-back.ensures)
    (record { stand = record { percent_is = refl; bytes_is = refl; shelf_is = refl }; injections_is = refl; branches_is = refl }))

pub returns-in-86-clause-err : goal.returns-in-86-clause-err
returns-in-86-clause-err g c =
    call_made _ 13 c.tell-in-86.ensures.err (λ e. moves_load c.in-86.is (rw e at c.run_transfer-moved.ensures)
    (record { stand = record { percent_is = refl; bytes_is = refl; shelf_is = refl }; injections_is = refl; branches_is = refl }))

pub returns-in-82-clause-err : goal.returns-in-82-clause-err
returns-in-82-clause-err g c =
    call_made _ 5 c.run_read.ensures.err (λ r. reads c.in-82.is r refl (record { percent_is = refl; bytes_is = refl; shelf_is = refl }))

pub returns-in-77-clause-err : goal.returns-in-77-clause-err
returns-in-77-clause-err g c =
    call_made _ _ c.run_meters.ensures.err (λ r. meters c.in-77.is r refl refl (record { percent_is = refl; bytes_is = refl; shelf_is = refl }))
