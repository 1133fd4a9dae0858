-- One letter, one command.
use borrow.Author.Rules.{rules}
use mathlib.Core.Path.{refl}
use Rattle.layout.specs.declared.Form.TheVariants.{Old, New}
use Rattle.std.proofs.lemmas.Result.{IfOk-weaker}
use Rattle.trial.specs.Inside.{writes, moves}
use Rattle.trial.proofs.Failed.{command_made, call_as_command}
use Rattle.trial.proofs.run.Goals as goal

pub returns-in-87-clause-command_run : goal.returns-in-87-clause-command_run
returns-in-87-clause-command_run g c =
    IfOk-weaker _ _ _ (λ r p. writes Old c.in-87.is p refl refl refl refl refl refl) c.run_write.ensures.write_run

pub returns-in-87-clause-err : goal.returns-in-87-clause-err
returns-in-87-clause-err g c = command_made _ 13 c.run_write.ensures.err (λ p. writes Old c.in-87.is p refl refl refl refl refl refl)

pub returns-in-88-clause-command_run : goal.returns-in-88-clause-command_run
returns-in-88-clause-command_run g c =
    IfOk-weaker _ _ _ (λ r p. writes New c.in-88.is p refl refl refl refl refl refl) c.run_write-in-88.ensures.write_run

pub returns-in-88-clause-err : goal.returns-in-88-clause-err
returns-in-88-clause-err g c = command_made _ 13 c.run_write-in-88.ensures.err (λ p. writes New c.in-88.is p refl refl refl refl refl refl)

pub returns-in-76-clause-err : goal.returns-in-76-clause-err
returns-in-76-clause-err g c = command_made _ 4 c.run_move.ensures.err (λ p. moves c.in-76.is p refl refl refl refl refl)

pub returns-in_default-clause-err : goal.returns-in_default-clause-err
returns-in_default-clause-err g c =
    call_as_command _ c.run_call.ensures.err (λ n p. search rules)
