-- Where the answer of a command fails to be written, the command was run all the same.
use Prim.Native.Nat.{ℕ}
use mathlib.Core.List.{List}
use Rattle.std.proofs.Common.{Some, Result, Ok, Err, OnErr}
use Rattle.std.proofs.lemmas.Result.{on_err_weaker}
use Rattle.spaces.specs.declared.Spaces.{Spaces}
use Rattle.trial.specs.InsideCalls.{CallRun}
use Rattle.trial.specs.Inside.{CommandRun}

-- What holds anyway.
pub on_err : {T E : Type 0} (r : Result T E) {P : Type 0} → P → OnErr r P
on_err (Ok x) p = tt
on_err (Err e) p = p

module _ {T E : Type 0} (r : Result T E) {rest : List ℕ} {s s' : Spaces} where
  pub call_made : {P : Type 0} {letter : ℕ} (n : ℕ) → OnErr r P → (P → CallRun letter rest s s' (Some n)) → OnErr r ((n : ℕ) × CallRun letter rest s s' (Some n))
  call_made {letter} n p h = on_err_weaker {Q = (n : ℕ) × CallRun letter rest s s' (Some n)} r (λ x. (n, h x)) p

  pub call_stands : {letter : ℕ} (n : ℕ) → CallRun letter rest s s' (Some n) → OnErr r ((n : ℕ) × CallRun letter rest s s' (Some n))
  call_stands {letter} n p = on_err r {P = (n : ℕ) × CallRun letter rest s s' (Some n)} (n, p)

  pub command_made : {P : Type 0} (n : ℕ) → OnErr r P → (P → CommandRun rest s s' (Some n)) → OnErr r ((n : ℕ) × CommandRun rest s s' (Some n))
  command_made n p h = on_err_weaker {Q = (n : ℕ) × CommandRun rest s s' (Some n)} r (λ x. (n, h x)) p

  pub call_as_command : {letter : ℕ} → OnErr r ((n : ℕ) × CallRun letter rest s s' (Some n))
      → ((n : ℕ) → CallRun letter rest s s' (Some n) → CommandRun rest s s' (Some n)) → OnErr r ((n : ℕ) × CommandRun rest s s' (Some n))
  call_as_command p h = on_err_weaker {Q = (n : ℕ) × CommandRun rest s s' (Some n)} r (λ x. (x.0, h x.0 x.1)) p
