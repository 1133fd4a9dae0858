-- `put_refused` adds the number of a refusal, for 12 the shortage and the group, and else its place.
use native.Mathlib.Omega.{arith}
use mathlib.Core.Path.{refl, ap, ◌∙◌}
use mathlib.Core.List.{List, ◌++◌}
use Prim.Native.Nat.{ℕ}
use Rattle.answer.specs.declared.Reply.{Reply}
use Rattle.line.proofs.Adding.{adds_as, adds_then}
use Rattle.printing.specs.Lines.{refused_word, reason_text}
use Rattle.printing.proofs.Texts.{reason_twelve, reason_other}
use Rattle.printing.proofs.lines.put_refused.Goals as goal

pub returns-in-12 : goal.returns-in-12
returns-in-12 g c =
    adds_as (ap (λ (t : List ℕ). refused_word ++ t) (reason_twelve _ (omega (arith, c.from.ensures, c.in-12.is)) (omega (arith, c.from.ensures, c.in-12.is)) refl) ∙ ap (λ (t : Reply). refused_word ++ reason_text t) c.to_reply-reply.ensures) (omega arith)
    (adds_then c.put.ensures (adds_then c.put_next.ensures c.put_short.ensures))

pub returns-in_default : goal.returns-in_default
returns-in_default g c =
    adds_as (ap (λ (t : List ℕ). refused_word ++ t) (reason_other _ c.from.ensures (omega (arith, c.from.ensures)) refl) ∙ ap (λ (t : Reply). refused_word ++ reason_text t) c.to_reply-reply.ensures) (omega arith)
    (adds_then c.put.ensures (adds_then c.put_next.ensures c.put_place.ensures))
