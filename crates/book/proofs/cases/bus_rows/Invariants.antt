-- `bus_rows` fills the rows of what enters and what leaves.
use Prim.Native.Nat.{◌-◌}
use Rattle.quantity.specs.Signed.{pos_part, neg_part}
use Rattle.layout.specs.Layout.{injection_at}
use Rattle.book.proofs.Filling.{Filling}
use Rattle.book.proofs.cases.bus_rows.Given as goal

abbrev pub invariant-loop-k : goal.invariant-loop-k
invariant-loop-k l =
    Filling (λ i. pos_part (injection_at l.book i)) l.buses l.initial.gain l.gain l.k × Filling (λ i. neg_part (injection_at l.book i)) l.buses l.initial.load l.load l.k

abbrev pub decreases-loop-k : goal.decreases-loop-k
decreases-loop-k l = l.buses - l.k
