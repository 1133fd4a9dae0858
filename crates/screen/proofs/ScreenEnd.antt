-- Each way in which a screen ends meets its promise.
use mathlib.Core.Path.{◌≡◌, refl, ap, ◌∙◌}
use mathlib.Core.Bool.{Bool, true}
use mathlib.Core.List.{List}
use Prim.Native.Nat.{ℕ, ◌≤◌, ◌<◌}
use native.Mathlib.Omega.{arith}
use lib.IntN.{ℤ, pos}
use lib.ListN.{length, replicate}
use Rattle.rows.specs.Row.{every, member, headed}
use Rattle.rows.specs.Bit.{bit_at, has}
use Rattle.rows.proofs.Row.{every_at, headed_rest, length_headed}
use Rattle.answer.specs.Answer.{Answer, Accepted}
use Rattle.answer.proofs.Said.{said_accepted}
use Rattle.answer.proofs.Numbers.{gives_said}
use Rattle.verdict.specs.Case.{on, Fits}
use Rattle.state.specs.Case.{case_in}
use Rattle.state.specs.Call.{lent_check, lent_numbers, lent, OverloadSaid}
use Rattle.state.specs.Inside.{Rewritten}
use Rattle.state.proofs.Checked.{lent_gives, passed}
use Rattle.state.proofs.Status.{branches_of}
use Rattle.screen.specs.Promise.{ScreenEnds, refuses, overloads, accepts}

-- Every branch is listed.
abbrev all_listed : List ℕ
all_listed = replicate 32 255

all_test : every 256 (has all_listed) ≡ true
unfolding every bit_at
all_test = refl

is_listed_lem : (k : ℕ) → k < 256 → has all_listed k ≡ true
is_listed_lem k u = every_at (has all_listed) 256 all_test k u

module _ (percent : ℕ) (bs : List ℕ) (flow : List ℤ) (table : List ℕ) where
  abbrev checks : Answer
  checks = lent_check percent bs (length flow) (length table)

  pub by_check : (o : Answer) {r : Answer} → o ≡ checks → (o ≡ Accepted → ⊥) → r ≡ o
      → ScreenEnds percent (lent bs flow table) (lent bs flow table) r
  unfolding member
  by_check o e n a =
      refuses (λ q. n (e ∙ q)) (gives_said lent_numbers checks refl (lent_gives percent bs (length flow) (length table)) (a ∙ e)) refl

  module _ (ok : checks ≡ Accepted) where
    pub by_overload : {r : Answer} → OverloadSaid (case_in percent bs) r → ScreenEnds percent (lent bs flow table) (lent bs flow table) r
    by_overload o = overloads ok o refl

    pub by_table : {n : ℕ} (f : ℕ → ℤ) {served : List Bool} {flow' : List ℤ} {table' : List ℕ} {losses : ℕ} {r : Answer} → r ≡ Accepted
        → n ≡ (case_in percent bs).branches
        → n ≤ length flow → flow' ≡ headed n f flow → Fits (case_in percent bs) (case_in percent bs).limit (on flow')
        → Rewritten (case_in percent bs) (on flow') served all_listed table table' losses → ((case_in percent bs).branches ≤ 256)
        → ScreenEnds percent (lent bs flow table) (lent bs flow' table') r
    by_table {n} f {served} {flow'} {table'} a c l w fits t few =
        let long : length flow' ≡ length flow = ap length w ∙ length_headed n f flow l in
        let p = passed bs (length flow) (length table) ok in
        let wrote = t.table_is in
        accepts ok (rw a said_accepted) (record {
          table_true = record {
            room = omega (arith, branches_of percent bs, p.flow_room);
            long = omega (arith, branches_of percent bs, p.table_room, wrote.long);
            fits = fits;
            each = λ k u. wrote.rewritten k u (is_listed_lem k (omega arith));
          };
          book_kept = refl;
          beyond = record {
            flow_long = long;
            flow_rest = λ k u. rw w (headed_rest n f flow k (pos 0) (omega arith));
            table_long = wrote.long;
            table_rest = wrote.rest;
          };
        })
