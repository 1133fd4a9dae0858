-- Groups, excess, verdict: in the words and the order of document 01.
use Rattle.std.specs.Prelude.{◌≡◌, Bool, true, false, not, ◌&&◌, ℕ, ◌≤◌, ◌<◌, eqb, ℤ, pos, ◌-ℤ◌, ◌≤ℤ◌}
use Rattle.rows.specs.Sum.{Group, any, differ, over, sum}
use Rattle.verdict.specs.Case.{Case, out}

-- P(S): the sum of the injections of a group S of buses.
abbrev pub P : Case → Group → ℤ
P C S = sum C.buses S C.injection

-- Branch k has exactly one end in S.
abbrev pub one_end : Case → ℕ → Group → Bool
one_end C k S = differ (S (C.first k)) (S (C.second k))

-- R(S): the sum of limits of in-service branches with exactly one end in S.
abbrev pub R : Case → Group → ℕ
R C S = over C.branches (λ k. C.served k && one_end C k S) C.limit

-- R(S) without branch b leaves out b, and counts what each other branch may carry after a loss: document 02, "A branch's verdict, shortage, group
-- and reroute use the second".
abbrev pub RWithout : Case → ℕ → Group → ℕ
RWithout C b S = over C.branches (λ k. (C.served k && one_end C k S) && not (eqb k b)) C.loss_limit

-- P(S) - R(S), and the same without branch b.
abbrev pub excess : Case → Group → ℤ
excess C S = P C S -ℤ pos (R C S)

abbrev pub excess_without : Case → ℕ → Group → ℤ
excess_without C b S = P C S -ℤ pos (RWithout C b S)

-- Of the groups that `among` admits: v, above 0, is the largest value of e, and S is the smallest group reaching it. Smallest means contained in
-- every other. S is shown, so it has no bus beyond the n that there are.
pub record Largest (n : ℕ) (among : Group → Bool) (e : Group → ℤ) (v : ℕ) (S : Group) : Type 0 where
  pub above : 0 < v
  pub admitted : among S ≡ true
  pub reaches : e S ≡ pos v
  pub largest : (T : Group) → among T ≡ true → e T ≤ℤ pos v
  pub smallest : (T : Group) → among T ≡ true → e T ≡ pos v → (i : ℕ) → i < n → S i ≡ true → T i ≡ true
  pub beyond : (i : ℕ) → n ≤ i → S i ≡ false

-- ---- The base excess: the largest P(S) - R(S) over all groups.
-- It is 0: the empty group gives 0, and no group gives more.
abbrev pub NoExcess : Case → Type 0
NoExcess C = (S : Group) → excess C S ≤ℤ pos 0

-- It is v, above 0, and S is the smallest group reaching it.
abbrev pub Overload : Case → ℕ → Group → Type 0
Overload C v S = Largest C.buses any (excess C) v S

-- ---- The loss of branch b: all groups that hold exactly one end of b, and the largest P(S) - R(S) without b.
-- Above 0: b is short, with that shortage and the smallest group reaching it.
abbrev pub Short : Case → ℕ → ℕ → Group → Type 0
Short C b v S = Largest C.buses (one_end C b) (excess_without C b) v S

-- At most 0: b carries.
abbrev pub Carries : Case → ℕ → Type 0
Carries C b = (S : Group) → one_end C b S ≡ true → excess_without C b S ≤ℤ pos 0

-- May be taken out for good: the base excess of the case without b is 0.
abbrev pub Spare : Case → ℕ → Type 0
Spare C b = NoExcess (out C b)
