-- A case: the network that is judged, and the flows that fit it.
use Rattle.std.specs.Prelude.{◌≡◌, Bool, true, false, not, ◌&&◌, cond, List, ℕ, ◌≤◌, ◌<◌, eqb, ℤ, pos, nat_abs, ◌+ℤ◌, ◌-ℤ◌, get_or}
use Rattle.rows.specs.Sum.{Group, all, sum}

-- Injections are signed kW, positive where power enters. A branch may be in service with limit 0 and still join its ends.
pub record Case : Type 0 where
  pub buses : ℕ
  pub branches : ℕ
  pub first : ℕ → ℕ
  pub second : ℕ → ℕ
  pub served : ℕ → Bool
  pub injection : ℕ → ℤ
  -- the normal limit, to which the base flow keeps, and the second, by which a loss is judged
  pub limit : ℕ → ℕ
  pub loss_limit : ℕ → ℕ

pub record Posed (C : Case) : Type 0 where
  pub some_bus : 1 ≤ C.buses
  pub few_buses : C.buses ≤ 128
  pub few_branches : C.branches ≤ 256
  pub first_in : (k : ℕ) → k < C.branches → C.first k < C.buses
  pub second_in : (k : ℕ) → k < C.branches → C.second k < C.buses
  pub apart : (k : ℕ) → k < C.branches → C.first k ≡ C.second k → ⊥
  pub sized : (i : ℕ) → i < C.buses → nat_abs (C.injection i) ≤ 1000000
  pub balanced : sum C.buses all C.injection ≡ pos 0
  pub rated : (k : ℕ) → k < C.branches → C.loss_limit k ≤ 1000000
  pub rising : (k : ℕ) → k < C.branches → C.limit k ≤ C.loss_limit k

-- The case with the status of branch b changed; with b out of service; with b back in service.
abbrev pub with_status : Case → ℕ → Bool → Case
with_status C b s = record {
  buses = C.buses;
  branches = C.branches;
  first = C.first;
  second = C.second;
  served = λ k. cond (eqb k b) s (C.served k);
  injection = C.injection;
  limit = C.limit;
  loss_limit = C.loss_limit;
}

abbrev pub out : Case → ℕ → Case
out C b = with_status C b false

abbrev pub back : Case → ℕ → Case
back C b = with_status C b true

-- The case with these statuses; with all of a group out of service.
abbrev pub with_statuses : Case → (ℕ → Bool) → Case
with_statuses C served = record {
  buses = C.buses;
  branches = C.branches;
  first = C.first;
  second = C.second;
  served = served;
  injection = C.injection;
  limit = C.limit;
  loss_limit = C.loss_limit;
}

abbrev pub out_all : Case → Group → Case
out_all C T = with_statuses C (λ k. C.served k && not (T k))

-- The case with kw moved, 0 or more: document 02, W4, 'one bus's injection rises by it, another's falls by it'.
abbrev pub shifted : Case → ℕ → ℕ → ℕ → Case
shifted C up down kw = record {
  buses = C.buses;
  branches = C.branches;
  first = C.first;
  second = C.second;
  served = C.served;
  injection = λ i. cond (eqb i up) (C.injection i +ℤ pos kw) (cond (eqb i down) (C.injection i -ℤ pos kw) (C.injection i));
  limit = C.limit;
  loss_limit = C.loss_limit;
}

-- A flow gives each branch a signed kW, positive from its first bus to its second. A lent row of numbers gives one.
abbrev pub on : List ℤ → ℕ → ℤ
on row k = get_or row k (pos 0)

abbrev pub leaving : Case → (ℕ → ℤ) → ℕ → ℤ
leaving C f i = sum C.branches (λ k. eqb (C.first k) i) f

abbrev pub arriving : Case → (ℕ → ℤ) → ℕ → ℤ
arriving C f i = sum C.branches (λ k. eqb (C.second k) i) f

-- It fits if it is 0 on each branch out of service, within the limit on each other one, and at every bus what leaves less what arrives
-- equals the injection.
pub record Fits (C : Case) (limit : ℕ → ℕ) (f : ℕ → ℤ) : Type 0 where
  pub still : (k : ℕ) → k < C.branches → C.served k ≡ false → f k ≡ pos 0
  pub within : (k : ℕ) → k < C.branches → C.served k ≡ true → nat_abs (f k) ≤ limit k
  pub bus : (i : ℕ) → i < C.buses → leaving C f i -ℤ arriving C f i ≡ C.injection i
