-- A branch without flow comes back with its whole limit left in each direction: the rows are then a state of the case with it in service.
use mathlib.Core.Path.{◌≡◌, ap}
use mathlib.Core.Bool.{Bool, true, false}
use mathlib.Core.List.{List}
use Prim.Native.Nat.{ℕ, ◌+◌, ◌<◌}
use native.Mathlib.Omega.{arith}
use native.Mathlib.Decide.{ℕ_discrete}
use lib.IntN.{ℤ, pos}
use lib.ListN.{length, set}
use lib.Seq.{get_or-set_same, get_or-set_other}
use Rattle.rows.specs.Row.{nth}
use Rattle.rows.specs.Sum.{pick}
use Rattle.quantity.specs.Signed.{pos_part, neg_part}
use Rattle.search.specs.declared.Wires.{Wires}
use Rattle.search.specs.declared.Latent.{Latent}
use Rattle.verdict.specs.Case.{Case, back}
use Rattle.verdict.specs.Record.{TrueRecord}
use Rattle.verdict.proofs.Fitting.{served_self, served_other}
use Rattle.verdict.proofs.Back.{fits_back, idle_record}
use Rattle.state.specs.Inside.{State}
use Rattle.state.proofs.TrueRecords.{still_fits}
use Rattle.switch.proofs.Switched.{held_switched}
use Rattle.restore.specs.Promise.{empty_record}

module _ (C : Case) (f : ℕ → ℤ) (W : Wires) (served : List Bool) (live : List ℕ) (lat : Latent) (s : State C f W served live lat)
    (b : ℕ) (there : b < C.branches) (off : C.served b ≡ false) (kw : ℕ) (kw-is : kw ≡ C.loss_limit b)
    (long-served : length served ≡ 256) (long-live : length live ≡ 256) (long-ahead : length lat.ahead ≡ 256) (long-back : length lat.back ≡ 256) where
  few : b < 256
  few = omega (arith, s.held.posed.few_branches)

  still : f b ≡ pos 0
  still = s.fits.still b there off

  abbrev left : Latent
  left = record { ahead = set lat.ahead b kw; back = set lat.back b kw }

  -- A row that holds the limit at b, and elsewhere what it held.
  row_at_lem : (row : List ℕ) (x y : ℕ → ℕ) → length row ≡ 256 → x b ≡ 0 → y b ≡ 0
      → ((k : ℕ) → k < C.branches → nth row k + x k ≡ pick (C.served k) (C.loss_limit k) + y k)
      → (k : ℕ) → k < C.branches → nth (set row b kw) k + x k ≡ pick ((back C b).served k) (C.loss_limit k) + y k
  row_at_lem row x y l p q h k u = go (ℕ_discrete k b)
    where
      go : Dec (k ≡ b) → nth (set row b kw) k + x k ≡ pick ((back C b).served k) (C.loss_limit k) + y k
      go (yes e) = rw (e, served_self C b true) (omega (arith, get_or-set_same row b kw 0 (omega (arith, few)), kw-is, p, q))
      go (no n) = rw (served_other C b true k n) (omega (arith, get_or-set_other row b k kw 0 n, h k u))

  pub state_back : State (back C b) f W (set served b true) (set live b kw) left
  state_back = record {
    held = held_switched C W served live s.held long-served long-live b few true kw kw-is;
    latents = record {
      ahead_is = row_at_lem lat.ahead (λ k. pos_part (f k)) (λ k. neg_part (f k)) long-ahead (ap pos_part still) (ap neg_part still) s.latents.ahead_is;
      back_is = row_at_lem lat.back (λ k. neg_part (f k)) (λ k. pos_part (f k)) long-back (ap neg_part still) (ap pos_part still) s.latents.back_is;
    };
    fits = fits_back C b off C.limit f s.fits;
  }

  -- The branch's own record shows it as carrying, and all else is zero.
  pub own_back : (rec : List ℕ) → TrueRecord (back C b) f b rec → rec ≡ empty_record
  own_back rec =
      idle_record (back C b) f b rec state_back.held.posed (served_self C b true) still
      (still_fits (back C b) f W (set served b true) (set live b kw) left state_back b there still)
