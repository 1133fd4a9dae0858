-- From the kernel's word on the loss of a branch to a true record.
use mathlib.Core.Path.{◌≡◌, refl, sym, ap, ◌∙◌, fun_ext, subst}
use mathlib.Core.Bool.{Bool, true, false, false≢true}
use mathlib.Core.List.{List}
use mathlib.Core.Logic.{◌↔◌}
use Prim.Native.Nat.{ℕ, ◌-◌, ◌≤◌, ◌<◌}
use native.Mathlib.Omega.{arith}
use borrow.Author.Tests.{ne_eqb}
use lib.IntN.{ℤ, pos, ◌-ℤ◌}
use lib.ListN.{length, replicate, get_or-replicate, length-replicate, get_or-eq_default}
use Rattle.std.specs.Prelude.{Option, None, Some}
use Rattle.rows.specs.Row.{nth}
use Rattle.rows.specs.Bit.{has}
use Rattle.rows.specs.Sum.{Group, pick}
use Rattle.rows.proofs.Sum.{side, below, equal, above, pick_part}
use Rattle.quantity.specs.Signed.{pos_part, neg_part}
use Rattle.quantity.proofs.Parts.{by_parts, minus_parts}
use Rattle.bits.specs.Field.{Bytes}
use Rattle.bits.proofs.ReadAsPut.{bit_past, bit_zeros, bytes_zeros}
use Rattle.grid.proofs.Net.{Net, without}
use Rattle.grid.proofs.Flow.{Within, Balanced}
use Rattle.search.specs.declared.Wires.{Wires}
use Rattle.search.specs.declared.Latent.{Latent}
use Rattle.reroute.specs.InsideMoves.{network, carried, TwiceLimit}
use Rattle.reroute.specs.InsideVerdicts.{Carrying, Shortage, Says, Losable, Lost}
use Rattle.reroute.specs.declared.Judgement.{Judgement}
use Rattle.reroute.specs.declared.Shortfall.{Shortfall}
use Rattle.verdict.specs.Case.{Case, Posed, out, Fits}
use Rattle.verdict.specs.Excess.{NoExcess, Short as IsShort}
use Rattle.verdict.specs.Island.{ShortNumber}
use Rattle.verdict.specs.Record.{shortage_in, group_in, is_out, carries, short, TrueRecord}
use Rattle.verdict.proofs.Plain.{net_of, flow_of, loss_net}
use Rattle.verdict.proofs.Fitting.{nothing, fits_balanced, fits_none, settled_fits, fits_more, fits_idle}
use Rattle.verdict.proofs.Loss.{short_is, fits_carries}
use Rattle.verdict.proofs.Islanding.{number_most}
use Rattle.verdict.proofs.Alike.{SameFlow, within_alike, balanced_alike, net_out, gains_loads, shortage_limit}
use Rattle.record.specs.Inside.{record_bytes}
use Rattle.record.proofs.Made.{record_long, record_verdict, record_shortage, record_group, record_reroute, record_bytes_lem, record_plain, record_tail}
use Rattle.state.specs.Inside.{Held, State, Changed}

abbrev pub none : ℕ → List ℕ
none n = replicate n 0

pub none_at : (n j : ℕ) → nth (none n) j ≡ 0
none_at n j = elim (side j n) [
  | below l ↦ get_or-replicate n j 0 0 l
  | equal l ↦ get_or-eq_default (none n) 0 {n = j} (omega (arith, length-replicate {A = ℕ} n 0))
  | above l ↦ get_or-eq_default (none n) 0 {n = j} (omega (arith, length-replicate {A = ℕ} n 0))
]

pub none_has : (n j : ℕ) → has (none n) j ≡ false
none_has n j = rw (bit_zeros n j) refl

-- A group of 16 bytes has no bus past 128.
pub clipped : (n : ℕ) (g : List ℕ) → length g ≡ 16 → ((i : ℕ) → n ≤ i → i < 128 → has g i ≡ false) → (i : ℕ) → n ≤ i → has g i ≡ false
clipped n g l h i u = elim (side i 128) [
  | below v ↦ h i u v
  | equal v ↦ rw (bit_past g i (omega arith)) refl
  | above v ↦ rw (bit_past g i (omega arith)) refl
]

-- Sixteen bytes, and 0 past them.
pub group_bytes_lem : (g : List ℕ) → length g ≡ 16 → ((j : ℕ) → j < 16 → nth g j < 256) → Bytes g
group_bytes_lem g l h j = elim (side j 16) [
  | below u ↦ h j u
  | equal u ↦ rw (get_or-eq_default g 0 {n = j} (omega arith)) (omega arith)
  | above u ↦ rw (get_or-eq_default g 0 {n = j} (omega arith)) (omega arith)
]

-- The network of the rows is that of the case.
pub held_net : (C : Case) (W : Wires) (served : List Bool) (live : List ℕ) → Held C W served live
    → network W (nth live) (λ i. pos_part (C.injection i)) (λ i. neg_part (C.injection i)) ≡ net_of C C.loss_limit
held_net C W served live h = rw (h.buses_are, h.branches_are, h.first_is, h.second_is, h.live_is) refl

module _ (C : Case) (W : Wires) (served : List Bool) (live : List ℕ) (h : Held C W served live) where
  pub held_limit : (k : ℕ) → nth live k ≡ pick (C.served k) (C.loss_limit k)
  held_limit k = ap (λ (l : ℕ → ℕ). l k) h.live_is

  pub held_small : (k : ℕ) → k < W.branches → nth live k ≤ 1000000
  held_small k u = omega (arith, held_limit k, pick_part (C.served k) (C.loss_limit k), h.posed.rated k (rw (← h.branches_are) u))

-- ---- A branch that carries, with the bits of its reroute.
pub carrying_record : (C : Case) (f : ℕ → ℤ) → Posed C → (k : ℕ) (bits : List ℕ) → length bits ≡ 32 → Bytes bits → C.served k ≡ true → (g : ℕ → ℤ)
    → Fits (out C k) C.loss_limit g
    → ((j : ℕ) → j < C.branches → (has bits j ≡ true) ↔ ((j ≡ k → ⊥) × (g j ≡ f j → ⊥)))
    → ((j : ℕ) → C.branches ≤ j → has bits j ≡ false) → (f k ≡ pos 0 → (j : ℕ) → has bits j ≡ false)
    → TrueRecord C f k (record_bytes 1 0 (none 16) bits)
carrying_record C f p k bits l h e g w exactly beyond idle =
    let n = record_reroute 1 0 (none 16) bits refl l in
    record {
      long = record_long 1 0 (none 16) bits refl l;
      bytes = record_bytes_lem 1 0 (none 16) bits refl l (omega arith) (omega arith) (bytes_zeros 16) h;
      told = carries e (fits_carries C g k p w) (record_verdict 1 0 (none 16) bits refl l) (record_plain 1 0 (none 16) bits refl l refl (none_at 16))
          (record {
            flow = g;
            fits = w;
            exactly = λ j u. (λ q. (exactly j u).0 (sym (n j) ∙ q), λ q. n j ∙ (exactly j u).1 q);
            beyond = λ j u. n j ∙ beyond j u;
            idle = λ z j. n j ∙ idle z j;
          });
    }

-- ---- A branch that is short, with its number and its group.
pub short_record : (C : Case) (f : ℕ → ℤ) (k e n : ℕ) (g : List ℕ) → length g ≡ 16 → Bytes g → C.served k ≡ true → e < 16777216
    → IsShort C k e (has g) → ShortNumber C k n → TrueRecord C f k (record_bytes n e g (none 32))
short_record C f k e n g lg bg o low s number =
    let same : group_in (record_bytes n e g (none 32)) ≡ has g = fun_ext (record_group n e g (none 32) lg refl) in
    record {
      long = record_long n e g (none 32) lg refl;
      bytes = record_bytes_lem n e g (none 32) lg refl (omega (arith, number_most number)) low bg (bytes_zeros 32);
      told = short o
          (subst (λ (S : Group). IsShort C k (shortage_in (record_bytes n e g (none 32))) S) (sym same)
          (subst (λ (x : ℕ). IsShort C k x (has g)) (sym (record_shortage n e g (none 32) lg refl low)) s))
          (subst (ShortNumber C k) (sym (record_verdict n e g (none 32) lg refl)) number)
          (λ j w z. record_tail n e g (none 32) lg refl j w ∙ none_at 32 (j - 20));
    }

module _ (C : Case) (f : ℕ → ℤ) (W : Wires) (served : List Bool) (live : List ℕ) (lat : Latent) (s : State C f W served live lat) where
  p : Posed C
  p = s.held.posed

  fitting : NoExcess C
  fitting = fits_none C f s.held.posed s.fits

  pub limit_at : (k : ℕ) → nth live k ≡ pick (C.served k) (C.loss_limit k)
  limit_at = held_limit C W served live s.held

  pub limits : (k : ℕ) → k < W.branches → nth live k ≤ 1000000
  limits = held_small C W served live s.held

  pub even : TwiceLimit W.branches lat (nth live)
  even = record {
    twice = λ k u. let v : k < C.branches = rw (← s.held.branches_are) u in omega (arith, s.latents.ahead_is k v, s.latents.back_is k v, limit_at k);
  }

  -- What a loss asks for.
  pub losable : (k : ℕ) → k < W.branches → Losable W live lat k
  losable k u = record {
    linked = s.held.linked;
    limits = limits;
    even = even;
    below = u;
    different = λ e. s.held.posed.apart k (rw (← s.held.branches_are) u)
        (sym (ap (λ (l : ℕ → ℕ). l k) s.held.first_is) ∙ e ∙ ap (λ (l : ℕ → ℕ). l k) s.held.second_is);
  }

  -- The flow that the latent capacities leave is the case's own.
  pub balanced : Balanced (net_of C C.loss_limit) (carried (nth live) lat.ahead) nothing nothing
  balanced =
      balanced_alike (net_of C C.loss_limit) (flow_of f) (carried (nth live) lat.ahead) nothing nothing
      (λ k u. omega (arith, s.latents.ahead_is k u, limit_at k))
      (record { bus = (fits_balanced C C.limit f s.fits).bus })

  pub says : (k : ℕ) (r : Judgement) → Lost W live lat k r → Says (loss_net C k) (carried (loss_net C k).limit r.latent.ahead) r.short
  says k r l =
      subst (λ (N : Net). Says (without N k) (carried (without N k).limit r.latent.ahead) r.short) (held_net C W served live s.held)
      (l.says (λ i. pos_part (C.injection i)) (λ i. neg_part (C.injection i))
      (subst (λ (N : Net). Balanced N (carried (nth live) lat.ahead) nothing nothing) (sym (held_net C W served live s.held)) balanced))

  -- ---- A branch out of service.
  pub judge_out : (k : ℕ) → C.served k ≡ false → TrueRecord C f k (record_bytes 0 0 (none 16) (none 32))
  judge_out k e = record {
    long = record_long 0 0 (none 16) (none 32) refl refl;
    bytes = record_bytes_lem 0 0 (none 16) (none 32) refl refl (omega arith) (omega arith) (bytes_zeros 16) (bytes_zeros 32);
    told = is_out e (record_verdict 0 0 (none 16) (none 32) refl refl) (λ j u v. elim (side j 20) [
      | below l ↦ record_plain 0 0 (none 16) (none 32) refl refl refl (none_at 16) j u l
      | equal l ↦ record_tail 0 0 (none 16) (none 32) refl refl j (omega arith) ∙ none_at 32 (j - 20)
      | above l ↦ record_tail 0 0 (none 16) (none 32) refl refl j (omega arith) ∙ none_at 32 (j - 20)
    ]);
  }

  -- ---- A branch that carries.
  -- A branch without flow is spared as it stands.
  pub still_fits : (k : ℕ) → k < C.branches → f k ≡ pos 0 → Fits (out C k) C.loss_limit f
  still_fits k u z = fits_more (out C k) C.limit C.loss_limit f s.held.posed.rising (fits_idle C k C.limit f s.fits z)

  still_is : (k : ℕ) → k < C.branches → nth lat.ahead k ≡ nth live k → f k ≡ pos 0
  still_is k u e = by_parts (f k) (pos 0) (omega (arith, s.latents.ahead_is k u, limit_at k, e))

  pub judge_still : (k : ℕ) → k < C.branches → C.served k ≡ true → nth lat.ahead k ≡ nth live k → TrueRecord C f k (record_bytes 1 0 (none 16) (none 32))
  judge_still k u e z =
      carrying_record C f s.held.posed k (none 32) refl (bytes_zeros 32) e f (still_fits k u (still_is k u z))
      (λ j v. (λ h. absurd (false≢true (sym (none_has 32 j) ∙ h)), λ h. absurd (h.1 refl)))
      (λ j v. none_has 32 j) (λ z' j. none_has 32 j)

  -- ---- What the loss leaves on each branch, as a flow of the case without k.
  after : ℕ → Judgement → ℕ → ℤ
  after k r j = pos ((loss_net C k).limit j) -ℤ pos (nth r.latent.ahead j)

  after_same : (k : ℕ) (r : Judgement) → SameFlow (loss_net C k) (carried (loss_net C k).limit r.latent.ahead) (flow_of (after k r))
  unfolding after
  after_same k r j u = omega (arith, minus_parts (pos ((loss_net C k).limit j)) (pos (nth r.latent.ahead j)))

  after_fits : (k : ℕ) (r : Judgement) → Carrying (loss_net C k) (carried (loss_net C k).limit r.latent.ahead) → Fits (out C k) C.loss_limit (after k r)
  after_fits k r c =
      settled_fits (out C k) C.loss_limit (after k r)
      (subst (λ (N : Net). Within N (flow_of (after k r))) (net_out C k C.loss_limit)
      (within_alike (loss_net C k) (carried (loss_net C k).limit r.latent.ahead) (flow_of (after k r)) (after_same k r) c.within))
      (subst (λ (N : Net). Balanced N (flow_of (after k r)) nothing nothing) (net_out C k C.loss_limit)
      (balanced_alike (loss_net C k) (carried (loss_net C k).limit r.latent.ahead) (flow_of (after k r)) nothing nothing (after_same k r)
      (c.balanced (gains_loads C C.loss_limit s.held.posed))))

  other_limit : (k j : ℕ) → (j ≡ k → ⊥) → (loss_net C k).limit j ≡ pick (C.served j) (C.loss_limit j)
  other_limit k j n = rw (ne_eqb j k n) refl

  -- The flow of another branch is the same exactly if its latent capacity ahead is.
  after_is : (k : ℕ) (r : Judgement) (j : ℕ) → j < C.branches → (j ≡ k → ⊥) → (after k r j ≡ f j) ↔ (nth lat.ahead j ≡ nth r.latent.ahead j)
  unfolding after
  after_is k r j u n =
      let q = minus_parts (pos ((loss_net C k).limit j)) (pos (nth r.latent.ahead j)) in
      let l = s.latents.ahead_is j u in
      let o = other_limit k j n in
      (λ e. omega (arith, q, l, o, ap pos_part e, ap neg_part e), λ e. by_parts (after k r j) (f j) (omega (arith, q, l, o, e)))

  pub judge_carries : (k : ℕ) (r : Judgement) (bits : List ℕ) → k < C.branches → C.served k ≡ true → Lost W live lat k r → r.short ≡ None
      → (nth lat.ahead k ≡ nth live k → ⊥) → Changed W.branches lat.ahead r.latent.ahead k bits → TrueRecord C f k (record_bytes 1 0 (none 16) bits)
  judge_carries k r bits u e l v flowing ch =
      let d : Changed C.branches lat.ahead r.latent.ahead k bits = rw s.held.branches_are at ch in
      let c : Carrying (loss_net C k) (carried (loss_net C k).limit r.latent.ahead) =
      subst (λ (o : Option Shortfall). Says (loss_net C k) (carried (loss_net C k).limit r.latent.ahead) o) v (says k r l) in
      carrying_record C f s.held.posed k bits d.long d.bytes e (after k r) (after_fits k r c)
      (λ j w. (
        λ h. let x = d.named j h in (x.other, λ q. x.changed ((after_is k r j w x.other).0 q)),
        λ h. d.names j w h.0 (λ q. h.1 ((after_is k r j w h.0).1 q)),
      ))
      (λ j w. unnamed j w (has bits j) refl)
      (λ z j. absurd (flowing (omega (arith, s.latents.ahead_is k u, limit_at k, ap pos_part z, ap neg_part z))))
    where
      unnamed : (j : ℕ) → C.branches ≤ j → (t : Bool) → has bits j ≡ t → has bits j ≡ false
      unnamed j w true h = absurd (omega (arith, (ch.named j h).below, s.held.branches_are))
      unnamed j w false h = h

  -- ---- A branch that is short.
  pub is_short : (k : ℕ) (x : Shortfall) (r : Judgement) → Lost W live lat k r → r.short ≡ Some x → IsShort C k x.excess (has x.group)
  is_short k x r l v =
      let c : Shortage (loss_net C k) (has x.group) x.excess =
      subst (λ (o : Option Shortfall). Says (loss_net C k) (carried (loss_net C k).limit r.latent.ahead) o) v (says k r l) in
      let g = l.grouped x v in
      (short_is C k s.held.posed fitting x.excess (has x.group)).1 (record {
        above = c.some;
        smallest = c.smallest;
        beyond = clipped C.buses x.group g.long (λ i w. g.beyond i (rw s.held.buses_are w));
      })

  pub short_low : (k : ℕ) (x : Shortfall) (r : Judgement) → k < C.branches → Lost W live lat k r → r.short ≡ Some x → x.excess ≤ 1000000
  short_low k x r u l v =
      omega (arith, shortage_limit C k x.excess (has x.group) s.held.posed fitting u (is_short k x r l v), s.held.posed.rated k u)

  pub judge_short : (k n : ℕ) (x : Shortfall) (r : Judgement) → k < C.branches → C.served k ≡ true → Lost W live lat k r → r.short ≡ Some x
      → (IsShort C k x.excess (has x.group) → ShortNumber C k n) → TrueRecord C f k (record_bytes n x.excess x.group (none 32))
  judge_short k n x r u o l v number =
      let g = l.grouped x v in
      let short = is_short k x r l v in
      short_record C f k x.excess n x.group g.long (group_bytes_lem x.group g.long g.bytes) o (omega (arith, short_low k x r u l v)) short
      (number short)
