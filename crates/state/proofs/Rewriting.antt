-- A table whose listed records are written anew, one after another.
use mathlib.Core.Path.{◌≡◌, refl, sym, ap, ◌∙◌}
use mathlib.Core.Bool.{Bool, true, false, ◌&&◌, true≢false}
use mathlib.Core.Logic.{inl}
use mathlib.Core.List.{List}
use Prim.Native.Nat.{ℕ, ◌+◌, ◌-◌, ◌*◌, ◌<◌, ◌≤◌}
use native.Mathlib.Omega.{arith}
use native.Mathlib.Numerals.{add-one}
use borrow.Author.Count.{below_more}
use lib.IntN.{ℤ}
use lib.ListN.{length, get_or, drop, length-take, length-drop}
use lib.Seq.{get_or-take, get_or-drop, ext_get_or}
use Rattle.rows.specs.Row.{nth, placed}
use Rattle.rows.specs.Bit.{has}
use Rattle.rows.specs.Sum.{over, pick}
use Rattle.rows.proofs.Row.{length_placed, placed_mid, placed_high, placed_other}
use Rattle.search.specs.declared.Wires.{Wires}
use Rattle.search.specs.declared.Latent.{Latent}
use Rattle.verdict.specs.Case.{Case, on, Fits}
use Rattle.verdict.specs.Record.{record_at, TrueRecord}
use Rattle.verdict.specs.Update.{Renewed}
use Rattle.state.specs.Call.{lent}
use Rattle.state.specs.Inside.{State, Poised, Rewriting, judged_of, Rewritten}

-- Records past the place written so far are as they were lent.
record_same : (t t' : List ℕ) (k : ℕ) → length t' ≡ length t → ((j : ℕ) → 52 * k ≤ j → nth t' j ≡ nth t j) → record_at t' k ≡ record_at t k
record_same t t' k l h =
    ext_get_or 0 (record_at t' k) (record_at t k) (simp (length-take, length-drop) (omega arith))
    (λ i v.
    let w : i < 52 = omega (arith, simp length-take at v) in
    rw (get_or-take 52 (drop (52 * k) t') i 0 w, get_or-take 52 (drop (52 * k) t) i 0 w, get_or-drop (52 * k) t' i 0, get_or-drop (52 * k) t i 0) (h (52 * k + i) (omega arith)))

module _ (C : Case) (f : ℕ → ℤ) (listed : List ℕ) where
  rewriting_none : (t : List ℕ) → Rewriting C f listed 0 t t
  rewriting_none t = record { long = refl; rewritten = λ k u. absurd (omega arith); kept = λ k u. absurd (omega arith); rest = λ j u. refl }

  rewriting_kept : (k : ℕ) (t₀ t : List ℕ) → Rewriting C f listed k t₀ t → has listed k ≡ false → Rewriting C f listed (k + 1) t₀ t
  rewriting_kept k t₀ t r e = record {
    long = r.long;
    rewritten = below_more _ k r.rewritten (λ q. absurd (true≢false (sym q ∙ e)));
    kept = below_more _ k r.kept (λ _. record_same t₀ t k r.long r.rest);
    rest = λ j u. r.rest j (omega arith);
  }

  rewriting_written : (k : ℕ) (t₀ t rec : List ℕ) → 52 * k + 52 ≤ length t₀ → Rewriting C f listed k t₀ t → has listed k ≡ true → TrueRecord C f k rec
      → Rewriting C f listed (k + 1) t₀ (placed (52 * k) 52 t rec)
  rewriting_written k t₀ t rec h r e w =
      let l : 52 * k + 52 ≤ length t = omega (arith, r.long) in
      let n = w.long in
      let other : (j : ℕ) → j < k → record_at (placed (52 * k) 52 t rec) j ≡ record_at t j =
      λ j u. placed_other (52 * k) 52 t rec l n 0 (52 * j) 52 (omega arith) (inl (omega arith)) in
      record {
        long = length_placed (52 * k) 52 t rec l n ∙ r.long;
        rewritten = below_more (λ (j : ℕ). has listed j ≡ true → TrueRecord C f j (record_at (placed (52 * k) 52 t rec) j)) k
            (λ j u q. rw (other j u) (r.rewritten j u q))
            (λ _. rw (placed_mid (52 * k) 52 t rec l n) w);
        kept = below_more (λ (j : ℕ). has listed j ≡ false → record_at (placed (52 * k) 52 t rec) j ≡ record_at t₀ j) k
            (λ j u q. other j u ∙ r.kept j u q)
            (λ q. absurd (true≢false (sym e ∙ q)));
        rest = λ j u. placed_high (52 * k) 52 t rec l n j 0 (omega arith) ∙ r.rest j (omega arith);
      }

-- ---- The loop: the first k branches done.
module _ (W : Wires) (served : List Bool) (live : List ℕ) (lat : Latent) (listed : List ℕ) where
  pub record Going (t₀ t : List ℕ) (judged k : ℕ) : Type 0 where
    pub poised : Poised W served live lat
    pub room : 52 * W.branches ≤ length t₀
    pub upto : k ≤ W.branches
    pub long : length t ≡ length t₀
    pub low : judged ≤ k
    pub judged_is : judged ≡ judged_of served listed k
    pub so_far : (C : Case) (f : ℕ → ℤ) → State C f W served live lat → Rewriting C f listed k t₀ t

  pub going_none : {t : List ℕ} → Poised W served live lat → 52 * W.branches ≤ length t → Going t t 0 0
  unfolding over
  going_none {t} p r = record { poised = p; room = r; upto = omega arith; long = refl; low = omega arith; judged_is = refl; so_far = λ C f s. rewriting_none C f listed t }

  step : (k : ℕ) → judged_of served listed (k + 1) ≡ judged_of served listed k + pick (has listed k && get_or served k false) 1
  unfolding over
  step k = rw add-one refl

  skipped : (x s : Bool) → x ≡ false → pick (x && s) 1 ≡ 0
  skipped x s e = rw e refl

  counted : (x s : Bool) → x ≡ true → pick (x && s) 1 ≡ pick s 1
  counted x s e = rw e refl

  one : (s : Bool) → pick s 1 ≤ 1
  one true = omega arith
  one false = omega arith

  pub going_kept : {t₀ t : List ℕ} {n k : ℕ} → Going t₀ t n k → k < W.branches → has listed k ≡ false → Going t₀ t n (k + 1)
  going_kept {t₀} {t} {n} {k} g u e = record {
    poised = g.poised;
    room = g.room;
    upto = omega arith;
    long = g.long;
    low = omega (arith, g.low);
    judged_is = omega (arith, g.judged_is, step k, skipped (has listed k) (get_or served k false) e);
    so_far = λ C f s. rewriting_kept C f listed k t₀ t (g.so_far C f s) e;
  }

  pub going_written : {t₀ t t' rec : List ℕ} {n m k : ℕ} → Going t₀ t n k → k < W.branches → has listed k ≡ true
      → ((C : Case) (f : ℕ → ℤ) → State C f W served live lat → TrueRecord C f k rec) → t' ≡ placed (52 * k) (52 * k + 52 - 52 * k) t rec → m ≡ n + pick (get_or served k false) 1 → Going t₀ t' m (k + 1)
  going_written {t₀} {t} {t'} {rec} {n} {m} {k} g u e w i s =
      let o : 52 * k + 52 - 52 * k ≡ 52 = omega arith in
      let p = g.poised in
      let more : (C : Case) (f : ℕ → ℤ) → State C f W served live lat → Rewriting C f listed (k + 1) t₀ t' =
      λ C f x. rw (i, o) (rewriting_written C f listed k t₀ t rec (omega (arith, g.room)) (g.so_far C f x) e (w C f x)) in
      record {
        poised = p;
        room = g.room;
        upto = omega arith;
        long = (more p.case p.flow p.state).long;
        low = omega (arith, g.low, one (get_or served k false));
        judged_is = omega (arith, g.judged_is, step k, counted (has listed k) (get_or served k false) e);
        so_far = more;
      }

  pub going_all : {t₀ t : List ℕ} {n k : ℕ} → Going t₀ t n k → k ≡ W.branches → (C : Case) (f : ℕ → ℤ) → State C f W served live lat → Rewritten C f served listed t₀ t n
  going_all {t₀} {t} {n} {k} g e C f s =
      let b : k ≡ C.branches = e ∙ s.held.branches_are in
      record { table_is = rw b at (g.so_far C f s); judged_is = g.judged_is ∙ ap (judged_of served listed) b }

-- What a call renews, where the bits are those of its list.
pub renewed : (C : Case) (listed : ℕ → Type 0) {bs bs' : List ℕ} {flow flow' : List ℤ} {table table' bits : List ℕ} → Fits C C.limit (on flow')
    → Rewriting C (on flow') bits C.branches table table'
    → ((k : ℕ) → k < C.branches → listed k → has bits k ≡ true) → ((k : ℕ) → k < C.branches → (listed k → ⊥) → has bits k ≡ false)
    → length flow' ≡ length flow → ((k : ℕ) → C.branches ≤ k → on flow' k ≡ on flow k) → Renewed C listed (lent bs flow table) (lent bs' flow' table')
renewed C listed fits r yes-bits no_bits long rest = record {
  fits = fits;
  rewritten = λ k u h. r.rewritten k u (yes-bits k u h);
  kept = λ k u h. r.kept k u (no_bits k u h);
  beyond = record { flow_long = long; flow_rest = rest; table_long = r.long; table_rest = r.rest };
}
