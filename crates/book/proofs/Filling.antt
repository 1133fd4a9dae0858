-- A lent row filled place by place, and a table filled branch by branch with the numbers of its form.
use mathlib.Core.Path.{◌≡◌, refl, sym, ap, ◌∙◌}
use mathlib.Core.List.{List, ◌++◌, append-nil, append_assoc}
use Prim.Native.Nat.{ℕ, ◌+◌, ◌*◌, ◌<◌, ◌≤◌}
use native.Mathlib.Omega.{arith}
use native.Mathlib.Numerals.{add-one}
use lib.ListN.{length, set, drop, length-set, length-append, length-drop}
use lib.Seq.{sets, sets-eq, take_at, drop_at, drop-drop, drop-length}
use Rattle.rows.specs.Row.{up_to, headed, placed}
use Rattle.rows.proofs.Row.{length_up_to, headed_none, headed_more}
use Rattle.layout.specs.declared.Form.{Form}
use Rattle.layout.specs.declared.Branch.{Branch}
use Rattle.layout.specs.Form.{fields, branch_values}
use Rattle.layout.specs.Layout.{table_of}
use Rattle.layout.proofs.Forms.{row_room}
use Rattle.layout.proofs.NumbersABranch.{length_table, table_more}
use Rattle.book.specs.Inside.{tabled}

-- A row that is stored to from its first place to its last is what was stored.
pub stored : (vs l : List ℕ) → length l ≡ length vs → sets l 0 vs ≡ vs
stored vs l h =
    let e : length vs ≡ length l = sym h in
    sets-eq vs l 0 (omega arith) ∙ ap (λ (r : List ℕ). vs ++ r) (ap (λ (k : ℕ). drop k l) (let d : 0 + length vs ≡ length l = omega arith in d) ∙ drop-length l) ∙ append-nil vs

module _ (form : Form) (f : ℕ → Branch) (l : List ℕ) where
  long : (n : ℕ) → length (table_of form (up_to n f)) ≡ fields form * n
  long n = length_table form (up_to n f) ∙ ap (λ (k : ℕ). fields form * k) (length_up_to n f)

  pub tabled_none : tabled form 0 f l ≡ l
  unfolding up_to
  tabled_none = let e : fields form * 0 ≡ 0 = omega arith in rw e refl

  pub length_tabled : (n : ℕ) → fields form * n ≤ length l → length (tabled form n f l) ≡ length l
  length_tabled n h = simp (length-append, length-drop) (omega (arith, long n))

  one_more : (n : ℕ) → table_of form (up_to (n + 1) f) ≡ table_of form (up_to n f) ++ branch_values form (f n)
  unfolding up_to
  one_more n = rw add-one (table_more form (up_to n f) (f n))

  -- The stretch of branch n, filled with its numbers.
  pub tabled_more : (n z : ℕ) (x : Branch) → z ≡ fields form → x ≡ f n
      → placed (fields form * n) z (tabled form n f l) (branch_values form x) ≡ tabled form (n + 1) f l
  tabled_more n z x q e =
      let t = table_of form (up_to n f) in
      let a = fields form * n in
      let p : a + z ≡ fields form * (n + 1) = omega arith in
      let d : drop z (drop a (t ++ drop a l)) ≡ drop (fields form * (n + 1)) l =
      ap (λ (y : List ℕ). drop z y) (drop_at t (drop a l) a (long n)) ∙ drop-drop z a l ∙ ap (λ (k : ℕ). drop k l) p in
      rw (take_at t (drop a l) a (long n), d, one_more n, e) (sym (append_assoc t (branch_values form (f n)) (drop (fields form * (n + 1)) l)))

-- ---- how far a loop has come

pub record Filling {A : Type 0} (f : ℕ → A) (n : ℕ) (old l : List A) (k : ℕ) : Type 0 where
  pub here : k ≤ n
  pub long : length l ≡ length old
  pub is : l ≡ headed k f old

module _ {A : Type 0} (f : ℕ → A) (n : ℕ) (old : List A) where
  pub fill_start : Filling f n old old 0
  fill_start = record { here = omega arith; long = refl; is = sym (headed_none f old) }

  pub fill_more : (l : List A) (k : ℕ) (v : A) → k < n → n ≤ length old → Filling f n old l k → v ≡ f k → Filling f n old (set l k v) (k + 1)
  fill_more l k v h room w e = record {
    here = omega arith;
    long = length-set l k v ∙ w.long;
    is = rw (w.is, e) (headed_more k f old (omega arith));
  }

  pub fill_end : (l : List A) (k : ℕ) → n ≤ k → Filling f n old l k → l ≡ headed n f old
  fill_end l k h w = let e : k ≡ n = omega arith in rw e at w.is

pub record Tabling (form : Form) (f : ℕ → Branch) (n : ℕ) (old l : List ℕ) (k : ℕ) : Type 0 where
  pub here : k ≤ n
  pub long : length l ≡ length old
  pub is : l ≡ tabled form k f old

module _ (form : Form) (f : ℕ → Branch) (n : ℕ) (old : List ℕ) where
  pub table_start : Tabling form f n old old 0
  table_start = record { here = omega arith; long = refl; is = sym (tabled_none form f old) }

  pub table_turn : (l l' : List ℕ) (k a z : ℕ) (x : Branch) → k < n → fields form * n ≤ length old → Tabling form f n old l k → a ≡ fields form * k
      → z ≡ fields form → x ≡ f k
      → l' ≡ placed a z l (branch_values form x) → Tabling form f n old l' (k + 1)
  table_turn l l' k a z x h room w p q e s =
      let is : l' ≡ tabled form (k + 1) f old = s ∙ rw (w.is, p) (tabled_more form f old k z x q e) in
      record { here = omega arith; long = ap length is ∙ length_tabled form f old (k + 1) (omega (arith, row_room form k n h)); is = is }

  pub table_end : (l : List ℕ) (k : ℕ) → n ≤ k → Tabling form f n old l k → l ≡ tabled form n f old
  table_end l k h w = let e : k ≡ n = omega arith in rw e at w.is
