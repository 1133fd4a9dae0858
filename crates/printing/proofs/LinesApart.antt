-- The lines of a text that is put together of lines: a text without a newline, and its newline, is one line.
use mathlib.Core.Path.{◌≡◌, refl, sym, ap, ◌∙◌}
use mathlib.Core.List.{List, [], ◌∷◌, ◌++◌, append_assoc}
use Prim.Native.Nat.{ℕ, zero, suc, ◌+◌, ◌<◌}
use native.Mathlib.Omega.{arith}
use Rattle.rows.proofs.Sum.{side, below, equal, above}
use Rattle.line.specs.Text.{joined}
use Rattle.line.proofs.Plain.{Plain}
use Rattle.printing.specs.List.{line_of, line_at}

-- ---- The first line, and the lines after it.
pub first_line : (text rest : List ℕ) → Plain text → line_at 0 (line_of text ++ rest) ≡ text
unfolding line_at Plain
first_line [] rest p = refl
first_line (x ∷ xs) rest p = rw p.0 (ap (λ (l : List ℕ). x ∷ l) (first_line xs rest p.1))

pub next_line : (n : ℕ) (text rest : List ℕ) → Plain text → line_at (suc n) (line_of text ++ rest) ≡ line_at n rest
unfolding line_at Plain
next_line n [] rest p = refl
next_line n (x ∷ xs) rest p = rw p.0 (next_line n xs rest p.1)

module _ (g : ℕ → List ℕ) (plain : (k : ℕ) → Plain (g k)) where
  past_lines : (n j : ℕ) (rest : List ℕ) → line_at (n + j) (joined n (λ k. line_of (g k)) ++ rest) ≡ line_at j rest
  unfolding joined
  past_lines zero j rest = let e : 0 + j ≡ j = omega arith in rw e refl
  past_lines (suc n) j rest =
      let e : suc n + j ≡ n + suc j = omega arith in
      rw (e, append_assoc (joined n (λ k. line_of (g k))) (line_of (g n)) rest)
      (past_lines n (suc j) (line_of (g n) ++ rest) ∙ next_line j (g n) rest (plain n))

  pub line_of_joined : (n k : ℕ) (rest : List ℕ) → k < n → line_at k (joined n (λ k. line_of (g k)) ++ rest) ≡ g k
  unfolding joined
  line_of_joined zero k rest l = absurd (omega arith)
  line_of_joined (suc n) k rest l =
      rw (append_assoc (joined n (λ k. line_of (g k))) (line_of (g n)) rest) (go (λ u. line_of_joined n k (line_of (g n) ++ rest) u))
    where
      last : k ≡ n → line_at k (joined n (λ k. line_of (g k)) ++ (line_of (g n) ++ rest)) ≡ g k
      last e =
          let h : k ≡ n + 0 = omega arith in
          ap (λ (x : ℕ). line_at x (joined n (λ k. line_of (g k)) ++ (line_of (g n) ++ rest))) h
          ∙ past_lines n 0 (line_of (g n) ++ rest)
          ∙ first_line (g n) rest (plain n)
          ∙ ap g (sym e)

      go : (k < n → line_at k (joined n (λ k. line_of (g k)) ++ (line_of (g n) ++ rest)) ≡ g k)
          → line_at k (joined n (λ k. line_of (g k)) ++ (line_of (g n) ++ rest)) ≡ g k
      go early = elim (side k n) [ below u ↦ early u | equal u ↦ last u | above u ↦ absurd (omega arith) ]
