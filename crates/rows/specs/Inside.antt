-- What a function asks of one that it is lent, to be told something of each of n items, and what it is told.
use Rattle.std.specs.Prelude.{◌≡◌, ℕ, ◌<◌}

abbrev pub Asked : ℕ → (ℕ → Type 0) → Type 0
Asked n pre = (k : ℕ) → k < n → pre k

abbrev pub Tells : {A : Type 0} → ℕ → (ℕ → A → Type 0) → (ℕ → A) → Type 0
Tells {A = A} n post f = (k : ℕ) → k < n → (x : A) → post k x → x ≡ f k
