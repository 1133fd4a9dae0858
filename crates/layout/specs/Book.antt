-- A book: what it says of the network, and when it is well formed.
use Rattle.std.specs.Prelude.{◌≡◌, ◌≢◌, List, ℕ, ◌+◌, ◌<◌, ◌≤◌, ℤ, pos, length, get_or, set}
use Rattle.rows.specs.Sum.{all, sum}
use Rattle.quantity.specs.Signed.{pos_part, neg_part}
use Rattle.quantity.specs.Rating.{in_kva}
use Rattle.layout.specs.declared.Form.{Form}
use Rattle.layout.specs.declared.Form.TheVariants.{Old}
use Rattle.layout.specs.declared.Branch.{Branch}

-- The form that the book is in, the power factor in thousandths, the injections in kW, the branches.
pub record Book : Type 0 where
  pub form : Form
  pub factor : ℕ
  pub injections : List ℤ
  pub branches : List Branch

abbrev pub buses : Book → ℕ
buses b = length b.injections

abbrev pub count : Book → ℕ
count b = length b.branches

-- Past the last bus nothing enters, and past the last branch there is one with nothing in it.
abbrev pub injection : Book → ℕ → ℤ
injection b k = get_or b.injections k (pos 0)

abbrev pub no_branch : Branch
no_branch = record { first = 0; second = 0; kva = in_kva 0; kva2 = in_kva 0; status = 0 }

abbrev pub branch : Book → ℕ → Branch
branch b k = get_or b.branches k no_branch

-- The book with branch k's status made v.
abbrev pub restated : Branch → ℕ → Branch
restated x v = record { first = x.first; second = x.second; kva = x.kva; kva2 = x.kva2; status = v }

abbrev pub with_status : Book → ℕ → ℕ → Book
with_status b k v = record { form = b.form; factor = b.factor; injections = b.injections; branches = set b.branches k (restated (branch b k) v) }

-- The book with the injection of bus k made z.
abbrev pub with_injection : Book → ℕ → ℤ → Book
with_injection b k z = record { form = b.form; factor = b.factor; injections = set b.injections k z; branches = b.branches }

-- The book in form f. A branch has both figures in either form, so nothing else changes.
abbrev pub in_form : Form → Book → Book
in_form f b = record { form = f; factor = b.factor; injections = b.injections; branches = b.branches }

-- The kW of an injection without its sign.
abbrev pub size : ℤ → ℕ
size z = pos_part z + neg_part z

pub record GoodBranch (n : ℕ) (x : Branch) : Type 0 where
  pub first_there : x.first < n
  pub second_there : x.second < n
  pub apart : x.first ≢ x.second
  pub rating : x.kva.0 ≤ 1000000
  pub not_below : x.kva.0 ≤ x.kva2.0
  pub second_rating : x.kva2.0 ≤ 1000000
  pub flag : x.status ≤ 1

pub record WellFormed (b : Book) : Type 0 where
  pub some_bus : 1 ≤ buses b
  pub few_buses : buses b ≤ 128
  pub few_branches : count b ≤ 256
  pub some_factor : 1 ≤ b.factor
  pub small_factor : b.factor ≤ 1000
  pub sizes : (k : ℕ) → k < buses b → size (injection b k) ≤ 1000000
  pub good : (k : ℕ) → k < count b → GoodBranch (buses b) (branch b k)
  -- an old book has one figure a branch, which serves as both
  pub one_figure : b.form ≡ Old → (k : ℕ) → k < count b → (branch b k).kva2 ≡ (branch b k).kva
  pub balanced : sum (buses b) all (injection b) ≡ pos 0
