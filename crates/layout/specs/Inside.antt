-- The header, a bus and sums of injections as inner functions pass them.
use Rattle.std.specs.Prelude.{◌≡◌, List, [], ◌∷◌, ℕ, ◌+◌, ◌*◌, ◌≤◌, ℤ}
use Rattle.rows.specs.Row.{nth}
use Rattle.quantity.specs.Signed.{pos_part, neg_part}
use Rattle.bits.specs.Fields.{total}
use Rattle.layout.specs.declared.Form.{Form}
use Rattle.layout.specs.declared.Head.{Head}
use Rattle.layout.specs.declared.Sums.{Sums}
use Rattle.layout.specs.declared.Bus.{Bus}
use Rattle.layout.specs.Form.{form_bit, branch_widths, fields}
use Rattle.layout.specs.Layout.{bits_for, buses_in, branches_in, factor_in, form_in, spare_in}

-- The header that bs has, and the fields of one.
pub record HeadRead (bs : List ℕ) (h : Head) : Type 0 where
  pub buses_are : h.buses ≡ buses_in bs
  pub branches_are : h.branches ≡ branches_in bs
  pub factor_is : h.factor ≡ factor_in bs
  pub form_is : h.form ≡ form_in bs
  pub spare_is : h.spare ≡ spare_in bs

-- A header whose counts are small.
pub record Small (h : Head) : Type 0 where
  pub few_buses : h.buses ≤ 128
  pub few_branches : h.branches ≤ 256

abbrev pub head_fields : Head → List ℕ
head_fields h = h.buses ∷ h.branches ∷ h.factor ∷ form_bit h.form ∷ h.spare ∷ []

-- The numbers of a branch and of m branches, the bits of a branch, and the first bit of branch k: each so small that sums with it fit.
pub record Numbered (f : Form) (r : ℕ) : Type 0 where
  pub count_is : r ≡ fields f
  pub some : 4 ≤ r
  pub few : r ≤ 5

pub record Numbers (f : Form) (m r : ℕ) : Type 0 where
  pub count_is : r ≡ fields f * m
  pub few : r ≤ 1280

pub record Wide (f : Form) (r : ℕ) : Type 0 where
  pub width_is : r ≡ total (branch_widths f)
  pub some : 35 ≤ r
  pub few : r ≤ 55

pub record Placed (f : Form) (n k r : ℕ) : Type 0 where
  pub place_is : r ≡ bits_for f n k
  pub small : r ≤ 20000

-- A bus of its fields, and the fields of one.
abbrev pub bus_from : List ℕ → Bus
bus_from vs = record { sign = nth vs 0; size = nth vs 1 }

abbrev pub bus_fields : Bus → List ℕ
bus_fields x = x.sign ∷ x.size ∷ []

-- An injection more, counted in.
pub record CountedIn (s : Sums) (x : ℤ) (r : Sums) : Type 0 where
  pub enters_more : r.enters ≡ s.enters + pos_part x
  pub leaves_more : r.leaves ≡ s.leaves + neg_part x
