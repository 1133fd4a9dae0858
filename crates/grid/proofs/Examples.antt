-- The second book of document 01, tried on every group: its base excess is 0; with branch 1-2 at 15 it is 5, at buses 0 and 1;
-- without branch 1 the groups with exactly one end of it have at most 35, again at buses 0 and 1.
use mathlib.Core.Path.{refl}
use mathlib.Core.Bool.{Bool, true, false}
use mathlib.Core.List.{List, [], ◌∷◌}
use Prim.Native.Nat.{ℕ}
use native.Mathlib.Omega.{arith}
use lib.ListN.{get_or}
use Rattle.rows.specs.Row.{nth, every}
use Rattle.rows.specs.Sum.{Group, any, over}
use Rattle.grid.proofs.Net.{Net, crosses, without}
use Rattle.grid.proofs.Excess.{SmallestOf, Smallest}
use Rattle.grid.proofs.Without.{ends_without}
use Rattle.grid.proofs.Tests.{◌&◌, ◌⇒◌, every_group}
use Rattle.grid.proofs.Trial.{any_decided, crosses_decided, ends_test, ends_sound, smallest_test, smallest_sound}

-- r: the limit of branch 1-2.
abbrev second_book : ℕ → Net
second_book r = record {
  buses = 4;
  branches = 4;
  first = nth (0 ∷ 0 ∷ 1 ∷ 2 ∷ []);
  second = nth (1 ∷ 2 ∷ 2 ∷ 3 ∷ []);
  limit = nth (40 ∷ 40 ∷ r ∷ 30 ∷ []);
  gain = nth (60 ∷ 0 ∷ 0 ∷ 0 ∷ []);
  load = nth (0 ∷ 0 ∷ 40 ∷ 20 ∷ []);
}

abbrev group : List Bool → Group
group bs i = get_or bs i false

pub fits_at_25 : Smallest (second_book 25) (group []) 0
unfolding ◌&◌ ◌⇒◌ every every_group ends_test smallest_test over
fits_at_25 = smallest_sound (second_book 25) (ends_sound _ refl) any (any_decided (second_book 25)) (group []) 0 refl

pub short_at_15 : Smallest (second_book 15) (group (true ∷ true ∷ [])) 5
unfolding ◌&◌ ◌⇒◌ every every_group ends_test smallest_test over
short_at_15 = smallest_sound (second_book 15) (ends_sound _ refl) any (any_decided (second_book 15)) (group (true ∷ true ∷ [])) 5 refl

pub short_without_1 : SmallestOf (without (second_book 25) 1) (λ R. crosses (second_book 25) R 1) (group (true ∷ true ∷ [])) 35
unfolding ◌&◌ ◌⇒◌ every every_group ends_test smallest_test over
short_without_1 =
    let e = ends_without (second_book 25) 1 (ends_sound _ refl) in
    smallest_sound (without (second_book 25) 1) e _ (crosses_decided (without (second_book 25) 1) e 1 (omega arith)) (group (true ∷ true ∷ [])) 35 refl
