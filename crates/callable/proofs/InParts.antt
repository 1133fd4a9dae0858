-- An answer that a call may end with, told in its parts.
use mathlib.Core.Path.{refl, sym}
use mathlib.Core.List.{List}
use Prim.Native.Nat.{ℕ}
use Rattle.answer.specs.Answer.{Answer, place_of}
use Rattle.callable.specs.Promise.{SaidInParts}
use Rattle.callable.specs.Inside.{Parts}

pub in_parts : (ends : Answer → Type 0) (r : Answer) {n v i j : ℕ} {g : List ℕ} → ends r → Parts r n v g i j
    → SaidInParts ends n v g i j
in_parts ends r e t = record {
  answer = r;
  place = place_of r;
  ended = e;
  said = record { number_is = sym t.number_is; shortage_is = sym t.shortage_is; group_is = sym t.group_is; place_is = refl };
  place_told = t.place_told;
}
