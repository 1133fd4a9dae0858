-- Laws of a line: nothing added, a byte added, one text after another.
use mathlib.Core.Path.{◌≡◌, refl, sym, ap, subst, ◌∙◌}
use mathlib.Core.List.{List, [], ◌∷◌, ◌++◌, append_assoc, append-nil}
use Prim.Native.Nat.{ℕ, ◌+◌, ◌-◌, ◌*◌, ◌<◌, ◌≤◌}
use native.Mathlib.Omega.{arith}
use native.Mathlib.Nat.{mul-suc, mul-le-mul_left}
use native.Mathlib.Numerals.{add-one}
use borrow.Rule.Slice.PartMut.{put_mid}
use lib.ListN.{length, get_or, take, drop, length-append}
use lib.Seq.{take-suc, take-length, drop-drop}
use Rattle.std.specs.List.{flat_map}
use Rattle.std.proofs.lemmas.Grind.{flat_map-append}
use Rattle.std.proofs.lemmas.List.Edits.{take-paste, drop-paste}
use Rattle.std.proofs.lemmas.Slice.{put_mid-paste}
use Rattle.line.specs.declared.Line.{Line}
use Rattle.line.specs.Inside.{Added, Adds}

pub added_none : (l : List ℕ) (at : ℕ) → Added [] l at l at
added_none l at = record { ends = omega arith; holds = sym (append-nil (take at l)); rest = refl }

-- A text copied over as many bytes.
pub added_part : (text l : List ℕ) (a : ℕ) {part : List ℕ} → a + length text ≤ length l → part ≡ text
    → Added text l a (put_mid a (a + length text - a) l part) (a + length text)
added_part text l a {part} h e =
    let n : length text ≡ a + length text - a = omega arith in
    let here : a ≤ length l = omega arith in
    let whole : length text ≤ length text = omega arith in
    rw (put_mid-paste a (a + length text - a) l part text (length text) e n refl)
    (record { ends = refl; holds = take-paste l a text (length text) here whole ∙ ap (λ (t : List ℕ). take a l ++ t) (take-length text); rest = drop-paste l a text (length text) here whole })

pub added_then : {s t l m n : List ℕ} {a b c : ℕ} → Added s l a m b → Added t m b n c → Added (s ++ t) l a n c
added_then {s} {t} {l} {m} {a = a} {b} {c} p q = record {
  ends = rw (length-append s t) (omega (arith, p.ends, q.ends));
  holds = q.holds ∙ ap (λ (u : List ℕ). u ++ t) p.holds ∙ append_assoc (take a l) s t;
  rest = q.rest ∙ further q.ends p.rest;
}
  where
    further : c ≡ b + length t → drop b m ≡ drop b l → drop c m ≡ drop c l
    further e h = rw (e, ← drop-drop (length t) b m, ← drop-drop (length t) b l, h) refl

pub added_same : {s t l m : List ℕ} {a b : ℕ} → s ≡ t → Added s l a m b → Added t l a m b
added_same {l = l} {m} {a} {b} e p = subst (λ (u : List ℕ). Added u l a m b) e p

-- Where a text ends is where it began and its length.
pub added_whole : {s l m : List ℕ} {a b : ℕ} → Added s l a m b → Added s l a m (a + length s)
added_whole {s} {l} {m} {a} p = subst (λ (k : ℕ). Added s l a m k) p.ends p

pub added_first : {s l m : List ℕ} {b : ℕ} → Added s l 0 m b → Added s l 0 m (length s)
added_first {s} {l} {m} {b} p =
    let e : b ≡ length s = omega (arith, p.ends) in
    subst (λ (k : ℕ). Added s l 0 m k) e p

-- ---- A line, and its text after text.
pub adds_none : (l : Line) {most : ℕ} → Adds [] most l l
adds_none l = record { added = added_none l.bytes.now l.len; short = omega arith; long = refl; same = refl }

pub adds_then : {s t : List ℕ} {m n : ℕ} {a b c : Line} → Adds s m a b → Adds t n b c → Adds (s ++ t) (m + n) a c
adds_then p q = record { added = added_then p.added q.added; short = omega (arith, p.short, q.short); long = q.long ∙ p.long; same = q.same ∙ p.same }

pub adds_as : {s t : List ℕ} {m n : ℕ} {a b : Line} → s ≡ t → m ≤ n → Adds s m a b → Adds t n a b
adds_as e h p = record { added = added_same e p.added; short = omega (arith, p.short); long = p.long; same = p.same }

-- The texts of the first items, each of at most w bytes.
module _ {A : Type 0} (f : A → List ℕ) (w : ℕ) (items : List A) {a b : Line} where
  pub items_more : {c : Line} {i : ℕ} (d : A) → i < length items → Adds (flat_map f (take i items)) (w * i) a b → Adds (f (get_or items i d)) w b c
      → Adds (flat_map f (take (i + 1) items)) (w * (i + 1)) a c
  items_more {i = i} d u p q =
      let e : w * i + w ≤ w * (i + 1) = rw (add-one i) (omega (arith, mul-suc w i)) in
      adds_as (sym (rw (add-one i, take-suc items i d u, flat_map-append f (take i items) (get_or items i d ∷ []), append-nil (f (get_or items i d))) refl)) e (adds_then p q)

  -- Room for one more.
  pub items_room : {i : ℕ} → i < length items → Adds (flat_map f (take i items)) (w * i) a b → a.len + w * length items ≤ length a.bytes.now → b.len + w ≤ length b.bytes.now
  items_room {i} u p r =
      let more : i + 1 ≤ length items = omega arith in
      let e : w * (i + 1) ≡ w * i + w = rw (add-one i) (omega (arith, mul-suc w i)) in
      omega (arith, p.short, p.long, e, mul-le-mul_left w more)

  pub items_all : {i : ℕ} → i ≡ length items → Adds (flat_map f (take i items)) (w * i) a b → Adds (flat_map f items) (w * length items) a b
  items_all {i} e p = adds_as (ap (λ (k : ℕ). flat_map f (take k items)) e ∙ ap (flat_map f) (take-length items)) (rw e (omega arith)) p

-- All that a line holds.
pub adds_first : {t : List ℕ} {m : ℕ} {a b : Line} → a.len ≡ 0 → Adds t m a b → Added t a.bytes.now 0 b.bytes.now (length t)
adds_first {t} {m} {a} {b} z p = added_first (subst (λ (k : ℕ). Added t a.bytes.now k b.bytes.now b.len) z p.added)
