-- The check of a branch to be switched: each way in which it ends, what it says once passed, and which numbers it gives.
use mathlib.Core.Path.{◌≡◌, refl, sym, ap, ◌∙◌}
use mathlib.Core.Bool.{Bool, true, false}
use mathlib.Core.List.{List}
use Prim.Native.Nat.{ℕ, ◌≤◌, ◌<◌}
use native.Mathlib.Omega.{arith}
use borrow.Author.Tests.{le-leb, lt-leb, leb-false, eq-eqb, ne_eqb, eqb-true, eqb-false}
use lib.Dec.{eqb, leb}
use Rattle.answer.specs.declared.Refusal.TheVariants.{NoSuchBranch}
use Rattle.answer.specs.declared.Refusal.{Refusal}
use Rattle.std.specs.Prelude.{Result, Ok, Err}
use Rattle.answer.specs.Answer.{Answer, Accepted, refused, refuse_if, and_then}
use Rattle.answer.proofs.Refusals.{past, past_both, stands}
use Rattle.answer.proofs.Giving.{Gives, plain}
use Rattle.answer.proofs.Numbers.{gives_if, gives_then}
use Rattle.layout.specs.declared.Form.{Form}
use Rattle.layout.specs.declared.Branch.{Branch}
use Rattle.layout.specs.Book.{branch}
use Rattle.layout.specs.Layout.{buses_in, branches_in, form_in, branch_after, book_of}
use Rattle.layout.specs.Check.{check_of}
use Rattle.layout.proofs.WellFormed.{accepted_well, branch_of_lem, count_of}
use Rattle.state.specs.Case.{case_of, case_in}
use Rattle.state.specs.Call.{lent_check}
use Rattle.state.proofs.Checked.{Passed, passed, passing}
use Rattle.switch.specs.Check.{branch_check, branch_status}

-- The checks passed: those of every call, and a branch that hasn't the status v.
pub record Switchable (percent : ℕ) (bs : List ℕ) (flows bytes b v : ℕ) : Type 0 where
  pub passes : Passed percent bs flows bytes
  pub there : b < branches_in bs
  pub other : (branch (book_of bs) b).status ≡ v → ⊥

module _ {percent : ℕ} (bs : List ℕ) (flows bytes b v : ℕ) (n : Refusal) where
  pub switchable : branch_check percent bs flows bytes b v n ≡ Accepted → Switchable percent bs flows bytes b v
  unfolding branch_check
  switchable e =
      let h = past_both (lent_check percent bs flows bytes) _ e in
      let t = past (leb (branches_in bs) b) _ _ h.1 in
      let u = past (eqb (branch (book_of bs) b).status v) n Accepted t.1 in
      record { passes = passed bs flows bytes h.0; there = leb-false (branches_in bs) b t.0; other = eqb-false _ v u.0 }

  pub switching : Switchable percent bs flows bytes b v → branch_check percent bs flows bytes b v n ≡ Accepted
  unfolding branch_check
  switching t = rw (passing bs flows bytes t.passes, lt-leb (branches_in bs) b t.there, ne_eqb (branch (book_of bs) b).status v t.other) refl

-- The status that is read of the book.
status_read : (bs : List ℕ) (b : ℕ) → b < branches_in bs → (x : Branch) (f : Form) (m : ℕ) → f ≡ form_in bs → m ≡ buses_in bs → x ≡ branch_after f m bs b
    → (branch (book_of bs) b).status ≡ x.status
status_read bs b u x f m o q e = ap (λ (y : Branch). y.status) (branch_of_lem bs b u ∙ sym (e ∙ rw (o, q) refl))

-- Which numbers it gives, and each way in which it ends.
module _ (percent : ℕ) (bs : List ℕ) (flows bytes b v : ℕ) (n : Refusal) where
  pub branch_gives : (ns : List ℕ) → Gives ns (lent_check percent bs flows bytes) → plain NoSuchBranch ns ≡ true → plain n ns ≡ true
      → Gives ns (branch_check percent bs flows bytes b v n)
  unfolding branch_check
  branch_gives ns g j m =
      gives_then ns (lent_check percent bs flows bytes) _ g
      (gives_if ns (leb (branches_in bs) b) NoSuchBranch _ j
      (gives_if ns (eqb (branch (book_of bs) b).status v) n Accepted m tt))

  pub by_lent : (o : Answer) → o ≡ lent_check percent bs flows bytes → (o ≡ Accepted → ⊥) → o ≡ branch_check percent bs flows bytes b v n
  unfolding branch_check
  by_lent o e m = sym (rw (← e) (stands o _ m))

  module _ (ok : lent_check percent bs flows bytes ≡ Accepted) where
    pub by_branch : branches_in bs ≤ b → refused NoSuchBranch ≡ branch_check percent bs flows bytes b v n
    unfolding branch_check
    by_branch u = rw (ok, le-leb (branches_in bs) b u) refl

    module _ (u : b < branches_in bs) (x : Branch) (f : Form) (m : ℕ) (o : f ≡ form_in bs) (q : m ≡ buses_in bs) (e : x ≡ branch_after f m bs b) where
      status : (branch (book_of bs) b).status ≡ x.status
      status = status_read bs b u x f m o q e

      pub by_status : x.status ≡ v → refused n ≡ branch_check percent bs flows bytes b v n
      unfolding branch_check
      by_status o = rw (ok, lt-leb (branches_in bs) b u, status, eq-eqb x.status v o) refl

      pub by_none : (x.status ≡ v → ⊥) → Accepted ≡ branch_check percent bs flows bytes b v n
      unfolding branch_check
      by_none o = rw (ok, lt-leb (branches_in bs) b u, status, ne_eqb x.status v o) refl

-- The check without a reason of its own: each way in which it ends.
module _ (percent : ℕ) (bs : List ℕ) (flows bytes b v : ℕ) where
  pub status_lent : {why : Refusal} → lent_check percent bs flows bytes ≡ refused why → Err why ≡ branch_status percent bs flows bytes b v
  unfolding branch_status
  status_lent e = rw e refl

  module _ (ok : lent_check percent bs flows bytes ≡ Accepted) where
    pub status_nowhere : branches_in bs ≤ b → Err NoSuchBranch ≡ branch_status percent bs flows bytes b v
    unfolding branch_status
    status_nowhere u = rw (ok, le-leb (branches_in bs) b u) refl

    module _ (u : b < branches_in bs) (x : Branch) (f : Form) (m : ℕ) (o : f ≡ form_in bs) (q : m ≡ buses_in bs) (e : x ≡ branch_after f m bs b) where
      pub status_there : x.status ≡ v → Ok true ≡ branch_status percent bs flows bytes b v
      unfolding branch_status
      status_there s = rw (ok, lt-leb (branches_in bs) b u, status_read bs b u x f m o q e, eq-eqb x.status v s) refl

      pub status_other : (x.status ≡ v → ⊥) → Ok false ≡ branch_status percent bs flows bytes b v
      unfolding branch_status
      status_other s = rw (ok, lt-leb (branches_in bs) b u, status_read bs b u x f m o q e, ne_eqb x.status v s) refl

-- What a call answers after it, for any reason of its own: what the check refused, or that reason where the branch has the status already.
abbrev pub answered : Result Bool Refusal → Refusal → Answer
answered (Ok already) why = refuse_if already why Accepted
answered (Err who) why = refused who

module _ (percent : ℕ) (bs : List ℕ) (flows bytes b v : ℕ) (why : Refusal) where
  pub reasoned : answered (branch_status percent bs flows bytes b v) why ≡ branch_check percent bs flows bytes b v why
  unfolding branch_check branch_status
  reasoned = go (lent_check percent bs flows bytes) (leb (branches_in bs) b) (eqb (branch (book_of bs) b).status v)
    where
      go : (o : Answer) (t u : Bool)
          → answered (and_then o (refuse_if t NoSuchBranch (Ok u))) why ≡ and_then o (refuse_if t NoSuchBranch (refuse_if u why Accepted))
      go (Ok _) true u = refl
      go (Ok _) false u = refl
      go (Err who) t u = refl

  module _ {found : Result Bool Refusal} (is : found ≡ branch_status percent bs flows bytes b v) where
    answer_of : {r : Result Bool Refusal} → found ≡ r → answered r why ≡ branch_check percent bs flows bytes b v why
    answer_of e = ap (λ (r : Result Bool Refusal). answered r why) (sym e ∙ is) ∙ reasoned

    pub refused_before : {who : Refusal} → found ≡ Err who → refused who ≡ branch_check percent bs flows bytes b v why
    refused_before e = answer_of e

    pub refused_already : {already : Bool} → found ≡ Ok already → already ≡ true → refused why ≡ branch_check percent bs flows bytes b v why
    refused_already e t = answer_of (e ∙ ap Ok t)

    pub may_switch : {already : Bool} → found ≡ Ok already → already ≡ false → branch_check percent bs flows bytes b v why ≡ Accepted
    may_switch e t = sym (answer_of (e ∙ ap Ok t))

-- A branch of an accepted book is in service where its status isn't 0, and out of service where it isn't 1.
module _ (percent : ℕ) (bs : List ℕ) (b : ℕ) where
  pub in_service : check_of bs ≡ Accepted → b < branches_in bs → ((branch (book_of bs) b).status ≡ 0 → ⊥) → (case_in percent bs).served b ≡ true
  unfolding case_of
  in_service e u n = eq-eqb (branch (book_of bs) b).status 1 (omega (arith, ((accepted_well bs e).good b (omega (arith, count_of bs))).flag))

  pub not_out : (case_in percent bs).served b ≡ true → (branch (book_of bs) b).status ≡ 0 → ⊥
  unfolding case_of
  not_out i z = omega (arith, eqb-true (branch (book_of bs) b).status 1 i)

  pub out_of_service : ((branch (book_of bs) b).status ≡ 1 → ⊥) → (case_in percent bs).served b ≡ false
  unfolding case_of
  out_of_service n = ne_eqb (branch (book_of bs) b).status 1 n

  pub not_in : (case_in percent bs).served b ≡ false → (branch (book_of bs) b).status ≡ 1 → ⊥
  unfolding case_of
  not_in i = eqb-false (branch (book_of bs) b).status 1 i
