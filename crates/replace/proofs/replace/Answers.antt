-- A branch without flow, named branches that take its flow, or all of them: each way meets the promise.
use borrow.Author.Rules.{rules}
use mathlib.Core.Path.{◌≡◌, refl, subst}
use mathlib.Core.List.{List}
use Prim.Native.Nat.{ℕ}
use lib.ListN.{length}
use Rattle.search.specs.declared.Latent.{Latent}
use Rattle.replace.specs.Inside.{Chosen}
use Rattle.replace.proofs.Confining.{ready}
use Rattle.replace.proofs.Replacing.{replaced_still, replaced_named, replaced_all}
use Rattle.replace.proofs.replace.Goals as goal

-- What is chosen beside a row is chosen beside an equal one.
beside : {n : ℕ} {named : List ℕ} {x y z r : Latent} → y ≡ z → Chosen n named x y r → Chosen n named x z r
beside {n} {named} {x} {r = r} e h = subst (λ (w : Latent). Chosen n named x w r) e h

pub returns-then-latent-lost : goal.returns-then-latent-lost
returns-then-latent-lost c =
    let long_ahead : length c.args.latent.ahead ≡ 256 = search rules in
    let long_back : length c.args.latent.back ≡ 256 = search rules in
    replaced_still _ _ _ _ _ c.requires long_ahead long_back c.if-latent-lost.true _
    (record { short = refl; latent = c.without-cut.ensures })

pub reroute-moved-requires : goal.reroute-moved-requires
reroute-moved-requires c =
    let long_ahead : length c.args.latent.ahead ≡ 256 = search rules in
    let long_back : length c.args.latent.back ≡ 256 = search rules in
    ready _ _ _ _ _ c.requires long_ahead long_back _ (rw c.without-cut.ensures at c.chosen-within.ensures) _
    c.rest_of-rest.ensures

pub returns-then-moved-eq0 : goal.returns-then-moved-eq0
returns-then-moved-eq0 c =
    let long_ahead : length c.args.latent.ahead ≡ 256 = search rules in
    let long_back : length c.args.latent.back ≡ 256 = search rules in
    let cut = c.without-cut.ensures in
    replaced_named _ _ _ _ _ c.requires long_ahead long_back c.if-latent-lost.false _ (rw cut at c.chosen-within.ensures) _
    c.rest_of-rest.ensures _ c.reroute-moved.ensures c.if-moved-eq0.true _ _
    (beside cut c.chosen.ensures) (record { short = refl; latent = refl })

pub returns : goal.returns
returns c =
    let long_ahead : length c.args.latent.ahead ≡ 256 = search rules in
    let long_back : length c.args.latent.back ≡ 256 = search rules in
    let cut = c.without-cut.ensures in
    replaced_all _ _ _ _ _ c.requires long_ahead long_back c.if-latent-lost.false _ (rw cut at c.chosen-within.ensures) _
    c.rest_of-rest.ensures _ c.reroute-moved.ensures c.if-moved-eq0.false _ c.loss.ensures
