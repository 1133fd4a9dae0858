-- Both tests: the numbers against their limits, then what comes against what goes.
use borrow.Author.Rules.{rules}
use Rattle.std.proofs.lemmas.Bool.Decides.{Decides-eqb}
use Rattle.std.proofs.lemmas.Slice.Eq.{slice_eq-Decides}
use Rattle.fit.proofs.Fitting.{fit_by, coming, going}
use Rattle.fit.proofs.test.Goals as goal

pub tally-comes-requires : goal.tally-comes-requires
tally-comes-requires c = coming _ _ _ _ _ _ c.requires (c.latents.ensures.within _ c.in_ok-latent.was)

pub tally-goes-requires : goal.tally-goes-requires
tally-goes-requires c = going _ _ _ _ _ _ c.requires (c.latents.ensures.within _ c.in_ok-latent.was)

pub returns : goal.returns
returns c =
    rw c.then_some.ensures
    (fit_by _ _ _ _ _ c.requires _ (c.latents.ensures.within _ c.in_ok-latent.was) _ _ c.tally-comes.ensures c.tally-goes.ensures (search rules) (search rules) _
    (slice_eq-Decides Decides-eqb _ _ _ c.eq.ensures))
