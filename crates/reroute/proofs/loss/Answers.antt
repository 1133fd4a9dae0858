-- The lost branch is emptied, and its flow left at its ends is rerouted.
use borrow.Author.Rules.{rules}
use mathlib.Core.Path.{◌≡◌}
use lib.ListN.{length}
use Rattle.reroute.proofs.FlowVerdicts.{lost_ready, lost_of}
use Rattle.reroute.proofs.loss.Goals as goal

pub reroute-requires : goal.reroute-requires
reroute-requires c =
    let long_ahead : length c.args.latent.ahead ≡ 256 = search rules in
    let long_back : length c.args.latent.back ≡ 256 = search rules in
    rw c.without.ensures (lost_ready c.requires long_ahead long_back c.rest_of-rest.ensures)

pub returns : goal.returns
returns c =
    let long_ahead : length c.args.latent.ahead ≡ 256 = search rules in
    let long_back : length c.args.latent.back ≡ 256 = search rules in
    lost_of c.requires long_ahead long_back c.rest_of-rest.ensures
    (rw c.without.ensures at c.reroute.ensures) c.judge.ensures
