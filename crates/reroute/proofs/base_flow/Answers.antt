-- At first nothing flows: the limits are latent, the gains are surplus and the loads deficit.
use Rattle.reroute.proofs.FlowVerdicts.{based}
use Rattle.reroute.proofs.base_flow.Goals as goal

pub returns : goal.returns
returns c = based c.requires c.reroute.ensures c.judge.ensures
