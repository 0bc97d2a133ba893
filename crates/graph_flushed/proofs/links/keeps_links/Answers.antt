use Rattle.graph_flushed.proofs.SettledSteps.{links_stay}
use Rattle.graph_flushed.proofs.links.keeps_links.Goals as goal

pub loop-number-init : goal.loop-number-init
loop-number-init c = λ same. links_stay c.args.prepared.now c.args.object c.args.links.now same
