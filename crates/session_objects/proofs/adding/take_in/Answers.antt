use Rattle.session_parts.proofs.ObjectLemmas.{made_still}
use Rattle.session_objects.proofs.adding.take_in.Goals as goal

pub step-requires : goal.step-requires
step-requires c = made_still c.args.session.now.graph c.take_all.new.session.graph c.args.object c.take_all.ensures.same.classes c.requires.object
