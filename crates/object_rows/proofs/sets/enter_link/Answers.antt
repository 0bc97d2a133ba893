use Rattle.object_rows.proofs.LinkSets.{put_link}
use Rattle.object_rows.proofs.sets.enter_link.Goals as goal

pub returns : goal.returns
returns c = λ other place. put_link c.args.places.now c.insert.new.self (c.args.object.0, c.args.relation.0) (other.0, place.0) (c.in_ok-insert.ensures.updates.0 (other.0, place.0))
