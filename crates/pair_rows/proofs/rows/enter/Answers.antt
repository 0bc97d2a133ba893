use Rattle.pair_rows.proofs.FirstLemmas.{put_place}
use Rattle.pair_rows.proofs.rows.enter.Goals as goal

pub returns : goal.returns
returns c = λ other. put_place c.args.places.now c.insert.new.self c.args.place other (c.in_ok-insert.ensures.updates.0 other)
