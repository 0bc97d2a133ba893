use Rattle.object_arena.specs.Graph.{expired_cell}
use Rattle.object_arena.proofs.PartLemmas.{value_put}
use Rattle.object_arena.proofs.parts.put_value.Goals as goal

pub returns : goal.returns
returns c =
    value_put c.args.object.now c.args.attr c.args.value c.replace-old.new.self c.replace-none.new.self expired_cell c.replace-old.result
    c.replace-old.ensures.before c.replace-old.ensures.list c.replace-none.ensures.list
