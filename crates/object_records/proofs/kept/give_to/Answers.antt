use Rattle.std.proofs.Common.{Some, refl}
use Rattle.object_records.specs.Kept.{holding}
use Rattle.object_arena.specs.Graph.{object_at}
use Rattle.object_arena.proofs.ClassLemmas.{classes_set}
use Rattle.object_records.proofs.KeptSteps.{given_whole, links_still}
use Rattle.object_records.proofs.PutSteps.{made_after, with_cells}
use Rattle.object_records.proofs.kept.give_to.Goals as goal

pub put_links-requires-clause-object : goal.put_links-requires-clause-object
put_links-requires-clause-object c = made_after c.args.arena.now c.put_cells.new.arena c.args.object (with_cells (object_at c.args.arena.now c.args.object) c.args.held.cells) c.put_cells.ensures c.requires.object

pub put_links-requires-clause-long : goal.put_links-requires-clause-long
put_links-requires-clause-long c = links_still c.args.arena.now c.put_cells.new.arena c.args.object c.args.held c.requires.object c.requires.holds c.put_cells.ensures

pub returns-clause-given : goal.returns-clause-given
returns-clause-given c = given_whole c.args.arena.now c.put_cells.new.arena c.put_links.new.arena c.args.object c.args.held c.requires.object c.put_cells.ensures c.put_links.ensures

pub returns-clause-classes : goal.returns-clause-classes
returns-clause-classes c =
    classes_set c.args.arena.now c.put_links.new.arena c.args.object (holding (Some c.args.held) (object_at c.args.arena.now c.args.object)) refl (returns-clause-given c)
