use Rattle.class_mapping.specs.Mapped.{attributes_of}
use Rattle.flush_settling.specs.Ready.{written_of}
use Rattle.flush_settling.proofs.CellSteps.{attribute_is, new_by_own, new_by_part}
use Rattle.flush_settling.proofs.flushing.Flushing.new_value.Goals as goal

pub returns-in_ok-number_of-in-Some : goal.returns-in_ok-number_of-in-Some
returns-in_ok-number_of-in-Some c =
    new_by_part (written_of c.args.self.now) c.args.object c.args.class c.args.key.now c.args.place c.args.cell.now c.key_attributes.result.now c.in-Some.part c.in_ok-number_of-in-Some.field-0 c.part_of_key.result
    c.key_attributes.ensures.keys c.in-Some.ensures c.in_ok-number_of-in-Some.ensures c.part_of_key.ensures

pub returns-in-None : goal.returns-in-None
returns-in-None c =
    new_by_own (written_of c.args.self.now) c.args.object c.args.class c.args.key.now c.args.place c.args.cell.now c.key_attributes.result.now c.index-attributes-place.result c.own_value.result
    c.key_attributes.ensures.keys c.in-None.ensures
    (attribute_is c.attributes.result.now (attributes_of c.args.self.now.projection.now.mapping.now c.args.class) c.args.place c.index-attributes-place.result c.attributes.ensures c.index-attributes-place.is c.requires.place)
    c.own_value.ensures
