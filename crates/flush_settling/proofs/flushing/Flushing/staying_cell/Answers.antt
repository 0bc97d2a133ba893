use Rattle.class_mapping.specs.Mapped.{attributes_of}
use Rattle.flush_settling.specs.Ready.{written_of}
use Rattle.flush_settling.proofs.CellSteps.{attribute_is, staying_by_come}
use Rattle.flush_settling.proofs.flushing.Flushing.staying_cell.Goals as goal

pub returns-in-Some : goal.returns-in-Some
returns-in-Some c =
    staying_by_come (written_of c.args.self.now) c.args.object c.args.class c.args.place c.args.cell.now c.key_attributes.result.now c.index-attributes-place.result c.in_ok-value.field-0 c.in-Some.value c.is_among.result c.held_cell.result
    c.key_attributes.ensures.keys c.is_among.ensures c.if-is_among.false
    (attribute_is c.attributes.result.now (attributes_of c.args.self.now.projection.now.mapping.now c.args.class) c.args.place c.index-attributes-place.result c.attributes.ensures c.index-attributes-place.is c.requires.place)
    c.in_ok-value.ensures c.in-Some.is c.held_cell.ensures
