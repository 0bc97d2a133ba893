use Rattle.std.proofs.Common.{◌<◌, ◌∙◌, length, ap}
use Rattle.std.proofs.lemmas.List.{length-map}
use Rattle.class_layouts.specs.Columns.{layout_of}
use Rattle.class_mapping.specs.Mapped.{Mapped, layout_of as what_of}
use Rattle.class_mapping.proofs.MappingLemmas.{layout_at}
use Rattle.class_mapping.proofs.mapping.Mapping.layout.Goals as goal

pub at-requires : goal.at-requires
at-requires c =
    let less : c.args.class.0 < length c.self.inside.classes.specs = rw (ap (λ (m : Mapped). m.classes) c.self.view_is) c.requires in
    rw (c.self.invariant.laid, length-map c.self.inside.classes.lines (layout_of c.self.inside.schema.tables c.self.inside.classes), c.self.invariant.declared.lined) less

pub returns : goal.returns
returns c =
    layout_at c.self.inside.schema.tables c.self.inside.classes c.self.inside.layouts c.args.class.0 c.at.result.now c.self.invariant.laid c.at.ensures
    ∙ ap (λ (m : Mapped). what_of m c.args.class) c.self.view_is
