use Rattle.std.proofs.Common.{◌∙◌, List, ap}
use Rattle.class_layouts.specs.declared.layout.Layout.{Layout}
use Rattle.class_blocks.specs.declared.side.Side.{Side}
use Rattle.class_sides.specs.Sides.{sides_of}
use Rattle.class_sides.specs.Linking.{relations_by}
use Rattle.class_mapping.proofs.declarations.check_all.Goals as goal

pub returns-clause-relations : goal.returns-clause-relations
returns-clause-relations c =
    c.in_ok-relations.ensures
    ∙ ap (λ (sides : List Side). relations_by c.args.schema.now.tables c.args.classes.now sides)
    (c.as_slice-2.ensures ∙ c.in_ok-sides.ensures
    ∙ ap (λ (layouts : List Layout). sides_of c.args.schema.now.tables c.args.classes.now layouts) (c.as_slice.ensures ∙ c.in_ok-layouts.ensures))
