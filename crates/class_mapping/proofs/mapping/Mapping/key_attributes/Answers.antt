use Rattle.std.proofs.Common.{◌∙◌, ap}
use Rattle.std.proofs.lemmas.List.Elements.{All-same}
use Rattle.class_layouts.specs.declared.layout.Layout.{Layout}
use Rattle.class_mapping.specs.Mapped.{IsAttribute, Mapped, attributes_of, key_attributes}
use Rattle.class_mapping.proofs.MappingLemmas.{keys_inside}
use Rattle.class_mapping.proofs.mapping.Mapping.key_attributes.Goals as goal

pub returns-clause-inside : goal.returns-clause-inside
returns-clause-inside c =
    let mapped : Mapped = c.args.self.now in
    All-same (IsAttribute mapped c.args.class) c.as_slice.result.now (key_attributes mapped c.args.class)
    (c.as_slice.ensures ∙ ap (λ (layout : Layout). layout.keys) c.layout.ensures)
    (keys_inside mapped.schema.tables (attributes_of mapped c.args.class))
