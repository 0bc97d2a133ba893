-- Declarations of which all was checked are a mapping.
use Rattle.std.proofs.Common.{◌≡◌, ◌∙◌, ℕ, List, Option, None, Result, Ok, true, refl, sym, subst, ap}
use Rattle.base_core.specs.declared.refusal.ArgumentKind.{ArgumentKind}
use Rattle.base_core.specs.declared.refusal.Refusal.{Refusal}
use Rattle.schema_core.specs.Catalog.{Catalog}
use Rattle.schema_core.specs.Declaration.{IsDeclared, resolve}
use Rattle.class_types.specs.declared.mapped.Relation.{Relation}
use Rattle.class_layouts.specs.declared.classes.Classes.{Classes}
use Rattle.class_layouts.specs.declared.layout.Layout.{Layout}
use Rattle.class_layouts.specs.Columns.{layouts_of}
use Rattle.class_faults.specs.Faults.{mapping_fault}
use Rattle.class_sides.specs.Linking as linking
use Rattle.class_mapping.specs.Configured.{AreDeclared, IsConfigured, IsLaid}
use Rattle.class_mapping.specs.Declaring.{configure, configured_unless}
use Rattle.class_mapping.specs.Mapped.{IsValidMapping, Mapped, all_validators}
use Rattle.class_mapping.proofs.MappingLemmas.{all_found, resolved_is}
use Rattle.class_mapping.proofs.PairedLemmas.{has_pairs}
use Rattle.class_mapping.proofs.RelatedPairs.{are_related}
use Rattle.class_mapping.proofs.ValidLemmas.{valid_from}

pub is_configured : (mapped : Mapped) → AreDeclared mapped.schema mapped.classes → mapping_fault mapped.schema.tables mapped.classes ≡ None → IsDeclared mapped.schema.tables mapped.schema.resolved → mapped.schema.resolved ≡ true
    → IsConfigured mapped
is_configured mapped declared none tables resolved =
    let valid : IsValidMapping mapped = valid_from mapped.schema.tables mapped.classes (layouts_of mapped.schema.tables mapped.classes) declared.orphans none in
    record {
      hierarchies = record { lined = declared.lined; lines = declared.lines; valid = valid; paired = has_pairs mapped declared.lined declared.lines valid; declared = tables };
      related = are_related mapped declared.lined declared.lines valid;
      resolved = resolved;
    }

-- the targets of foreign keys are found, and the declarations are as they were
pub declared_still : (schema new : Catalog) (classes : Classes) → resolve schema ≡ Ok (tt, new) → AreDeclared schema classes → AreDeclared new classes
declared_still schema new classes h declared =
    subst (λ (now : Catalog). AreDeclared now classes) (resolved_is schema new h)
    (record { few = declared.few; lined = declared.lined; lines = declared.lines; alone = declared.alone; over = declared.over; orphans = declared.orphans })

-- what a mapping keeps, once all was checked
pub laid_by : (schema new : Catalog) (classes : Classes) (fault : Option ArgumentKind) (layouts : List Layout) (relations : List (List Relation)) (validators : List (List (List ℕ × List ℕ)))
    → AreDeclared schema classes → resolve schema ≡ Ok (tt, new) → IsDeclared new.tables new.resolved → fault ≡ mapping_fault schema.tables classes → fault ≡ None
    → layouts ≡ layouts_of schema.tables classes → relations ≡ linking.relations_of schema.tables classes → validators ≡ all_validators classes
    → IsLaid new classes layouts relations validators
laid_by schema new classes fault layouts relations validators declared h tables told none laid linked validated =
    let found : Catalog = all_found schema in
    let same : found ≡ new = resolved_is schema new h in
    let before : AreDeclared found classes = record { few = declared.few; lined = declared.lined; lines = declared.lines; alone = declared.alone; over = declared.over; orphans = declared.orphans } in
    subst (λ (now : Catalog). IsLaid now classes layouts relations validators) same
    (record {
      declared = before;
      configured = is_configured (record { schema = found; classes = classes }) before (sym told ∙ none) (subst (λ (now : Catalog). IsDeclared now.tables now.resolved) (sym same) tables) refl;
      laid = laid;
      linked = linked;
      validated = validated;
    })

-- declarations without a fault are a mapping
pub configured_by : (schema new : Catalog) (classes : Classes) (fault : Option ArgumentKind) → resolve schema ≡ Ok (tt, new) → fault ≡ mapping_fault schema.tables classes → fault ≡ None
    → configure (record { schema = schema; classes = classes }) ≡ Ok (record { schema = new; classes = classes })
unfolding configure
configured_by schema new classes fault h told none =
    ap (λ (f : Option ArgumentKind). configured_unless f (record { schema = schema; classes = classes })) (sym told ∙ none)
    ∙ ap (λ (now : Catalog). let r : Result Mapped Refusal = Ok (record { schema = now; classes = classes }) in r) (resolved_is schema new h)
