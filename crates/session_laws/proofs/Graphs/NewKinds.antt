-- Each foreign key of a new row is given as values, or comes from one new row of its target.
use Rattle.std.specs.List.{AllByRecursion}
use Rattle.class_mapping.specs.Mapped.{Mapped}
use Rattle.object_arena.specs.Fit.{IsFit}
use Rattle.object_arena.specs.Graph.{Graph}
use Rattle.object_rows.specs.declared.prepared.Prepared.{Prepared}
use Rattle.object_rows.specs.Rows.{new_rows}
use Rattle.pair_rows.specs.Pairs.{made_rows}
use Rattle.row_project.specs.Changes.{object_changes}
use Rattle.row_partners.specs.Partners.{partners}
use Rattle.row_switches.proofs.Each.{all_append}
use Rattle.row_partners.proofs.PartnerSteps.{partners_length}
use Rattle.session_laws.proofs.Projects.Rows.{plain_whole}
use Rattle.session_laws.specs.Graphs.{ForeignKeysAreOfOneKind, HasOneKind, IsWellMapped}
use Rattle.session_laws.proofs.Graphs.MappingFacts.{free_law}
use Rattle.session_laws.proofs.Graphs.OwnKinds.{new_kinds}
use Rattle.session_laws.proofs.Graphs.PairKinds.{made_kinds}
use Rattle.session_laws.proofs.Graphs.SwitchKinds.{staying_kinds}

-- before the switches
plain_kinds : (mapped : Mapped) (graph : Graph) (prepared : Prepared) → IsWellMapped mapped → IsFit mapped graph → AllByRecursion (HasOneKind mapped.schema (object_changes mapped graph prepared)) (object_changes mapped graph prepared).fresh
plain_kinds mapped graph prepared well fit =
    all_append (HasOneKind mapped.schema (object_changes mapped graph prepared)) (new_rows mapped graph prepared) (made_rows mapped graph prepared)
    (new_kinds mapped well.lined well.lines well.valid well.declared (free_law mapped well.lined well.lines) graph prepared fit)
    (made_kinds mapped well.lined well.lines well.valid well.declared (free_law mapped well.lined well.lines) graph prepared fit)

pub foreigns_of_one_kind : ForeignKeysAreOfOneKind
foreigns_of_one_kind mapped graph prepared well fit =
    let changes = object_changes mapped graph prepared in
    staying_kinds mapped graph changes (partners mapped.schema changes) (partners_length mapped.schema changes) (plain_whole mapped graph prepared) (plain_kinds mapped graph prepared well fit)
