use Rattle.std.proofs.Common.{rules, ◌≡◌, sym, subst}
use Rattle.base_core.specs.declared.ids.TableId.{TableId}
use Rattle.schema_core.specs.Catalog.{IsTable}
use Rattle.class_mapping.specs.Mapped.{root_table}
use Rattle.class_mapping.proofs.PlainClassLemmas.{plain_seen}
use Rattle.class_mapping.proofs.RootLemmas.{root_seen}
use Rattle.class_mapping.proofs.mapping.Mapping.root_table.Goals as goal

pub returns-clause-plain : goal.returns-clause-plain
returns-clause-plain c =
    plain_seen c.self.inside.schema c.self.inside.classes c.args.self.now c.args.class c.self.view_is c.self.invariant.declared.alone c.self.invariant.declared.over c.requires

pub returns-clause-exists : goal.returns-clause-exists
returns-clause-exists c =
    let is : c.table_or_none.result ≡ root_table c.args.self.now c.args.class = search rules in
    let root = root_seen c.self.inside.schema c.self.inside.classes c.args.self.now c.args.class c.self.view_is c.self.invariant.declared.lined c.self.invariant.declared.lines c.requires in
    subst (λ (table : TableId). IsTable c.args.self.now.schema table) (sym is) root.table
