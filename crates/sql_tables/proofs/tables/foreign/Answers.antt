use Rattle.std.proofs.Common.{ℕ, List, Option, subst}
use Rattle.base_core.specs.declared.ids.TableId.{TableId}
use Rattle.sql_text.specs.Pages.{WroteOn}
use Rattle.sql_tables.specs.Ddl.{foreign_to}
use Rattle.sql_tables.proofs.tables.foreign.Goals as goal

pub returns : goal.returns
returns c =
    let named = subst (λ (names : List (List ℕ)). WroteOn (foreign_to c.args.schema.now names c.find-target.result) c.args.page.now c.foreign_to.new.page) c.as_slice.ensures c.foreign_to.ensures in
    subst (λ (target : Option TableId). WroteOn (foreign_to c.args.schema.now c.args.foreign.now.columns target) c.args.page.now c.foreign_to.new.page) c.find-target.ensures named
