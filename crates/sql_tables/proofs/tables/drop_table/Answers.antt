use Rattle.std.proofs.Common.{ℕ, List, [], ◌∷◌, codes, subst}
use Rattle.schema_core.specs.Catalog.{spec_of}
use Rattle.sql_text.specs.Pages.{WroteOn}
use Rattle.sql_text.specs.Written.{words, name}
use Rattle.sql_text.proofs.Pages.{wrote_then}
use Rattle.sql_tables.proofs.tables.drop_table.Goals as goal

pub returns : goal.returns
returns c =
    let told = subst (λ (shown : List ℕ). WroteOn (name shown ∷ []) c.put_words.new.self c.put_shown.new.self) c.table_name.ensures c.put_shown.ensures in
    wrote_then (words (codes "DROP TABLE ") ∷ []) (name (spec_of c.args.schema.now c.args.table).name ∷ []) c.args.page.now c.put_words.new.self c.put_shown.new.self c.put_words.ensures told
