use Rattle.std.proofs.Common.{ℕ, List, [], ◌∷◌, ◌++◌, codes, subst}
use Rattle.schema_core.specs.declared.table.ColumnSpec.{ColumnSpec}
use Rattle.schema_core.specs.declared.table.ForeignSpec.{ForeignSpec}
use Rattle.sql_text.specs.Pages.{WroteOn}
use Rattle.sql_text.specs.Written.{words}
use Rattle.sql_text.proofs.Pages.{wrote_then}
use Rattle.sql_tables.specs.Ddl.{key_names, uniques_pieces, foreigns_pieces}
use Rattle.sql_tables.proofs.tables.constraints.Goals as goal

pub returns : goal.returns
returns c =
    let spec = c.args.declared.now in
    let later = foreigns_pieces c.args.schema.now c.args.later.now 0 spec.foreigns in
    let key = subst (λ (columns : List ColumnSpec). WroteOn (key_names (codes ", PRIMARY KEY (") columns) c.args.page.now c.key_names.new.page) c.as_slice.ensures c.key_names.ensures in
    let uniques = subst (λ (lists : List (List (List ℕ))). WroteOn (uniques_pieces lists) c.put_words.new.self c.uniques.new.page) c.as_slice-2.ensures c.uniques.ensures in
    let told = subst (λ (foreigns : List ForeignSpec). WroteOn (foreigns_pieces c.args.schema.now c.args.later.now 0 foreigns) c.uniques.new.page c.foreigns.new.page) c.as_slice-3.ensures c.foreigns.ensures in
    let lists = wrote_then (words (codes ")") ∷ []) (uniques_pieces spec.uniques) c.key_names.new.page c.put_words.new.self c.uniques.new.page c.put_words.ensures uniques in
    let before = wrote_then (key_names (codes ", PRIMARY KEY (") spec.columns) (words (codes ")") ∷ uniques_pieces spec.uniques) c.args.page.now c.key_names.new.page c.uniques.new.page key lists in
    wrote_then (key_names (codes ", PRIMARY KEY (") spec.columns ++ (words (codes ")") ∷ uniques_pieces spec.uniques)) later c.args.page.now c.uniques.new.page c.foreigns.new.page before told
