use Rattle.std.proofs.Common.{◌≡◌, ◌++◌, length, map, sym, ap, ◌∙◌, subst, arith}
use Rattle.schema_core.specs.declared.changes.NewRow.{NewRow}
use Rattle.schema_core.specs.declared.table.TableSpec.{TableSpec}
use Rattle.schema_core.specs.Catalog.{IsTable, spec_of}
use Rattle.schema_core.specs.Tables.{key_cells, key_of}
use Rattle.flush_order.specs.Cells.{first_cells, known_row, known_value, table_at}
use Rattle.flush_order.proofs.ReadyLemmas.{first_at, new_is}
use Rattle.flush_order.proofs.ready.ready_row.Goals as goal

pub at-requires : goal.at-requires
at-requires c = c.requires.within

pub bounds-firsts-place : goal.bounds-firsts-place
bounds-firsts-place c = omega (arith, c.requires.within, c.requires.firsts.size)

pub spec-requires : goal.spec-requires
spec-requires c =
    let row = new_is c.args.changes.now c.args.place c.at.result.now c.at.ensures in
    subst (IsTable c.args.schema.now) (ap (λ (r : NewRow). r.name.table) row) (c.requires.range.declared c.args.place c.requires.within)

pub returns : goal.returns
returns c =
    let schema = c.args.schema.now in
    let changes = c.args.changes.now in
    let place = c.args.place in
    let known = known_value schema changes (length changes.fresh) in
    let first : c.index-firsts-place.result ≡ first_cells schema changes place = c.index-firsts-place.is ∙ first_at schema changes c.args.firsts.now place c.index-firsts-place.result c.requires.firsts c.requires.within in
    let table : c.at.result.now.name.table ≡ table_at changes place = ap (λ (r : NewRow). r.name.table) (sym (new_is changes place c.at.result.now c.at.ensures)) in
    let values : c.push_known.new.out.items ≡ known_row schema changes place =
    c.in_ok-push_known.ensures ∙ ap (λ vs. vs ++ map known c.as_slice.result.now) c.new-known.ensures.items ∙ ap (map known) (c.as_slice.ensures ∙ first) in
    let spec : c.spec.result.now ≡ spec_of schema (table_at changes place) = c.spec.ensures ∙ ap (spec_of schema) table in
    let parts : c.push_key.new.out.items ≡ key_of (spec_of schema (table_at changes place)) (known_row schema changes place) =
    c.in_ok-push_key.ensures
    ∙ ap (λ vs. vs ++ key_cells c.as_slice-2.result.now c.as_slice-3.result.now) c.new-key.ensures.items
    ∙ ap (key_cells c.as_slice-2.result.now) (c.as_slice-3.ensures.value ∙ values)
    ∙ ap (λ columns. key_cells columns (known_row schema changes place)) (c.as_slice-2.ensures ∙ ap (λ (s : TableSpec). s.columns) spec) in
    λ i. record { table = table i; first = (c.in_ok-copied.ensures ∙ first) i; known = (c.from_vec.ensures ∙ values) i; key = (c.from_vec-2.ensures ∙ parts) i }
