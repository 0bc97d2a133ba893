-- What a deleted row holds in the columns that are written late is what stands.
use Rattle.std.proofs.Common.{◌≡◌, inl, inr, ℕ, zero, suc, Bool, true, false, cond, List, [], ◌∷◌, length, map, get_or, Some, refl, sym, subst, ap, ◌∙◌}
use Rattle.std.specs.Prelude.{nat_eq}
use Rattle.std.specs.List.{list_any}
use Rattle.base_core.specs.declared.ids.TableId.{TableId}
use Rattle.base_core.specs.declared.value.Value.{Value}
use Rattle.schema_core.specs.declared.changes.GoneRow.{GoneRow}
use Rattle.schema_core.specs.declared.changes.RowChanges.{RowChanges}
use Rattle.schema_core.specs.declared.table.ColumnSpec.{ColumnSpec}
use Rattle.schema_core.specs.declared.table.ForeignSpec.{ForeignSpec}
use Rattle.schema_core.specs.Catalog.{Catalog, foreign_of, has_name, no_foreign, same_name, spec_of}
use Rattle.schema_core.specs.Declaration.{some_two}
use Rattle.schema_core.specs.Tables.{Legal, Tables, cell_of}
use Rattle.schema_core.proofs.Names.{name_itself, same_names}
use Rattle.class_mapping.proofs.Having.{Has, named_alike, none_of, some_of, true_false}
use Rattle.class_mapping.proofs.Lists.{and_right, or_left, or_right}
use Rattle.flush_order.specs.Cells.{is_in, is_late, late_name}
use Rattle.flush_order.specs.Orders.{place_of_gone}
use Rattle.flush_plan.specs.Stating.{blend, row_at}
use Rattle.session_laws.proofs.Plans.Between.{legal_cells}
use Rattle.session_laws.proofs.Plans.Blend.{Long, legal_is_long}
use Rattle.session_laws.proofs.Plans.Complete.{whole_is_long}
use Rattle.session_laws.proofs.Projects.LateKeys.{each_has}
use Rattle.session_laws.specs.Graphs.{IsAsRead}

-- ---- a row that is the same in the columns that pass

same_head : (v w : Value) (vs ws : List Value) → v ∷ vs ≡ w ∷ ws → v ≡ w
same_head v w vs ws e = cc

same_tail : (v w : Value) (vs ws : List Value) → v ∷ vs ≡ w ∷ ws → vs ≡ ws
same_tail v w vs ws e = cc

-- cells by name that are the same together are so one by one
pub each_same : (f g : List ℕ → Value) (names : List (List ℕ)) (name : List ℕ) → map f names ≡ map g names → Has names name → f name ≡ g name
each_same f g [] name e has = absurd has
each_same f g (first ∷ names) name e (inl is) = ap f (sym is) ∙ same_head (f first) (g first) (map f names) (map g names) e ∙ ap g is
each_same f g (first ∷ names) name e (inr has) = each_same f g names name (same_tail (f first) (g first) (map f names) (map g names) e) has

-- another column has another name
other_name : (c d : ColumnSpec) (cs : List ColumnSpec) → some_two (λ (one other : ColumnSpec). same_name one.name other.name) (c ∷ cs) ≡ false → Has cs d → same_name c.name d.name ≡ false
other_name c d cs once has = by (same_name c.name d.name) refl
  where
    by : (b : Bool) → same_name c.name d.name ≡ b → b ≡ false
    by false e = refl
    by true e =
        absurd (true_false (same_name d.name c.name) (named_alike d.name c.name (sym (same_names c.name d.name e)))
        (none_of (λ (later : ColumnSpec). same_name later.name c.name) cs d (or_left (list_any (λ (later : ColumnSpec). same_name later.name c.name) cs) (some_two (λ (one other : ColumnSpec). same_name one.name other.name) cs) once) has))

pub blend_same : (test : ColumnSpec → Bool) (cs : List ColumnSpec) (row other : List Value) → Long cs row → Long cs other → some_two (λ (one other : ColumnSpec). same_name one.name other.name) cs ≡ false
    → ((c : ColumnSpec) → Has cs c → test c ≡ true → cell_of cs row c.name ≡ cell_of cs other c.name) → blend test cs row other ≡ row
blend_same test [] [] other r o once each = refl
blend_same test [] (v ∷ row) other r o once each = absurd r
blend_same test (c ∷ cs) [] other r o once each = absurd r
blend_same test (c ∷ cs) (v ∷ row) [] r o once each = absurd o
blend_same test (c ∷ cs) (v ∷ row) (w ∷ other) r o once each =
    ap (λ x. x ∷ blend test cs row other) (here (test c) refl)
    ∙ ap (λ (xs : List Value). v ∷ xs) (blend_same test cs row other r o (or_right (list_any (λ (later : ColumnSpec). same_name later.name c.name) cs) (some_two (λ (one other : ColumnSpec). same_name one.name other.name) cs) once) later)
  where
    here : (b : Bool) → test c ≡ b → cond b w v ≡ v
    here false t = refl
    here true t =
        sym (sym (ap (λ b. cond b v (cell_of cs row c.name)) (name_itself c.name)) ∙ each c (inl refl) t ∙ ap (λ b. cond b w (cell_of cs other c.name)) (name_itself c.name))

    later : (d : ColumnSpec) → Has cs d → test d ≡ true → cell_of cs row d.name ≡ cell_of cs other d.name
    later d has t =
        let apart : same_name c.name d.name ≡ false = other_name c d cs once has in
        sym (ap (λ b. cond b v (cell_of cs row d.name)) apart) ∙ each d (inr has) t ∙ ap (λ b. cond b w (cell_of cs other d.name)) apart

-- ---- a late column is one of a foreign key

foreign_has : (foreigns : List ForeignSpec) (number : ℕ) (name : List ℕ) → has_name (get_or foreigns number no_foreign).columns name ≡ true → Has foreigns (get_or foreigns number no_foreign)
foreign_has [] number name h = absurd (cc)
foreign_has (foreign ∷ foreigns) zero name h = inl refl
foreign_has (foreign ∷ foreigns) (suc number) name h = inr (foreign_has foreigns number name h)

late_foreign : (schema : Catalog) (changes : RowChanges) (table : TableId) (name : List ℕ) → late_name schema changes table name ≡ true
    → (foreign : ForeignSpec) × Has (spec_of schema table).foreigns foreign × Has foreign.columns name
late_foreign schema changes table name late =
    let post = some_of (is_in schema table name) changes.post late in
    let named = and_right (nat_eq post.0.0.0 table.0) (has_name (foreign_of (spec_of schema table) post.0.1).columns name) post.2 in
    let foreign = foreign_of (spec_of schema table) post.0.1 in
    let own = some_of (λ other. same_name other name) foreign.columns named in
    (foreign, foreign_has (spec_of schema table).foreigns post.0.1 name named, subst (λ n. Has foreign.columns n) (same_names own.0 name own.2) own.1)

-- where the foreign keys are as they were read, so is what is written late
pub late_as_read : (schema : Catalog) (old : Tables) (changes : RowChanges) (row : GoneRow) → Legal schema old
    → some_two (λ (one other : ColumnSpec). same_name one.name other.name) (spec_of schema row.name.table).columns ≡ false
    → length row.base ≡ length (spec_of schema row.name.table).columns → IsAsRead schema old row
    → (stands : List Value) → row_at old (place_of_gone schema row) ≡ Some stands → blend (is_late schema changes row.name.table) (spec_of schema row.name.table).columns stands row.base ≡ stands
late_as_read schema old changes row legal once whole read stands at =
    let columns = (spec_of schema row.name.table).columns in
    blend_same (is_late schema changes row.name.table) columns stands row.base
    (legal_is_long columns stands (legal_cells schema old legal (place_of_gone schema row) stands at)) (whole_is_long columns row.base whole) once
    (λ column has late.
    let found = late_foreign schema changes row.name.table column.name late in
    each_same (cell_of columns stands) (cell_of columns row.base) found.0.columns column.name
    (each_has (λ (foreign : ForeignSpec). map (cell_of columns stands) foreign.columns ≡ map (cell_of columns row.base) foreign.columns) (spec_of schema row.name.table).foreigns found.0 (read stands at) found.1) found.2)
