-- The DELETEs of a plan: a row goes once no row left refers to it.
use Rattle.std.proofs.Common.{◌≡◌, ◌⊎◌, inl, inr, true, false, List, [], ◌∷◌, map, Option, None, Some, Ok, refl, sym, ap, ◌∙◌, subst}
use Rattle.std.specs.List.{AllByRecursion}
use Rattle.std.specs.Option.{is_some, option_and_then}
use Rattle.base_core.specs.declared.ids.TableId.{TableId}
use Rattle.base_core.specs.declared.value.Value.{Value}
use Rattle.schema_core.specs.declared.changes.Planned.{Planned}
use Rattle.schema_core.specs.declared.changes.Planned.TheVariants.{Remove}
use Rattle.schema_core.specs.declared.changes.RowChanges.{RowChanges}
use Rattle.schema_core.specs.declared.statement.RowStmt.TheVariants as statement
use Rattle.schema_core.specs.declared.table.ForeignSpec.{ForeignSpec}
use Rattle.schema_core.specs.Apply.{apply}
use Rattle.schema_core.specs.Catalog.{Catalog, spec_of, target_of}
use Rattle.schema_core.specs.Tables.{Legal, Rows, Tables, cells_of, dangles, has_null, is_created, row_under, rows_in}
use Rattle.table_laws.proofs.Entries.{all_both, all_map}
use Rattle.flush_order.specs.Cells.{late_name}
use Rattle.flush_order.specs.Sorted.{Place}
use Rattle.flush_plan.specs.Flushing.{Sofar, after_outcome, send}
use Rattle.flush_plan.specs.Stating.{with_edit, is_present, row_at}
use Rattle.session_laws.specs.Plans.Premises.{Ends, IsSorted}
use Rattle.session_laws.proofs.Plans.Accept.{delete_accepted}
use Rattle.session_laws.proofs.Plans.At.{at_edit, at_other, edited_created, edited_sorted, place_cases, same_tables}
use Rattle.session_laws.proofs.Plans.Between.{Between, FromRow, Good, between_legal, columns, comes_long, early_part, good_foreigns, legal_bound, moved, null_bound}
use Rattle.session_laws.proofs.Plans.Blend.{blend_self, nulls}
use Rattle.session_laws.proofs.Plans.Items.{Member}
use Rattle.session_laws.proofs.Plans.Prefixes.{Goes}
use Rattle.session_laws.proofs.Plans.Facts.{none_some, some_or_none, some_of}

abbrev pub remove_at : Place → Planned
remove_at place = Remove place.0 place.1

-- where nothing stands, taking it out leaves the tables
pub unchanged : (place : Place) (tables : Tables) (rows : Rows) → IsSorted tables → rows_in tables place.0 ≡ Some rows → row_under rows place.1 ≡ None → with_edit tables (place, None) ≡ tables
unchanged place tables rows sorted table free =
    same_tables (with_edit tables (place, None)) tables (edited_sorted tables (place, None) sorted) sorted (edited_created tables (place, None))
    (λ q. elim (place_cases place q) [
      | inl same ↦ ap (row_at (with_edit tables (place, None))) (sym same) ∙ at_edit tables (place, None) rows sorted table ∙ sym (ap (option_and_then (λ r. row_under r place.1)) table ∙ free) ∙ ap (row_at tables) same
      | inr apart ↦ at_other tables (place, None) q sorted apart
    ])

module _ (schema : Catalog) (changes : RowChanges) (old stated : Tables) where
  -- the old row once it is cleared
  abbrev Last : Place → List Value → List Value
  Last place row = early_part schema changes place row

  -- the places that a cleared row names, and that hold an old row but no stated one, are among these
  abbrev pub NamesAmong : List Place → Place → List Value → ForeignSpec → Type 0
  NamesAmong rest place row foreign =
      (t : TableId) → target_of schema foreign ≡ Some t → has_null (cells_of (spec_of schema place.0) (Last place row) foreign.columns) ≡ false
      → row_at stated (t, cells_of (spec_of schema place.0) (Last place row) foreign.columns) ≡ None
      → is_present old (t, cells_of (spec_of schema place.0) (Last place row) foreign.columns) ≡ true
      → Member (t, cells_of (spec_of schema place.0) (Last place row) foreign.columns) rest

  -- each of the rows names only rows among these
  abbrev pub Closed : List Place → Type 0
  Closed rest = (place : Place) (row : List Value) → Member place rest → row_at old place ≡ Some row → AllByRecursion (NamesAmong rest place row) (spec_of schema place.0).foreigns

  -- what is left after each of them is closed too, and has it not again; none has a stated row
  abbrev pub Ordered : List Place → Type 0
  Ordered [] = Unit {0}
  Ordered (place ∷ rest) = (row_at stated place ≡ None) × (is_created old place.0 ≡ true) × (Member place rest → ⊥) × Closed rest × Ordered rest

  pub record Going (rest : List Place) (sofar : Sofar) : Type 0 where
    pub sorted : IsSorted sofar.tables
    pub created : (table : TableId) → is_created sofar.tables table ≡ is_created old table
    pub stateds : (place : Place) (row : List Value) → row_at stated place ≡ Some row → row_at sofar.tables place ≡ Some row
    pub alive : (place : Place) → Member place rest → is_present old place ≡ true → is_present sofar.tables place ≡ true
    pub rows : (place : Place) (row : List Value) → row_at sofar.tables place ≡ Some row → (row_at stated place ≡ Some row) ⊎ (Member place rest × (row_at stated place ≡ None) × ((first : List Value) × (row_at old place ≡ Some first) × (row ≡ Last place first)))

  drop_member : (place q : Place) (rest : List Place) → (place ≡ q → ⊥) → Member q (place ∷ rest) → Member q rest
  drop_member place q rest apart (inl here) = absurd (apart here)
  drop_member place q rest apart (inr more) = more

  keep_rows : (place q : Place) (rest : List Place) (row : List Value) → (place ≡ q → ⊥) → (row_at stated q ≡ Some row) ⊎ (Member q (place ∷ rest) × (row_at stated q ≡ None) × ((first : List Value) × (row_at old q ≡ Some first) × (row ≡ Last q first))) → (row_at stated q ≡ Some row) ⊎ (Member q rest × (row_at stated q ≡ None) × ((first : List Value) × (row_at old q ≡ Some first) × (row ≡ Last q first)))
  keep_rows place q rest row apart (inl at) = inl at
  keep_rows place q rest row apart (inr gone) = inr (drop_member place q rest apart gone.0, gone.1, gone.2)

  pub gone_then : (place : Place) (rest : List Place) (sofar : Sofar) (rows : Rows) → Going (place ∷ rest) sofar → row_at stated place ≡ None → (Member place rest → ⊥) → rows_in sofar.tables place.0 ≡ Some rows → Going rest (record { tables = with_edit sofar.tables (place, None); keys = sofar.keys })
  gone_then place rest sofar rows going gone once table = record {
    sorted = edited_sorted sofar.tables (place, None) going.sorted;
    created = λ t. edited_created sofar.tables (place, None) t ∙ going.created t;
    stateds = λ q row at.
        elim (place_cases place q) [
          | inl same ↦ absurd (none_some row (sym gone ∙ ap (row_at stated) same ∙ at))
          | inr apart ↦ at_other sofar.tables (place, None) q going.sorted apart ∙ going.stateds q row at
        ];
    alive = λ q member at.
        elim (place_cases place q) [
          | inl same ↦ absurd (once (subst (λ p. Member p rest) (sym same) member))
          | inr apart ↦ ap is_some (at_other sofar.tables (place, None) q going.sorted apart) ∙ going.alive q (inr member) at
        ];
    rows = λ q row at.
        elim (place_cases place q) [
          | inl same ↦ absurd (none_some row (sym (at_edit sofar.tables (place, None) rows going.sorted table) ∙ ap (row_at (with_edit sofar.tables (place, None))) same ∙ at))
          | inr apart ↦ keep_rows place q rest row apart (going.rows q row (sym (at_other sofar.tables (place, None) q going.sorted apart) ∙ at))
        ];
  }

  -- at the end the tables are the stated ones
  pub going_stated : (sofar : Sofar) → IsSorted stated → Going [] sofar → ((table : TableId) → is_created stated table ≡ is_created old table) → sofar.tables ≡ stated
  going_stated sofar sorted going created =
      same_tables sofar.tables stated going.sorted sorted (λ t. going.created t ∙ sym (created t))
      (λ q. at_end q (row_at sofar.tables q) (row_at stated q) refl refl)
    where
      at_end : (q : Place) (o p : Option (List Value)) → row_at sofar.tables q ≡ o → row_at stated q ≡ p → row_at sofar.tables q ≡ row_at stated q
      at_end q o (Some row) e f = going.stateds q row f ∙ sym f
      at_end q None None e f = e ∙ sym f
      at_end q (Some row) None e f = only q row f (going.rows q row e)
        where
          only : (q : Place) (row : List Value) → row_at stated q ≡ None → (row_at stated q ≡ Some row) ⊎ (Member q [] × (row_at stated q ≡ None) × ((first : List Value) × (row_at old q ≡ Some first) × (row ≡ Last q first))) → row_at sofar.tables q ≡ row_at stated q
          only q row none (inl at) = absurd (none_some row (sym none ∙ at))
          only q row none (inr gone) = absurd gone.0

  module _ (ends : Ends schema changes old stated) where
    good_row : (rest : List Place) (place : Place) (row : List Value) → (row_at stated place ≡ Some row) ⊎ (Member place rest × (row_at stated place ≡ None) × ((first : List Value) × (row_at old place ≡ Some first) × (row ≡ Last place first))) → Good schema changes old stated ends place row
    good_row rest place row (inl at) = record {
      early = row;
      late = row;
      is = sym (blend_self (late_name schema changes place.0) (columns schema place) row (comes_long schema changes old stated ends place row (inr at)));
      from = inr at;
      after = inl (inr at);
    }
    good_row rest place row (inr gone) = record {
      early = gone.2.0;
      late = nulls (columns schema place);
      is = gone.2.2;
      from = inl gone.2.1;
      after = inr (refl, inr gone.1);
    }

    between_of : (rest : List Place) (sofar : Sofar) → Going rest sofar → Between schema changes old stated ends sofar.tables
    between_of rest sofar going = record { sorted = going.sorted; created = going.created; good = λ place row at. good_row rest place row (going.rows place row at) }

    stays : (rest : List Place) (sofar : Sofar) → Going rest sofar → (place : Place) → is_present stated place ≡ true → is_present sofar.tables place ≡ true
    stays rest sofar going place e = let row = some_of (row_at stated place) e in ap is_some (going.stateds place row.0 row.1)

    -- a named old row is there still
    named_stays : (rest : List Place) (sofar : Sofar) → Going rest sofar → (place : Place) → (row_at stated place ≡ None → is_present old place ≡ true → Member place rest) → is_present old place ≡ true → is_present sofar.tables place ≡ true
    named_stays rest sofar going place among e =
        elim (some_or_none (row_at stated place)) [
          | inl row ↦ ap is_some (going.stateds place row.0 row.1)
          | inr gone ↦ going.alive place (among gone e) e
        ]

    gone_source : (rest : List Place) (sofar : Sofar) (place : Place) (row first : List Value) (foreign : ForeignSpec) → Going rest sofar → row_at stated place ≡ None → row ≡ Last place first → NamesAmong rest place first foreign → FromRow schema changes old stated ends place row foreign → dangles schema sofar.tables (spec_of schema place.0) row foreign ≡ false
    gone_source rest sofar place row first foreign going gone is among (inl s) =
        let same : cells_of (spec_of schema place.0) s.0 foreign.columns ≡ cells_of (spec_of schema place.0) (Last place first) foreign.columns = sym s.2 ∙ ap (λ r. cells_of (spec_of schema place.0) r foreign.columns) is in
        moved schema old sofar.tables (spec_of schema place.0) row s.0 foreign s.2 s.3
        (λ t target whole at.
        subst (λ key. is_present sofar.tables (t, key) ≡ true) (sym same)
        (named_stays rest sofar going (t, cells_of (spec_of schema place.0) (Last place first) foreign.columns)
        (among t target (ap has_null (sym same) ∙ whole))
        (ap (λ key. is_present old (t, key)) (sym same) ∙ at)))
    gone_source rest sofar place row first foreign going gone is among (inr (inl s)) = absurd (none_some s.0 (sym gone ∙ s.1))
    gone_source rest sofar place row first foreign going gone is among (inr (inr null)) = null_bound schema sofar.tables (spec_of schema place.0) row foreign null

    bound_row : (rest : List Place) (sofar : Sofar) → Going rest sofar → Closed rest → (place : Place) (row : List Value) → Good schema changes old stated ends place row → (row_at stated place ≡ Some row) ⊎ (Member place rest × (row_at stated place ≡ None) × ((first : List Value) × (row_at old place ≡ Some first) × (row ≡ Last place first))) → AllByRecursion (λ foreign. dangles schema sofar.tables (spec_of schema place.0) row foreign ≡ false) (spec_of schema place.0).foreigns
    bound_row rest sofar going closed place row good (inl at) =
        all_map (λ foreign. dangles schema stated (spec_of schema place.0) row foreign ≡ false) (λ foreign. dangles schema sofar.tables (spec_of schema place.0) row foreign ≡ false)
        (λ foreign named. moved schema stated sofar.tables (spec_of schema place.0) row row foreign refl named (λ t target whole there. stays rest sofar going (t, cells_of (spec_of schema place.0) row foreign.columns) there))
        (spec_of schema place.0).foreigns (legal_bound schema stated ends.legal_stated place row at)
    bound_row rest sofar going closed place row good (inr gone) =
        all_both (NamesAmong rest place gone.2.0) (FromRow schema changes old stated ends place row) (λ foreign. dangles schema sofar.tables (spec_of schema place.0) row foreign ≡ false)
        (λ foreign among source. gone_source rest sofar place row gone.2.0 foreign going gone.1 gone.2.2 among source)
        (spec_of schema place.0).foreigns (closed place gone.2.0 gone.0 gone.2.1) (good_foreigns schema changes old stated ends place row good)

    pub going_legal : (rest : List Place) (sofar : Sofar) → Going rest sofar → Closed rest → Legal schema sofar.tables
    going_legal rest sofar going closed =
        between_legal schema changes old stated ends sofar.tables (between_of rest sofar going)
        (λ place row at. bound_row rest sofar going closed place row (good_row rest place row (going.rows place row at)) (going.rows place row at))

    sent_remove : (place : Place) (rest : List Place) (sofar : Sofar) → Ordered (place ∷ rest) → Going (place ∷ rest) sofar → (next : Sofar) × (send schema changes sofar (remove_at place) ≡ Ok next) × Going rest next
    unfolding send
    sent_remove place rest sofar ordered going =
        let rows = some_of (rows_in sofar.tables place.0) (going.created place.0 ∙ ordered.1) in
        let next : Sofar = record { tables = with_edit sofar.tables (place, None); keys = sofar.keys } in
        let after : Going rest next = gone_then place rest sofar rows.0 going ordered.0 ordered.2 rows.1 in
        let answer : apply schema sofar.tables (statement.Delete place.0 place.1) ≡ Ok (place.1 ∷ [], next.tables) =
        delete_accepted schema sofar.tables place.0 rows.0 place.1 rows.1 (going_legal rest next after ordered.3) (unchanged place sofar.tables rows.0 going.sorted rows.1) in
        (next, ap (after_outcome schema changes sofar (remove_at place)) answer, after)

    -- all DELETEs
    pub deletes_go : (rest : List Place) (sofar : Sofar) → Closed rest → Ordered rest → Going rest sofar → (end : Sofar) × Goes schema changes sofar (map remove_at rest) end × Going [] end
    deletes_go [] sofar closed ordered going = (sofar, (refl, going_legal [] sofar going closed), going)
    deletes_go (place ∷ rest) sofar closed ordered going =
        let next = sent_remove place rest sofar ordered going in
        let more = deletes_go rest next.0 ordered.3 ordered.4 next.2 in
        (more.0, (going_legal (place ∷ rest) sofar going closed, (next.0, next.1, more.1)), more.2)
