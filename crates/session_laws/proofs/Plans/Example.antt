-- Completeness's premises are met by small changes.
use Rattle.std.proofs.Common.{◌≡◌, ◌⊎◌, inl, inr, ℕ, zero, suc, Bool, true, false, cond, List, [], ◌∷◌, None, Some, refl, sym, ap, ◌∙◌, subst, arith, ◌<◌, drop}
use Rattle.std.specs.Prelude.{codes}
use Rattle.std.specs.List.{AllByRecursion, list_all, list_any}
use Rattle.std.specs.Option.{option_and_then}
use Rattle.std.specs.BTreeMap.{is_at}
use Rattle.base_core.specs.declared.value.Value.{Value}
use Rattle.base_core.specs.declared.value.Value.TheVariants.{Null}
use Rattle.schema_core.specs.Catalog.{is_required, spec_of}
use Rattle.schema_core.specs.Tables.{Rows, cells_of, collide, row_under, table_cmp}
use Rattle.table_laws.proofs.Entries.{all_of, none_any}
use Rattle.flush_order.specs.Cells.{is_late, late_name}
use Rattle.row_order.specs.Places.{first_places, least_left, next_place, order, order_or_cycle}
use Rattle.flush_order.specs.Sorted.{Place}
use Rattle.flush_plan.specs.Flushing.{Sofar, send}
use Rattle.flush_plan.specs.Stating.{all_placed, blend, with_edit, guess, place_new, row_at, stated_tables}
use Rattle.session_laws.specs.Plans.Laws.{AreDeclared, AreWellFormed, IsComplete, before}
use Rattle.session_laws.specs.Plans.Premises.{IsFit}
use Rattle.session_laws.specs.Plans.Worked.{by_value, int, mixed_changes, mixed_old, mixed_rows, no_rows, node_row, nodes, of_entries, of_nodes, of_widgets, schema, value_rows, mixed_keys, mixed_plan}
use Rattle.session_laws.proofs.Plans.Facts.{none_some, same_some, true_false}
use Rattle.schema_core.specs.Apply.{apply, delete_row, insert_rows, update_row}
use Rattle.schema_core.specs.Judged.{change_all, remove_all, write_all}
use Rattle.schema_core.specs.declared.changes.Planned.{Planned}
use Rattle.session_laws.proofs.Plans.Accepted.{same_okay}

abbrev pub its_placed : Sofar
its_placed = record { tables = value_rows; keys = (0, int 1 ∷ []) ∷ (1, int 5 ∷ []) ∷ [] }

its_fit : IsFit schema by_value
its_fit = record {
  no_key = λ table. all_of (λ c. late_name schema by_value table c.name ≡ true → c.key ≡ false) (λ c e. absurd (true_false (sym e))) (spec_of schema table).columns;
  nullable = λ table. all_of (λ c. late_name schema by_value table c.name ≡ true → is_required c ≡ false) (λ c e. absurd (true_false (sym e))) (spec_of schema table).columns;
  uniques = λ table. all_of (λ u. list_any (late_name schema by_value table) u ≡ false) (λ u. none_any (late_name schema by_value table) u (all_of (λ n. late_name schema by_value table n ≡ false) (λ n. refl) u)) (spec_of schema table).uniques;
  foreigns = λ table. all_of (λ f. _) (λ f. inr (none_any (late_name schema by_value table) f.columns (all_of (λ n. late_name schema by_value table n ≡ false) (λ n. refl) f.columns))) (spec_of schema table).foreigns;
}

empty_at : (a b : Bool) (key : List Value) → option_and_then (λ (rows : Rows). row_under rows key) (cond a (Some []) (cond b (Some []) None)) ≡ None
empty_at true b key = refl
empty_at false true key = refl
empty_at false false key = refl

no_row_at : (place : Place) → row_at no_rows place ≡ None
no_row_at place = empty_at (is_at (table_cmp place.0) of_widgets) (is_at (table_cmp place.0) of_entries) place.1

pub met : IsComplete schema no_rows by_value (1 ∷ 0 ∷ []) its_placed value_rows
unfolding order_or_cycle order first_places next_place least_left all_placed place_new stated_tables with_edit guess
met = record {
  projected = record {
    fit = its_fit;
    new_cells = (refl, (refl, tt));
    new_loose = (((λ e. refl), ((λ e. refl), tt)), (((λ e. refl), ((λ e. refl), ((λ e. refl), tt))), tt));
    new_keyed = (refl, (refl, tt));
    new_foreigns = ((inl refl, tt), ((inl refl, tt), tt));
    changed_cells = tt;
    changed_once = refl;
    gone_cells = tt;
    gone_once = refl;
    gone_apart = refl;
  };
  read = record { base = tt; late = tt };
  sorted = record { outer = tt; inner = (tt, (tt, tt)) };
  legal = record { created = (omega arith, (omega arith, tt)); keys = (tt, (tt, tt)); cells = (tt, (tt, tt)); uniques = (tt, (tt, tt)); foreigns = refl };
  ordered = refl;
  keys = refl;
  states = refl;
  legal_after = record { created = (omega arith, (omega arith, tt)); keys = ((refl, tt), ((refl, tt), tt)); cells = ((refl, tt), ((refl, tt), tt)); uniques = ((refl, tt), ((refl, tt), tt)); foreigns = refl };
  clear = record { apart = λ table key other row written at after differs. absurd (none_some row (sym (no_row_at (table, key)) ∙ at)) };
  no_guess = refl;
}

-- ---- late cells of a new, a changed and a deleted row

abbrev pub mixed_placed : Sofar
mixed_placed = record { tables = (of_nodes, node_row 1 Null ∷ node_row 2 (int 1) ∷ node_row 3 Null ∷ []) ∷ []; keys = mixed_keys }

never : {A : Type 0} (b : Bool) → b ≡ true → b ≡ false → A
never b e f = absurd (true_false (sym e ∙ f))

unkeyed : (n : ℕ) → AllByRecursion (λ column. late_name schema mixed_changes (record { 0 = n }) column.name ≡ true → column.key ≡ false) (spec_of schema (record { 0 = n })).columns
unkeyed zero = ((λ e. never false e refl), ((λ e. refl), ((λ e. refl), tt)))
unkeyed (suc zero) = ((λ e. never false e refl), ((λ e. refl), tt))
unkeyed (suc (suc zero)) = ((λ e. never false e refl), ((λ e. refl), tt))
unkeyed (suc (suc (suc n))) = tt

mixed_nullable : (n : ℕ) → AllByRecursion (λ column. late_name schema mixed_changes (record { 0 = n }) column.name ≡ true → is_required column ≡ false) (spec_of schema (record { 0 = n })).columns
mixed_nullable zero = ((λ e. never false e refl), ((λ e. never false e refl), ((λ e. refl), tt)))
mixed_nullable (suc zero) = ((λ e. never false e refl), ((λ e. refl), tt))
mixed_nullable (suc (suc zero)) = ((λ e. never false e refl), ((λ e. refl), tt))
mixed_nullable (suc (suc (suc n))) = tt

no_uniques : (n : ℕ) → (spec_of schema (record { 0 = n })).uniques ≡ []
no_uniques zero = refl
no_uniques (suc zero) = refl
no_uniques (suc (suc zero)) = refl
no_uniques (suc (suc (suc n))) = refl

mixed_foreigns : (n : ℕ) → AllByRecursion (λ foreign. (list_all (late_name schema mixed_changes (record { 0 = n })) foreign.columns ≡ true) ⊎ (list_any (late_name schema mixed_changes (record { 0 = n })) foreign.columns ≡ false)) (spec_of schema (record { 0 = n })).foreigns
mixed_foreigns zero = (inr refl, tt)
mixed_foreigns (suc zero) = (inr refl, tt)
mixed_foreigns (suc (suc zero)) = (inl refl, tt)
mixed_foreigns (suc (suc (suc n))) = tt

mixed_fit : IsFit schema mixed_changes
mixed_fit = record {
  no_key = λ table. unkeyed table.0;
  nullable = λ table. mixed_nullable table.0;
  uniques = λ table. subst (AllByRecursion (λ unique. list_any (late_name schema mixed_changes table) unique ≡ false)) (sym (no_uniques table.0)) tt;
  foreigns = λ table. mixed_foreigns table.0;
}

pub mixed_met : IsComplete schema mixed_old mixed_changes (0 ∷ []) mixed_placed mixed_rows
unfolding order_or_cycle order first_places next_place least_left all_placed place_new stated_tables with_edit guess
mixed_met = record {
  projected = record {
    fit = mixed_fit;
    new_cells = (refl, tt);
    new_loose = (((λ e. refl), ((λ e. absurd (true_false e)), tt)), tt);
    new_keyed = (refl, tt);
    new_foreigns = ((inr (0, omega arith, refl, refl), tt), tt);
    changed_cells = (refl, tt);
    changed_once = refl;
    gone_cells = (refl, tt);
    gone_once = refl;
    gone_apart = refl;
  };
  read = record {
    base = ((λ stands at. (ap (λ row. cells_of nodes row (codes "next" ∷ [])) (same_some stands (int 2 ∷ int 1 ∷ []) (sym at)), tt)), tt);
    late = ((λ stands at. subst (λ row. blend (is_late schema mixed_changes of_nodes) nodes.columns row (int 2 ∷ int 1 ∷ []) ≡ row) (same_some (int 2 ∷ int 1 ∷ []) stands at) refl), tt);
  };
  sorted = record { outer = tt; inner = (tt, tt) };
  legal = record { created = (omega arith, tt); keys = ((refl, (refl, tt)), tt); cells = ((refl, (refl, tt)), tt); uniques = ((refl, (refl, tt)), tt); foreigns = refl };
  ordered = refl;
  keys = refl;
  states = refl;
  legal_after = record { created = (omega arith, tt); keys = ((refl, (refl, tt)), tt); cells = ((refl, (refl, tt)), tt); uniques = ((refl, (refl, tt)), tt); foreigns = refl };
  clear = record { apart = λ table key other row written at after differs. subst (AllByRecursion (λ unique. collide (spec_of schema table) unique row written ≡ false)) (sym (no_uniques table.0)) tt };
  no_guess = refl;
}

-- ---- its plan, statement by statement

pub mixed_declared : AreDeclared schema mixed_changes
mixed_declared = (omega arith, tt)

abbrev nodes_then : Rows → Sofar
nodes_then rows = record { tables = (of_nodes, rows) ∷ []; keys = mixed_keys }

-- what is left of the plan
abbrev after_put : ℕ → List Planned
after_put n = drop n mixed_plan

is_nodes : 2 < 3
is_nodes = omega arith

pub mixed_formed : AreWellFormed schema mixed_changes (before mixed_old) mixed_plan
unfolding send apply delete_row insert_rows update_row change_all remove_all write_all
mixed_formed = (
  (is_nodes, record { some = omega arith; few = omega arith; wide = refl; alike = refl; alone = λ one open_key. refl }),
  λ a e.
      subst (λ s. AreWellFormed schema mixed_changes s (after_put 1)) (same_okay mixed_placed a e) (
        (is_nodes, refl, omega arith, refl),
        λ b f.
            subst (λ s. AreWellFormed schema mixed_changes s (after_put 2)) (same_okay (nodes_then (node_row 1 Null ∷ node_row 2 (int 1) ∷ node_row 3 (int 3) ∷ [])) b f) (
              (is_nodes, refl, omega arith, refl),
              λ c g.
                  subst (λ s. AreWellFormed schema mixed_changes s (after_put 3)) (same_okay (nodes_then (node_row 1 (int 3) ∷ node_row 2 (int 1) ∷ node_row 3 (int 3) ∷ [])) c g) (
                    (is_nodes, refl, omega arith, refl),
                    λ d h.
                        subst (λ s. AreWellFormed schema mixed_changes s (after_put 4)) (same_okay (nodes_then (node_row 1 (int 3) ∷ node_row 2 Null ∷ node_row 3 (int 3) ∷ [])) d h)
                        ((is_nodes, refl), λ last k. tt),
                  ),
            ),
      ),
)
