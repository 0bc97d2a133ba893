-- Once every table of a schema is dropped, in whatever order, none is left.
use Rattle.std.proofs.Common.{◌≡◌, inl, inr, ℕ, zero, suc, ◌<◌, length, arith, Bool, true, false, cond, List, [], ◌∷◌, Some, Ok, Ordering, is_some, refl, sym, ap, ◌∙◌, subst}
use Rattle.std.specs.Prelude.{Contains, slice_index_or}
use Rattle.std.specs.declared.cmp.Ordering.TheVariants.{Less, Equal, Greater}
use Rattle.std.specs.Ordering.{is_eq}
use Rattle.std.specs.List.{AllByRecursion}
use Rattle.std.specs.List.Sorted.{IsStrictlySortedBy}
use Rattle.std.specs.Map.{keys_of, lookup, remove_entry}
use Rattle.std.specs.BTreeMap.{is_at}
use Rattle.base_core.specs.declared.ids.TableId.{TableId}
use Rattle.schema_core.specs.Catalog.{Catalog, IsTable}
use Rattle.schema_core.specs.Tables.{AreAscending, Rows, Tables, is_created, table_cmp}
use Rattle.keeper_core.specs.Programs.{Run, ◌>>=◌, each, give}
use Rattle.keeper_core.specs.Store.{Store, without_table}
use Rattle.keeper_core.specs.Calls.{drop_table}
use Rattle.table_laws.proofs.Entries.{all_map, all_remove}
use Rattle.table_laws.proofs.Members.{In}
use Rattle.table_laws.proofs.SameValues.{same_table, table_equal}
use Rattle.table_laws.proofs.EachCall.{ascending_without}
use Rattle.table_laws.specs.Legality.{AreSound, KeepsLegal, drop_each, drop_one}

-- ---- entries without one

module _ {K X : Type 0} (R : K → K → Ordering) (same : (a b : K) → R a b ≡ Equal → a ≡ b) where
  keys_apart : (k : K) (es : List (K × X)) → AllByRecursion (λ y. R k y ≡ Less) (keys_of es) → AllByRecursion (λ e. is_at (R k) e.0 ≡ false) es
  keys_apart k [] below = tt
  keys_apart k (e ∷ es) below = (ap is_eq below.0, keys_apart k es below.1)

  apart_step : (k : K) (e : K × X) (es : List (K × X)) (o : Ordering) → R k e.0 ≡ o → AllByRecursion (λ y. R e.0 y ≡ Less) (keys_of es) → AllByRecursion (λ d. is_at (R k) d.0 ≡ false) (remove_entry (is_at (R k)) es)
      → AllByRecursion (λ d. is_at (R k) d.0 ≡ false) (cond (is_eq o) es (e ∷ remove_entry (is_at (R k)) es))
  apart_step k e es Less is below rest = (ap is_eq is, rest)
  apart_step k e es Equal is below rest =
      keys_apart k es (all_map (λ y. R e.0 y ≡ Less) (λ y. R k y ≡ Less) (λ y l. ap (λ j. R j y) (same k e.0 is) ∙ l) (keys_of es) below)
  apart_step k e es Greater is below rest = (ap is_eq is, rest)

  -- no entry stands under the key that was taken out of a list in order
  removed_apart : (k : K) (es : List (K × X)) → IsStrictlySortedBy R (keys_of es) → AllByRecursion (λ e. is_at (R k) e.0 ≡ false) (remove_entry (is_at (R k)) es)
  unfolding IsStrictlySortedBy
  removed_apart k [] s = tt
  removed_apart k (e ∷ es) s = apart_step k e es (R k e.0) refl s.0 (removed_apart k es s.1)

missed_step : {K X : Type 0} (test : K → Bool) (e : K × X) (es : List (K × X)) (b : Bool) → test e.0 ≡ b → is_some (cond b (Some e.1) (lookup test es)) ≡ false → (is_some (lookup test es) ≡ false → AllByRecursion (λ d. test d.0 ≡ false) es)
    → AllByRecursion (λ d. test d.0 ≡ false) (e ∷ es)
missed_step test e es true is none more = cc
missed_step test e es false is none more = (is, more none)

-- where nothing is found under a key, no entry stands under it
missed : {K X : Type 0} (test : K → Bool) (es : List (K × X)) → is_some (lookup test es) ≡ false → AllByRecursion (λ e. test e.0 ≡ false) es
missed test [] none = tt
missed test (e ∷ es) none = missed_step test e es (test e.0) refl none (missed test es)

-- ---- one table

-- a table that is left and is not this one is of the other ones
other_left : (table : TableId) (order : List TableId) (c : TableId × Rows) → is_at (table_cmp table) c.0 ≡ false → In c.0 (table ∷ order) → In c.0 order
other_left table order c apart (inl same) = absurd (no (sym (ap is_eq (table_equal table)) ∙ ap (λ t. is_eq (table_cmp table t)) (sym same) ∙ apart))
  where
    no : true ≡ false → ⊥
    no e = cc
other_left table order c apart (inr there) = there

others_left : (table : TableId) (order : List TableId) (tables : Tables) → AllByRecursion (λ c. is_at (table_cmp table) c.0 ≡ false) tables → AllByRecursion (λ c. In c.0 (table ∷ order)) tables → AllByRecursion (λ c. In c.0 order) tables
others_left table order [] apart all = tt
others_left table order (c ∷ tables) apart all = (other_left table order c apart.0 all.0, others_left table order tables apart.1 all.1)

-- ---- all tables

-- what is left while the tables of a list are still to be dropped
record IsDropping (order : List TableId) (w : Store) (scopes : List Tables) : Type 0 where
  ascending : AreAscending w.tables
  left : AllByRecursion (λ c. In c.0 order) w.tables
  stay : w.scopes ≡ scopes

-- one table dropped
drop_step : (table : TableId) (order : List TableId) (scopes : List Tables) (w : Store) → IsDropping (table ∷ order) w scopes → IsDropping order (drop_table table w).after scopes
unfolding drop_table
drop_step table order scopes w p = by (is_created w.tables table) refl
  where
    by : (b : Bool) → is_created w.tables table ≡ b → IsDropping order (drop_table table w).after scopes
    by true is = rw is (record {
      ascending = ascending_without w.tables table p.ascending;
      left = others_left table order (without_table w.tables table) (removed_apart table_cmp same_table table w.tables p.ascending.numbers)
          (all_remove (is_at (table_cmp table)) (λ c. In c.0 (table ∷ order)) w.tables p.left);
      stay = p.stay;
    })
    by false is = rw is (record { ascending = p.ascending; left = others_left table order w.tables (missed (is_at (table_cmp table)) w.tables is) p.left; stay = p.stay })

answers : (table : TableId) (w : Store) → (b : Bool) × ((drop_table table w).answer ≡ Ok b)
unfolding drop_table
answers table w = by (is_created w.tables table) refl
  where
    by : (b : Bool) → is_created w.tables table ≡ b → (d : Bool) × ((drop_table table w).answer ≡ Ok d)
    by true is = (true, rw is refl)
    by false is = (false, rw is refl)

-- a program goes on from the table that was dropped
goes_on : (table : TableId) (next : Unit {0} → Store → Run Store (Unit {0})) (w : Store) (b : Bool) → (drop_table table w).answer ≡ Ok b → ((drop_one table tt >>= next) w).after ≡ (next tt (drop_table table w).after).after
unfolding drop_one ◌>>=◌ give
goes_on table next w b is = rw is refl

dropping : (order : List TableId) (scopes : List Tables) (w : Store) → IsDropping order w scopes → IsDropping [] (each drop_one tt order w).after scopes
unfolding each give
dropping [] scopes w p = p
dropping (table ∷ order) scopes w p =
    let answer = answers table w in
    subst (λ now. IsDropping [] now scopes) (sym (goes_on table (λ u. each drop_one u order) w answer.0 answer.1)) (dropping order scopes (drop_table table w).after (drop_step table order scopes w p))

none_left : (tables : Tables) → AllByRecursion (λ c. In c.0 []) tables → tables ≡ []
none_left [] all = refl
none_left (c ∷ tables) all = absurd all.0

pub no_tables_ascend : AreAscending []
unfolding IsStrictlySortedBy
no_tables_ascend = record { numbers = tt; keys = tt }

pub no_tables_sound : (schema : Catalog) → AreSound schema []
no_tables_sound schema = record { legal = record { created = tt; keys = tt; cells = tt; uniques = tt; foreigns = refl }; ascending = no_tables_ascend }

listed : (order : List TableId) (k : ℕ) (table : TableId) → k < length order → slice_index_or order k table ≡ table → In table order
listed [] k table below is = absurd (omega arith)
listed (other ∷ order) zero table below is = inl (sym is)
listed (other ∷ order) (suc k) table below is = inr (listed order k table (omega arith) is)

-- where every declared table is in the list, dropping its tables one after another leaves a legal store legal
pub keeps_dropping : (schema : Catalog) (order : List TableId) → ((table : TableId) → IsTable schema table → Contains order table) → KeepsLegal schema (drop_each order)
unfolding drop_each
keeps_dropping schema order whole = record {
  kept = λ w legal.
      let end = dropping order w.scopes w (record {
        ascending = legal.tables.ascending;
        left = all_map (λ c. IsTable schema c.0) (λ c. In c.0 order) (λ c is. let at = whole c.0 is in listed order at.0 c.0 at.1 at.2) w.tables legal.tables.legal.created;
        stay = refl;
      }) in
      record {
        tables = subst (AreSound schema) (sym (none_left (each drop_one tt order w).after.tables end.left)) (no_tables_sound schema);
        scopes = subst (AllByRecursion (AreSound schema)) (sym end.stay) legal.scopes;
      };
}
