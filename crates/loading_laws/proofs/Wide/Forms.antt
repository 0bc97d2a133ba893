-- A query's main select is its own select with the left-joined sources of its options, and their columns.
use Rattle.std.proofs.Common.{◌≡◌, ℕ, suc, ◌+◌, ◌-◌, arith, Bool, List, [], ◌∷◌, ◌++◌, length, map, fold, Option, refl, sym, ap, subst, ◌∙◌, append_assoc, append-nil, length-append}
use Rattle.std.specs.Option.{option_map}
use Rattle.std.proofs.lemmas.List.{length-map, map-append}
use Rattle.base_core.specs.declared.ids.ClassId.{ClassId}
use Rattle.base_core.specs.declared.ids.RelNo.{RelNo}
use Rattle.schema_core.specs.Catalog.{Catalog}
use Rattle.expr_types.specs.declared.expr.Expr.{Expr}
use Rattle.expr_types.specs.declared.select.Joined.{Joined}
use Rattle.expr_types.specs.declared.select.ObjectQuery.{ObjectQuery}
use Rattle.expr_types.specs.declared.select.Select.{Select}
use Rattle.sql_semantics.specs.Plain.{sources_of}
use Rattle.class_types.specs.declared.mapped.Relation.{Relation}
use Rattle.class_mapping.specs.Mapped.{Mapped}
use Rattle.object_arena.specs.Fit.{relation_of}
use Rattle.load_columns.specs.declared.placing.SourceColumn.{SourceColumn}
use Rattle.load_selects.specs.declared.sources.Further.{Further}
use Rattle.load_selects.specs.Selects.{item_of}
use Rattle.load_selects.specs.Sources.{target_placement}
use Rattle.main_selects.specs.MainSelect.{left_joined, main_select, option_columns, option_sources, with_items, with_joined, with_left_join, with_shifted}
use Rattle.main_selects.specs.Shifted.{shifted}
use Rattle.loading_laws.specs.Wide.Answers.{options_columns, options_sources}
use Rattle.loading_laws.proofs.Wide.Lefts.{AreLeft, IsLeft}

abbrev Items : Type 0
Items = List (Expr × Option (List ℕ))

-- the select with joins and columns
abbrev pub with_more : Select → List Joined → List SourceColumn → Select
with_more s joins columns = record s { items = s.items ++ map item_of columns; joins = s.joins ++ joins }

pub record IsWidened (s : Select) (more : List Further) (columns : List SourceColumn) (wide : Select) : Type 0 where
  pub joins : List Joined
  pub left : AreLeft joins more
  pub is : wide ≡ with_more s joins columns

left_long : (joins : List Joined) (more : List Further) → AreLeft joins more → length joins ≡ length more
left_long [] [] h = refl
left_long [] (further ∷ more) h = absurd h
left_long (join ∷ joins) [] h = absurd h
left_long (join ∷ joins) (further ∷ more) h = let rest = left_long joins more h.1 in omega (arith, rest)

left_more : (joins : List Joined) (more : List Further) (join : Joined) (further : Further) → AreLeft joins more → IsLeft join further → AreLeft (joins ++ join ∷ []) (more ++ further ∷ [])
left_more [] [] join further h one = (one, tt)
left_more [] (x ∷ more) join further h one = absurd h
left_more (j ∷ joins) [] join further h one = absurd h
left_more (j ∷ joins) (x ∷ more) join further h one = (h.0, left_more joins more join further h.1 one)

one_join : (schema : Catalog) (s wide : Select) (more : List Further) (columns : List SourceColumn) (further : Further) → IsWidened s more columns wide → IsWidened s (more ++ further ∷ []) columns (with_left_join schema wide further)
one_join schema s wide more columns further h =
    let join : Joined = left_joined schema wide further in
    record {
      joins = h.joins ++ join ∷ [];
      left = left_more h.joins more join further h.left (record { left = refl; table = refl; on = refl });
      is =
          ap (λ (x : Select). record x { joins = x.joins ++ join ∷ [] }) h.is
          ∙ ap (λ (joins : List Joined). record s { items = s.items ++ map item_of columns; joins = joins }) (append_assoc s.joins h.joins (join ∷ []));
    }

all_joins : (schema : Catalog) (s wide : Select) (more : List Further) (columns : List SourceColumn) (others : List Further) → IsWidened s more columns wide → IsWidened s (more ++ others) columns (fold (with_left_join schema) wide others)
all_joins schema s wide more columns [] h = subst (λ (all : List Further). IsWidened s all columns wide) (sym (append-nil more)) h
all_joins schema s wide more columns (further ∷ others) h =
    subst (λ (all : List Further). IsWidened s all columns (fold (with_left_join schema) wide (further ∷ others))) (append_assoc more (further ∷ []) others)
    (all_joins schema s (with_left_join schema wide further) (more ++ further ∷ []) columns others (one_join schema s wide more columns further h))

more_columns : (s wide : Select) (more : List Further) (columns others : List SourceColumn) → IsWidened s more columns wide → IsWidened s more (columns ++ others) (with_items wide others)
more_columns s wide more columns others h = record {
  joins = h.joins;
  left = h.left;
  is =
      ap (λ (x : Select). record x { items = x.items ++ map item_of others }) h.is
      ∙ ap (λ (items : Items). record s { items = items; joins = s.joins ++ h.joins })
      (append_assoc s.items (map item_of columns) (map item_of others) ∙ ap (λ (items : Items). s.items ++ items) (sym (map-append item_of columns others)));
}

pub joins_long : (schema : Catalog) (wide : Select) (others : List Further) → suc (length (fold (with_left_join schema) wide others).joins) ≡ suc (length wide.joins) + length others
joins_long schema wide [] = omega arith
joins_long schema wide (further ∷ others) =
    let rest = joins_long schema (with_left_join schema wide further) others in
    let one = length-append wide.joins (left_joined schema wide further ∷ []) in
    omega (arith, rest, one)

module _ (mapped : Mapped) (class : ClassId) (s : Select) where
  all_options : (places : List RelNo) (wide : Select) (more : List Further) (columns : List SourceColumn) → IsWidened s more columns wide
      → IsWidened s (more ++ options_sources mapped class (suc (length wide.joins)) places) (columns ++ options_columns mapped class (suc (length wide.joins)) places) (fold (with_joined mapped class) wide places)
  all_options [] wide more columns h =
      subst (λ (all : List Further). IsWidened s all (columns ++ []) wide) (sym (append-nil more)) (subst (λ (all : List SourceColumn). IsWidened s more all wide) (sym (append-nil columns)) h)
  all_options (place ∷ places) wide more columns h =
      let relation : Relation = relation_of mapped class place in
      let n : ℕ = suc (length wide.joins) in
      let others : List Further = option_sources mapped class relation n in
      let read : List SourceColumn = option_columns mapped relation.target (target_placement mapped relation n) in
      let now : Select = with_joined mapped class wide place in
      let long : suc (length now.joins) ≡ n + length others = joins_long mapped.schema wide others in
      let one : IsWidened s (more ++ others) (columns ++ read) now =
      more_columns s (fold (with_left_join mapped.schema) wide others) (more ++ others) columns read (all_joins mapped.schema s wide more columns others h) in
      subst (λ (all : List Further). IsWidened s all (columns ++ options_columns mapped class n (place ∷ places)) (fold (with_joined mapped class) wide (place ∷ places)))
      (append_assoc more others (options_sources mapped class (n + length others) places))
      (subst (λ (all : List SourceColumn). IsWidened s ((more ++ others) ++ options_sources mapped class (n + length others) places) all (fold (with_joined mapped class) now places))
      (append_assoc columns read (options_columns mapped class (n + length others) places))
      (subst (λ (k : ℕ). IsWidened s ((more ++ others) ++ options_sources mapped class k places) ((columns ++ read) ++ options_columns mapped class k places) (fold (with_joined mapped class) now places)) long
      (all_options places now (more ++ others) (columns ++ read) one)))

pub itself : (s : Select) → IsWidened s [] [] s
itself s = record {
  joins = [];
  left = tt;
  is = ap (λ (items : Items). record s { items = items }) (sym (append-nil s.items)) ∙ ap (λ (joins : List Joined). record s { items = s.items ++ []; joins = joins }) (sym (append-nil s.joins));
}

-- ---- the main select

-- with its condition and order under the sources of a wider one
abbrev pub under : Select → List Joined → List SourceColumn → ℕ → ℕ → Select
under s joins columns own more = record (with_more s joins columns) { filter = option_map (shifted own more) s.filter; order = map (λ (key : Expr × Bool). (shifted own more key.0, key.1)) s.order }

pub record IsMain (mapped : Mapped) (query : ObjectQuery) (more : List Further) (columns : List SourceColumn) : Type 0 where
  pub joins : List Joined
  pub left : AreLeft joins more
  pub is : main_select mapped query ≡ under query.select joins columns (length (sources_of query.select)) (length more)

pub count_is : (s : Select) → suc (length s.joins) ≡ length (sources_of s)
count_is s = let long = length-map s.joins (λ (join : Joined). join.origin) in omega (arith, long)

shifted_form : (s wide : Select) (more : List Further) (columns : List SourceColumn) (h : IsWidened s more columns wide) → with_shifted s wide ≡ under s h.joins columns (length (sources_of s)) (length more)
shifted_form s wide more columns h =
    let long : length wide.joins - length s.joins ≡ length more =
    (let all = ap (λ (x : Select). length x.joins) h.is in let parts = length-append s.joins h.joins in let left = left_long h.joins more h.left in omega (arith, all, parts, left)) in
    ap (with_shifted s) h.is
    ∙ ap (λ (k : ℕ). under s h.joins columns (suc (length s.joins)) k) (ap (λ (x : Select). length x.joins - length s.joins) (sym h.is) ∙ long)
    ∙ ap (λ (k : ℕ). under s h.joins columns k (length more)) (count_is s)

pub main_is : (mapped : Mapped) (query : ObjectQuery)
    → IsMain mapped query (options_sources mapped query.class (length (sources_of query.select)) query.joined) (options_columns mapped query.class (length (sources_of query.select)) query.joined)
unfolding main_select
main_is mapped query =
    subst (λ (k : ℕ). IsMain mapped query (options_sources mapped query.class k query.joined) (options_columns mapped query.class k query.joined)) (count_is query.select)
    (of (all_options mapped query.class query.select query.joined query.select [] [] (itself query.select)))
  where
    of : {more : List Further} {columns : List SourceColumn} → IsWidened query.select more columns (fold (with_joined mapped query.class) query.select query.joined) → IsMain mapped query more columns
    of {more = more} {columns = columns} h = record { joins = h.joins; left = h.left; is = shifted_form query.select (fold (with_joined mapped query.class) query.select query.joined) more columns h }
