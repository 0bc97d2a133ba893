-- The tables of a class where one of them leads: each other one is tied to one that stands before it, and no two have one name.
use Rattle.std.proofs.Common.{◌≡◌, ◌⊎◌, inl, inr, ℕ, zero, suc, ◌+◌, ◌-◌, ◌<◌, ◌≤◌, Bool, true, false, not, ◌&&◌, ◌==◌, nat_lt, List, [], ◌∷◌, ◌++◌, map, length, get_or, Some, refl, sym, ap, subst, ◌∙◌, if◌then◌else◌, arith, append_assoc, length-append, zero-add}
use Rattle.std.specs.Prelude.{slice_get}
use Rattle.std.specs.List.{AllByRecursion, enumerate_from, flat_map, list_all}
use Rattle.std.proofs.lemmas.Bool.{eq-eqb, eqb-false, eqb-true, le-ltb, lt-ltb, ltb-true, ne_eqb}
use Rattle.std.proofs.lemmas.List.{length-map, map-append}
use Rattle.std.proofs.lemmas.Option.{same_Some, slice_get-get_or, slice_get_within}
use Rattle.base_core.proofs.Lists.{get_after, get_before}
use Rattle.base_core.specs.declared.ids.ClassId.{ClassId}
use Rattle.base_core.specs.declared.ids.TableId.{TableId}
use Rattle.base_core.specs.declared.value.Kind.{Kind}
use Rattle.schema_core.specs.Catalog.{Catalog, has_name, key_columns, same_name}
use Rattle.expr_types.specs.declared.expr.Expr.{Expr}
use Rattle.expr_types.specs.declared.expr.Origin.{Origin}
use Rattle.expr_types.specs.declared.select.Joined.{Joined}
use Rattle.sql_semantics.specs.Plain.{are_distinct, is_declared, name_of}
use Rattle.class_mapping.specs.Mapped.{Mapped, no_table_id, root_spec, root_table, table_or_none, tables_of}
use Rattle.class_mapping.proofs.Having.{Has, from_flat, from_map, from_numbered, has_at, has_map, none_of}
use Rattle.class_mapping.proofs.Lists.{and_left, and_right, or_none}
use Rattle.class_mapping.proofs.OnceLemmas.{none_by}
use Rattle.mapping_laws.specs.Hierarchies.{HasHierarchies, HasTables, kinds_of, name_in}
use Rattle.mapping_laws.proofs.Tables.{not_zero, tables_declared, turned}
use Rattle.mapping_laws.proofs.Ties.{table_faultless}
use Rattle.load_columns.specs.declared.placing.Placement.{Placement}
use Rattle.load_columns.specs.declared.placing.SourceColumn.{SourceColumn}
use Rattle.load_columns.specs.Placing.{columns_at, key_at_rank, key_numbers, place_at_rank}
use Rattle.load_columns.specs.Conditions.{equal_columns}
use Rattle.load_selects.specs.declared.sources.Further.{Further}
use Rattle.load_selects.specs.Sources.{keyed_source, rank_tied, ranked_source}
use Rattle.load_selects.specs.Selects.{inner_joined, origin_of}
use Rattle.collection_selects.proofs.Keys.{IsAt, key_some, key_typed}
use Rattle.collection_selects.proofs.MemberLemmas.{kinds_along}
use Rattle.collection_selects.proofs.Placed.{StandsAt}
use Rattle.collection_selects.proofs.Plain.{AreTied, IsPart}
use Rattle.collection_selects.proofs.Typed.{AreTyped, equal_some, equal_stand, typed_long}

-- ---- further sources

abbrev pub sources_behind : List Further → List Origin
sources_behind more = map (λ (further : Further). origin_of further.table) more

pub joined_behind : (more : List Further) → map (λ (join : Joined). join.origin) (map inner_joined more) ≡ sources_behind more
joined_behind [] = refl
joined_behind (further ∷ more) = ap (λ (origins : List Origin). origin_of further.table ∷ origins) (joined_behind more)

abbrev pub names_behind : Mapped → List Further → List (List ℕ)
names_behind mapped more = map (λ (further : Further). name_in mapped further.table) more

pub names_are : (mapped : Mapped) (more : List Further) → map (name_of mapped.schema) (sources_behind more) ≡ names_behind mapped more
names_are mapped [] = refl
names_are mapped (further ∷ more) = ap (λ (names : List (List ℕ)). name_in mapped further.table ∷ names) (names_are mapped more)

pub declared_behind : (schema : Catalog) (more : List Further) → ((further : Further) → Has more further → further.table.0 < length schema.tables) → list_all (is_declared schema) (sources_behind more) ≡ true
declared_behind schema [] h = refl
declared_behind schema (further ∷ more) h =
    ap (λ (b : Bool). b && list_all (is_declared schema) (sources_behind more)) (lt-ltb further.table.0 (length schema.tables) (h further (inl refl)))
    ∙ declared_behind schema more (λ other there. h other (inr there))

-- a table that stands among the first sources
at_first : (under more : List Origin) (place : ℕ) (table : TableId) → IsAt (under ++ more) place table → place < length under → IsAt under place table
at_first under more place table at less =
    let table_of : Origin → TableId = λ origin. origin.table in
    let within : place < length (map table_of under) = subst (λ (n : ℕ). place < n) (sym (length-map under table_of)) less in
    sym (get_before (map table_of under) (map table_of more) place within) ∙ ap (λ (tables : List TableId). slice_get tables place) (sym (map-append table_of under more)) ∙ at

-- where the test holds, no source is left; else the one
one_left : (b : Bool) (source one : Further) → Has (if b then [] else source ∷ []) one → source ≡ one
one_left true source one h = absurd h
one_left false source one (inl e) = e
one_left false source one (inr h) = absurd h

pub was_false : (b : Bool) → not b ≡ true → b ≡ false
was_false true h = absurd cc
was_false false h = refl

-- ---- the tables but the one that leads

module _ (mapped : Mapped) (class : ClassId) (placement : Placement) where
  abbrev pub behind : ℕ → List TableId → List Further
  behind rank tables = flat_map (ranked_source mapped class placement) (enumerate_from rank tables)

  kept : (rank : ℕ) (table : TableId) (tables : List TableId) → (rank == placement.leading) ≡ false
      → behind rank (table ∷ tables) ≡ keyed_source mapped class placement (rank, table) ∷ behind (rank + 1) tables
  unfolding ranked_source
  kept rank table tables e = ap (λ (b : Bool). (if b then [] else keyed_source mapped class placement (rank, table) ∷ []) ++ behind (rank + 1) tables) e

  skipped : (rank : ℕ) (table : TableId) (tables : List TableId) → (rank == placement.leading) ≡ true → behind rank (table ∷ tables) ≡ behind (rank + 1) tables
  unfolding ranked_source
  skipped rank table tables e = ap (λ (b : Bool). (if b then [] else keyed_source mapped class placement (rank, table) ∷ []) ++ behind (rank + 1) tables) e

  -- each is one of them
  pub from_behind : (rank : ℕ) (tables : List TableId) (one : Further) → Has (behind rank tables) one → Has tables one.table
  unfolding ranked_source keyed_source
  from_behind rank tables one h =
      let found = from_flat (ranked_source mapped class placement) (enumerate_from rank tables) one h in
      let numbered = from_numbered rank tables found.0 found.1 in
      let same : found.0.1 ≡ one.table = ap (λ (further : Further). further.table) (one_left (found.0.0 == placement.leading) (keyed_source mapped class placement found.0) one found.2) in
      subst (Has tables) same (has_at tables numbered.0 found.0.1 numbered.2)

  -- ---- names

  -- a name that none of them has
  pub none_behind : (rank : ℕ) (tables : List TableId) (name : List ℕ) → has_name (map (name_in mapped) tables) name ≡ false → has_name (names_behind mapped (behind rank tables)) name ≡ false
  none_behind rank tables name h =
      none_by (λ other. same_name other name) (names_behind mapped (behind rank tables)) (λ other there.
      let found = from_map (λ (further : Further). name_in mapped further.table) (behind rank tables) other there in
      none_of (λ other. same_name other name) (map (name_in mapped) tables) other h
      (subst (Has (map (name_in mapped) tables)) found.2 (has_map (name_in mapped) tables found.0.table (from_behind rank tables found.0 found.1))))

  distinct_by : (rank : ℕ) (table : TableId) (tables : List TableId) (b : Bool) → (rank == placement.leading) ≡ b → has_name (map (name_in mapped) tables) (name_in mapped table) ≡ false
      → are_distinct (names_behind mapped (behind (rank + 1) tables)) ≡ true → are_distinct (names_behind mapped (behind rank (table ∷ tables))) ≡ true
  unfolding keyed_source
  distinct_by rank table tables true e alone rest = ap (λ (more : List Further). are_distinct (names_behind mapped more)) (skipped rank table tables e) ∙ rest
  distinct_by rank table tables false e alone rest =
      ap (λ (more : List Further). are_distinct (names_behind mapped more)) (kept rank table tables e)
      ∙ ap (λ (b : Bool). not b && are_distinct (names_behind mapped (behind (rank + 1) tables))) (none_behind (rank + 1) tables (name_in mapped table) alone)
      ∙ rest

  -- no two of them have one name
  pub distinct_behind : (rank : ℕ) (tables : List TableId) → are_distinct (map (name_in mapped) tables) ≡ true → are_distinct (names_behind mapped (behind rank tables)) ≡ true
  distinct_behind rank [] h = refl
  distinct_behind rank (table ∷ tables) h =
      let names : List (List ℕ) = map (name_in mapped) tables in
      let alone : has_name names (name_in mapped table) ≡ false = was_false (has_name names (name_in mapped table)) (and_left (not (has_name names (name_in mapped table))) (are_distinct names) h) in
      distinct_by rank table tables (rank == placement.leading) refl alone (distinct_behind (rank + 1) tables (and_right (not (has_name names (name_in mapped table))) (are_distinct names) h))

  -- none has the name of the one that leads
  pub lead_alone : (tables : List TableId) (rank k : ℕ) (lead : TableId) → rank + k ≡ placement.leading → slice_get tables k ≡ Some lead → are_distinct (map (name_in mapped) tables) ≡ true
      → has_name (names_behind mapped (behind rank tables)) (name_in mapped lead) ≡ false
  unfolding keyed_source
  lead_alone [] rank k lead at here h = absurd cc
  lead_alone (table ∷ tables) rank zero lead at here h =
      let names : List (List ℕ) = map (name_in mapped) tables in
      let leads : (rank == placement.leading) ≡ true = eq-eqb rank placement.leading (omega (arith, at)) in
      let alone : has_name names (name_in mapped table) ≡ false = was_false (has_name names (name_in mapped table)) (and_left (not (has_name names (name_in mapped table))) (are_distinct names) h) in
      ap (λ (more : List Further). has_name (names_behind mapped more) (name_in mapped lead)) (skipped rank table tables leads)
      ∙ none_behind (rank + 1) tables (name_in mapped lead) (ap (λ (one : TableId). has_name names (name_in mapped one)) (sym (same_Some table lead here)) ∙ alone)
  lead_alone (table ∷ tables) rank (suc k) lead at here h =
      let names : List (List ℕ) = map (name_in mapped) tables in
      let apart : (rank == placement.leading) ≡ false = ne_eqb rank placement.leading (λ same. omega (arith, at, same)) in
      let alone : has_name names (name_in mapped table) ≡ false = was_false (has_name names (name_in mapped table)) (and_left (not (has_name names (name_in mapped table))) (are_distinct names) h) in
      let later : same_name (name_in mapped lead) (name_in mapped table) ≡ false =
      none_of (λ other. same_name other (name_in mapped table)) names (name_in mapped lead) alone (has_map (name_in mapped) tables lead (has_at tables k lead here)) in
      ap (λ (more : List Further). has_name (names_behind mapped more) (name_in mapped lead)) (kept rank table tables apart)
      ∙ or_none (same_name (name_in mapped table) (name_in mapped lead)) (has_name (names_behind mapped (behind (rank + 1) tables)) (name_in mapped lead)) (turned (name_in mapped lead) (name_in mapped table) later)
      (lead_alone tables (rank + 1) k lead (omega (arith, at)) here (and_right (not (has_name names (name_in mapped table))) (are_distinct names) h))

  -- ---- places

  -- so many sources stand before the table of a rank: the one that leads is among them
  abbrev pub AreBefore : ℕ → ℕ → Type 0
  AreBefore rank count = ((count ≡ placement.first + 1 + rank) × (rank ≤ placement.leading)) ⊎ ((count ≡ placement.first + rank) × (placement.leading < rank))

  before_skipped : (rank count : ℕ) → rank ≡ placement.leading → AreBefore rank count → AreBefore (rank + 1) count
  before_skipped rank count same (inl c) = inr (omega (arith, c.0), omega (arith, same))
  before_skipped rank count same (inr c) = absurd (omega (arith, same, c.1))

  before_kept : (rank count : ℕ) → ((rank ≡ placement.leading) → ⊥) → AreBefore rank count → AreBefore (rank + 1) (count + 1)
  before_kept rank count apart (inl c) = inl (omega (arith, c.0), omega (arith, c.1, apart))
  before_kept rank count apart (inr c) = inr (omega (arith, c.0), omega (arith, c.1))

  place_by : (k : ℕ) (b low : Bool) → (k == placement.leading) ≡ b → nat_lt k placement.leading ≡ low
      → place_at_rank placement k ≡ (if b then placement.first else if low then (placement.first + 1 + k) else (placement.first + k))
  place_by k b low e g =
      ap (λ (x : Bool). if x then placement.first else if nat_lt k placement.leading then (placement.first + 1 + k) else (placement.first + k)) e
      ∙ ap (λ (x : Bool). if b then placement.first else if x then (placement.first + 1 + k) else (placement.first + k)) g

  within_by : (k rank count : ℕ) (b low : Bool) → (k == placement.leading) ≡ b → nat_lt k placement.leading ≡ low → k ≤ rank → AreBefore rank count → place_at_rank placement k < count + 1
  within_by k rank count true low e g most (inl c) = subst (λ (p : ℕ). p < count + 1) (sym (place_by k true low e g)) (omega (arith, c.0))
  within_by k rank count true low e g most (inr c) = subst (λ (p : ℕ). p < count + 1) (sym (place_by k true low e g)) (omega (arith, c.0))
  within_by k rank count false true e g most (inl c) = subst (λ (p : ℕ). p < count + 1) (sym (place_by k false true e g)) (omega (arith, c.0, most))
  within_by k rank count false true e g most (inr c) =
      let less = ltb-true k placement.leading g in
      subst (λ (p : ℕ). p < count + 1) (sym (place_by k false true e g)) (omega (arith, c.0, c.1, less))
  within_by k rank count false false e g most (inl c) = subst (λ (p : ℕ). p < count + 1) (sym (place_by k false false e g)) (omega (arith, c.0, most))
  within_by k rank count false false e g most (inr c) = subst (λ (p : ℕ). p < count + 1) (sym (place_by k false false e g)) (omega (arith, c.0, most))

  -- a table of no later rank stands before the next source
  within : (k rank count : ℕ) → k ≤ rank → AreBefore rank count → place_at_rank placement k < count + 1
  within k rank count most counted = within_by k rank count (k == placement.leading) (nat_lt k placement.leading) refl refl most counted

  lead_within : (rank count : ℕ) → AreBefore rank count → place_at_rank placement placement.leading < count + 1
  lead_within rank count (inl c) =
      subst (λ (p : ℕ). p < count + 1) (sym (place_by placement.leading true (nat_lt placement.leading placement.leading) (eq-eqb placement.leading placement.leading refl) refl)) (omega (arith, c.0))
  lead_within rank count (inr c) =
      subst (λ (p : ℕ). p < count + 1) (sym (place_by placement.leading true (nat_lt placement.leading placement.leading) (eq-eqb placement.leading placement.leading refl) refl)) (omega (arith, c.0))

  -- the next source is the table of the rank, where it does not lead
  next_place : (rank count : ℕ) → ((rank ≡ placement.leading) → ⊥) → AreBefore rank count → place_at_rank placement rank ≡ count
  next_place rank count apart (inl c) =
      let less : rank < placement.leading = omega (arith, c.1, apart) in
      place_by rank false true (ne_eqb rank placement.leading apart) (lt-ltb rank placement.leading less) ∙ sym c.0
  next_place rank count apart (inr c) =
      place_by rank false false (ne_eqb rank placement.leading apart) (le-ltb rank placement.leading (omega (arith, c.1))) ∙ sym c.0

  abbrev under : List Origin → ℕ → List TableId → List Origin
  under before rank tables = before ++ sources_behind (behind rank tables)

  -- the first of them, and the later ones
  one_stands : (table : TableId) (tables : List TableId) (rank : ℕ) (before : List Origin) (b : Bool) → (rank == placement.leading) ≡ b → AreBefore rank (length before)
      → (k : ℕ) (found : TableId) → slice_get (table ∷ tables) k ≡ Some found → ((rank + k ≡ placement.leading) → ⊥)
      → ((next : List Origin) → AreBefore (rank + 1) (length next) → (j : ℕ) → slice_get tables j ≡ Some found → ((rank + 1 + j ≡ placement.leading) → ⊥)
      → IsAt (under next (rank + 1) tables) (place_at_rank placement (rank + 1 + j)) found)
      → IsAt (under before rank (table ∷ tables)) (place_at_rank placement (rank + k)) found
  unfolding keyed_source
  one_stands table tables rank before true e counted zero found here apart later = let same = eqb-true rank placement.leading e in absurd (apart (omega (arith, same)))
  one_stands table tables rank before true e counted (suc k) found here apart later =
      let same : rank + 1 + k ≡ rank + suc k = omega arith in
      subst (λ (place : ℕ). IsAt (under before rank (table ∷ tables)) (place_at_rank placement place) found) same
      (subst (λ (more : List Further). IsAt (before ++ sources_behind more) (place_at_rank placement (rank + 1 + k)) found) (sym (skipped rank table tables e))
      (later before (before_skipped rank (length before) (eqb-true rank placement.leading e) counted) k here (λ leads. apart (omega (arith, leads)))))
  one_stands table tables rank before false e counted zero found here apart later =
      let table_of : Origin → TableId = λ origin. origin.table in
      let rest : List Origin = sources_behind (behind (rank + 1) tables) in
      let first : rank + 0 ≡ rank = omega arith in
      let more : length (map table_of before) ≡ length before = length-map before table_of in
      let next : place_at_rank placement rank ≡ length before = next_place rank (length before) (eqb-false rank placement.leading e) counted in
      let place : place_at_rank placement (rank + 0) ≡ length (map table_of before) + 0 = ap (λ (n : ℕ). place_at_rank placement n) first ∙ omega (arith, next, more) in
      ap (λ (further : List Further). slice_get (map table_of (before ++ sources_behind further)) (place_at_rank placement (rank + 0))) (kept rank table tables e)
      ∙ ap (λ (xs : List TableId). slice_get xs (place_at_rank placement (rank + 0))) (map-append table_of before (origin_of table ∷ rest))
      ∙ ap (slice_get (map table_of before ++ table ∷ map table_of rest)) place
      ∙ get_after (map table_of before) (table ∷ map table_of rest) 0 ∙ here
  one_stands table tables rank before false e counted (suc k) found here apart later =
      let next : List Origin = before ++ origin_of table ∷ [] in
      let long : length next ≡ length before + 1 = length-append before (origin_of table ∷ []) in
      let same : rank + 1 + k ≡ rank + suc k = omega arith in
      let all : next ++ sources_behind (behind (rank + 1) tables) ≡ before ++ sources_behind (behind rank (table ∷ tables)) =
      append_assoc before (origin_of table ∷ []) (sources_behind (behind (rank + 1) tables)) ∙ sym (ap (λ (further : List Further). before ++ sources_behind further) (kept rank table tables e)) in
      subst (λ (place : ℕ). IsAt (under before rank (table ∷ tables)) (place_at_rank placement place) found) same
      (subst (λ (sources : List Origin). IsAt sources (place_at_rank placement (rank + 1 + k)) found) all
      (later next (subst (AreBefore (rank + 1)) (sym long) (before_kept rank (length before) (eqb-false rank placement.leading e) counted)) k here (λ leads. apart (omega (arith, leads)))))

  others_stand : (tables : List TableId) (rank : ℕ) (before : List Origin) → AreBefore rank (length before) → (k : ℕ) (found : TableId) → slice_get tables k ≡ Some found → ((rank + k ≡ placement.leading) → ⊥)
      → IsAt (under before rank tables) (place_at_rank placement (rank + k)) found
  others_stand [] rank before counted k found here apart = absurd cc
  others_stand (table ∷ tables) rank before counted k found here apart =
      one_stands table tables rank before (rank == placement.leading) refl counted k found here apart (λ next more j there other. others_stand tables (rank + 1) next more j found there other)

  stands_by : (second lead : Origin) → placement.first ≡ 1 → slice_get (tables_of mapped class) placement.leading ≡ Some lead.table → (rank : ℕ) (table : TableId) → slice_get (tables_of mapped class) rank ≡ Some table
      → (b : Bool) → (rank == placement.leading) ≡ b → IsAt (under (second ∷ lead ∷ []) 0 (tables_of mapped class)) (place_at_rank placement rank) table
  stands_by second lead first leads rank table here true e =
      let place : place_at_rank placement rank ≡ 1 = place_by rank true (nat_lt rank placement.leading) e refl ∙ first in
      ap (slice_get (map (λ (origin : Origin). origin.table) (under (second ∷ lead ∷ []) 0 (tables_of mapped class)))) place
      ∙ sym leads ∙ ap (slice_get (tables_of mapped class)) (sym (eqb-true rank placement.leading e)) ∙ here
  stands_by second lead first leads rank table here false e =
      let apart = eqb-false rank placement.leading e in
      subst (λ (n : ℕ). IsAt (under (second ∷ lead ∷ []) 0 (tables_of mapped class)) (place_at_rank placement n) table) (zero-add rank)
      (others_stand (tables_of mapped class) 0 (second ∷ lead ∷ []) (inl (omega (arith, first), omega arith)) rank table here (λ same. apart (omega (arith, same))))

  -- behind one source and the table that leads, each table stands at its place
  pub all_stand : (second lead : Origin) → placement.first ≡ 1 → slice_get (tables_of mapped class) placement.leading ≡ Some lead.table
      → StandsAt mapped class placement (second ∷ lead ∷ sources_behind (behind 0 (tables_of mapped class)))
  all_stand second lead first leads = λ rank table here. stands_by second lead first leads rank table here (rank == placement.leading) refl

-- ---- what ties them

module _ (mapped : Mapped) (class : ClassId) (placement : Placement) (has : HasHierarchies mapped) (known : HasTables mapped class) (origins : List Origin) (stands : StandsAt mapped class placement origins)
    (lead : TableId) (leads : slice_get (tables_of mapped class) placement.leading ≡ Some lead) where
  abbrev own : List TableId
  own = tables_of mapped class

  abbrev root_kinds : List Kind
  root_kinds = kinds_of (key_columns (root_spec mapped class))

  abbrev key_of : ℕ → List SourceColumn
  key_of rank = key_at_rank mapped class placement rank

  abbrev IsTied : List Origin → Further → Type 0
  IsTied under further = (1 ≤ length further.on) × AllByRecursion (IsPart mapped.schema under) further.on

  rank_typed : (under : List Origin) (rank : ℕ) (table : TableId) → slice_get own rank ≡ Some table → IsAt under (place_at_rank placement rank) table → AreTyped mapped.schema under (key_of rank) root_kinds
  rank_typed under rank table here at =
      let place : ℕ = place_at_rank placement rank in
      subst (λ (one : TableId). AreTyped mapped.schema under (columns_at place (key_numbers mapped one)) root_kinds) (sym (ap table_or_none here))
      (subst (AreTyped mapped.schema under (columns_at place (key_numbers mapped table))) (sym (kinds_along mapped class known rank table here)) (key_typed mapped under place table at))

  kinds_some : 0 < length root_kinds
  kinds_some =
      let root : TableId = root_table mapped class in
      let first = has_at own 0 root (ap (λ (tables : List TableId). slice_get tables 0) known.first) in
      key_some (root_spec mapped class).columns (table_faultless mapped root has (tables_declared mapped class root first)).keyed

  keys_tied : (under : List Origin) (p q : ℕ) → AreTyped mapped.schema under (key_of p) root_kinds → AreTyped mapped.schema under (key_of q) root_kinds
      → (1 ≤ length (equal_columns (key_of p) (key_of q))) × AllByRecursion (IsPart mapped.schema under) (equal_columns (key_of p) (key_of q))
  keys_tied under p q one other =
      let some = kinds_some in
      let long = typed_long mapped.schema under (key_of p) root_kinds one in
      let wide = typed_long mapped.schema under (key_of q) root_kinds other in
      (equal_some (key_of p) (key_of q) (omega (arith, some, long)) (omega (arith, some, wide)), equal_stand mapped.schema under (key_of p) (key_of q) root_kinds one other)

  tied_by_ranks : (under : List Origin) (rank p q : ℕ) (table : TableId) → rank - 1 ≡ p → rank_tied placement rank ≡ q → AreTyped mapped.schema under (key_of p) root_kinds
      → AreTyped mapped.schema under (key_of q) root_kinds → IsTied under (keyed_source mapped class placement (rank, table))
  unfolding keyed_source
  tied_by_ranks under rank p q table e g one other =
      let same : equal_columns (key_of (rank - 1)) (key_of (rank_tied placement rank)) ≡ equal_columns (key_of p) (key_of q) =
      ap (λ (m : ℕ). equal_columns (key_of m) (key_of (rank_tied placement rank))) e ∙ ap (λ (m : ℕ). equal_columns (key_of p) (key_of m)) g in
      let tied = keys_tied under p q one other in (
        subst (λ (es : List Expr). 1 ≤ length es) (sym same) tied.0,
        subst (AllByRecursion (IsPart mapped.schema under)) (sym same) tied.1,
      )

  at_place : (under more : List Origin) (k : ℕ) (table : TableId) → origins ≡ under ++ more → slice_get own k ≡ Some table → place_at_rank placement k < length under → IsAt under (place_at_rank placement k) table
  at_place under more k table is here less =
      at_first under more (place_at_rank placement k) table (subst (λ (all : List Origin). IsAt all (place_at_rank placement k) table) is (stands k table here)) less

  -- the key of the table of a rank equals one that stands before it
  rank_is_tied : (under more : List Origin) (rank count : ℕ) (table : TableId) → origins ≡ under ++ more → length under ≡ count + 1 → AreBefore mapped class placement rank count → slice_get own rank ≡ Some table
      → IsTied under (keyed_source mapped class placement (rank, table))
  rank_is_tied under more zero count table is long counted here =
      let root_there : place_at_rank placement 0 < length under = subst (λ (n : ℕ). place_at_rank placement 0 < n) (sym long) (within mapped class placement 0 0 count (omega arith) counted) in
      let lead_there : place_at_rank placement placement.leading < length under = subst (λ (n : ℕ). place_at_rank placement placement.leading < n) (sym long) (lead_within mapped class placement 0 count counted) in
      tied_by_ranks under 0 0 placement.leading table (omega arith) refl (rank_typed under 0 table here (at_place under more 0 table is here root_there))
      (rank_typed under placement.leading lead leads (at_place under more placement.leading lead is leads lead_there))
  rank_is_tied under more (suc k) count table is long counted here =
      let less = slice_get_within own (suc k) table here in
      let parent : TableId = get_or own k no_table_id in
      let above : slice_get own k ≡ Some parent = slice_get-get_or own k no_table_id (omega (arith, less)) in
      let parent_there : place_at_rank placement k < length under = subst (λ (n : ℕ). place_at_rank placement k < n) (sym long) (within mapped class placement k (suc k) count (omega arith) counted) in
      let there : place_at_rank placement (suc k) < length under = subst (λ (n : ℕ). place_at_rank placement (suc k) < n) (sym long) (within mapped class placement (suc k) (suc k) count (omega arith) counted) in
      let before : suc k - 1 ≡ k = omega arith in
      let itself : rank_tied placement (suc k) ≡ suc k = ap (λ (b : Bool). if b then placement.leading else suc k) (not_zero (suc k) k refl) in
      tied_by_ranks under (suc k) k (suc k) table before itself (rank_typed under k parent above (at_place under more k parent is above parent_there))
      (rank_typed under (suc k) table here (at_place under more (suc k) table is here there))

  abbrev rest_from : ℕ → List TableId → List Further
  rest_from rank tables = behind mapped class placement rank tables

  one_tied : (table : TableId) (tables : List TableId) (rank : ℕ) (before : List Origin) (b : Bool) → (rank == placement.leading) ≡ b → AreBefore mapped class placement rank (length before)
      → slice_get own rank ≡ Some table → origins ≡ before ++ sources_behind (rest_from rank (table ∷ tables))
      → ((next : List Origin) → AreBefore mapped class placement (rank + 1) (length next) → origins ≡ next ++ sources_behind (rest_from (rank + 1) tables) → AreTied mapped.schema next (rest_from (rank + 1) tables))
      → AreTied mapped.schema before (rest_from rank (table ∷ tables))
  unfolding keyed_source
  one_tied table tables rank before true e counted here is later =
      let same = skipped mapped class placement rank table tables e in
      subst (AreTied mapped.schema before) (sym same)
      (later before (before_skipped mapped class placement rank (length before) (eqb-true rank placement.leading e) counted) (is ∙ ap (λ (more : List Further). before ++ sources_behind more) same))
  one_tied table tables rank before false e counted here is later =
      let same = kept mapped class placement rank table tables e in
      let next : List Origin = before ++ origin_of table ∷ [] in
      let long : length next ≡ length before + 1 = length-append before (origin_of table ∷ []) in
      let all : origins ≡ next ++ sources_behind (rest_from (rank + 1) tables) =
      is ∙ ap (λ (more : List Further). before ++ sources_behind more) same ∙ sym (append_assoc before (origin_of table ∷ []) (sources_behind (rest_from (rank + 1) tables))) in
      let tied : IsTied next (keyed_source mapped class placement (rank, table)) = rank_is_tied next (sources_behind (rest_from (rank + 1) tables)) rank (length before) table all long counted here in
      subst (AreTied mapped.schema before) (sym same) (
        tied.0,
        tied.1,
        later next (subst (AreBefore mapped class placement (rank + 1)) (sym long) (before_kept mapped class placement rank (length before) (eqb-false rank placement.leading e) counted)) all,
      )

  -- behind the one that leads each other table is tied
  pub all_tied : (tables : List TableId) (rank : ℕ) (before : List Origin) → AreBefore mapped class placement rank (length before)
      → ((k : ℕ) (table : TableId) → slice_get tables k ≡ Some table → slice_get own (rank + k) ≡ Some table) → origins ≡ before ++ sources_behind (rest_from rank tables)
      → AreTied mapped.schema before (rest_from rank tables)
  all_tied [] rank before counted inside is = tt
  all_tied (table ∷ tables) rank before counted inside is =
      let first : rank ≡ rank + 0 = omega arith in
      one_tied table tables rank before (rank == placement.leading) refl counted (ap (slice_get own) first ∙ inside 0 table refl) is (λ next more all.
      all_tied tables (rank + 1) next more (λ k one e.
      let same : rank + 1 + k ≡ rank + suc k = omega arith in
      ap (slice_get own) same ∙ inside (suc k) one e) all)
