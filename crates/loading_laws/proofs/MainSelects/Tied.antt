-- The sources of a joined option are tied to those before them, with the condition of the target's branch too.
use Rattle.std.proofs.Common.{◌≡◌, inl, ℕ, ◌+◌, ◌<◌, ◌≤◌, Bool, true, false, not, ◌==◌, cond, nat_lt, List, [], ◌∷◌, ◌++◌, length, map, Option, None, Some, is_some, refl, sym, ap, subst, ◌∙◌, if◌then◌else◌, arith, append_assoc, length-append, zero-add}
use Rattle.std.specs.Prelude.{slice_get, unwrap_or}
use Rattle.std.specs.List.{AllByRecursion, position, position_or_len}
use Rattle.std.proofs.lemmas.Bool.{eq-eqb}
use Rattle.std.proofs.lemmas.List.{length-map, map-append}
use Rattle.base_core.proofs.Lists.{every_append, get_after}
use Rattle.base_core.specs.declared.ids.ClassId.{ClassId}
use Rattle.base_core.specs.declared.ids.TableId.{TableId}
use Rattle.schema_core.specs.Catalog.{has_name, same_name}
use Rattle.expr_types.specs.declared.expr.Expr.{Expr}
use Rattle.expr_types.specs.declared.expr.Origin.{Origin}
use Rattle.class_types.specs.declared.mapped.Relation.{Relation}
use Rattle.class_sides.specs.Keys.{TableKey}
use Rattle.class_mapping.specs.Mapped.{Mapped, class_spec, root_table, tables_of}
use Rattle.class_mapping.specs.Paired.{is_at_or_under}
use Rattle.class_mapping.specs.Related.{IsRelated, has_keys, one_side}
use Rattle.class_mapping.proofs.Having.{Has, has_at, has_map, named_alike, none_of, true_false}
use Rattle.class_mapping.proofs.RelatedKeys.{same_table}
use Rattle.mapping_laws.specs.Hierarchies.{HasHierarchies, HasTables, name_in}
use Rattle.mapping_laws.proofs.Tables.{unmapped_named}
use Rattle.mapping_laws.proofs.Ties.{class_tables}
use Rattle.load_columns.specs.declared.placing.Placement.{Placement}
use Rattle.load_columns.specs.Placing.{from_root, place_at_rank, place_of_table, rank_of, referred_table}
use Rattle.load_selects.specs.declared.sources.Further.{Further}
use Rattle.load_selects.specs.Branches.{discriminator_column, discriminator_of, identities, is_of_branch, names_branch}
use Rattle.load_selects.specs.Selects.{origin_of}
use Rattle.load_selects.specs.Sources.{first_behind, leading_by, leading_table, other_tables, referred_place, referred_source, referring_source, refers, related_sources, target_placement, tied_by}
use Rattle.collection_selects.proofs.Keys.{IsAt}
use Rattle.collection_selects.proofs.MemberLemmas.{RefersTo, referred_is}
use Rattle.collection_selects.proofs.Placed.{StandsAt, at_more, branch_parts, rank_finds}
use Rattle.collection_selects.proofs.Plain.{AreTied, IsPart}
use Rattle.collection_selects.proofs.Pairs.Led.{all_tied, sources_behind}
use Rattle.collection_selects.proofs.Pairs.Plainness.{IsSecondary, secondary_of}
use Rattle.main_selects.specs.MainSelect.{option_sources, within_branch}
use Rattle.joined_rows.proofs.Targets.{target_stands}
use Rattle.joined_rows.proofs.Widening.{joined_table, table_of}
use Rattle.loading_laws.proofs.MainSelects.Referring.{HasKey, key_of, refers_stand, tables_under}
use Rattle.loading_laws.proofs.MainSelects.Simple.{in_before}

tables_behind : (more : List Further) → map table_of (sources_behind more) ≡ map joined_table more
tables_behind [] = refl
tables_behind (further ∷ more) = ap (λ (tables : List TableId). further.table ∷ tables) (tables_behind more)

-- the last source stands at its place
last_at : (sources : List Origin) (table : TableId) (place : ℕ) → length sources ≡ place → IsAt (sources ++ origin_of table ∷ []) place table
last_at sources table place long =
    let tables : List TableId = map table_of sources in
    let counted = length-map sources table_of in
    let here : place ≡ length tables + 0 = omega (arith, long, counted) in
    ap (λ (all : List TableId). slice_get all place) (map-append table_of sources (origin_of table ∷ [])) ∙ ap (slice_get (tables ++ table ∷ [])) here ∙ get_after tables (table ∷ []) 0

-- the first of a class's tables has the rank 0
ranked_first : (table : TableId) (rest : List TableId) → unwrap_or (position (λ other. other.0 == table.0) (table ∷ rest)) 0 ≡ 0
ranked_first table rest =
    let test : TableId → Bool = λ other. other.0 == table.0 in
    let here : position_or_len test (table ∷ rest) ≡ 0 = ap (λ (b : Bool). cond (not b) (1 + position_or_len test rest) 0) (eq-eqb table.0 table.0 refl) in
    by (nat_lt (position_or_len test (table ∷ rest)) (length (table ∷ rest))) (position_or_len test (table ∷ rest)) here
  where
    by : (b : Bool) (n : ℕ) → n ≡ 0 → unwrap_or (cond b (Some n) None) 0 ≡ 0
    by true n none = none
    by false n none = refl

module _ (mapped : Mapped) (class : ClassId) (relation : Relation) (first : List Origin) (has : HasHierarchies mapped) (related : IsRelated mapped relation) (above : is_at_or_under mapped class relation.class ≡ true)
    (stands : StandsAt mapped class (from_root 0) first) where
  abbrev count : ℕ
  count = length first

  abbrev target : ClassId
  target = relation.target

  abbrev own : List TableId
  own = tables_of mapped target

  abbrev root : TableId
  root = root_table mapped target

  abbrev lead : TableId
  lead = leading_table mapped relation

  abbrev pub placement : Placement
  placement = target_placement mapped relation count

  abbrev others : List Further
  others = other_tables mapped target placement

  abbrev tied : List Further
  tied = tied_by mapped class (from_root 0) relation count relation.far

  abbrev pub full : List Origin
  full = first ++ sources_behind (tied ++ others)

  abbrev branch : List Expr
  branch = is_of_branch mapped target placement

  abbrev within : Further → Further
  within further = within_branch mapped target placement further

  known : HasTables mapped target
  known = class_tables mapped target has related.target

  related_is : related_sources mapped class (from_root 0) relation count ≡ tied ++ others
  unfolding related_sources
  related_is = refl

  pub full_stands : StandsAt mapped target placement full
  full_stands =
      target_stands mapped class (from_root 0) relation first (sources_behind (tied ++ others)) count related refl (tables_behind (tied ++ others) ∙ ap (λ (more : List Further). map joined_table more) (sym related_is))

  -- ---- the table that leads

  lead_by : (end : Option TableKey) → relation.far ≡ end → Has own (leading_by mapped relation end)
  lead_by (Some far) is =
      let keys = secondary_of mapped relation far related is in
      subst (Has own) (sym (referred_is mapped far target keys.member)) keys.member.inside
  lead_by None is = by relation.many refl
    where
      key : HasKey mapped relation
      key = key_of mapped relation (ap (has_keys mapped relation) (sym is) ∙ related.keys)

      by : (b : Bool) → relation.many ≡ b → Has own (if b then relation.foreign.0 else referred_table mapped relation.foreign)
      by true e = subst (λ (one : ClassId). Has (tables_of mapped one) relation.foreign.0) (ap (λ (b : Bool). if b then target else relation.class) e) key.inside
      by false e =
          subst (Has own) (sym (referred_is mapped relation.foreign (one_side relation) key.refers))
          (subst (λ (one : ClassId). Has (tables_of mapped one) key.refers.table) (ap (λ (b : Bool). if b then relation.class else target) e) key.refers.inside)

  pub lead_inside : Has own lead
  lead_inside = lead_by relation.far refl

  leads : slice_get own placement.leading ≡ Some lead
  leads = rank_finds own lead lead_inside

  -- where it is the root's it stands first
  root_leads : (lead.0 == root.0) ≡ true → placement.leading ≡ 0
  root_leads is =
      ap (rank_of mapped target) (same_table lead root is) ∙ ap (λ (tables : List TableId). unwrap_or (position (λ (other : TableId). other.0 == root.0) tables) 0) known.first ∙ ranked_first root known.rest

  root_first : (lead.0 == root.0) ≡ true → place_at_rank placement 0 ≡ placement.first
  root_first is = ap (λ (n : ℕ). if 0 == n then placement.first else if nat_lt 0 n then (placement.first + 1 + 0) else (placement.first + 0)) (root_leads is)

  root_early : place_at_rank placement 0 < placement.first + 2
  root_early = by (0 == placement.leading) (nat_lt 0 placement.leading)
    where
      by : (b low : Bool) → (if b then placement.first else if low then (placement.first + 1 + 0) else (placement.first + 0)) < placement.first + 2
      by true low = omega arith
      by false true = omega arith
      by false false = omega arith

  -- ---- the branch

  branch_in : (part rest : List Origin) → full ≡ part ++ rest → place_at_rank placement 0 < length part → AllByRecursion (IsPart mapped.schema part) branch
  branch_in part rest is less =
      by (is_some (class_spec mapped target).table) (discriminator_of mapped target)
      (subst (λ (sources : List Origin). AllByRecursion (IsPart mapped.schema sources) branch) is (branch_parts mapped target has related.target known placement full full_stands))
    where
      by : (b : Bool) (name : Option (List ℕ)) → AllByRecursion (IsPart mapped.schema (part ++ rest)) (if b then [] else names_branch mapped target placement name)
          → AllByRecursion (IsPart mapped.schema part) (if b then [] else names_branch mapped target placement name)
      by true name h = tt
      by false None h = tt
      by false (Some name) h = (in_before mapped.schema part rest (discriminator_column mapped target placement name) (identities mapped target) less h.0, tt)

  within_tied : (before : List Origin) (further : Further) (more : List Further) (b : Bool) → (further.table.0 == root.0) ≡ b → 1 ≤ length further.on
      → AllByRecursion (IsPart mapped.schema (before ++ origin_of further.table ∷ [])) further.on → (b ≡ true → AllByRecursion (IsPart mapped.schema (before ++ origin_of further.table ∷ [])) branch)
      → AreTied mapped.schema (before ++ origin_of further.table ∷ []) more → AreTied mapped.schema before (within further ∷ more)
  within_tied before further more b is some parts told rest =
      subst (λ (one : Further). AreTied mapped.schema before (one ∷ more)) (sym (ap (λ (c : Bool). if c then record further { on = further.on ++ branch } else further) is)) (by b told)
    where
      by : (c : Bool) → (c ≡ true → AllByRecursion (IsPart mapped.schema (before ++ origin_of further.table ∷ [])) branch)
          → AreTied mapped.schema before ((if c then record further { on = further.on ++ branch } else further) ∷ more)
      by true holds =
          let long = length-append further.on branch in
          (omega (arith, some, long), every_append (IsPart mapped.schema (before ++ origin_of further.table ∷ [])) further.on branch parts (holds refl), rest)
      by false holds = (some, parts, rest)

  others_within : (before : List Origin) (more : List Further) → full ≡ before ++ sources_behind more → place_at_rank placement 0 < length before + 1 → AreTied mapped.schema before more → AreTied mapped.schema before (map within more)
  others_within before [] is less h = tt
  others_within before (further ∷ more) is less h =
      let next : List Origin = before ++ origin_of further.table ∷ [] in
      let long : length next ≡ length before + 1 = length-append before (origin_of further.table ∷ []) in
      let all : full ≡ next ++ sources_behind more = is ∙ sym (append_assoc before (origin_of further.table ∷ []) (sources_behind more)) in
      within_tied before further (map within more) (further.table.0 == root.0) refl h.0 h.1 (λ root_is. branch_in next (sources_behind more) all (omega (arith, less, long)))
      (others_within next more all (omega (arith, less, long)) h.2)

  -- ---- the table that leads, and those behind it

  lead_tied : (before : List Origin) (further : Further) → length before ≡ placement.first → further.table ≡ lead → full ≡ before ++ sources_behind (further ∷ others)
      → (1 ≤ length further.on) × AllByRecursion (IsPart mapped.schema (before ++ origin_of further.table ∷ [])) further.on → AreTied mapped.schema before (map within (further ∷ others))
  lead_tied before further long leads_it is ties =
      let next : List Origin = before ++ origin_of further.table ∷ [] in
      let more : length next ≡ length before + 1 = length-append before (origin_of further.table ∷ []) in
      let counted : length next ≡ placement.first + 1 + 0 = omega (arith, more, long) in
      let all : full ≡ next ++ sources_behind others = is ∙ sym (append_assoc before (origin_of further.table ∷ []) (sources_behind others)) in
      let early = root_early in
      within_tied before further (map within others) (further.table.0 == root.0) refl ties.0 ties.1
      (λ root_is.
      let at = root_first (ap (λ (table : TableId). table.0 == root.0) (sym leads_it) ∙ root_is) in
      branch_in next (sources_behind others) all (omega (arith, counted, at)))
      (others_within next others all (omega (arith, early, counted))
      (all_tied mapped target placement has known full full_stands lead leads own 0 next (inl (counted, omega arith)) (λ k table e. ap (slice_get own) (zero-add k) ∙ e) all))

  -- ---- the foreign key

  -- a table of the class that declares the relationship is one of the class's, and stands where its rank says
  stands_in : (table : TableId) → Has (tables_of mapped relation.class) table → (more : List Origin) → IsAt (first ++ more) (place_of_table mapped class (from_root 0) table) table
  stands_in table there more =
      at_more first more (place_of_table mapped class (from_root 0) table) table
      (stands (rank_of mapped class table) table (rank_finds (tables_of mapped class) table (tables_under mapped class relation.class table has above there)))

  -- a table with a foreign key to the class, behind the others
  referring_ties : (key : TableKey) → RefersTo mapped key relation.class
      → (1 ≤ length (referring_source mapped class (from_root 0) key count).on) × AllByRecursion (IsPart mapped.schema (first ++ origin_of key.0 ∷ [])) (referring_source mapped class (from_root 0) key count).on
  unfolding referred_place
  referring_ties key to =
      let there : Has (tables_of mapped relation.class) (referred_table mapped key) = subst (Has (tables_of mapped relation.class)) (sym (referred_is mapped key relation.class to)) to.inside in
      refers_stand mapped (first ++ origin_of key.0 ∷ []) key relation.class (place_of_table mapped class (from_root 0) (referred_table mapped key)) count has to
      (stands_in (referred_table mapped key) there (origin_of key.0 ∷ [])) (last_at first key.0 count refl)

  -- a table to which one of the others refers, behind them
  referred_ties : (before : List Origin) (key : TableKey) (referring : ℕ) → RefersTo mapped key target → IsAt (before ++ origin_of (referred_table mapped key) ∷ []) referring key.0
      → (1 ≤ length (refers mapped key (length before) referring)) × AllByRecursion (IsPart mapped.schema (before ++ origin_of (referred_table mapped key) ∷ [])) (refers mapped key (length before) referring)
  referred_ties before key referring to here =
      refers_stand mapped (before ++ origin_of (referred_table mapped key) ∷ []) key target (length before) referring has to (last_at before (referred_table mapped key) (length before) refl) here

  -- ---- all that the option adds

  under_end : (end : Option TableKey) → relation.far ≡ end → full ≡ first ++ sources_behind (tied_by mapped class (from_root 0) relation count end ++ others)
  under_end end is = ap (λ (one : Option TableKey). first ++ sources_behind (tied_by mapped class (from_root 0) relation count one ++ others)) is

  placed_first : (end : Option TableKey) → relation.far ≡ end → placement.first ≡ first_behind count end
  placed_first end is = ap (first_behind count) is

  lead_is : (end : Option TableKey) → relation.far ≡ end → lead ≡ leading_by mapped relation end
  lead_is end is = ap (leading_by mapped relation) is

  -- without a secondary table
  one_tied : (b : Bool) → relation.many ≡ b → relation.far ≡ None
      → AreTied mapped.schema first (map within ((if b then referring_source mapped class (from_root 0) relation.foreign count else referred_source mapped relation.foreign (place_of_table mapped class (from_root 0) relation.foreign.0) count) ∷ others))
  one_tied true many is =
      let key = key_of mapped relation (ap (has_keys mapped relation) (sym is) ∙ related.keys) in
      let to : RefersTo mapped relation.foreign relation.class = subst (RefersTo mapped relation.foreign) (ap (λ (b : Bool). if b then relation.class else target) many) key.refers in
      lead_tied first (referring_source mapped class (from_root 0) relation.foreign count) (sym (placed_first None is))
      (sym (lead_is None is ∙ ap (λ (b : Bool). if b then relation.foreign.0 else referred_table mapped relation.foreign) many))
      (under_end None is
      ∙ ap (λ (b : Bool). first ++ sources_behind ((if b then referring_source mapped class (from_root 0) relation.foreign count else referred_source mapped relation.foreign (place_of_table mapped class (from_root 0) relation.foreign.0) count) ∷ others)) many)
      (referring_ties relation.foreign to)
  one_tied false many is =
      let key = key_of mapped relation (ap (has_keys mapped relation) (sym is) ∙ related.keys) in
      let to : RefersTo mapped relation.foreign target = subst (RefersTo mapped relation.foreign) (ap (λ (b : Bool). if b then relation.class else target) many) key.refers in
      let inside : Has (tables_of mapped relation.class) relation.foreign.0 = subst (λ (one : ClassId). Has (tables_of mapped one) relation.foreign.0) (ap (λ (b : Bool). if b then target else relation.class) many) key.inside in
      lead_tied first (referred_source mapped relation.foreign (place_of_table mapped class (from_root 0) relation.foreign.0) count) (sym (placed_first None is))
      (sym (lead_is None is ∙ ap (λ (b : Bool). if b then relation.foreign.0 else referred_table mapped relation.foreign) many))
      (under_end None is
      ∙ ap (λ (b : Bool). first ++ sources_behind ((if b then referring_source mapped class (from_root 0) relation.foreign count else referred_source mapped relation.foreign (place_of_table mapped class (from_root 0) relation.foreign.0) count) ∷ others)) many)
      (referred_ties first relation.foreign (place_of_table mapped class (from_root 0) relation.foreign.0) to (stands_in relation.foreign.0 inside (origin_of (referred_table mapped relation.foreign) ∷ [])))

  -- a secondary table is not that of the target's root
  second_apart : (far : TableKey) → IsSecondary mapped relation far → (b : Bool) → (relation.foreign.0.0 == root.0) ≡ b → b ≡ false
  second_apart far keys false is = refl
  second_apart far keys true is =
      let name : List ℕ = name_in mapped relation.foreign.0 in
      let free : has_name (map (name_in mapped) own) name ≡ false = unmapped_named mapped target name keys.free in
      let inside : Has own root = has_at own 0 root (ap (λ (tables : List TableId). slice_get tables 0) known.first) in
      true_false (same_name (name_in mapped root) name) (named_alike (name_in mapped root) name (ap (name_in mapped) (sym (same_table relation.foreign.0 root is))))
      (none_of (λ other. same_name other name) (map (name_in mapped) own) (name_in mapped root) free (has_map (name_in mapped) own root inside))

  -- with one
  two_tied : (far : TableKey) → relation.far ≡ Some far → AreTied mapped.schema first (map within (referring_source mapped class (from_root 0) relation.foreign count ∷ referred_source mapped far count (count + 1) ∷ others))
  two_tied far is =
      let keys = secondary_of mapped relation far related is in
      let second : Further = referring_source mapped class (from_root 0) relation.foreign count in
      let third : Further = referred_source mapped far count (count + 1) in
      let before : List Origin = first ++ origin_of second.table ∷ [] in
      let long : length before ≡ count + 1 = length-append first (origin_of second.table ∷ []) in
      let ties = referring_ties relation.foreign keys.owner in
      let at : IsAt before count far.0 = subst (IsAt before count) keys.same (last_at first relation.foreign.0 count refl) in
      let behind = referred_ties before far count keys.member (at_more before (origin_of (referred_table mapped far) ∷ []) count far.0 at) in
      let all : full ≡ before ++ sources_behind (third ∷ others) = under_end (Some far) is ∙ sym (append_assoc first (origin_of second.table ∷ []) (sources_behind (third ∷ others))) in
      within_tied first second (map within (third ∷ others)) (relation.foreign.0.0 == root.0) refl ties.0 ties.1
      (λ root_is. true_false (relation.foreign.0.0 == root.0) root_is (second_apart far keys (relation.foreign.0.0 == root.0) refl))
      (lead_tied before third (long ∙ sym (placed_first (Some far) is)) (sym (lead_is (Some far) is)) all
      (subst (λ (n : ℕ). (1 ≤ length (refers mapped far n count)) × AllByRecursion (IsPart mapped.schema (before ++ origin_of (referred_table mapped far) ∷ [])) (refers mapped far n count)) long behind))

  end_tied : (end : Option TableKey) → relation.far ≡ end → AreTied mapped.schema first (map within (tied_by mapped class (from_root 0) relation count end ++ others))
  end_tied None is = one_tied relation.many refl is
  end_tied (Some far) is = two_tied far is

  pub option_tied : AreTied mapped.schema first (option_sources mapped class relation count)
  option_tied = subst (λ (more : List Further). AreTied mapped.schema first (map within more)) (sym related_is) (end_tied relation.far refl)
