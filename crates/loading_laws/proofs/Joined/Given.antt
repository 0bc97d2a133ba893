-- What taken rows give to an owner for an option: objects under the keys of the rows to which its row leads.
use Rattle.std.proofs.Common.{◌≡◌, inl, inr, ℕ, zero, suc, ◌==◌, Bool, true, false, ◌&&◌, List, [], ◌∷◌, filter, length, map, Option, None, Some, if◌then◌else◌, refl, sym, ap, subst, ◌∙◌}
use Rattle.std.specs.Prelude.{slice_get}
use Rattle.std.specs.List.{AllByRecursion, cons_option, flat_map, list_any}
use Rattle.std.proofs.lemmas.Bool.{and_from, and_parts}
use Rattle.base_core.specs.declared.ids.ClassId.{ClassId}
use Rattle.base_core.specs.declared.ids.ObjId.{ObjId}
use Rattle.base_core.specs.declared.value.Value.{Value}
use Rattle.schema_core.specs.Tables.{same_values}
use Rattle.sql_semantics.specs.Eval.{Row, Tables, rows_in}
use Rattle.class_types.specs.declared.mapped.Relation.{Relation}
use Rattle.class_sides.specs.Keys.{TableKey}
use Rattle.class_mapping.specs.Mapped.{IsClass, Mapped, root_of}
use Rattle.class_mapping.proofs.Having.{Has, any_has, from_filter, from_flat, from_map, has_filter, has_flat, has_map, some_of}
use Rattle.mapping_laws.specs.Hierarchies.{HasHierarchies}
use Rattle.object_arena.specs.Fit.{relation_of}
use Rattle.object_arena.specs.Graph.{Graph}
use Rattle.object_arena.specs.Identity.{find_identity}
use Rattle.object_arena.proofs.GraphLemmas.{same_equiv}
use Rattle.load_filling.specs.Rows.{row_key}
use Rattle.joined_rows.specs.declared.parts.Part.{Part}
use Rattle.joined_rows.specs.Parts.{own_values, values_from}
use Rattle.object_parts.specs.declared.answers.Taken.{Taken}
use Rattle.joined_rows.specs.Taking.{has_target, member_at}
use Rattle.load_queries.specs.Joined.{given_to}
use Rattle.loading_laws.specs.Answers.Answers.{AreRowsOf}
use Rattle.loading_laws.specs.Members.{paired_rows}
use Rattle.loading_laws.proofs.Members.Ranks.{same_equal}
use Rattle.loading_laws.specs.Strategies.Filled.{keys_in_order, related_rows}
use Rattle.loading_laws.proofs.Strategies.Goes.{StandFor, same_answer}
use Rattle.loading_laws.proofs.Strategies.SameKeys.{same_in_order}
use Rattle.loading_laws.proofs.Strategies.Standing.{found_stands}
use Rattle.loading_laws.specs.Joined.Blocks.{HaveSameKeys, HaveTied, IsBlock, member_keys, referred_key, tied_by, tied_rows}
use Rattle.loading_laws.proofs.Joined.Answered.{same_object}
use Rattle.loading_laws.proofs.Joined.Taken.{AreTaken, HasMember, HasMembers}

abbrev Block : Type 0
Block = Row × List Row

-- ---- keys of lists of rows

-- a key is among the keys of rows
pub among_has : (keys : List (List Value)) (key : List Value) → list_any (same_values key) keys ≡ true → Has keys key
among_has keys key there = let found = some_of (same_values key) keys there in subst (Has keys) (sym (same_equal key found.0 found.2)) found.1

pub has_among : (keys : List (List Value)) (key : List Value) → Has keys key → list_any (same_values key) keys ≡ true
has_among keys key there = any_has (same_values key) keys key there (same_equiv.refl key)

-- ---- one row

-- a row of an owner's key that has a target
abbrev pub is_giving : Mapped → ClassId → Part → List Value → Row → Bool
is_giving mapped class part key row = same_values (row_key mapped class (own_values mapped class row)) key && has_target mapped part row

-- what such rows have of the target
abbrev pub given_rows : Mapped → ClassId → Part → List Value → List Row → List Row
given_rows mapped class part key rows = map (values_from part) (filter (is_giving mapped class part key) rows)

module _ (mapped : Mapped) (has : HasHierarchies mapped) (graph : Graph) where
  -- the member of an option is the one that the row has for it
  pub member_there : (row : Row) (parts : List Part) (members : List (Option ObjId)) (number : ℕ) (part : Part) → HasMembers mapped has graph row parts members → slice_get parts number ≡ Some part
      → HasMember mapped has graph row part (has_target mapped part row) (member_at members number)
  member_there row [] members number part h at = absurd cc
  member_there row (first ∷ parts) [] number part h at = absurd h
  member_there row (first ∷ parts) (member ∷ members) zero part h at =
      let same : first ≡ part = cc in subst (λ (p : Part). HasMember mapped has graph row p (has_target mapped p row) member) same h.0
  member_there row (first ∷ parts) (member ∷ members) (suc number) part h at = member_there row parts members number part h.1 at

  module _ (rooted : length graph.roots ≡ length graph.objects) (class : ClassId) (declared : IsClass mapped class) (parts : List Part) (targets : AllByRecursion (λ part. IsClass mapped part.target) parts)
      (number : ℕ) (part : Part) (at : slice_get parts number ≡ Some part) (owner : ObjId) (key : List Value) (under : find_identity graph (root_of mapped class) key ≡ Some owner) where
    stand_more : (row : Row) (own there : Bool) (member : Option ObjId) (kept : List Row) (objects : List ObjId) → HasMember mapped has graph row part there member → StandFor mapped part.target graph (map (values_from part) kept) objects
        → StandFor mapped part.target graph (map (values_from part) (if own && there then row ∷ kept else kept)) (cons_option (if own then member else None) objects)
    stand_more row false there member kept objects h rest = rest
    stand_more row true true (Some object) kept objects h rest = (found_stands graph (root_of mapped part.target) (row_key mapped part.target (values_from part row)) object rooted h, rest)
    stand_more row true true None kept objects h rest = absurd h
    stand_more row true false (Some object) kept objects h rest = absurd h
    stand_more row true false None kept objects h rest = rest

    -- what they give stands for them
    pub given_stand : (rows : List Row) (taken : List Taken) → AreTaken mapped has class declared parts targets graph rows taken → StandFor mapped part.target graph (given_rows mapped class part key rows) (given_to number taken owner)
    given_stand [] [] h = tt
    given_stand [] (one ∷ taken) h = absurd h
    given_stand (row ∷ rows) [] h = absurd h
    given_stand (row ∷ rows) (one ∷ taken) h =
        let own_key : List Value = row_key mapped class (own_values mapped class row) in
        let mine : (one.owner.0 == owner.0) ≡ same_values own_key key = same_object (root_of mapped class) graph rooted own_key key one.owner owner h.0.0 under in
        subst
        (λ (b : Bool). StandFor mapped part.target graph (given_rows mapped class part key (row ∷ rows)) (cons_option (if b then member_at one.members number else None) (given_to number taken owner)))
        (sym mine)
        (stand_more row (same_values own_key key) (has_target mapped part row) (member_at one.members number) (filter (is_giving mapped class part key) rows) (given_to number taken owner) (member_there row parts one.members number part h.0.1 at)
        (given_stand rows taken h.1))

-- ---- rows of blocks

-- rows under one key are tied to the same rows
tied_many : (mapped : Mapped) (class : ClassId) (relation : Relation) (tables : Tables) (all : List Row) (one other : Row) (far : Option TableKey) → row_key mapped class one ≡ row_key mapped class other
    → tied_by mapped class relation tables all one true far ≡ tied_by mapped class relation tables all other true far
tied_many mapped class relation tables all one other None same = ap (related_rows mapped relation all) same
tied_many mapped class relation tables all one other (Some far) same = ap (λ (key : List Value). paired_rows mapped relation far all (rows_in tables relation.foreign.0.0) key) same

pub tied_alike : (mapped : Mapped) (class : ClassId) (relation : Relation) (tables : Tables) (all : List Row) (one other : Row) (many : Bool) → relation.many ≡ many → row_key mapped class one ≡ row_key mapped class other
    → (many ≡ false → referred_key mapped class relation one ≡ referred_key mapped class relation other) → tied_rows mapped class relation tables all one ≡ tied_rows mapped class relation tables all other
tied_alike mapped class relation tables all one other true many same refers =
    ap (λ (b : Bool). tied_by mapped class relation tables all one b relation.far) many ∙ tied_many mapped class relation tables all one other relation.far same
    ∙ ap (λ (b : Bool). tied_by mapped class relation tables all other b relation.far) (sym many)
tied_alike mapped class relation tables all one other false many same refers =
    ap (λ (b : Bool). tied_by mapped class relation tables all one b relation.far) many
    ∙ ap (λ (key : List Value). filter (λ row. same_values (row_key mapped relation.target row) key) all) (refers refl)
    ∙ ap (λ (b : Bool). tied_by mapped class relation tables all other b relation.far) (sym many)

-- what is said of each item is said of one that is there
pub each_has : {A : Type 0} (P : A → Type 0) (xs : List A) (x : A) → AllByRecursion P xs → Has xs x → P x
each_has P [] x all there = absurd there
each_has P (y ∷ xs) x all (inl e) = subst P e all.0
each_has P (y ∷ xs) x all (inr there) = each_has P xs x all.1 there

module _ (mapped : Mapped) (class : ClassId) (tables : Tables) (parts : List Part) (blocks : List Block) (each : AllByRecursion (IsBlock mapped class tables parts) blocks) (part : Part) (asked : Has parts part) (all : List Row)
    (are : AreRowsOf mapped part.target tables all) (row : Row) where
  abbrev tied : Row → List Row
  tied one = tied_rows mapped class (relation_of mapped class part.place) tables all one

  abbrev target_key : Row → List Value
  target_key one = row_key mapped part.target one

  abbrev joined : List Row
  joined = flat_map (λ (block : Block). block.1) blocks

  abbrev gives : Row → Bool
  gives one = is_giving mapped class part (row_key mapped class row) one

  abbrev found_keys : List (List Value)
  found_keys = map target_key (given_rows mapped class part (row_key mapped class row) joined)

  abbrev wanted_keys : List (List Value)
  wanted_keys = map target_key (tied row)

  block_tied : (block : Block) → Has blocks block → HaveSameKeys (member_keys mapped part block.1) (map target_key (tied block.0))
  block_tied block there =
      let one = each_has (HaveTied mapped class tables block.0 block.1) parts part (each_has (IsBlock mapped class tables parts) blocks block each there).options asked in
      subst (λ (rows : List Row). HaveSameKeys (member_keys mapped part block.1) (map target_key (tied_rows mapped class (relation_of mapped class part.place) tables rows block.0))) (same_answer one.all all (sym one.are ∙ are)) one.same

  block_own : (block : Block) (one : Row) → Has blocks block → Has block.1 one → own_values mapped class one ≡ block.0
  block_own block one there in_block = each_has (λ (x : Row). own_values mapped class x ≡ block.0) block.1 one (each_has (IsBlock mapped class tables parts) blocks block each there).own in_block

  -- the keys that rows of the owner's key give are those of the rows to which its row leads
  pub found_wanted : ((other : Row) → Has (map (λ (block : Block). block.0) blocks) other → row_key mapped class other ≡ row_key mapped class row → tied other ≡ tied row) → (key : List Value) → Has found_keys key → Has wanted_keys key
  found_wanted alike key there =
      let value = from_map target_key (map (values_from part) (filter gives joined)) key there in
      let one = from_map (values_from part) (filter gives joined) value.0 value.1 in
      let kept = from_filter gives joined one.0 one.1 in
      let block = from_flat (λ (b : Block). b.1) blocks one.0 kept.0 in
      let tests = and_parts (same_values (row_key mapped class (own_values mapped class one.0)) (row_key mapped class row)) (has_target mapped part one.0) kept.1 in
      let own = block_own block.0 one.0 block.1 block.2 in
      let head : row_key mapped class block.0.0 ≡ row_key mapped class row =
      ap (row_key mapped class) (sym own) ∙ same_equal (row_key mapped class (own_values mapped class one.0)) (row_key mapped class row) tests.0 in
      let member : Has (member_keys mapped part block.0.1) (target_key (values_from part one.0)) =
      has_map (λ (x : Row). target_key (values_from part x)) (filter (has_target mapped part) block.0.1) one.0 (has_filter (has_target mapped part) block.0.1 one.0 block.2 tests.1) in
      let here : Has (member_keys mapped part block.0.1) key = subst (Has (member_keys mapped part block.0.1)) (ap target_key one.2 ∙ value.2) member in
      let tied_here : Has (map target_key (tied block.0.0)) key =
      among_has (map target_key (tied block.0.0)) key (sym (block_tied block.0 block.1 key) ∙ has_among (member_keys mapped part block.0.1) key here) in
      subst (λ (rows : List Row). Has (map target_key rows) key) (alike block.0.0 (has_map (λ (b : Block). b.0) blocks block.0 block.1) head) tied_here

  pub wanted_found : Has (map (λ (block : Block). block.0) blocks) row → (key : List Value) → Has wanted_keys key → Has found_keys key
  wanted_found within key there =
      let block = from_map (λ (b : Block). b.0) blocks row within in
      let tied_here : Has (map target_key (tied block.0.0)) key = subst (λ (one : Row). Has (map target_key (tied one)) key) (sym block.2) there in
      let member : Has (member_keys mapped part block.0.1) key =
      among_has (member_keys mapped part block.0.1) key (block_tied block.0 block.1 key ∙ has_among (map target_key (tied block.0.0)) key tied_here) in
      let one = from_map (λ (x : Row). target_key (values_from part x)) (filter (has_target mapped part) block.0.1) key member in
      let kept = from_filter (has_target mapped part) block.0.1 one.0 one.1 in
      let own : own_values mapped class one.0 ≡ row = block_own block.0 one.0 block.1 kept.0 ∙ block.2 in
      let same : same_values (row_key mapped class (own_values mapped class one.0)) (row_key mapped class row) ≡ true =
      ap (λ (x : Row). same_values (row_key mapped class x) (row_key mapped class row)) own ∙ same_equiv.refl (row_key mapped class row) in
      let given : gives one.0 ≡ true = and_from (same_values (row_key mapped class (own_values mapped class one.0)) (row_key mapped class row)) (has_target mapped part one.0) same kept.1 in
      let in_joined : Has joined one.0 = has_flat (λ (b : Block). b.1) blocks block.0 one.0 block.1 kept.0 in
      subst (Has found_keys) one.2
      (has_map target_key (map (values_from part) (filter gives joined)) (values_from part one.0) (has_map (values_from part) (filter gives joined) one.0 (has_filter gives joined one.0 in_joined given)))

  pub same_tied_keys : Has (map (λ (block : Block). block.0) blocks) row → ((other : Row) → Has (map (λ (block : Block). block.0) blocks) other → row_key mapped class other ≡ row_key mapped class row → tied other ≡ tied row)
      → keys_in_order found_keys ≡ keys_in_order wanted_keys
  same_tied_keys within alike = same_in_order found_keys wanted_keys (found_wanted alike) (wanted_found within)
