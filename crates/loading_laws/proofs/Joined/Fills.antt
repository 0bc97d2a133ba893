-- A joined load fills the links of its owners with the objects of the rows to which their rows lead.
use Rattle.std.proofs.Common.{◌≡◌, inl, ℕ, ◌<◌, ◌==◌, Bool, true, false, not, List, [], ◌∷◌, filter, length, map, Some, is_some, refl, sym, ap, subst, ◌∙◌}
use Rattle.std.specs.Prelude.{slice_get}
use Rattle.std.specs.List.{All, AllByRecursion, list_any}
use Rattle.std.proofs.lemmas.Bool.{eqb-true}
use Rattle.std.proofs.lemmas.List.Elements.{recursion_from_All}
use Rattle.base_core.specs.declared.ids.ClassId.{ClassId}
use Rattle.base_core.specs.declared.ids.ObjId.{ObjId}
use Rattle.base_core.specs.declared.ids.RelNo.{RelNo}
use Rattle.base_core.specs.declared.value.Value.{Value}
use Rattle.schema_core.specs.Tables.{same_values}
use Rattle.expr_types.specs.declared.select.ObjectQuery.{ObjectQuery}
use Rattle.sql_semantics.specs.Created.{bare}
use Rattle.sql_semantics.specs.Eval.{Row, Tables}
use Rattle.class_types.specs.declared.mapped.Relation.{Relation}
use Rattle.class_mapping.specs.Mapped.{IsClass, Mapped, relations_of, root_of}
use Rattle.class_mapping.specs.Paired.{is_at_or_under}
use Rattle.class_mapping.proofs.Having.{Has, any_has, from_filter, from_map, has_at, has_filter, has_flat, has_map, some_of}
use Rattle.object_arena.specs.declared.object.Link.{Link}
use Rattle.object_arena.specs.declared.object.Link.TheVariants.{Unset, Unloaded, One, Many}
use Rattle.object_arena.specs.Fit.{is_empty, relation_of}
use Rattle.object_arena.specs.Graph.{Graph, IsLink, IsObject}
use Rattle.object_arena.specs.Identity.{find_identity}
use Rattle.relations.specs.Mirror.{is_of}
use Rattle.load_filling.specs.Rows.{row_key}
use Rattle.load_rows.specs.Loading.{Loading}
use Rattle.load_rows.specs.Links.{collection_filled, collection_of, link_at}
use Rattle.load_calls.specs.Reading.{World}
use Rattle.load_batches.specs.Batches.{is_unloaded}
use Rattle.joined_rows.specs.declared.parts.Part.{Part}
use Rattle.joined_rows.specs.Parts.{own_values, parts_of}
use Rattle.load_queries.specs.Joined.{given_to, is_many, link_filled, load_joined, owners_among}
use Rattle.loading_laws.specs.Answers.Answers.{AreRowsOf}
use Rattle.loading_laws.specs.Strategies.Filled.{Goes, IsFilled, keys_in_order}
use Rattle.loading_laws.specs.Strategies.Ends.{IsLed, StandsIfAny, has_row}
use Rattle.loading_laws.specs.Strategies.Standing.{Stands, Stays}
use Rattle.loading_laws.proofs.Strategies.Finding.{Same}
use Rattle.loading_laws.proofs.Strategies.Goes.{StandFor}
use Rattle.loading_laws.proofs.Strategies.Lazy.{filled_as, filled_link, later_filled}
use Rattle.loading_laws.proofs.Strategies.Standing.{found_stands, made_later}
use Rattle.loading_laws.proofs.Strategies.Targets.{end_later, led_end}
use Rattle.loading_laws.proofs.Members.Ranks.{same_equal}
use Rattle.loading_laws.specs.Joined.Blocks.{IsBlock, referred_key, tied_by, tied_rows}
use Rattle.loading_laws.specs.Joined.Joined.{IsJoinedOwner, IsJoining, ReferAlike, first_link}
use Rattle.loading_laws.proofs.Joined.Answered.{both_ways}
use Rattle.loading_laws.proofs.Joined.Given.{among_has, each_has, found_wanted, given_rows, given_stand, has_among, same_tied_keys, tied_alike, wanted_found}
use Rattle.loading_laws.proofs.Joined.Links.{options_filled}
use Rattle.loading_laws.proofs.Joined.Objects.{IsLoadedIn, asked_of, loaded_in, still_found, target_of, targets_of}
use Rattle.loading_laws.proofs.Joined.Owners.{is_ready, owner_listed, owners_made, row_of_block}
use Rattle.loading_laws.proofs.Joined.Taken.{AreTaken, taken_later}

abbrev Block : Type 0
Block = Row × List Row

-- ---- links that are filled

-- a filled collection is loaded
many_loaded : (old link : Link) (base : List ObjId) → is_unloaded old ≡ true → Some link ≡ collection_of base old → is_unloaded link ≡ false
many_loaded Unset link base unloaded is = absurd cc
many_loaded (Unloaded added removed) link base unloaded is = loaded link _ is
  where
    loaded : (one other : Link) → Some one ≡ Some other → is_unloaded one ≡ is_unloaded other
    loaded one other e = ap is_unloaded (same one other e)
      where
        same : (one other : Link) → Some one ≡ Some other → one ≡ other
        same one other e = cc
many_loaded (One end changed) link base unloaded is = absurd cc
many_loaded (Many members held) link base unloaded is = absurd cc

-- the first object, where all rows have one key
first_of_stand : (mapped : Mapped) (class : ClassId) (graph : Graph) (key : List Value) (rows : List Row) (objects : List ObjId) → StandFor mapped class graph rows objects → ((k : List Value) → Has (map (row_key mapped class) rows) k → k ≡ key)
    → StandsIfAny (root_of mapped class) graph key (slice_get objects 0) × (is_some (slice_get objects 0) ≡ not (is_empty rows))
first_of_stand mapped class graph key [] [] stand only = (tt, refl)
first_of_stand mapped class graph key [] (object ∷ objects) stand only = absurd stand
first_of_stand mapped class graph key (row ∷ rows) [] stand only = absurd stand
first_of_stand mapped class graph key (row ∷ rows) (object ∷ objects) stand only =
    (subst (λ (k : List Value). Stands (root_of mapped class) graph k object) (only (row_key mapped class row) (inl refl)) stand.0, refl)

some_there : (rows : List Row) (key : Row → List Value) → not (is_empty rows) ≡ true → (k : List Value) × Has (map key rows) k
some_there [] key some = absurd cc
some_there (row ∷ rows) key some = (key row, inl refl)

not_empty : (rows : List Row) (key : Row → List Value) (k : List Value) → Has (map key rows) k → not (is_empty rows) ≡ true
not_empty [] key k there = absurd there
not_empty (row ∷ rows) key k there = refl

-- ---- an owner's links

module _ (mapped : Mapped) (query : ObjectQuery) (plain joined : List Row) (objects : List ObjId) (w after : World) (joining : IsJoining mapped query plain joined w) (load : IsLoadedIn mapped query plain joined objects w after joining) (row : Row)
    (owner : ObjId) (found : find_identity load.mid.graph (root_of mapped query.class) (row_key mapped query.class row) ≡ Some owner) (within : Has plain row) (all : List Row) where
  abbrev class : ClassId
  class = query.class

  abbrev tables : Tables
  tables = bare w.store.tables

  abbrev parts : List Part
  parts = parts_of mapped class query.joined

  abbrev targets : AllByRecursion (λ part. IsClass mapped part.target) parts
  targets = targets_of mapped class query.joined joining.related joining.class joining.places

  abbrev key : List Value
  key = row_key mapped class row

  abbrev mid : Graph
  mid = load.mid.graph

  abbrev relation_at : RelNo → Relation
  relation_at place = relation_of mapped class place

  abbrev old : RelNo → Link
  old place = first_link mapped class place w.own.graph row

  abbrev tied : RelNo → List Row
  tied place = tied_rows mapped class (relation_at place) tables all row

  made : IsObject mid owner
  made = (found_stands mid (root_of mapped class) key owner load.extends.rooted found).0

  heads_has : (other : Row) → Has (map (λ (block : Block). block.0) joining.rows.blocks) other → Has plain other
  heads_has other there = subst (λ (rows : List Row). Has rows other) (sym joining.rows.plain_is) there

  head_has : Has (map (λ (block : Block). block.0) joining.rows.blocks) row
  head_has = subst (λ (rows : List Row). Has rows row) joining.rows.plain_is within

  rooted_in : (own : Loading) → Same mid own.graph → length own.graph.roots ≡ length own.graph.objects
  rooted_in own same = same.rooted ∙ load.extends.rooted ∙ sym same.long

  -- what an option gives stands for its rows, also where some links are filled
  stand_in : (number : ℕ) (part : Part) → slice_get parts number ≡ Some part → (own : Loading) → Same mid own.graph
      → StandFor mapped (relation_at part.place).target own.graph (given_rows mapped class part key joined) (given_to number load.taken owner)
  stand_in number part at own same =
      let under : find_identity own.graph (root_of mapped class) key ≡ Some owner = same.found (root_of mapped class) key ∙ found in
      let is : AreTaken mapped joining.has class joining.class parts targets own.graph joined load.taken =
      taken_later mapped joining.has class joining.class parts targets mid own.graph joined load.taken (still_found mid own.graph same) load.is in
      subst (λ (c : ClassId). StandFor mapped c own.graph (given_rows mapped class part key joined) (given_to number load.taken owner)) (target_of mapped class query.joined number part at)
      (given_stand mapped joining.has own.graph (rooted_in own same) class joining.class parts targets number part at owner key under joined load.taken is)

  -- the keys of an option's rows are those of the rows to which the owner's row leads
  module _ (number : ℕ) (part : Part) (at : slice_get parts number ≡ Some part) (are : AreRowsOf mapped (relation_at part.place).target tables all)
      (alike : (other : Row) → Has plain other → row_key mapped class other ≡ key → tied_rows mapped class (relation_at part.place) tables all other ≡ tied part.place) where
    abbrev target : ClassId
    target = (relation_at part.place).target

    target_is : part.target ≡ target
    target_is = target_of mapped class query.joined number part at

    are_there : AreRowsOf mapped part.target tables all
    are_there = subst (λ (c : ClassId). AreRowsOf mapped c tables all) (sym target_is) are

    alike_there : (other : Row) → Has (map (λ (block : Block). block.0) joining.rows.blocks) other → row_key mapped class other ≡ key → tied_rows mapped class (relation_at part.place) tables all other ≡ tied part.place
    alike_there other there same = alike other (heads_has other there) same

    abbrev given_keys : List Row → ClassId → List (List Value)
    given_keys rows c = map (row_key mapped c) (given_rows mapped class part key rows)

    keys_same : keys_in_order (given_keys joined target) ≡ keys_in_order (map (row_key mapped target) (tied part.place))
    keys_same =
        subst (λ (c : ClassId). keys_in_order (given_keys joined c) ≡ keys_in_order (map (row_key mapped c) (tied part.place))) target_is
        (subst (λ (rows : List Row). keys_in_order (given_keys rows part.target) ≡ keys_in_order (map (row_key mapped part.target) (tied part.place))) (sym joining.rows.joined_is)
        (same_tied_keys mapped class tables parts joining.rows.blocks joining.rows.each part (has_at parts number part at) all are_there row head_has alike_there))

    given_tied : (k : List Value) → Has (given_keys joined target) k → Has (map (row_key mapped target) (tied part.place)) k
    given_tied =
        subst (λ (c : ClassId). (k : List Value) → Has (given_keys joined c) k → Has (map (row_key mapped c) (tied part.place)) k) target_is
        (subst (λ (rows : List Row). (k : List Value) → Has (given_keys rows part.target) k → Has (map (row_key mapped part.target) (tied part.place)) k) (sym joining.rows.joined_is)
        (found_wanted mapped class tables parts joining.rows.blocks joining.rows.each part (has_at parts number part at) all are_there row alike_there))

    tied_given : (k : List Value) → Has (map (row_key mapped target) (tied part.place)) k → Has (given_keys joined target) k
    tied_given =
        subst (λ (c : ClassId). (k : List Value) → Has (map (row_key mapped c) (tied part.place)) k → Has (given_keys joined c) k) target_is
        (subst (λ (rows : List Row). (k : List Value) → Has (map (row_key mapped part.target) (tied part.place)) k → Has (given_keys rows part.target) k) (sym joining.rows.joined_is)
        (wanted_found mapped class tables parts joining.rows.blocks joining.rows.each part (has_at parts number part at) all are_there row head_has))

  -- ---- collections

  abbrev IsMany : RelNo → Graph → Link → Type 0
  IsMany place graph link = IsFilled mapped (relation_at place) (tied place) (old place) graph link

  -- what each option at a place fills
  abbrev FillsWith : (RelNo → Graph → Link → Type 0) → RelNo → ℕ → Type 0
  FillsWith Is place number =
      (own : Loading) → Stays mid own.graph → Same mid own.graph → IsLink own.graph owner place → link_at own.graph owner place ≡ old place
      → Is place (link_filled (is_many mapped class place) owner place (given_to number load.taken owner) own).graph (link_at (link_filled (is_many mapped class place) owner place (given_to number load.taken owner) own).graph owner place)

  fills_many : (number : ℕ) (part : Part) → slice_get parts number ≡ Some part → (relation_at part.place).many ≡ true → is_unloaded (old part.place) ≡ true → AreRowsOf mapped (relation_at part.place).target tables all → FillsWith IsMany part.place number
  fills_many number part at many unloaded are own stays same held waits =
      let place : RelNo = part.place in
      let relation : Relation = relation_at place in
      let rows : List Row = given_rows mapped class part key joined in
      let given : List ObjId = given_to number load.taken owner in
      let filled = filled_link mapped relation place owner rows given own.graph (old place) (stand_in number part at own same) (made_later mid own.graph owner stays made) held unloaded waits own refl in
      let keys = keys_same number part at are (λ other there same. tied_alike mapped class relation tables all other row true many same (λ e. absurd cc)) in
      subst (λ (b : Bool). IsMany place (link_filled b owner place given own).graph (link_at (link_filled b owner place given own).graph owner place)) (sym many)
      (filled_as mapped relation rows (tied place) (old place) (collection_filled owner place given own).graph (link_at (collection_filled owner place given own).graph owner place) keys filled)

  -- ---- many-to-one links

  abbrev referred : RelNo → List Value
  referred place = referred_key mapped class (relation_at place) row

  abbrev leads : RelNo → Bool
  leads place = has_row mapped (relation_at place).target all (referred place)

  abbrev IsOne : RelNo → Graph → Link → Type 0
  IsOne place graph link = IsLed mapped (relation_at place) (leads place) (referred place) graph link

  tied_one : (place : RelNo) → (relation_at place).many ≡ false → tied place ≡ filter (λ other. same_values (row_key mapped (relation_at place).target other) (referred place)) all
  tied_one place one = ap (λ (b : Bool). tied_by mapped class (relation_at place) tables all row b (relation_at place).far) one

  -- a row to which the foreign key leads
  referred_has : (place : RelNo) → (relation_at place).many ≡ false → (k : List Value) → Has (map (row_key mapped (relation_at place).target) (tied place)) k → (k ≡ referred place) × (leads place ≡ true)
  referred_has place one k there =
      let test : Row → Bool = λ other. same_values (row_key mapped (relation_at place).target other) (referred place) in
      let kept : Has (map (row_key mapped (relation_at place).target) (filter test all)) k = subst (λ (rows : List Row). Has (map (row_key mapped (relation_at place).target) rows) k) (tied_one place one) there in
      let from = from_map (row_key mapped (relation_at place).target) (filter test all) k kept in
      let passes = from_filter test all from.0 from.1 in
      (sym from.2 ∙ same_equal (row_key mapped (relation_at place).target from.0) (referred place) passes.1, any_has test all from.0 passes.0 passes.1)

  referred_there : (place : RelNo) → (relation_at place).many ≡ false → leads place ≡ true → (k : List Value) × Has (map (row_key mapped (relation_at place).target) (tied place)) k
  referred_there place one some =
      let test : Row → Bool = λ other. same_values (row_key mapped (relation_at place).target other) (referred place) in
      let found_row = some_of test all some in (
        row_key mapped (relation_at place).target found_row.0,
        subst (λ (rows : List Row). Has (map (row_key mapped (relation_at place).target) rows) (row_key mapped (relation_at place).target found_row.0)) (sym (tied_one place one))
            (has_map (row_key mapped (relation_at place).target) (filter test all) found_row.0 (has_filter test all found_row.0 found_row.1 found_row.2)),
      )

  fills_one : (number : ℕ) (part : Part) → slice_get parts number ≡ Some part → (relation_at part.place).many ≡ false → is_unloaded (old part.place) ≡ true → AreRowsOf mapped (relation_at part.place).target tables all
      → ReferAlike mapped class (relation_at part.place) plain row → FillsWith IsOne part.place number
  fills_one number part at one unloaded are refers own stays same held waits =
      let place : RelNo = part.place in
      let relation : Relation = relation_at place in
      let rows : List Row = given_rows mapped class part key joined in
      let given : List ObjId = given_to number load.taken owner in
      let alike : (other : Row) → Has plain other → row_key mapped class other ≡ key → tied_rows mapped class relation tables all other ≡ tied place =
      λ other there same. tied_alike mapped class relation tables all other row false one same (λ e. refers other (has_among plain other there) same) in
      let only : (k : List Value) → Has (map (row_key mapped relation.target) rows) k → (k ≡ referred place) × (leads place ≡ true) = λ k there. referred_has place one k (given_tied number part at are alike k there) in
      let first = first_of_stand mapped relation.target own.graph (referred place) rows given (stand_in number part at own same) (λ k there. (only k there).0) in
      let some : not (is_empty rows) ≡ leads place =
      both_ways (not (is_empty rows)) (leads place) (λ e. let there = some_there rows (row_key mapped relation.target) e in (only there.0 there.1).1)
      (λ e. let there = referred_there place one e in not_empty rows (row_key mapped relation.target) there.0 (tied_given number part at are alike there.0 there.1)) in
      subst (λ (b : Bool). IsOne place (link_filled b owner place given own).graph (link_at (link_filled b owner place given own).graph owner place)) (sym one)
      (led_end mapped relation place owner (leads place) (referred place) (slice_get given 0) own (made_later mid own.graph owner stays made) held (ap is_unloaded waits ∙ unloaded) (first.1 ∙ some) first.0)

-- ---- the laws

pub place_within : (mapped : Mapped) (class : ClassId) (places : List RelNo) (place : RelNo) → All (λ (other : RelNo). other.0 < length (relations_of mapped class)) places → list_any (λ (other : RelNo). other.0 == place.0) places ≡ true → place.0 < length (relations_of mapped class)
place_within mapped class places place within asked =
    let found = some_of (λ (other : RelNo). other.0 == place.0) places asked in
    let less = each_has (λ (other : RelNo). other.0 < length (relations_of mapped class)) places found.0 (recursion_from_All (λ (other : RelNo). other.0 < length (relations_of mapped class)) places within) found.1 in
    subst (λ (n : ℕ). n < length (relations_of mapped class)) (eqb-true found.0.0 place.0 found.2) less

-- what holds of the links of an owner once they are filled
module _ (mapped : Mapped) (query : ObjectQuery) (plain joined : List Row) (objects : List ObjId) (w after : World) (row : Row) (place : RelNo) (owner : ObjId) (joining : IsJoining mapped query plain joined w)
    (load : IsLoadedIn mapped query plain joined objects w after joining) (own : IsJoinedOwner mapped query plain w.own.graph after.own.graph row place owner) where
  abbrev own_parts : List Part
  own_parts = parts_of mapped query.class query.joined

  own_within : Has plain row
  own_within = among_has plain row own.among

  own_found : find_identity load.mid.graph (root_of mapped query.class) (row_key mapped query.class row) ≡ Some owner
  own_found = sym (load.leaves.same.found (root_of mapped query.class) (row_key mapped query.class row)) ∙ own.found

  own_of : is_of load.mid.graph mapped query.class owner ≡ true
  own_of = ap (λ (c : ClassId). is_at_or_under mapped c query.class) (sym (load.leaves.same.classes owner)) ∙ own.of

  -- a row of the main select that comes of the owner's row
  own_row : (one : Row) × Has joined one × (own_values mapped query.class one ≡ row)
  own_row =
      let rows = joining.rows in
      let block = from_map (λ (b : Block). b.0) rows.blocks row (subst (λ (rs : List Row). Has rs row) rows.plain_is own_within) in
      let is = each_has (IsBlock mapped query.class (bare w.store.tables) (parts_of mapped query.class query.joined)) rows.blocks block.0 rows.each block.1 in
      let one = row_of_block mapped query.class block.0 is.some is.own in
      (one.0, subst (λ (rs : List Row). Has rs one.0) (sym rows.joined_is) (has_flat (λ (b : Block). b.1) rows.blocks block.0 one.0 block.1 one.1), one.2 ∙ block.2)

  owner_filled : (Is : Graph → Link → Type 0) → ((before later : Graph) (link : Link) → Stays before later → Is before link → Is later link) → ((graph : Graph) (link : Link) → Is graph link → is_unloaded link ≡ false)
      → ((number : ℕ) (part : Part) → slice_get (parts_of mapped query.class query.joined) number ≡ Some part → part.place ≡ place → (now : Loading) → Stays load.mid.graph now.graph → Same load.mid.graph now.graph → IsLink now.graph owner place
      → link_at now.graph owner place ≡ first_link mapped query.class place w.own.graph row
      → Is (link_filled (is_many mapped query.class place) owner place (given_to number load.taken owner) now).graph (link_at (link_filled (is_many mapped query.class place) owner place (given_to number load.taken owner) now).graph owner place))
      → Is after.own.graph (link_at after.own.graph owner place)
  owner_filled Is later loaded fills =
      let class : ClassId = query.class in
      let targets = targets_of mapped class query.joined joining.related joining.class joining.places in
      let mid : Graph = load.mid.graph in
      let less = place_within mapped class query.joined place joining.places own.asked in
      let ready = is_ready mapped joining.has class place less row w.own.graph mid joining.fit load.extends owner own_found own_of in
      let one = own_row in
      let row_found : find_identity mid (root_of mapped class) (row_key mapped class (own_values mapped class one.0)) ≡ Some owner =
      ap (λ (r : Row). find_identity mid (root_of mapped class) (row_key mapped class r)) one.2 ∙ own_found in
      let owners : List ObjId = owners_among mapped class mid objects in
      let there = owners_made mapped joining.has class joining.class own_parts targets mid joined load.taken objects load.extends.rooted load.is load.are in
      let listed = owner_listed mapped joining.has class joining.class own_parts targets mid joined load.taken objects one.0 owner load.is load.are one.1 row_found own_of in
      let made_owner : IsObject mid owner = (found_stands mid (root_of mapped class) (row_key mapped class row) owner load.extends.rooted own_found).0 in
      (options_filled mapped class load.taken owner place (first_link mapped class place w.own.graph row) mid made_owner Is later loaded owners there listed own_parts load.mid after.own fills (asked_of mapped class query.joined place ∙ own.asked) refl
      ready.held ready.waits load.fills).stand

pub joined_fills : (mapped : Mapped) (query : ObjectQuery) (plain joined all : List Row) (answered : List ObjId) (w after : World) (row : Row) (place : RelNo) (owner : ObjId) → IsJoining mapped query plain joined w
    → (relation_of mapped query.class place).many ≡ true → AreRowsOf mapped (relation_of mapped query.class place).target (bare w.store.tables) all → Goes (load_joined mapped query) w answered after
    → IsJoinedOwner mapped query plain w.own.graph after.own.graph row place owner
    → IsFilled mapped (relation_of mapped query.class place) (tied_rows mapped query.class (relation_of mapped query.class place) (bare w.store.tables) all row) (first_link mapped query.class place w.own.graph row) after.own.graph (link_at after.own.graph owner place)
joined_fills mapped query plain joined all answered w after row place owner joining many are g own =
    let load = loaded_in mapped query plain joined answered w after joining g in
    let found = own_found mapped query plain joined answered w after row place owner joining load own in
    let within = own_within mapped query plain joined answered w after row place owner joining load own in
    let Is = IsMany mapped query plain joined answered w after joining load row owner found within all in
    let relation : Relation = relation_of mapped query.class place in
    let old : Link = first_link mapped query.class place w.own.graph row in
    owner_filled mapped query plain joined answered w after row place owner joining load own (Is place)
    (λ before later link stays filled. later_filled mapped relation (tied_rows mapped query.class relation (bare w.store.tables) all row) old link before later stays filled)
    (λ graph link filled. many_loaded old link filled.base own.unloaded filled.link)
    (λ number part at same.
    subst
    (λ (p : RelNo). (relation_of mapped query.class p).many ≡ true → is_unloaded (first_link mapped query.class p w.own.graph row) ≡ true → AreRowsOf mapped (relation_of mapped query.class p).target (bare w.store.tables) all
    → FillsWith mapped query plain joined answered w after joining load row owner found within all Is p number)
    same (fills_many mapped query plain joined answered w after joining load row owner found within all number part at) many own.unloaded are)

-- one that leads so goes on to lead so
led_later : (mapped : Mapped) (relation : Relation) (leads : Bool) (key : List Value) (before later : Graph) (link : Link) → Stays before later → IsLed mapped relation leads key before link → IsLed mapped relation leads key later link
led_later mapped relation leads key before later link stays led =
    record { end = led.end; link = led.link; some = led.some; stands = end_later (root_of mapped relation.target) before later key led.end stays led.stands }

pub joined_leads : (mapped : Mapped) (query : ObjectQuery) (plain joined all : List Row) (answered : List ObjId) (w after : World) (row : Row) (place : RelNo) (owner : ObjId) → IsJoining mapped query plain joined w
    → (relation_of mapped query.class place).many ≡ false → AreRowsOf mapped (relation_of mapped query.class place).target (bare w.store.tables) all → ReferAlike mapped query.class (relation_of mapped query.class place) plain row
    → Goes (load_joined mapped query) w answered after → IsJoinedOwner mapped query plain w.own.graph after.own.graph row place owner
    → IsLed mapped (relation_of mapped query.class place) (has_row mapped (relation_of mapped query.class place).target all (referred_key mapped query.class (relation_of mapped query.class place) row))
    (referred_key mapped query.class (relation_of mapped query.class place) row) after.own.graph (link_at after.own.graph owner place)
joined_leads mapped query plain joined all answered w after row place owner joining one are refers g own =
    let load = loaded_in mapped query plain joined answered w after joining g in
    let found = own_found mapped query plain joined answered w after row place owner joining load own in
    let within = own_within mapped query plain joined answered w after row place owner joining load own in
    let Is = IsOne mapped query plain joined answered w after joining load row owner found within all in
    let relation : Relation = relation_of mapped query.class place in
    let key : List Value = referred_key mapped query.class relation row in
    owner_filled mapped query plain joined answered w after row place owner joining load own (Is place)
    (λ before later link stays led. led_later mapped relation (has_row mapped relation.target all key) key before later link stays led)
    (λ graph link led. ap is_unloaded led.link)
    (λ number part at same.
    subst
    (λ (p : RelNo). (relation_of mapped query.class p).many ≡ false → is_unloaded (first_link mapped query.class p w.own.graph row) ≡ true → AreRowsOf mapped (relation_of mapped query.class p).target (bare w.store.tables) all
    → ReferAlike mapped query.class (relation_of mapped query.class p) plain row → FillsWith mapped query plain joined answered w after joining load row owner found within all Is p number)
    same (fills_one mapped query plain joined answered w after joining load row owner found within all number part at) one own.unloaded are refers)
