-- What a read of cells or of a link makes known of an object.
use Rattle.std.proofs.Common.{◌≡◌, ◌⊎◌, inl, inr, ℕ, zero, suc, ◌+◌, ◌<◌, ◌≤◌, ◌==◌, Bool, true, false, ◌&&◌, List, [], ◌∷◌, length, map, filter, cond, get_or, Option, None, Some, if◌then◌else◌, is_none, is_some, refl, sym, ap, subst, ◌∙◌, arith}
use Rattle.std.specs.Prelude.{slice_get, slice_index_or}
use Rattle.std.specs.List.{AllByRecursion, enumerate_from, list_all, range_with_len}
use Rattle.std.specs.Option.{option_and_then, option_map}
use Rattle.std.proofs.lemmas.Bool.{and_from, eq-eqb}
use Rattle.std.proofs.lemmas.Iterator.Adapters.{position_from-zero}
use Rattle.std.proofs.lemmas.List.FromFn.{get_or-range_with_len, length-range_with_len}
use Rattle.std.proofs.lemmas.Option.{slice_get-get_or, slice_get-map, slice_get_within}
use Rattle.base_core.specs.declared.ids.AttrNo.{AttrNo}
use Rattle.base_core.specs.declared.ids.ObjId.{ObjId}
use Rattle.base_core.specs.declared.ids.RelNo.{RelNo}
use Rattle.base_core.specs.declared.value.Value.{Value}
use Rattle.base_core.specs.declared.value.Value.TheVariants.{Null}
use Rattle.class_types.specs.declared.mapped.Relation.{Relation}
use Rattle.class_mapping.specs.Mapped.{Mapped}
use Rattle.class_mapping.proofs.Having.{Has, from_numbered, has_filter, has_map}
use Rattle.object_arena.specs.declared.object.Cell.{Cell}
use Rattle.object_arena.specs.declared.object.Link.{Link}
use Rattle.object_arena.specs.declared.object.Link.TheVariants.{Unset, Unloaded, One, Many}
use Rattle.object_arena.specs.declared.object.Object.{Object}
use Rattle.object_arena.specs.Graph.{Graph, IsObject, expired_cell, no_object, object_at, place_of, with_link}
use Rattle.object_arena.proofs.TurnLemmas.{at_with}
use Rattle.object_parts.specs.Links.{is_unloaded}
use Rattle.keeper_core.specs.Beside.{changes, on_own}
use Rattle.prepared_objects.specs.Known.{is_known}
use Rattle.load_filling.specs.Filled.{Found, cell_read, filled_cell, filled_object, value_found, value_or_none, with_filled}
use Rattle.load_rows.specs.Loading.{Loading, filled}
use Rattle.load_rows.specs.Links.{collection_filled, collection_of, end_filled, end_of, in_key_order, link_at, linked, with_loaded}
use Rattle.load_calls.specs.Collections.{load_collection, read_members, take_members, take_rows}
use Rattle.load_calls.specs.Reading.{World}
use Rattle.load_calls.specs.Refreshing.{attr_of, expired_attrs, found_among, found_at, is_expired, take_cells}
use Rattle.load_targets.specs.Targets.{load_by, load_end, load_lazy, load_target, read_target, refresh_key}
use Rattle.load_preparing.specs.Preparing.{reread_cell}
use Rattle.loading_laws.specs.Strategies.Filled.{Goes}
use Rattle.loading_laws.proofs.Strategies.Goes.{by_own_goes, changed_to, parted}
use Rattle.loading_laws.proofs.Strategies.Standing.{link_put}
use Rattle.object_arena.specs.Fit.{relation_of}
use Rattle.preparing_laws.proofs.Counting.{place_found}

-- ---- cells

-- it is known, or is to be read
abbrev pub IsSettled : Cell → Type 0
IsSettled cell = (is_none cell.value ≡ true) ⊎ (is_known cell ≡ true)

cell_settled : (cell : Cell) → IsSettled (reread_cell cell)
cell_settled cell = by cell.base cell.value refl refl
  where
    by : (base value : Option Value) → cell.base ≡ base → cell.value ≡ value → IsSettled (if is_none base then expired_cell else cell)
    by None value b v = inl refl
    by (Some known) None b v = inl (ap is_none v)
    by (Some known) (Some held) b v = inr (and_from (is_some cell.value) (is_some cell.base) (ap is_some v) (ap is_some b))

pub cells_settled : (cells : List Cell) → AllByRecursion IsSettled (map reread_cell cells)
cells_settled [] = tt
cells_settled (cell ∷ cells) = (cell_settled cell, cells_settled cells)

-- where none is to be read, all are known
pub none_expired : (n : ℕ) (cells : List Cell) → map attr_of (filter is_expired (enumerate_from n cells)) ≡ [] → AllByRecursion IsSettled cells → list_all is_known cells ≡ true
none_expired n [] none all = refl
none_expired n (cell ∷ cells) none all = by (is_none cell.value) refl none all.0 (λ more. none_expired (n + 1) cells more all.1)
  where
    rest : List (ℕ × Cell)
    rest = filter is_expired (enumerate_from (n + 1) cells)

    by : (b : Bool) → is_none cell.value ≡ b → map attr_of (cond b ((n, cell) ∷ rest) rest) ≡ [] → IsSettled cell → (map attr_of rest ≡ [] → list_all is_known cells ≡ true) → (is_known cell && list_all is_known cells) ≡ true
    by true e none s more = absurd cc
    by false e none (inl waits) more = absurd (let never : true ≡ false = sym waits ∙ e in cc)
    by false e none (inr known) more = and_from (is_known cell) (list_all is_known cells) known (more none)

fill_known : (found : Found) (placed : ℕ × Cell) → IsSettled placed.1 → (is_none placed.1.value ≡ true → is_some (value_found found placed.0) ≡ true) → is_known (filled_cell found placed) ≡ true
fill_known found placed settled has = by (is_none placed.1.value) refl settled
  where
    read : (value : Option Value) → is_some value ≡ true → is_known (cell_read placed.1 value) ≡ true
    read None is = absurd cc
    read (Some held) is = refl

    by : (b : Bool) → is_none placed.1.value ≡ b → IsSettled placed.1 → is_known (if b then cell_read placed.1 (value_found found placed.0) else placed.1) ≡ true
    by true e s = read (value_found found placed.0) (has e)
    by false e (inl none) = absurd (let never : true ≡ false = sym none ∙ e in cc)
    by false e (inr known) = known

all_filled : (found : Found) (n : ℕ) (cells : List Cell) → AllByRecursion IsSettled cells
    → ((placed : ℕ × Cell) → Has (enumerate_from n cells) placed → is_none placed.1.value ≡ true → is_some (value_found found placed.0) ≡ true)
    → list_all is_known (map (filled_cell found) (enumerate_from n cells)) ≡ true
all_filled found n [] all has = refl
all_filled found n (cell ∷ cells) all has =
    and_from (is_known (filled_cell found (n, cell))) (list_all is_known (map (filled_cell found) (enumerate_from (n + 1) cells)))
    (fill_known found (n, cell) all.0 (has (n, cell) (inl refl))) (all_filled found (n + 1) cells all.1 (λ placed there. has placed (inr there)))

-- what was found of one of the attributes is what the row has at its place
found_here : (count : ℕ) (attrs : List AttrNo) (row : List Value) (place : ℕ) → place < count → value_found (found_among count attrs row) place ≡ found_at attrs row place
found_here count attrs row place less =
    let long = length-range_with_len 0 count in
    let first = slice_get-get_or (range_with_len 0 count) place 0 (omega (arith, less, long)) in
    let value = get_or-range_with_len 0 count place 0 less in
    let same : get_or (range_with_len 0 count) place 0 ≡ place = omega (arith, value) in
    ap value_or_none (slice_get-map (found_at attrs row) (range_with_len 0 count) place ∙ ap (option_map (found_at attrs row)) (first ∙ ap (λ (n : ℕ). Some n) same))

found_wide : (attrs : List AttrNo) (row : List Value) (attr : AttrNo) → Has attrs attr → length attrs ≤ length row → is_some (found_at attrs row attr.0) ≡ true
found_wide attrs row attr there wide =
    let test : AttrNo → Bool = λ one. one.0 == attr.0 in
    let found = place_found test 0 attrs attr there (eq-eqb attr.0 attr.0 refl) in
    let less : found.0 < length row = let first = found.2 in omega (arith, first, wide) in
    ap (λ (place : Option ℕ). is_some (option_and_then (slice_get row) place)) (position_from-zero test attrs ∙ found.1) ∙ ap is_some (slice_get-get_or row found.0 Null less)

-- the row that is read has a value for each cell that is to be read
pub take_known : (object : ObjId) (attrs : List AttrNo) (rows : List (List Value)) (own now : Loading) (u : Unit {0}) → IsObject own.graph object → AllByRecursion IsSettled (object_at own.graph object).cells
    → expired_attrs (object_at own.graph object) ≡ attrs → AllByRecursion (λ (row : List Value). length attrs ≤ length row) rows → Goes (take_cells object attrs rows) own u now → list_all is_known (object_at now.graph object).cells ≡ true
unfolding take_cells filled with_filled
take_known object attrs [] own now u made settled is wide g = absurd (let no = g.answer in cc)
take_known object attrs (row ∷ rows) own now u made settled is wide g =
    let known : list_all is_known (filled_object found old).cells ≡ true = all_filled found 0 old.cells settled has in
    subst (λ (l : Loading). list_all is_known (object_at l.graph object).cells ≡ true) g.leaves (ap (λ (o : Object). list_all is_known o.cells) (at_with own.graph object (filled_object found old) made) ∙ known)
  where
    old : Object
    old = object_at own.graph object

    found : Found
    found = found_among (length old.cells) attrs row

    has : (placed : ℕ × Cell) → Has (enumerate_from 0 old.cells) placed → is_none placed.1.value ≡ true → is_some (value_found found placed.0) ≡ true
    has placed there none =
        let at = from_numbered 0 old.cells placed there in
        let within = slice_get_within old.cells at.0 placed.1 at.2 in
        let number = at.1 in
        let less : placed.0 < length old.cells = omega (arith, within, number) in
        let asked : Has attrs (attr_of placed) = subst (λ (all : List AttrNo). Has all (attr_of placed)) is (has_map attr_of (filter is_expired (enumerate_from 0 old.cells)) placed (has_filter is_expired (enumerate_from 0 old.cells) placed there none)) in
        ap is_some (found_here (length old.cells) attrs row placed.0 less) ∙ found_wide attrs row (attr_of placed) asked wide.0

-- ---- links

-- what is unloaded is there
link_there : (links : List Link) (n : ℕ) → is_unloaded (slice_index_or links n Unset) ≡ true → n < length links
link_there [] n h = absurd cc
link_there (link ∷ links) zero h = omega arith
link_there (link ∷ links) (suc n) h = let rest = link_there links n h in omega (arith, rest)

object_there : (objects : List Object) (i n : ℕ) → is_unloaded (slice_index_or (slice_index_or objects i no_object).links n Unset) ≡ true → i < length objects
object_there [] i n h = absurd cc
object_there (object ∷ objects) zero n h = omega arith
object_there (object ∷ objects) (suc i) n h = let rest = object_there objects i n h in omega (arith, rest)

put_loaded : (graph : Graph) (owner : ObjId) (place : RelNo) (link : Link) → 0 < owner.0 → is_unloaded (link_at graph owner place) ≡ true → is_unloaded link ≡ false → is_unloaded (link_at (with_link graph owner place link) owner place) ≡ false
put_loaded graph owner place link first waits loaded =
    let less = object_there graph.objects (place_of owner) place.0 waits in
    let last : owner.0 ≤ length graph.objects = omega (arith, less, first) in
    ap is_unloaded (link_put graph owner place link (first, last) (link_there (object_at graph owner).links place.0 waits)) ∙ loaded

collection_loaded : (owner : ObjId) (place : RelNo) (members : List ObjId) (own : Loading) → 0 < owner.0 → is_unloaded (link_at (collection_filled owner place members own).graph owner place) ≡ false
unfolding collection_filled
collection_loaded owner place members own first = by (link_at own.graph owner place) refl
  where
    read : List ObjId
    read = in_key_order own.graph members

    by : (link : Link) → link_at own.graph owner place ≡ link → is_unloaded (link_at (with_loaded owner place (collection_of read link) own).graph owner place) ≡ false
    by Unset e = ap is_unloaded e
    by (Unloaded added removed) e = put_loaded own.graph owner place (Many (linked added removed read) read) first (ap is_unloaded e) refl
    by (One end changed) e = ap is_unloaded e
    by (Many all base) e = ap is_unloaded e

end_loaded : (owner : ObjId) (place : RelNo) (end : Option ObjId) (own : Loading) → 0 < owner.0 → is_unloaded (link_at (end_filled owner place end own).graph owner place) ≡ false
unfolding end_filled
end_loaded owner place end own first = by (link_at own.graph owner place) refl
  where
    by : (link : Link) → link_at own.graph owner place ≡ link → is_unloaded (link_at (with_loaded owner place (end_of end link) own).graph owner place) ≡ false
    by Unset e = ap is_unloaded e
    by (Unloaded added removed) e = put_loaded own.graph owner place (One end false) first (ap is_unloaded e) refl
    by (One other changed) e = ap is_unloaded e
    by (Many all base) e = ap is_unloaded e

-- a link that was read is loaded
pub lazy_loaded : (mapped : Mapped) (object : ObjId) (place : RelNo) (w v : World) (u : Unit {0}) → 0 < object.0 → Goes (load_lazy mapped object place) w u v → is_unloaded (link_at v.own.graph object place) ≡ false
unfolding load_lazy load_collection load_target
lazy_loaded mapped object place w v u first g = by relation.many (by_own_goes (λ (own : Loading). load_by mapped (relation_of mapped (object_at own.graph object).class place) object place) w u v g)
  where
    relation : Relation
    relation = relation_of mapped (object_at w.own.graph object).class place

    by : (b : Bool) → Goes (if b then load_collection mapped relation object place else load_target mapped relation object place) w u v → is_unloaded (link_at v.own.graph object place) ≡ false
    by true go =
        let one = parted (read_members mapped relation object) (λ (rows : List (List Value)). take_members mapped relation object place rows) w u v go in
        let two = parted (on_own (take_rows mapped relation.target one.value)) (λ (members : List ObjId). changes (collection_filled object place members)) one.between u v one.second in
        let read : Loading = collection_filled object place two.value two.between.own in
        subst (λ (x : World). is_unloaded (link_at x.own.graph object place) ≡ false) {x = record { own = read; store = two.between.store }} (changed_to (collection_filled object place two.value) two.between u v two.second)
        (collection_loaded object place two.value two.between.own first)
    by false go =
        let one = parted (refresh_key mapped relation object) (load_end mapped relation object place) w u v go in
        let two = parted (read_target mapped relation object) (λ (end : Option ObjId). changes (end_filled object place end)) one.between u v one.second in
        let led : Loading = end_filled object place two.value two.between.own in
        subst (λ (x : World). is_unloaded (link_at x.own.graph object place) ≡ false) {x = record { own = led; store = two.between.store }} (changed_to (end_filled object place two.value) two.between u v two.second)
        (end_loaded object place two.value two.between.own first)
