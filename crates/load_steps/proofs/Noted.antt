-- What loads fill or make, their notes name.
use Rattle.std.proofs.Common.{◌≡◌, ◌⊎◌, inl, inr, ℕ, ◌+◌, ◌-◌, ◌<◌, ◌≤◌, ◌==◌, nat_lt, Bool, true, false, ◌&&◌, ◌||◌, List, [], ◌∷◌, ◌++◌, length, get_or, map, Option, None, Some, Ok, Err, if◌then◌else◌, is_none, is_some, refl, sym, ap, subst, ◌∙◌, arith}
use Rattle.std.specs.Prelude.{slice_set}
use Rattle.std.specs.List.{enumerate_from, list_any}
use Rattle.std.proofs.lemmas.Bool.{cases_lt, eqb-false, eqb-true}
use Rattle.std.proofs.Math.Seq.{get_or-append_seam}
use Rattle.std.proofs.lemmas.List.{get_or-set_other, get_or_append_left, length-append, length-set}
use Rattle.base_core.specs.declared.ids.AttrNo.{AttrNo}
use Rattle.base_core.specs.declared.ids.ClassId.{ClassId}
use Rattle.base_core.specs.declared.ids.ObjId.{ObjId}
use Rattle.base_core.specs.declared.ids.RelNo.{RelNo}
use Rattle.base_core.specs.declared.refusal.LimitKind.TheVariants.{Objects}
use Rattle.base_core.specs.declared.refusal.Refusal.TheVariants.{LimitReached}
use Rattle.base_core.specs.declared.value.Value.{Value}
use Rattle.class_mapping.specs.Mapped.{IsClass, Mapped, root_of}
use Rattle.mapping_laws.specs.Hierarchies.{HasHierarchies}
use Rattle.keeper_core.specs.declared.notes.Note.{Note}
use Rattle.keeper_core.specs.declared.notes.Note.TheVariants as note
use Rattle.object_arena.specs.declared.object.Cell.{Cell}
use Rattle.object_arena.specs.declared.object.Link.{Link}
use Rattle.object_arena.specs.declared.object.Object.{Object}
use Rattle.object_arena.specs.Graph.{Graph, IsObject, no_object, object_at, object_limit, place_of, with_object}
use Rattle.object_arena.specs.Identity.{find_identity}
use Rattle.load_filling.specs.Filled.{Found, cell_read, filled_cell, filled_object, value_found, with_filled}
use Rattle.load_filling.specs.Loaded.{load, loaded_object, with_loaded}
use Rattle.load_filling.specs.Rows.{class_named, found_or_loaded, loaded_as, row_key, row_object}
use Rattle.load_rows.specs.Loading.{Loading, filled, fills_some, found_in_row, is_to_fill, loading, noted_if, take_row, taken_as}
use Rattle.load_rows.specs.Links.{collection_filled, collection_of, end_filled, end_of, in_key_order, link_at}
use Rattle.load_rows.specs.Links as links
use Rattle.load_calls.specs.Refreshing.{found_among}
use Rattle.loading_laws.proofs.Strategies.Standing.{found_stands, set_related}
use Rattle.load_steps.specs.Noted.{AreNotedSince, IsAsBefore, IsFilledIn}
use Rattle.load_steps.specs.Steps.{AreLoadSteps}

-- ---- notes

noted_more : (object : ObjId) (notes : List Note) (more : Note) → IsFilledIn object notes → IsFilledIn object (notes ++ more ∷ [])
noted_more object [] more is = absurd is
noted_more object (one ∷ notes) more (inl is) = inl is
noted_more object (one ∷ notes) more (inr is) = inr (noted_more object notes more is)

noted_last : (object : ObjId) (notes : List Note) → IsFilledIn object (notes ++ note.Filled object ∷ [])
noted_last object [] = inl refl
noted_last object (one ∷ notes) = inr (noted_last object notes)

same_number : (one other : ObjId) → one.0 ≡ other.0 → one ≡ other
same_number one other e = ap (λ (n : ℕ). let o : ObjId = record { 0 = n } in o) e

-- a number up to the last, which it is not
below_last : (n m : ℕ) → n ≤ m + 1 → (n ≡ m + 1 → ⊥) → n ≤ m
below_last n m less apart = by (cases_lt m n)
  where
    by : (m < n) ⊎ (n ≤ m) → n ≤ m
    by (inl above) = absurd (apart (omega (arith, less, above)))
    by (inr within) = within

-- ---- an object that is put, and noted

-- all but one object are noted since, or as they were
abbrev pub AllBut : ObjId → Graph → Loading → Type 0
AllBut object start own = (other : ObjId) → IsObject own.graph other → (other.0 ≡ object.0 → ⊥) → IsFilledIn other own.notes ⊎ IsAsBefore start own.graph other

pub put_noted : (start : Graph) (object : ObjId) (new : Object) (own : Loading) → IsObject own.graph object → AllBut object start own
    → AreNotedSince start (record { graph = with_object own.graph object new; notes = own.notes ++ note.Filled object ∷ [] })
put_noted start object new own made all = λ other there. by other (other.0 == object.0) refl there
  where
    after : Graph
    after = with_object own.graph object new

    by : (other : ObjId) (b : Bool) → (other.0 == object.0) ≡ b → IsObject after other → IsFilledIn other (own.notes ++ note.Filled object ∷ []) ⊎ IsAsBefore start after other
    by other true is there = inl (subst (λ (o : ObjId). IsFilledIn other (own.notes ++ note.Filled o ∷ [])) (same_number other object (eqb-true other.0 object.0 is)) (noted_last other own.notes))
    by other false is there =
        let long : length (slice_set own.graph.objects (place_of object) new) ≡ length own.graph.objects = length-set own.graph.objects (place_of object) new in
        let inside : IsObject own.graph other = (there.0, omega (arith, long, there.1)) in
        let first : 0 < object.0 = made.0 in
        let second : 0 < other.0 = there.0 in
        let same : object_at after other ≡ object_at own.graph other =
        get_or-set_other own.graph.objects (place_of object) (place_of other) new no_object (λ e. eqb-false other.0 object.0 is (omega (arith, e, first, second))) in
        kept (all other inside (eqb-false other.0 object.0 is)) same
      where
        kept : IsFilledIn other own.notes ⊎ IsAsBefore start own.graph other → object_at after other ≡ object_at own.graph other → IsFilledIn other (own.notes ++ note.Filled object ∷ []) ⊎ IsAsBefore start after other
        kept (inl noted) same = inl (noted_more other own.notes (note.Filled object) noted)
        kept (inr before) same = inr (record { made = before.made; same = same ∙ before.same })

-- ---- cells

any_parts : (a b : Bool) → (a || b) ≡ false → (a ≡ false) × (b ≡ false)
any_parts true b e = absurd cc
any_parts false b e = (refl, e)

-- where none is to fill, the cells stay
cells_stay : (found : Found) (k : ℕ) (cells : List Cell) → list_any (is_to_fill found) (enumerate_from k cells) ≡ false → map (filled_cell found) (enumerate_from k cells) ≡ cells
cells_stay found k [] none = refl
cells_stay found k (cell ∷ cells) none =
    let parts = any_parts (is_to_fill found (k, cell)) (list_any (is_to_fill found) (enumerate_from (k + 1) cells)) none in
    ap (λ (one : Cell). one ∷ map (filled_cell found) (enumerate_from (k + 1) cells)) (by (is_none cell.value) (value_found found k) parts.0)
    ∙ ap (λ (more : List Cell). cell ∷ more) (cells_stay found (k + 1) cells parts.1)
  where
    by : (expired : Bool) (value : Option Value) → (expired && is_some value) ≡ false → (if expired then cell_read cell value else cell) ≡ cell
    by true None e = refl
    by true (Some v) e = absurd cc
    by false value e = refl

object_stays : (found : Found) (object : Object) → fills_some found object ≡ false → filled_object found object ≡ object
object_stays found object none = ap (λ (cells : List Cell). record object { cells = cells }) (cells_stay found 0 object.cells none)

-- an object that is filled, whatever was said of it before where it is noted
filled_noted : (start : Graph) (object : ObjId) (found : Found) (own : Loading) → IsObject own.graph object → AllBut object start own
    → (fills_some found (object_at own.graph object) ≡ false → IsFilledIn object own.notes ⊎ IsAsBefore start own.graph object) → AreNotedSince start (filled object found own)
unfolding filled with_filled
filled_noted start object found own made all itself = by (fills_some found (object_at own.graph object)) refl
  where
    after : Graph
    after = with_object own.graph object (filled_object found (object_at own.graph object))

    by : (b : Bool) → fills_some found (object_at own.graph object) ≡ b → AreNotedSince start (record { graph = after; notes = noted_if b object own.notes })
    by true is = put_noted start object (filled_object found (object_at own.graph object)) own made all
    by false is = λ other there. stays other there (other.0 == object.0) refl
      where
        same : (other : ObjId) → object_at after other ≡ object_at own.graph other
        same other =
            set_related (λ (x y : Object). y ≡ x) own.graph.objects (place_of object) (place_of other) (filled_object found (object_at own.graph object)) no_object (λ x. refl) (object_stays found (object_at own.graph object) is)

        kept : (other : ObjId) → IsFilledIn other own.notes ⊎ IsAsBefore start own.graph other → IsFilledIn other own.notes ⊎ IsAsBefore start after other
        kept other (inl noted) = inl noted
        kept other (inr before) = inr (record { made = before.made; same = same other ∙ before.same })

        stays : (other : ObjId) → IsObject after other → (b : Bool) → (other.0 == object.0) ≡ b → IsFilledIn other own.notes ⊎ IsAsBefore start after other
        stays other there true at = subst (λ (o : ObjId). IsFilledIn o own.notes ⊎ IsAsBefore start after o) (sym (same_number other object (eqb-true other.0 object.0 at))) (kept object (itself is))
        stays other there false at =
            let long : length (slice_set own.graph.objects (place_of object) (filled_object found (object_at own.graph object))) ≡ length own.graph.objects =
            length-set own.graph.objects (place_of object) (filled_object found (object_at own.graph object)) in
            kept other (all other (there.0, omega (arith, long, there.1)) (eqb-false other.0 object.0 at))

-- ---- links

link_noted : (start : Graph) (owner : ObjId) (place : RelNo) (link : Option Link) (own : Loading) → IsObject own.graph owner → AreNotedSince start own → AreNotedSince start (links.with_loaded owner place link own)
link_noted start owner place None own made is = is
link_noted start owner place (Some link) own made is = put_noted start owner (record (object_at own.graph owner) { links = slice_set (object_at own.graph owner).links place.0 link }) own made (λ other there apart. is other there)

-- ---- rows

module _ (mapped : Mapped) (start : Graph) (class : ClassId) (row : List Value) (has : HasHierarchies mapped) (own : Loading) (rooted : length own.graph.roots ≡ length own.graph.objects)
    (fills : (named : ClassId) → class_named mapped class row ≡ Some named → fills_some (found_in_row mapped class row named) (loaded_object mapped named (row_key mapped class row)) ≡ true) (is : AreNotedSince start own) where
  -- the object that is made is the one behind all others
  abbrev next : ObjId
  next = record { 0 = length own.graph.objects + 1 }

  abbrev with_made : ClassId → Graph
  with_made named = with_loaded mapped named (row_key mapped class row) own.graph

  made_noted : (named : ClassId) → class_named mapped class row ≡ Some named → AreNotedSince start (filled next (found_in_row mapped class row (object_at (with_made named) next).class) (loading (with_made named) own.notes))
  made_noted named names =
      let new : Object = loaded_object mapped named (row_key mapped class row) in
      let graph : Graph = with_made named in
      let long : length (own.graph.objects ++ new ∷ []) ≡ length own.graph.objects + 1 = length-append own.graph.objects (new ∷ []) in
      let there : object_at graph next ≡ new = last own.graph.objects new in
      filled_noted start next (found_in_row mapped class row (object_at graph next).class) (loading graph own.notes) (omega arith, omega (arith, long))
      (λ other inside apart.
      let within : other.0 ≤ length own.graph.objects = below_last other.0 (length own.graph.objects) (let bound = inside.1 in omega (arith, long, bound)) apart in
      before other (is other (inside.0, within)) (get_or_append_left own.graph.objects (new ∷ []) no_object (place_of other) (let some = inside.0 in omega (arith, within, some))))
      (λ none. absurd (let never = sym (ap (λ (o : Object). fills_some (found_in_row mapped class row o.class) o) there ∙ fills named names) ∙ none in cc))
    where
      last : (objects : List Object) (new : Object) → get_or (objects ++ new ∷ []) (length objects + 1 - 1) no_object ≡ new
      last objects new = let place : length objects + 1 - 1 ≡ length objects = omega arith in ap (λ (n : ℕ). get_or (objects ++ new ∷ []) n no_object) place ∙ get_or-append_seam objects new [] no_object

      before : (other : ObjId) → IsFilledIn other own.notes ⊎ IsAsBefore start own.graph other → get_or (own.graph.objects ++ loaded_object mapped named (row_key mapped class row) ∷ []) (place_of other) no_object ≡ object_at own.graph other
          → IsFilledIn other own.notes ⊎ IsAsBefore start (with_loaded mapped named (row_key mapped class row) own.graph) other
      before other (inl noted) same = inl noted
      before other (inr was) same = inr (record { made = was.made; same = same ∙ was.same })

  loaded_noted : (named : ClassId) → class_named mapped class row ≡ Some named → (b : Bool)
      → AreNotedSince start (taken_as mapped class row own (if b then Ok (next, with_made named) else Err (LimitReached Objects))).after
  loaded_noted named names true = made_noted named names
  loaded_noted named names false = is

  named_noted : (named : Option ClassId) → class_named mapped class row ≡ named → AreNotedSince start (taken_as mapped class row own (loaded_as mapped (row_key mapped class row) own.graph named)).after
  unfolding load
  named_noted None names = is
  named_noted (Some named) names = loaded_noted named names (nat_lt (length own.graph.objects) object_limit)

  holder_noted : (holder : Option ObjId) → find_identity own.graph (root_of mapped class) (row_key mapped class row) ≡ holder → AreNotedSince start (taken_as mapped class row own (found_or_loaded mapped class row own.graph holder)).after
  holder_noted None here = named_noted (class_named mapped class row) refl
  holder_noted (Some object) here =
      let made : IsObject own.graph object = (found_stands own.graph (root_of mapped class) (row_key mapped class row) object rooted here).0 in
      filled_noted start object (found_in_row mapped class row (object_at own.graph object).class) (loading own.graph own.notes) made (λ other there apart. is other there) (λ none. is object made)

  pub row_noted : AreNotedSince start (take_row mapped class row own).after
  unfolding take_row row_object
  row_noted = holder_noted (find_identity own.graph (root_of mapped class) (row_key mapped class row)) refl

-- ---- the steps

-- a row of a class fills some cell of an object that is made of it
abbrev pub FillsMade : Mapped → (ClassId → List Value → Type 0) → Type 0
FillsMade mapped IsRow =
    (class named : ClassId) (row : List Value) → IsClass mapped class → IsRow class row → class_named mapped class row ≡ Some named → fills_some (found_in_row mapped class row named) (loaded_object mapped named (row_key mapped class row)) ≡ true

pub noted_steps : (mapped : Mapped) (IsRow : ClassId → List Value → Type 0) (IsCells : ClassId → List AttrNo → List Value → List Value → Type 0) (start : Graph) → HasHierarchies mapped → FillsMade mapped IsRow → AreLoadSteps mapped IsRow IsCells (AreNotedSince start)
unfolding collection_filled end_filled
noted_steps mapped IsRow IsCells start has fills = record {
  noted = λ statement own is. λ object there. more own.notes (note.Sent statement) own object (is object there);
  taken = λ class row own declared of arena is. row_noted mapped start class row has own arena.graph.rooted (λ named names. fills class named row declared of names) is;
  filled = λ root object attrs row own found cells arena is. filled_noted start object (found_among (length (object_at own.graph object).cells) attrs row) own found.stands.0 (λ other there apart. is other there) (λ none. is object found.stands.0);
  members = λ relation place owner members own related many child found arena is. link_noted start owner place (collection_of (in_key_order own.graph members) (link_at own.graph owner place)) own child.made is;
  ended = λ relation place owner end own related single child found arena is. link_noted start owner place (end_of end (link_at own.graph owner place)) own child.made is;
}
  where
    more : (notes : List Note) (last : Note) (own : Loading) (object : ObjId) → IsFilledIn object notes ⊎ IsAsBefore start own.graph object → IsFilledIn object (notes ++ last ∷ []) ⊎ IsAsBefore start own.graph object
    more notes last own object (inl noted) = inl (noted_more object notes last noted)
    more notes last own object (inr before) = inr before
