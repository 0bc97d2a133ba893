-- What each link is after one has been set.
use Rattle.std.proofs.Common.{◌≡◌, ℕ, ◌<◌, Bool, true, false, not, ◌&&◌, List, length, get_or, Option, None, Some, Result, Ok, Err, is_none, ◌==◌, refl, sym, ap, subst, ◌∙◌, if◌then◌else◌, arith}
use Rattle.std.specs.Option.{option_map}
use Rattle.std.specs.List.{position, zip}
use Rattle.std.specs.Cmp.Lexicographic.{as_long}
use Rattle.std.proofs.lemmas.Bool.{and_from, eq-eqb, eqb-true}
use Rattle.std.proofs.lemmas.Option.{slice_get-get_or}
use Rattle.base_core.specs.declared.ids.ClassId.{ClassId}
use Rattle.base_core.specs.declared.ids.ObjId.{ObjId}
use Rattle.base_core.specs.declared.ids.RelNo.{RelNo}
use Rattle.base_core.specs.declared.value.Value.{Value}
use Rattle.base_core.specs.declared.refusal.Refusal.{Refusal}
use Rattle.base_core.specs.declared.refusal.Refusal.TheVariants.{InvalidRequestError}
use Rattle.base_core.specs.declared.refusal.RequestKind.TheVariants.{KeyChange}
use Rattle.schema_core.specs.Tables.{has_null}
use Rattle.class_types.specs.declared.mapped.Relation.{Relation}
use Rattle.class_mapping.specs.Mapped.{Mapped, attributes_of, partner_of, relations_of, root_of}
use Rattle.class_sides.specs.Keys.{names_of}
use Rattle.object_arena.specs.declared.object.Link.{Link}
use Rattle.object_arena.specs.declared.object.Link.TheVariants.{Unset, Unloaded, One, Many}
use Rattle.object_arena.specs.Graph.{Graph, IsObject, object_at}
use Rattle.object_arena.specs.Identity.{find_identity, holds, id_of_place}
use Rattle.object_arena.specs.Fit.{IsFit, link_fits}
use Rattle.object_arena.proofs.FitLemmas.{fit_links}
use Rattle.object_arena.proofs.HolderLemmas.{place_holds}
use Rattle.relations.specs.Keys.{IsEnd, changes_key}
use Rattle.relations.specs.declared.calls.LinkCall.{LinkCall}
use Rattle.relations.specs.declared.calls.LinkCall.TheVariants.{Set}
use Rattle.relations.specs.Calls.{changed_by, child_of, end_of, link_change, link_changed, links_by, links_set, set_one, unless_fault}
use Rattle.relations.specs.Mirror.{end_fault, has_orphans, is_of, joined_to, left_behind, link_at, loaded_to, orphan_by, put_as_loaded, put_to_end, set_change, with_change}
use Rattle.relations.specs.Parents.{IsMade, is_expired_in, is_known_as, known_or_not, old_parent, parent_by_cells, parent_by_link, same_end, values_in}
use Rattle.object_parts.specs.Sides.{joined_by, left_by}
use Rattle.relations.specs.declared.change.Change.{Change}
use Rattle.relations.specs.declared.parents.OldParent.{OldParent}
use Rattle.relations.specs.declared.parents.OldParent.TheVariants.{Known, NotKnown}
use Rattle.relations.proofs.EndLemmas.{led_made, roots_long}
use Rattle.session_laws.specs.Links.Links.{Before, LeadsTo, SetKeepsRest, SetMarksOrphans, SetTells, is_link, is_link_of_end, leads_already, link_after_set, link_loaded, old_parent_of, orphan_after_set, parent_left, relation_in, rest_of}
use Rattle.session_laws.proofs.Links.ReadLemmas.{Goes, changed_read, changed_rest, goes_by, mark_over, none_over, over_by, put_over}

-- ---- the change of a link that was found

pub ok_graph : (x y : Graph) → (let one : Result (Unit {0} × Graph) Refusal = Ok (tt, x) in one ≡ Ok (tt, y)) → x ≡ y
ok_graph x y h = ap (λ (p : Unit {0} × Graph). p.1) (inside (tt, x) (tt, y) h)
  where
    inside : (a b : Unit {0} × Graph) → (let one : Result (Unit {0} × Graph) Refusal = Ok a in one ≡ Ok b) → a ≡ b
    inside a b e = cc

pub ok_change : (a b : Change) → (let one : Result Change Refusal = Ok a in one ≡ Ok b) → a ≡ b
ok_change a b e = cc

-- a change that is told unless it is refused
pub told_unless : (b : Bool) (e : Refusal) (told change : Change) → (let answer : Result Change Refusal = if b then Err e else Ok told in answer ≡ Ok change) → change ≡ told
told_unless true e told change h = absurd cc
told_unless false e told change h = sym (ok_change told change h)

changed_ok : (graph : Graph) (child : ObjId) (found : Result Change Refusal) (after : Graph) → changed_by graph child found ≡ Ok (tt, after) → (change : Change) × (found ≡ Ok change) × (after ≡ with_change graph child change)
changed_ok graph child (Err fault) after h = absurd cc
changed_ok graph child (Ok change) after h = (change, refl, sym (ok_graph (with_change graph child change) after h))

fault_ok : (fault : Option Refusal) (found : Result Change Refusal) (change : Change) → unless_fault fault found ≡ Ok change → (fault ≡ None) × (found ≡ Ok change)
fault_ok (Some fault) found change h = absurd cc
fault_ok None found change h = (refl, h)

-- where a link was changed both sides could take part, and the links that changed were put in
pub was_changed : (before : Before) (call : LinkCall) (after : Graph) → link_changed before.graph before.mapped before.object before.place call ≡ Ok (tt, after)
    → (change : Change) × (end_fault before.graph before.mapped before.object (relation_in before).target (end_of call) ≡ None)
    × (links_by before.graph before.mapped before.object before.place (relation_in before) call ≡ Ok change) × (after ≡ with_change before.graph (child_of before.object call) change)
unfolding link_change
was_changed before call after h =
    let found = changed_ok before.graph (child_of before.object call)
    (unless_fault (end_fault before.graph before.mapped before.object (relation_in before).target (end_of call)) (links_by before.graph before.mapped before.object before.place (relation_in before) call)) after h in
    let parts = fault_ok (end_fault before.graph before.mapped before.object (relation_in before).target (end_of call)) (links_by before.graph before.mapped before.object before.place (relation_in before) call) found.0 found.1 in
    (found.0, parts.0, parts.1, found.2)

-- ---- the graph after a link was set

pub links_set_is : (graph : Graph) (mapped : Mapped) (child : ObjId) (place : RelNo) (relation : Relation) (parent : Option ObjId) (change : Change) → links_set graph mapped child place relation parent ≡ Ok change
    → change ≡ set_change graph mapped child place relation (old_parent graph mapped child place relation) parent
unfolding links_set
links_set_is graph mapped child place relation parent change h =
    told_unless (changes_key graph mapped child relation (old_parent graph mapped child place relation) parent) (InvalidRequestError KeyChange)
    (set_change graph mapped child place relation (old_parent graph mapped child place relation) parent) change h

set_is : (before : Before) (parent : Option ObjId) (after : Graph) → set_one before.graph before.mapped before.object before.place parent ≡ Ok (tt, after)
    → after ≡ with_change before.graph before.object (set_change before.graph before.mapped before.object before.place (relation_in before) (old_parent_of before) parent)
set_is before parent after h =
    let was = was_changed before (Set parent) after h in
    was.3 ∙ ap (with_change before.graph before.object) (links_set_is before.graph before.mapped before.object before.place (relation_in before) parent was.0 was.2)

-- ---- the old parent is an object of the graph

found_made : (graph : Graph) (root : ClassId) (key : List Value) → length graph.roots ≡ length graph.objects → IsMade graph (known_or_not (find_identity graph root key))
found_made graph root key long = by (position (holds root key) (zip graph.objects graph.roots)) refl
  where
    by : (place : Option ℕ) → position (holds root key) (zip graph.objects graph.roots) ≡ place → IsMade graph (known_or_not (option_map id_of_place place))
    by None e = tt
    by (Some place) e =
        let less : place < length graph.objects = (place_holds graph.objects graph.roots root key place long e).0 in
        (omega arith, omega (arith, less))

named_made : (graph : Graph) (root : ClassId) (expired null : Bool) (key : List Value) → length graph.roots ≡ length graph.objects
    → IsMade graph (if expired then NotKnown else if null then Known None else known_or_not (find_identity graph root key))
named_made graph root true null key long = tt
named_made graph root false true key long = tt
named_made graph root false false key long = found_made graph root key long

pub old_made : (mapped : Mapped) (graph : Graph) (child : ObjId) (place : RelNo) (relation : Relation) → IsFit mapped graph → IsObject graph child → IsMade graph (old_parent graph mapped child place relation)
unfolding old_parent
old_made mapped graph child place relation fit made = by (link_at graph child place) refl
  where
    by : (link : Option Link) → link_at graph child place ≡ link → IsMade graph (parent_by_link (parent_by_cells graph mapped (object_at graph child) relation) link)
    by None e = tt
    by (Some Unset) e = tt
    by (Some (Unloaded added removed)) e =
        named_made graph (root_of mapped relation.target)
        (is_expired_in (attributes_of mapped (object_at graph child).class) (object_at graph child).cells relation.foreign.0 (names_of mapped.schema.tables relation.foreign))
        (has_null (values_in (attributes_of mapped (object_at graph child).class) (object_at graph child).cells relation.foreign.0 (names_of mapped.schema.tables relation.foreign)))
        (values_in (attributes_of mapped (object_at graph child).class) (object_at graph child).cells relation.foreign.0 (names_of mapped.schema.tables relation.foreign))
        (roots_long mapped graph fit)
    by (Some (One end changed)) e = led_made mapped graph (object_at graph child) place.0 end changed fit (fit_links mapped graph child fit made) e
    by (Some (Many members base)) e = tt

-- ---- the links that a change puts in

module _ (before : Before) where
  abbrev graph : Graph
  graph = before.graph

  abbrev child : ObjId
  child = before.object

  abbrev relation : Relation
  relation = relation_in before

  abbrev joins : Link → Link
  joins link = joined_by link child

  abbrev leaves : Link → Link
  leaves link = left_by link child

  goes_left : (old : OldParent) → IsMade graph old → Goes graph (left_behind graph before.mapped child relation old)
  goes_left NotKnown made = tt
  goes_left (Known None) made = tt
  goes_left (Known (Some old)) made = by (is_of graph before.mapped relation.target old)
    where
      by : (b : Bool) → Goes graph (if b then option_map (λ link. record { object = old; relation = relation.partner; link = left_by link child }) (link_at graph old relation.partner) else None)
      by true = goes_by graph old relation.partner leaves made
      by false = tt

  goes_joined : (parent : Option ObjId) → IsEnd graph parent → Goes graph (joined_to graph child relation parent)
  goes_joined None end = tt
  goes_joined (Some parent) end = goes_by graph parent relation.partner joins end

  over_left : (old : OldParent) (other : ObjId) (next : RelNo)
      → put_over (left_behind graph before.mapped child relation old) other next (link_at graph other next)
      ≡ (if is_link_of_end (parent_left before old) relation.partner other next then option_map leaves (link_at graph other next) else link_at graph other next)
  over_left NotKnown other next = refl
  over_left (Known None) other next = refl
  over_left (Known (Some old)) other next = by (is_of graph before.mapped relation.target old)
    where
      by : (b : Bool) → put_over (if b then option_map (λ link. record { object = old; relation = relation.partner; link = left_by link child }) (link_at graph old relation.partner) else None) other next (link_at graph other next)
          ≡ (if is_link_of_end (if b then Some old else None) relation.partner other next then option_map leaves (link_at graph other next) else link_at graph other next)
      by true = over_by graph old relation.partner leaves other next (link_at graph other next) (λ e. e)
      by false = refl

  over_joined : (parent : Option ObjId) (other : ObjId) (next : RelNo) (under : Option Link) → (link_at graph other next ≡ None → under ≡ None)
      → put_over (joined_to graph child relation parent) other next under ≡ (if is_link_of_end parent relation.partner other next then option_map joins (link_at graph other next) else under)
  over_joined None other next under none = refl
  over_joined (Some parent) other next under none = over_by graph parent relation.partner joins other next under none

  moved : (old : OldParent) (parent : Option ObjId) (other : ObjId) (next : RelNo)
      → put_over (put_to_end graph child before.place parent) other next (put_over (joined_to graph child relation parent) other next (put_over (left_behind graph before.mapped child relation old) other next (link_at graph other next)))
      ≡ (if is_link child before.place other next then option_map (λ link. One parent true) (link_at graph other next)
      else if is_link_of_end parent relation.partner other next then option_map joins (link_at graph other next)
      else if is_link_of_end (parent_left before old) relation.partner other next then option_map leaves (link_at graph other next)
      else link_at graph other next)
  moved old parent other next =
      over_by graph child before.place (λ link. One parent true) other next (put_over (joined_to graph child relation parent) other next (put_over (left_behind graph before.mapped child relation old) other next (link_at graph other next)))
      (λ e. second ∙ none_over (is_link_of_end parent relation.partner other next) (link_at graph other next) _ joins e (none_over (is_link_of_end (parent_left before old) relation.partner other next) (link_at graph other next) (link_at graph other next) leaves e e))
      ∙ ap (λ (link : Option Link). if is_link child before.place other next then option_map (λ link. One parent true) (link_at graph other next) else link) second
    where
      second : put_over (joined_to graph child relation parent) other next (put_over (left_behind graph before.mapped child relation old) other next (link_at graph other next))
          ≡ (if is_link_of_end parent relation.partner other next then option_map joins (link_at graph other next)
          else if is_link_of_end (parent_left before old) relation.partner other next then option_map leaves (link_at graph other next)
          else link_at graph other next)
      second =
          ap (put_over (joined_to graph child relation parent) other next) (over_left old other next)
          ∙ over_joined parent other next (if is_link_of_end (parent_left before old) relation.partner other next then option_map leaves (link_at graph other next) else link_at graph other next)
          (λ e. none_over (is_link_of_end (parent_left before old) relation.partner other next) (link_at graph other next) (link_at graph other next) leaves e e)

  -- the change of a link that leads elsewhere, and of one that leads to the parent already
  abbrev move_to : OldParent → Option ObjId → Change
  move_to old parent = record {
    left = left_behind graph before.mapped child relation old;
    joined = joined_to graph child relation parent;
    own = put_to_end graph child before.place parent;
    orphan = orphan_by (has_orphans (partner_of before.mapped relation)) parent;
  }

  abbrev load : Option ObjId → Change
  load parent = record { left = None; joined = None; own = put_as_loaded graph child before.place parent; orphan = None }

  set_read : (old : OldParent) (parent : Option ObjId) (other : ObjId) (next : RelNo) → IsObject graph child → IsMade graph old → IsEnd graph parent → IsObject graph other → (b : Bool)
      → link_at (with_change graph child (if b then load parent else move_to old parent)) other next
      ≡ (if b then link_loaded before parent other next (link_at graph other next)
      else if is_link child before.place other next then option_map (λ link. One parent true) (link_at graph other next)
      else if is_link_of_end parent relation.partner other next then option_map joins (link_at graph other next)
      else if is_link_of_end (parent_left before old) relation.partner other next then option_map leaves (link_at graph other next)
      else link_at graph other next)
  set_read old parent other next made known end there true =
      changed_read graph child (load parent) other next made tt tt (goes_by graph child before.place (loaded_to parent) made) there
      ∙ over_by graph child before.place (loaded_to parent) other next (link_at graph other next) (λ e. e)
  set_read old parent other next made known end there false =
      changed_read graph child (move_to old parent) other next made (goes_left old known) (goes_joined parent end) (goes_by graph child before.place (λ link. One parent true) made) there
      ∙ moved old parent other next

  -- the graph after the link was set, whether or not it leads there already
  pub set_to_read : (parent : Option ObjId) (after : Graph) (other : ObjId) (next : RelNo) → IsFit before.mapped graph → IsObject graph child → IsEnd graph parent → IsObject graph other
      → after ≡ with_change graph child (set_change graph before.mapped child before.place relation (old_parent_of before) parent)
      → link_at after other next ≡ link_after_set before parent other next
  set_to_read parent after other next fit made end there is =
      ap (λ (g : Graph). link_at g other next) is
      ∙ set_read (old_parent_of before) parent other next made (old_made before.mapped graph child before.place relation fit made) end there (is_known_as (old_parent_of before) parent)

  -- the rest of an object, and its orphan mark
  abbrev Rest : Graph → ObjId → Bool → Type 0
  Rest after other orphan = (rest_of (object_at after other) ≡ rest_of (object_at graph other)) × ((object_at after other).orphan ≡ orphan)

  mark_is : (b orphans same : Bool) (parent : Option ObjId) (orphan : Bool) → mark_over (if b then None else orphan_by orphans parent) same orphan ≡ (if same && (not b && orphans) then is_none parent else orphan)
  mark_is true orphans true parent orphan = refl
  mark_is true orphans false parent orphan = refl
  mark_is false true true parent orphan = refl
  mark_is false true false parent orphan = refl
  mark_is false false true parent orphan = refl
  mark_is false false false parent orphan = refl

  set_rest : (old : OldParent) (parent : Option ObjId) (other : ObjId) → IsObject graph child → IsMade graph old → IsEnd graph parent → IsObject graph other → (b : Bool)
      → Rest (with_change graph child (if b then load parent else move_to old parent)) other
      (if (child.0 == other.0) && (not b && has_orphans (partner_of before.mapped relation)) then is_none parent else (object_at graph other).orphan)
  set_rest old parent other made known end there true =
      let both = changed_rest graph child (load parent) other made tt tt (goes_by graph child before.place (loaded_to parent) made) there in
      (both.0, both.1 ∙ mark_is true (has_orphans (partner_of before.mapped relation)) (child.0 == other.0) parent (object_at graph other).orphan)
  set_rest old parent other made known end there false =
      let both = changed_rest graph child (move_to old parent) other made (goes_left old known) (goes_joined parent end) (goes_by graph child before.place (λ link. One parent true) made) there in
      (both.0, both.1 ∙ mark_is false (has_orphans (partner_of before.mapped relation)) (child.0 == other.0) parent (object_at graph other).orphan)

  pub set_to_rest : (parent : Option ObjId) (after : Graph) (other : ObjId) → IsFit before.mapped graph → IsObject graph child → IsEnd graph parent → IsObject graph other
      → after ≡ with_change graph child (set_change graph before.mapped child before.place relation (old_parent_of before) parent)
      → Rest after other (orphan_after_set before parent other)
  set_to_rest parent after other fit made end there is =
      subst (λ (g : Graph). Rest g other (orphan_after_set before parent other)) (sym is)
      (set_rest (old_parent_of before) parent other made (old_made before.mapped graph child before.place relation fit made) end there (is_known_as (old_parent_of before) parent))

pub set_tells : SetTells
set_tells before parent after is other next there =
    set_to_read before parent after other next is.link.fit is.link.object is.end there (set_is before parent after is.set)

-- ---- what the three links are

-- a link that the object has
pub has_link : (mapped : Mapped) (graph : Graph) (object : ObjId) (place : RelNo) → IsFit mapped graph → IsObject graph object → place.0 < length (relations_of mapped (object_at graph object).class)
    → (link : Link) × (link_at graph object place ≡ Some link)
has_link mapped graph object place fit made less =
    let long : length (relations_of mapped (object_at graph object).class) ≡ length (object_at graph object).links =
    as_long (link_fits mapped graph.roots) (relations_of mapped (object_at graph object).class) (object_at graph object).links (fit_links mapped graph object fit made) in
    let within : place.0 < length (object_at graph object).links = omega (arith, long, less) in
    (get_or (object_at graph object).links place.0 Unset, slice_get-get_or (object_at graph object).links place.0 Unset within)

same_end_is : (one other : Option ObjId) → same_end one other ≡ true → one ≡ other
same_end_is None None h = refl
same_end_is None (Some other) h = absurd cc
same_end_is (Some one) None h = absurd cc
same_end_is (Some one) (Some other) h = ap (λ (n : ℕ). let end : Option ObjId = Some (record { 0 = n }) in end) (eqb-true one.0 other.0 h)

pub is_link_itself : (object : ObjId) (place : RelNo) → is_link object place object place ≡ true
is_link_itself object place = and_from (object.0 == object.0) (place.0 == place.0) (eq-eqb object.0 object.0 refl) (eq-eqb place.0 place.0 refl)

-- a link that is loaded leads to the parent to which it was known to lead
pub loaded_leads : (by_cells : OldParent) (parent : Option ObjId) (link : Link) → is_known_as (parent_by_link by_cells (Some link)) parent ≡ true → LeadsTo (Some (loaded_to parent link)) parent
loaded_leads by_cells parent Unset known = (false, refl)
loaded_leads by_cells parent (Unloaded added removed) known = (false, refl)
loaded_leads by_cells parent (One end changed) known = (changed, ap (λ (o : Option ObjId). Some (One o changed)) (same_end_is end parent known))
loaded_leads by_cells parent (Many members base) known = (false, refl)

pub known_by : (before : Before) (parent : Option ObjId) (link : Link) → link_at before.graph before.object before.place ≡ Some link → leads_already before parent ≡ true
    → is_known_as (parent_by_link (parent_by_cells before.graph before.mapped (object_at before.graph before.object) (relation_in before)) (Some link)) parent ≡ true
unfolding old_parent
known_by before parent link at known =
    ap (λ (o : Option Link). is_known_as (parent_by_link (parent_by_cells before.graph before.mapped (object_at before.graph before.object) (relation_in before)) o) parent) (sym at) ∙ known

-- ---- what stays

pub set_keeps_rest : SetKeepsRest
set_keeps_rest before parent after is other there = (set_to_rest before parent after other is.link.fit is.link.object is.end there (set_is before parent after is.set)).0

pub set_marks_orphans : SetMarksOrphans
set_marks_orphans before parent after is other there = (set_to_rest before parent after other is.link.fit is.link.object is.end there (set_is before parent after is.set)).1
