-- The links that are read after links were put in.
use Rattle.std.proofs.Common.{◌≡◌, ◌≢◌, ℕ, ◌-◌, ◌<◌, ◌≤◌, Bool, true, false, ◌&&◌, List, length, get_or, Option, None, Some, is_some, ◌==◌, refl, sym, ap, ◌∙◌, ⊎_elim, if◌then◌else◌, arith}
use Rattle.std.specs.Prelude.{slice_get, slice_set}
use Rattle.std.specs.Option.{option_map}
use Rattle.std.proofs.lemmas.Bool.{and_parts, cases_lt, eq-eqb, eqb-true}
use Rattle.std.proofs.lemmas.List.{get_or-set_other, get_or-set_same, length-set}
use Rattle.std.proofs.lemmas.Option.{slice_get-get_or, slice_get_past}
use Rattle.base_core.specs.declared.ids.ObjId.{ObjId}
use Rattle.base_core.specs.declared.ids.RelNo.{RelNo}
use Rattle.class_mapping.proofs.Having.{true_false}
use Rattle.object_arena.specs.declared.object.Link.{Link}
use Rattle.object_arena.specs.declared.object.Object.{Object}
use Rattle.object_arena.specs.Graph.{Graph, IsObject, no_object, object_at, place_of, with_link, with_marks, with_object}
use Rattle.relations.specs.Mirror.{link_at, put_of, with_change, with_orphan, with_put}
use Rattle.relations.specs.declared.change.Change.{Change}
use Rattle.relations.specs.declared.change.LinkPut.{LinkPut}
use Rattle.session_laws.specs.Links.Links.{is_link, rest_of}

-- ---- one item of a list

differ_from : (a b : ℕ) → (a == b) ≡ false → b ≢ a
differ_from a b h e = true_false (a == b) (eq-eqb a b (sym e)) h

get_set : {A : Type 0} (xs : List A) (n : ℕ) (x : A) → n < length xs → slice_get (slice_set xs n x) n ≡ Some x
get_set xs n x less =
    let long : length (slice_set xs n x) ≡ length xs = length-set xs n x in
    let within : n < length (slice_set xs n x) = rw long less in
    slice_get-get_or (slice_set xs n x) n x within ∙ ap (λ y. Some y) (get_or-set_same xs n x x less)

get_other : {A : Type 0} (xs : List A) (n m : ℕ) (x : A) → m ≢ n → slice_get (slice_set xs n x) m ≡ slice_get xs m
get_other xs n m x other =
    let long : length (slice_set xs n x) ≡ length xs = length-set xs n x in
    ⊎_elim
    (λ (less : m < length xs).
    let within : m < length (slice_set xs n x) = rw long less in
    slice_get-get_or (slice_set xs n x) m x within ∙ ap (λ y. Some y) (get_or-set_other xs n m x x other) ∙ sym (slice_get-get_or xs m x less))
    (λ (past : length xs ≤ m).
    let beyond : length (slice_set xs n x) ≤ m = rw long past in
    slice_get_past (slice_set xs n x) m beyond ∙ sym (slice_get_past xs m past))
    (cases_lt m (length xs))

-- ---- one object

-- two numbers of objects are of one place only where they are one
apart : (o other : ObjId) → 0 < o.0 → 0 < other.0 → (o.0 == other.0) ≡ false → place_of other ≢ place_of o
apart o other above positive h e =
    let same : other.0 - 1 ≡ o.0 - 1 = e in
    differ_from o.0 other.0 h (omega (arith, same, above, positive))

object_set : (g : Graph) (o other : ObjId) (new : Object) → IsObject g o → (o.0 == other.0) ≡ true → object_at (with_object g o new) other ≡ new
object_set g o other new made same =
    let above : 0 < o.0 = made.0 in
    let inside : o.0 ≤ length g.objects = made.1 in
    ap (λ (n : ℕ). get_or (slice_set g.objects (place_of o) new) (n - 1) no_object) (sym (eqb-true o.0 other.0 same))
    ∙ get_or-set_same g.objects (place_of o) new no_object (omega arith)

object_kept : (g : Graph) (o other : ObjId) (new : Object) → IsObject g o → IsObject g other → (o.0 == other.0) ≡ false → object_at (with_object g o new) other ≡ object_at g other
object_kept g o other new made there differ = get_or-set_other g.objects (place_of o) (place_of other) new no_object (apart o other made.0 there.0 differ)

pub one_object : (g : Graph) (o other : ObjId) → (o.0 == other.0) ≡ true → object_at g o ≡ object_at g other
one_object g o other same = ap (λ (n : ℕ). get_or g.objects (n - 1) no_object) (eqb-true o.0 other.0 same)

made_still : (g : Graph) (o x : ObjId) (new : Object) → IsObject g x → IsObject (with_object g o new) x
made_still g o x new there =
    let long : length (slice_set g.objects (place_of o) new) ≡ length g.objects = length-set g.objects (place_of o) new in
    (there.0, rw long there.1)

-- ---- one link

some_within : (links : List Link) (n : ℕ) → is_some (slice_get links n) ≡ true → n < length links
some_within links n h =
    ⊎_elim
    (λ (less : n < length links). less)
    (λ (past : length links ≤ n). true_false (is_some (slice_get links n)) h (ap (λ (o : Option Link). is_some o) (slice_get_past links n past)))
    (cases_lt n (length links))

link_put : (g : Graph) (o : ObjId) (p : RelNo) (l : Link) (other : ObjId) (next : RelNo) → IsObject g o → is_some (link_at g o p) ≡ true → IsObject g other
    → link_at (with_link g o p l) other next ≡ (if is_link o p other next then Some l else link_at g other next)
link_put g o p l other next made has there = by (o.0 == other.0) refl (p.0 == next.0) refl
  where
    new : Object
    new = record (object_at g o) { links = slice_set (object_at g o).links p.0 l }

    by : (b : Bool) → (o.0 == other.0) ≡ b → (c : Bool) → (p.0 == next.0) ≡ c
        → slice_get (object_at (with_object g o new) other).links next.0 ≡ (if b && c then Some l else link_at g other next)
    by true same true at =
        ap (λ (x : Object). slice_get x.links next.0) (object_set g o other new made same)
        ∙ ap (λ (n : ℕ). slice_get (slice_set (object_at g o).links p.0 l) n) (sym (eqb-true p.0 next.0 at))
        ∙ get_set (object_at g o).links p.0 l (some_within (object_at g o).links p.0 has)
    by true same false at =
        ap (λ (x : Object). slice_get x.links next.0) (object_set g o other new made same)
        ∙ get_other (object_at g o).links p.0 next.0 l (differ_from p.0 next.0 at)
        ∙ ap (λ (x : Object). slice_get x.links next.0) (one_object g o other same)
    by false differ c at = ap (λ (x : Object). slice_get x.links next.0) (object_kept g o other new made there differ)

link_marked : (g : Graph) (o : ObjId) (added : ℕ) (marked orphan : Bool) (other : ObjId) (next : RelNo) → IsObject g o → IsObject g other → link_at (with_marks g o added marked orphan) other next ≡ link_at g other next
link_marked g o added marked orphan other next made there = by (o.0 == other.0) refl
  where
    new : Object
    new = record (object_at g o) { added = added; marked = marked; orphan = orphan }

    by : (b : Bool) → (o.0 == other.0) ≡ b → slice_get (object_at (with_object g o new) other).links next.0 ≡ link_at g other next
    by true same =
        ap (λ (x : Object). slice_get x.links next.0) (object_set g o other new made same)
        ∙ ap (λ (x : Object). slice_get x.links next.0) (one_object g o other same)
    by false differ = ap (λ (x : Object). slice_get x.links next.0) (object_kept g o other new made there differ)

-- ---- links that are put in

-- the link is put at the place of one that is there
abbrev pub Goes : Graph → Option LinkPut → Type 0
Goes graph None = Unit {0}
Goes graph (Some put) = IsObject graph put.object × (is_some (link_at graph put.object put.relation) ≡ true)

-- a link where another one is put over it
abbrev pub put_over : Option LinkPut → ObjId → RelNo → Option Link → Option Link
put_over None other next link = link
put_over (Some put) other next link = if is_link put.object put.relation other next then Some put.link else link

put_read : (g : Graph) (put : Option LinkPut) (other : ObjId) (next : RelNo) → Goes g put → IsObject g other → link_at (with_put g put) other next ≡ put_over put other next (link_at g other next)
put_read g None other next goes there = refl
put_read g (Some put) other next goes there = link_put g put.object put.relation put.link other next goes.0 goes.1 there

pub put_made : (g : Graph) (put : Option LinkPut) (x : ObjId) → IsObject g x → IsObject (with_put g put) x
put_made g None x there = there
put_made g (Some put) x there = made_still g put.object x (record (object_at g put.object) { links = slice_set (object_at g put.object).links put.relation.0 put.link }) there

over_some : (put : Option LinkPut) (other : ObjId) (next : RelNo) (link : Option Link) → is_some link ≡ true → is_some (put_over put other next link) ≡ true
over_some None other next link h = h
over_some (Some put) other next link h = by (is_link put.object put.relation other next)
  where
    by : (b : Bool) → is_some (if b then Some put.link else link) ≡ true
    by true = refl
    by false = h

goes_on : (g : Graph) (first second : Option LinkPut) → Goes g first → Goes g second → Goes (with_put g first) second
goes_on g first None a b = tt
goes_on g first (Some put) a b = (
  put_made g first put.object b.0,
  ap (λ (o : Option Link). is_some o) (put_read g first put.object put.relation a b.0) ∙ over_some first put.object put.relation (link_at g put.object put.relation) b.1,
)

orphan_read : (g : Graph) (child : ObjId) (orphan : Option Bool) (other : ObjId) (next : RelNo) → IsObject g child → IsObject g other → link_at (with_orphan g child orphan) other next ≡ link_at g other next
orphan_read g child None other next made there = refl
orphan_read g child (Some orphan) other next made there = link_marked g child (object_at g child).added (object_at g child).marked orphan other next made there

pub orphan_made : (g : Graph) (child : ObjId) (orphan : Option Bool) (x : ObjId) → IsObject g x → IsObject (with_orphan g child orphan) x
orphan_made g child None x there = there
orphan_made g child (Some orphan) x there =
    made_still g child x (record (object_at g child) { added = (object_at g child).added; marked = (object_at g child).marked; orphan = orphan }) there

orphan_goes : (g : Graph) (child : ObjId) (orphan : Option Bool) (put : Option LinkPut) → IsObject g child → Goes g put → Goes (with_orphan g child orphan) put
orphan_goes g child orphan None made goes = tt
orphan_goes g child orphan (Some put) made goes = (
  orphan_made g child orphan put.object goes.0,
  ap (λ (o : Option Link). is_some o) (orphan_read g child orphan put.object put.relation made goes.0) ∙ goes.1,
)

-- the link of an object after a change
pub changed_read : (g : Graph) (child : ObjId) (change : Change) (other : ObjId) (next : RelNo) → IsObject g child → Goes g change.left → Goes g change.joined → Goes g change.own → IsObject g other
    → link_at (with_change g child change) other next ≡ put_over change.own other next (put_over change.joined other next (put_over change.left other next (link_at g other next)))
unfolding with_change
changed_read g child change other next made left joined own there =
    let one : Graph = with_orphan g child change.orphan in
    let two : Graph = with_put one change.left in
    let three : Graph = with_put two change.joined in
    let there_one : IsObject one other = orphan_made g child change.orphan other there in
    let there_two : IsObject two other = put_made one change.left other there_one in
    let left_one : Goes one change.left = orphan_goes g child change.orphan change.left made left in
    let joined_two : Goes two change.joined = goes_on one change.left change.joined left_one (orphan_goes g child change.orphan change.joined made joined) in
    let own_two : Goes two change.own = goes_on one change.left change.own left_one (orphan_goes g child change.orphan change.own made own) in
    put_read three change.own other next (goes_on two change.joined change.own joined_two own_two) (put_made two change.joined other there_two)
    ∙ ap (put_over change.own other next)
    (put_read two change.joined other next joined_two there_two
    ∙ ap (put_over change.joined other next) (put_read one change.left other next left_one there_one ∙ ap (put_over change.left other next) (orphan_read g child change.orphan other next made there)))

-- ---- links that are put over those that are there

-- a link of an object, changed
abbrev pub put_by : Graph → ObjId → RelNo → (Link → Link) → Option LinkPut
put_by graph owner place change = option_map (λ link. put_of owner place (change link)) (link_at graph owner place)

pub goes_by : (graph : Graph) (owner : ObjId) (place : RelNo) (change : Link → Link) → IsObject graph owner → Goes graph (put_by graph owner place change)
goes_by graph owner place change made = by (link_at graph owner place) refl
  where
    by : (link : Option Link) → link_at graph owner place ≡ link → Goes graph (option_map (λ link. put_of owner place (change link)) link)
    by None e = tt
    by (Some link) e = (made, ap (λ (o : Option Link). is_some o) e)

pub same_link : (graph : Graph) (owner : ObjId) (place : RelNo) (other : ObjId) (next : RelNo) → is_link owner place other next ≡ true → link_at graph other next ≡ link_at graph owner place
same_link graph owner place other next h =
    let parts = and_parts (owner.0 == other.0) (place.0 == next.0) h in
    ap (λ (x : Object). slice_get x.links next.0) (sym (one_object graph owner other parts.0))
    ∙ ap (λ (n : ℕ). slice_get (object_at graph owner).links n) (sym (eqb-true place.0 next.0 parts.1))

pub over_by : (graph : Graph) (owner : ObjId) (place : RelNo) (change : Link → Link) (other : ObjId) (next : RelNo) (under : Option Link) → (link_at graph other next ≡ None → under ≡ None)
    → put_over (put_by graph owner place change) other next under ≡ (if is_link owner place other next then option_map change (link_at graph other next) else under)
over_by graph owner place change other next under none = by (is_link owner place other next) refl (link_at graph owner place) refl
  where
    by : (b : Bool) → is_link owner place other next ≡ b → (link : Option Link) → link_at graph owner place ≡ link
        → put_over (option_map (λ link. put_of owner place (change link)) link) other next under ≡ (if b then option_map change (link_at graph other next) else under)
    by true e None at =
        let here : link_at graph other next ≡ None = same_link graph owner place other next e ∙ at in
        none here ∙ sym (ap (option_map change) here)
    by false e None at = refl
    by true e (Some link) at =
        let here : link_at graph other next ≡ Some link = same_link graph owner place other next e ∙ at in
        ap (λ (c : Bool). if c then Some (change link) else under) e ∙ sym (ap (option_map change) here)
    by false e (Some link) at = ap (λ (c : Bool). if c then Some (change link) else under) e

-- what is put over no link is none
pub none_over : (b : Bool) (link under : Option Link) (change : Link → Link) → link ≡ None → under ≡ None → (if b then option_map change link else under) ≡ None
none_over true link under change e g = ap (option_map change) e
none_over false link under change e g = g

-- ---- the rest of an object

put_rest : (g : Graph) (put : Option LinkPut) (other : ObjId) → Goes g put → IsObject g other → rest_of (object_at (with_put g put) other) ≡ rest_of (object_at g other)
put_rest g None other goes there = refl
put_rest g (Some put) other goes there = by (put.object.0 == other.0) refl
  where
    new : Object
    new = record (object_at g put.object) { links = slice_set (object_at g put.object).links put.relation.0 put.link }

    by : (b : Bool) → (put.object.0 == other.0) ≡ b → rest_of (object_at (with_object g put.object new) other) ≡ rest_of (object_at g other)
    by true same = ap (λ (x : Object). rest_of x) (object_set g put.object other new goes.0 same) ∙ ap (λ (x : Object). rest_of x) (one_object g put.object other same)
    by false differ = ap (λ (x : Object). rest_of x) (object_kept g put.object other new goes.0 there differ)

put_orphan : (g : Graph) (put : Option LinkPut) (other : ObjId) → Goes g put → IsObject g other → (object_at (with_put g put) other).orphan ≡ (object_at g other).orphan
put_orphan g None other goes there = refl
put_orphan g (Some put) other goes there = by (put.object.0 == other.0) refl
  where
    new : Object
    new = record (object_at g put.object) { links = slice_set (object_at g put.object).links put.relation.0 put.link }

    by : (b : Bool) → (put.object.0 == other.0) ≡ b → (object_at (with_object g put.object new) other).orphan ≡ (object_at g other).orphan
    by true same = ap (λ (x : Object). x.orphan) (object_set g put.object other new goes.0 same) ∙ ap (λ (x : Object). x.orphan) (one_object g put.object other same)
    by false differ = ap (λ (x : Object). x.orphan) (object_kept g put.object other new goes.0 there differ)

orphan_rest : (g : Graph) (child : ObjId) (orphan : Option Bool) (other : ObjId) → IsObject g child → IsObject g other → rest_of (object_at (with_orphan g child orphan) other) ≡ rest_of (object_at g other)
orphan_rest g child None other made there = refl
orphan_rest g child (Some orphan) other made there = by (child.0 == other.0) refl
  where
    new : Object
    new = record (object_at g child) { added = (object_at g child).added; marked = (object_at g child).marked; orphan = orphan }

    by : (b : Bool) → (child.0 == other.0) ≡ b → rest_of (object_at (with_object g child new) other) ≡ rest_of (object_at g other)
    by true same = ap (λ (x : Object). rest_of x) (object_set g child other new made same) ∙ ap (λ (x : Object). rest_of x) (one_object g child other same)
    by false differ = ap (λ (x : Object). rest_of x) (object_kept g child other new made there differ)

-- the mark that is set, of the child alone
abbrev pub mark_over : Option Bool → Bool → Bool → Bool
mark_over None same orphan = orphan
mark_over (Some mark) same orphan = if same then mark else orphan

orphan_mark : (g : Graph) (child : ObjId) (orphan : Option Bool) (other : ObjId) → IsObject g child → IsObject g other
    → (object_at (with_orphan g child orphan) other).orphan ≡ mark_over orphan (child.0 == other.0) (object_at g other).orphan
orphan_mark g child None other made there = refl
orphan_mark g child (Some orphan) other made there = by (child.0 == other.0) refl
  where
    new : Object
    new = record (object_at g child) { added = (object_at g child).added; marked = (object_at g child).marked; orphan = orphan }

    by : (b : Bool) → (child.0 == other.0) ≡ b → (object_at (with_object g child new) other).orphan ≡ (if b then orphan else (object_at g other).orphan)
    by true same = ap (λ (x : Object). x.orphan) (object_set g child other new made same)
    by false differ = ap (λ (x : Object). x.orphan) (object_kept g child other new made there differ)

pub changed_rest : (g : Graph) (child : ObjId) (change : Change) (other : ObjId) → IsObject g child → Goes g change.left → Goes g change.joined → Goes g change.own → IsObject g other
    → (rest_of (object_at (with_change g child change) other) ≡ rest_of (object_at g other))
    × ((object_at (with_change g child change) other).orphan ≡ mark_over change.orphan (child.0 == other.0) (object_at g other).orphan)
unfolding with_change
changed_rest g child change other made left joined own there =
    let one : Graph = with_orphan g child change.orphan in
    let two : Graph = with_put one change.left in
    let three : Graph = with_put two change.joined in
    let there_one : IsObject one other = orphan_made g child change.orphan other there in
    let there_two : IsObject two other = put_made one change.left other there_one in
    let there_three : IsObject three other = put_made two change.joined other there_two in
    let left_one : Goes one change.left = orphan_goes g child change.orphan change.left made left in
    let joined_two : Goes two change.joined = goes_on one change.left change.joined left_one (orphan_goes g child change.orphan change.joined made joined) in
    let own_three : Goes three change.own = goes_on two change.joined change.own joined_two (goes_on one change.left change.own left_one (orphan_goes g child change.orphan change.own made own)) in (
      put_rest three change.own other own_three there_three ∙ put_rest two change.joined other joined_two there_two ∙ put_rest one change.left other left_one there_one ∙ orphan_rest g child change.orphan other made there,
      put_orphan three change.own other own_three there_three ∙ put_orphan two change.joined other joined_two there_two ∙ put_orphan one change.left other left_one there_one ∙ orphan_mark g child change.orphan other made there,
    )
