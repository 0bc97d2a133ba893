-- Which members a collection has after one has left it or joined it, and that none is in it twice.
use Rattle.std.proofs.Common.{◌≡◌, ℕ, Bool, true, false, cond, not, ◌||◌, List, [], ◌∷◌, ◌++◌, Option, None, Some, ◌==◌, refl, sym}
use Rattle.std.specs.Option.{option_map}
use Rattle.std.specs.List.{list_any}
use Rattle.std.proofs.lemmas.Bool.{eq-eqb, eqb-true, or_left, or_right}
use Rattle.schema_core.specs.Declaration.{some_two}
use Rattle.base_core.specs.declared.ids.ObjId.{ObjId}
use Rattle.object_arena.specs.declared.object.Link.{Link}
use Rattle.object_arena.specs.declared.object.Link.TheVariants.{Unset, Unloaded, One, Many}
use Rattle.object_arena.specs.Graph.{is_among}
use Rattle.relations.specs.Mirror.{is_unloaded, loaded_to, members_in}
use Rattle.object_parts.specs.Sides.{added_unless, joined_by, joined_unloaded, left_by, left_unloaded, without}
use Rattle.session_laws.specs.Links.Links.{HasJoined, has_in, repeats_member, same_object}

pub false_if : (b : Bool) → (b ≡ true → ⊥) → b ≡ false
false_if true f = absurd (f refl)
false_if false f = refl

both_false : (a b : Bool) → a ≡ false → b ≡ false → (a || b) ≡ false
both_false true b p q = absurd cc
both_false false b p q = q

first_false : (a b : Bool) → (a || b) ≡ false → a ≡ false
first_false true b h = absurd cc
first_false false b h = refl

second_false : (a b : Bool) → (a || b) ≡ false → b ≡ false
second_false true b h = absurd cc
second_false false b h = h

pub eqb_turned : (a b : ℕ) → (a == b) ≡ false → (b == a) ≡ false
eqb_turned a b h = false_if (b == a) (λ e. by (a == b) (eq-eqb a b (sym (eqb-true b a e))) h)
  where
    by : (c : Bool) → c ≡ true → c ≡ false → ⊥
    by c p q = absurd cc

-- ---- lists of objects

pub without_lacks : (objects : List ObjId) (object : ObjId) → is_among (without objects object) object ≡ false
without_lacks [] object = refl
without_lacks (x ∷ objects) object = by (x.0 == object.0) refl (without_lacks objects object)
  where
    by : (b : Bool) → (x.0 == object.0) ≡ b → is_among (without objects object) object ≡ false → is_among (cond (not b) (x ∷ without objects object) (without objects object)) object ≡ false
    by true e rest = rest
    by false e rest = both_false (x.0 == object.0) (is_among (without objects object) object) e rest

last_among : (objects : List ObjId) (object : ObjId) → is_among (objects ++ object ∷ []) object ≡ true
last_among [] object = or_left (object.0 == object.0) false (eq-eqb object.0 object.0 refl)
last_among (x ∷ objects) object = or_right (x.0 == object.0) (is_among (objects ++ object ∷ []) object) (last_among objects object)

added_among : (there : Bool) (objects : List ObjId) (object : ObjId) → is_among objects object ≡ there → is_among (added_unless there objects object) object ≡ true
added_among true objects object e = e
added_among false objects object e = last_among objects object

-- ---- a member that leaves, and one that joins

unloaded_lacks : (among : Bool) (added removed : List ObjId) (object : ObjId) → is_among added object ≡ among → has_in (Some (left_unloaded among added removed object)) object ≡ false
unloaded_lacks true added removed object e = without_lacks added object
unloaded_lacks false added removed object e = e

pub left_lacks : (link : Option Link) (object : ObjId) → has_in (option_map (λ link. left_by link object) link) object ≡ false
left_lacks None object = refl
left_lacks (Some Unset) object = refl
left_lacks (Some (Unloaded added removed)) object = unloaded_lacks (is_among added object) added removed object refl
left_lacks (Some (One end changed)) object = refl
left_lacks (Some (Many members base)) object = without_lacks members object

-- a link that may lead to one end
abbrev pub is_one : Link → Bool
is_one (One end changed) = true
is_one link = false

unloaded_joined : (among : Bool) (added removed : List ObjId) (object : ObjId) → is_among removed object ≡ among
    → HasJoined (Some (Unloaded added removed)) (Some (joined_unloaded among added removed object)) object
unloaded_joined true added removed object e = record {
  has = or_right (is_among added object) (is_among removed object) e;
  kept = without_lacks removed object;
}
unloaded_joined false added removed object e = record {
  has = or_left (is_among (added_unless (is_among added object) added object) object) (is_among removed object) (added_among (is_among added object) added object refl);
  kept = e;
}

pub joined_has : (link : Link) (object : ObjId) → is_one link ≡ false → HasJoined (Some link) (Some (joined_by link object)) object
joined_has Unset object many = record { has = or_left (is_among (object ∷ []) object) false (last_among [] object); kept = refl }
joined_has (Unloaded added removed) object many = unloaded_joined (is_among removed object) added removed object refl
joined_has (One end changed) object many = absurd cc
joined_has (Many members base) object many = record {
  has = or_left (is_among (added_unless (is_among members object) members object) object) false (added_among (is_among members object) members object refl);
  kept = refl;
}

-- ---- no member twice

none_without : (objects : List ObjId) (object x : ObjId) → list_any (λ later. same_object later x) objects ≡ false → list_any (λ later. same_object later x) (without objects object) ≡ false
none_without [] object x h = refl
none_without (y ∷ objects) object x h =
    by (not (y.0 == object.0)) (none_without objects object x (second_false (same_object y x) (list_any (λ later. same_object later x) objects) h))
  where
    by : (b : Bool) → list_any (λ later. same_object later x) (without objects object) ≡ false → list_any (λ later. same_object later x) (cond b (y ∷ without objects object) (without objects object)) ≡ false
    by true rest = both_false (same_object y x) (list_any (λ later. same_object later x) (without objects object)) (first_false (same_object y x) (list_any (λ later. same_object later x) objects) h) rest
    by false rest = rest

without_once : (objects : List ObjId) (object : ObjId) → some_two same_object objects ≡ false → some_two same_object (without objects object) ≡ false
without_once [] object h = refl
without_once (x ∷ objects) object h =
    by (not (x.0 == object.0)) (without_once objects object (second_false (list_any (λ later. same_object later x) objects) (some_two same_object objects) h))
  where
    by : (b : Bool) → some_two same_object (without objects object) ≡ false → some_two same_object (cond b (x ∷ without objects object) (without objects object)) ≡ false
    by true rest =
        both_false (list_any (λ later. same_object later x) (without objects object)) (some_two same_object (without objects object))
        (none_without objects object x (first_false (list_any (λ later. same_object later x) objects) (some_two same_object objects) h)) rest
    by false rest = rest

none_last : (objects : List ObjId) (object x : ObjId) → list_any (λ later. same_object later x) objects ≡ false → (object.0 == x.0) ≡ false → list_any (λ later. same_object later x) (objects ++ object ∷ []) ≡ false
none_last [] object x h other = both_false (same_object object x) false other refl
none_last (y ∷ objects) object x h other =
    both_false (same_object y x) (list_any (λ later. same_object later x) (objects ++ object ∷ []))
    (first_false (same_object y x) (list_any (λ later. same_object later x) objects) h)
    (none_last objects object x (second_false (same_object y x) (list_any (λ later. same_object later x) objects) h) other)

last_once : (objects : List ObjId) (object : ObjId) → some_two same_object objects ≡ false → is_among objects object ≡ false → some_two same_object (objects ++ object ∷ []) ≡ false
last_once [] object h lacks = refl
last_once (x ∷ objects) object h lacks =
    both_false (list_any (λ later. same_object later x) (objects ++ object ∷ [])) (some_two same_object (objects ++ object ∷ []))
    (none_last objects object x (first_false (list_any (λ later. same_object later x) objects) (some_two same_object objects) h)
    (eqb_turned x.0 object.0 (first_false (x.0 == object.0) (is_among objects object) lacks)))
    (last_once objects object (second_false (list_any (λ later. same_object later x) objects) (some_two same_object objects) h)
    (second_false (x.0 == object.0) (is_among objects object) lacks))

added_once : (there : Bool) (objects : List ObjId) (object : ObjId) → is_among objects object ≡ there → some_two same_object objects ≡ false → some_two same_object (added_unless there objects object) ≡ false
added_once true objects object e h = h
added_once false objects object e h = last_once objects object h e

unloaded_left_once : (among : Bool) (added removed : List ObjId) (object : ObjId) → some_two same_object added ≡ false → some_two same_object removed ≡ false → repeats_member (Some (left_unloaded among added removed object)) ≡ false
unloaded_left_once true added removed object p q = both_false (some_two same_object (without added object)) (some_two same_object removed) (without_once added object p) q
unloaded_left_once false added removed object p q =
    both_false (some_two same_object added) (some_two same_object (added_unless (is_among removed object) removed object)) p (added_once (is_among removed object) removed object refl q)

unloaded_joined_once : (among : Bool) (added removed : List ObjId) (object : ObjId) → some_two same_object added ≡ false → some_two same_object removed ≡ false → repeats_member (Some (joined_unloaded among added removed object)) ≡ false
unloaded_joined_once true added removed object p q = both_false (some_two same_object added) (some_two same_object (without removed object)) p (without_once removed object q)
unloaded_joined_once false added removed object p q =
    both_false (some_two same_object (added_unless (is_among added object) added object)) (some_two same_object removed) (added_once (is_among added object) added object refl p) q

pub left_once : (link : Option Link) (object : ObjId) → repeats_member link ≡ false → repeats_member (option_map (λ link. left_by link object) link) ≡ false
left_once None object h = refl
left_once (Some Unset) object h = refl
left_once (Some (Unloaded added removed)) object h =
    unloaded_left_once (is_among added object) added removed object (first_false (some_two same_object added) (some_two same_object removed) h) (second_false (some_two same_object added) (some_two same_object removed) h)
left_once (Some (One end changed)) object h = refl
left_once (Some (Many members base)) object h = without_once members object h

pub joined_once : (link : Option Link) (object : ObjId) → repeats_member link ≡ false → repeats_member (option_map (λ link. joined_by link object) link) ≡ false
joined_once None object h = refl
joined_once (Some Unset) object h = refl
joined_once (Some (Unloaded added removed)) object h =
    unloaded_joined_once (is_among removed object) added removed object (first_false (some_two same_object added) (some_two same_object removed) h) (second_false (some_two same_object added) (some_two same_object removed) h)
joined_once (Some (One end changed)) object h = refl
joined_once (Some (Many members base)) object h = added_once (is_among members object) members object refl h

pub one_once : (link : Option Link) (parent : Option ObjId) → repeats_member (option_map (λ link. One parent true) link) ≡ false
one_once None parent = refl
one_once (Some link) parent = refl

pub loaded_once : (link : Option Link) (parent : Option ObjId) → repeats_member (option_map (loaded_to parent) link) ≡ false
loaded_once None parent = refl
loaded_once (Some Unset) parent = refl
loaded_once (Some (Unloaded added removed)) parent = refl
loaded_once (Some (One end changed)) parent = refl
loaded_once (Some (Many members base)) parent = refl

-- ---- the members of a loaded collection

pub left_no_member : (link : Option Link) (object : ObjId) → is_among (members_in (option_map (λ link. left_by link object) link)) object ≡ false
left_no_member None object = refl
left_no_member (Some Unset) object = refl
left_no_member (Some (Unloaded added removed)) object = by (is_among added object)
  where
    by : (among : Bool) → is_among (members_in (Some (left_unloaded among added removed object))) object ≡ false
    by true = refl
    by false = refl
left_no_member (Some (One end changed)) object = refl
left_no_member (Some (Many members base)) object = without_lacks members object

pub joined_member : (link : Link) (object : ObjId) → is_one link ≡ false → is_unloaded (Some link) ≡ false → is_among (members_in (Some (joined_by link object))) object ≡ true
joined_member Unset object many loaded = last_among [] object
joined_member (Unloaded added removed) object many loaded = absurd cc
joined_member (One end changed) object many loaded = absurd cc
joined_member (Many members base) object many loaded = added_among (is_among members object) members object refl
