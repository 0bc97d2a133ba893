-- A link that a member leaves or joins goes on to fit its relationship.
use Rattle.std.proofs.Common.{◌≡◌, Bool, true, false, List, [], ◌∷◌, cond, refl, ◌∙◌}
use Rattle.std.specs.Prelude.{not, ◌&&◌, ◌||◌, ◌==◌, filter}
use Rattle.std.specs.List.{list_all}
use Rattle.std.proofs.lemmas.Bool.{and_from, and_parts, or_right}
use Rattle.std.proofs.lemmas.List.Folds.{list_all-append}
use Rattle.base_core.specs.declared.ids.ClassId.{ClassId}
use Rattle.base_core.specs.declared.ids.ObjId.{ObjId}
use Rattle.object_arena.specs.declared.object.Link.{Link}
use Rattle.object_arena.specs.declared.object.Link.TheVariants.{Unset, Unloaded, One, Many}
use Rattle.object_arena.specs.Fit.{held_fit, is_empty, is_of_root}
use Rattle.object_arena.specs.Graph.{is_among}
use Rattle.object_parts.specs.Sides.{added_unless, joined_by, joined_unloaded, left_by, left_unloaded, without}

one_kept : (p : ObjId → Bool) (kept : Bool) (object : ObjId) (objects : List ObjId) → p object ≡ true → list_all p objects ≡ true → list_all p (cond kept (object ∷ objects) objects) ≡ true
one_kept p true object objects one rest = and_from (p object) (list_all p objects) one rest
one_kept p false object objects one rest = rest

-- those that are kept
all_kept : (p keep : ObjId → Bool) (objects : List ObjId) → list_all p objects ≡ true → list_all p (filter keep objects) ≡ true
all_kept p keep [] h = refl
all_kept p keep (object ∷ objects) h = one_kept p (keep object) object (filter keep objects) (and_parts (p object) (list_all p objects) h).0 (all_kept p keep objects (and_parts (p object) (list_all p objects) h).1)

-- and one more
all_added : (p : ObjId → Bool) (there : Bool) (objects : List ObjId) (object : ObjId) → list_all p objects ≡ true → p object ≡ true → list_all p (added_unless there objects object) ≡ true
all_added p true objects object h one = h
all_added p false objects object h one =
    list_all-append p objects (object ∷ [])
    ∙ and_from (list_all p objects) (p object && true) h (and_from (p object) true one refl)

unloaded_fits : (roots : List ClassId) (root : ClassId) (many : Bool) (added removed : List ObjId) → many ≡ true → list_all (is_of_root roots root) added ≡ true → list_all (is_of_root roots root) removed ≡ true → held_fit roots root many (Unloaded added removed) ≡ true
unloaded_fits roots root many added removed is one other =
    and_from ((is_empty added && is_empty removed) || many) (list_all (is_of_root roots root) added && list_all (is_of_root roots root) removed)
    (or_right (is_empty added && is_empty removed) many is) (and_from (list_all (is_of_root roots root) added) (list_all (is_of_root roots root) removed) one other)

left_unloaded_fits : (roots : List ClassId) (root : ClassId) (many among : Bool) (added removed : List ObjId) (member : ObjId) → many ≡ true → is_of_root roots root member ≡ true → list_all (is_of_root roots root) added ≡ true → list_all (is_of_root roots root) removed ≡ true
    → held_fit roots root many (left_unloaded among added removed member) ≡ true
left_unloaded_fits roots root many true added removed member is of one other =
    unloaded_fits roots root many (without added member) removed is (all_kept (is_of_root roots root) (λ object. not (object.0 == member.0)) added one) other
left_unloaded_fits roots root many false added removed member is of one other =
    unloaded_fits roots root many added (added_unless (is_among removed member) removed member) is one (all_added (is_of_root roots root) (is_among removed member) removed member other of)

joined_unloaded_fits : (roots : List ClassId) (root : ClassId) (many among : Bool) (added removed : List ObjId) (member : ObjId) → many ≡ true → is_of_root roots root member ≡ true → list_all (is_of_root roots root) added ≡ true → list_all (is_of_root roots root) removed ≡ true
    → held_fit roots root many (joined_unloaded among added removed member) ≡ true
joined_unloaded_fits roots root many true added removed member is of one other =
    unloaded_fits roots root many added (without removed member) is one (all_kept (is_of_root roots root) (λ object. not (object.0 == member.0)) removed other)
joined_unloaded_fits roots root many false added removed member is of one other =
    unloaded_fits roots root many (added_unless (is_among added member) added member) removed is (all_added (is_of_root roots root) (is_among added member) added member one of) other

many_fits : (roots : List ClassId) (root : ClassId) (many : Bool) (members base : List ObjId) → many ≡ true → list_all (is_of_root roots root) members ≡ true → list_all (is_of_root roots root) base ≡ true → held_fit roots root many (Many members base) ≡ true
many_fits roots root many members base is one other =
    and_from many (list_all (is_of_root roots root) members && list_all (is_of_root roots root) base) is (and_from (list_all (is_of_root roots root) members) (list_all (is_of_root roots root) base) one other)

pub left_fits : (roots : List ClassId) (root : ClassId) (many : Bool) (link : Link) (member : ObjId) → many ≡ true → is_of_root roots root member ≡ true → held_fit roots root many link ≡ true → held_fit roots root many (left_by link member) ≡ true
left_fits roots root many Unset member is of h = refl
left_fits roots root many (Unloaded added removed) member is of h =
    let parts = and_parts ((is_empty added && is_empty removed) || many) (list_all (is_of_root roots root) added && list_all (is_of_root roots root) removed) h in
    let both = and_parts (list_all (is_of_root roots root) added) (list_all (is_of_root roots root) removed) parts.1 in
    left_unloaded_fits roots root many (is_among added member) added removed member is of both.0 both.1
left_fits roots root many (One end changed) member is of h = h
left_fits roots root many (Many members base) member is of h =
    let parts = and_parts many (list_all (is_of_root roots root) members && list_all (is_of_root roots root) base) h in
    let both = and_parts (list_all (is_of_root roots root) members) (list_all (is_of_root roots root) base) parts.1 in
    many_fits roots root many (without members member) base is (all_kept (is_of_root roots root) (λ object. not (object.0 == member.0)) members both.0) both.1

pub joined_fits : (roots : List ClassId) (root : ClassId) (many : Bool) (link : Link) (member : ObjId) → many ≡ true → is_of_root roots root member ≡ true → held_fit roots root many link ≡ true → held_fit roots root many (joined_by link member) ≡ true
joined_fits roots root many Unset member is of h = many_fits roots root many (member ∷ []) [] is (and_from (is_of_root roots root member) true of refl) refl
joined_fits roots root many (Unloaded added removed) member is of h =
    let parts = and_parts ((is_empty added && is_empty removed) || many) (list_all (is_of_root roots root) added && list_all (is_of_root roots root) removed) h in
    let both = and_parts (list_all (is_of_root roots root) added) (list_all (is_of_root roots root) removed) parts.1 in
    joined_unloaded_fits roots root many (is_among removed member) added removed member is of both.0 both.1
joined_fits roots root many (One end changed) member is of h = h
joined_fits roots root many (Many members base) member is of h =
    let parts = and_parts many (list_all (is_of_root roots root) members && list_all (is_of_root roots root) base) h in
    let both = and_parts (list_all (is_of_root roots root) members) (list_all (is_of_root roots root) base) parts.1 in
    many_fits roots root many (added_unless (is_among members member) members member) base is (all_added (is_of_root roots root) (is_among members member) members member both.0 of) both.1
