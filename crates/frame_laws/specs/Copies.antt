-- The scopes of a session by copies: what every scope keeps of the objects by itself, and the way back to its start.
use Rattle.std.specs.Prelude.{ℕ, zero, suc, Bool, true, false, not, ◌&&◌, ◌||◌, ◌==◌, List, [], ◌∷◌, length, map, slice_index_or, nat_le, nat_lt, Option, None, Some, if◌then◌else◌}
use Rattle.base_core.specs.declared.ids.ObjId.{ObjId}
use Rattle.base_core.specs.declared.value.Value.{Value}
use Rattle.object_arena.specs.declared.object.Object.{Object}
use Rattle.object_arena.specs.Graph.{Graph, is_persistent, no_class_id, object_at, place_of}
use Rattle.object_arena.specs.Identity.{holds_at}
use Rattle.object_arena.specs.Every.{each_placed}
use Rattle.savepoints.specs.declared.scope.Standing.{Standing}
use Rattle.savepoints.specs.Scopes.{any_below, back_to, expired_where, loaded_standing, made_since, put_back_to, standing_of}

-- the identity under which a load made an object
abbrev pub Identity : Type 0
Identity = Option (List Value)

-- A scope: where each object that had been made stood at its start; the objects that a load made since, by place, each with the
-- identity under which it did; and the set of the objects that were touched inside, by place.
pub record Copy : Type 0 where
  pub stood : List Standing
  pub loaded : ℕ → Option Identity
  pub touched : ℕ → Bool

abbrev pub Places : Type 0
Places = ℕ → Bool

abbrev pub no_place : Places
no_place place = false

abbrev pub either : Places → Places → Places
either one other place = one place || other place

-- ---- a scope begins

-- one more scope begins, the innermost, with the objects as they stand
abbrev pub begin : Graph → List Copy → List Copy
begin graph copies = record { stood = map standing_of graph.objects; loaded = λ place. None; touched = no_place } ∷ copies

-- ---- touches

-- A load made the object, as a scope sees it that was touched so by then: it was made since the scope's start, was touched neither in
-- the scope nor inside it before, and is persistent now.
abbrev pub is_load : Bool → ℕ → Object → Copy → Bool
is_load before place object copy = not before && (is_persistent object.state && nat_le (length copy.stood) place)

-- with one more object, where a load made it
abbrev pub loaded_too : Bool → ℕ → Identity → (ℕ → Option Identity) → ℕ → Option Identity
loaded_too true place identity loaded other = if other == place then Some identity else loaded other
loaded_too false place identity loaded other = loaded other

-- each scope notes a load, where it is one for it; those were touched in the scopes inside
abbrev pub noted : Places → ℕ → Object → List Copy → List Copy
noted inside place object [] = []
noted inside place object (copy ∷ copies) =
    record copy { loaded = loaded_too (is_load (either inside copy.touched place) place object copy) place object.identity copy.loaded } ∷ noted (either inside copy.touched) place object copies

-- the object at a place is among those touched in the innermost scope
abbrev pub touched_first : ℕ → List Copy → List Copy
touched_first place [] = []
touched_first place (copy ∷ copies) = record copy { touched = λ other. (other == place) || copy.touched other } ∷ copies

-- an object is touched in the innermost scope; where none is in progress nothing happens
abbrev pub touch : Graph → ObjId → List Copy → List Copy
touch graph object copies = touched_first (place_of object) (noted no_place (place_of object) (object_at graph object) copies)

-- ---- scopes end

-- the innermost scope has what was touched in those that ended inside it
abbrev pub passed : Places → List Copy → List Copy
passed inside [] = []
passed inside (copy ∷ copies) = record copy { touched = either inside copy.touched } ∷ copies

-- so many of the innermost scopes end, and what was touched in them passes to the next one outside
abbrev pub ended : ℕ → Places → List Copy → List Copy
ended zero inside copies = passed inside copies
ended (suc count) inside [] = []
ended (suc count) inside (copy ∷ copies) = ended count (either inside copy.touched) copies

-- the innermost scope ends, and what was done inside stays
abbrev pub release : List Copy → List Copy
release copies = ended 1 no_place copies

-- ---- the way back

-- one that a load made since the start counts as persistent under its identity; every other one made since as transient
abbrev pub stood_since : Option Identity → Standing
stood_since None = made_since
stood_since (Some identity) = loaded_standing identity

-- where the object at a place is to stand again
abbrev pub wanted : Copy → ℕ → Standing
wanted copy place = if nat_lt place (length copy.stood) then slice_index_or copy.stood place made_since else stood_since (copy.loaded place)

-- the objects as they are to stand again
abbrev pub all_wanted : Copy → Graph → Graph
all_wanted copy graph = each_placed (λ place object. put_back_to (wanted copy place) object) graph

-- of two that would be persistent under one identity the one that stood under it at the start goes before the other, and else the one of
-- the lesser number
abbrev pub goes_before : Copy → ℕ → ℕ → Bool
goes_before copy other place =
    (nat_lt other (length copy.stood) && not (nat_lt place (length copy.stood)))
    || ((nat_lt other (length copy.stood) || not (nat_lt place (length copy.stood))) && nat_lt other place)

-- another object goes before the one at a place, under the key and its root
abbrev pub is_lost : Copy → Graph → ℕ → Identity → Bool
is_lost copy graph place None = false
is_lost copy graph place (Some key) =
    any_below
    (λ other. goes_before copy other place && holds_at (all_wanted copy graph).objects (all_wanted copy graph).roots (slice_index_or graph.roots place no_class_id) key other)
    (length graph.objects)

-- each object stands again where it stood, and those that lose their identity are detached
abbrev pub put_back : Copy → Graph → Graph
put_back copy graph = each_placed (λ place object. back_to (wanted copy place) (is_lost copy graph place (wanted copy place).identity) object) graph

-- the persistent objects that were touched are to be read again, behind the transaction's rollback all of them
abbrev pub expired : Bool → Places → Graph → Graph
expired outermost touched graph = each_placed (λ place object. expired_where (outermost || touched place) object) graph

-- what a rollback of the scope behind so many inside it makes of the objects; those were touched in the ones passed by
abbrev pub restored : ℕ → Places → List Copy → Graph → Graph
restored count inside [] graph = graph
restored zero inside (copy ∷ []) graph = expired true (either inside copy.touched) (put_back copy graph)
restored zero inside (copy ∷ next ∷ copies) graph = expired false (either inside copy.touched) (put_back copy graph)
restored (suc count) inside (copy ∷ copies) graph = restored count (either inside copy.touched) copies graph
