-- What loads leave of the identity map: who had a key has it still, and the key of a row that was taken has an object.
use Rattle.std.proofs.Common.{◌≡◌, ◌⊎◌, inl, inr, ℕ, zero, suc, ◌+◌, ◌<◌, ◌≤◌, ◌==◌, nat_lt, Bool, true, false, ◌&&◌, ◌||◌, cond, List, [], ◌∷◌, ◌++◌, length, get_or, map, Option, None, Some, Result, Ok, Err, if◌then◌else◌, is_none, is_some, refl, sym, ap, subst, ◌∙◌, arith}
use Rattle.std.specs.Prelude.{slice_get, slice_set}
use Rattle.std.specs.List.{enumerate_from, list_any, position, position_or_len, zip}
use Rattle.std.specs.Option.{option_and_then, option_map}
use Rattle.std.proofs.Math.Seq.{get_or-append_seam}
use Rattle.std.proofs.lemmas.Bool.{lt-ltb, ltb-false, ltb-true}
use Rattle.std.proofs.lemmas.List.{get_or_append_left, length-append, length-map, length-set}
use Rattle.std.proofs.lemmas.Slice.Zip.{length-zip}
use Rattle.base_core.specs.declared.ids.AttrNo.{AttrNo}
use Rattle.base_core.specs.declared.ids.ClassId.{ClassId}
use Rattle.base_core.specs.declared.ids.ObjId.{ObjId}
use Rattle.base_core.specs.declared.refusal.LimitKind.TheVariants.{Objects}
use Rattle.base_core.specs.declared.refusal.Refusal.{Refusal}
use Rattle.base_core.specs.declared.refusal.Refusal.TheVariants.{LimitReached}
use Rattle.base_core.specs.declared.value.Value.{Value}
use Rattle.schema_core.specs.Tables.{same_values}
use Rattle.class_mapping.specs.Mapped.{IsClass, Mapped, relations_of, root_of}
use Rattle.class_mapping.specs.Paired.{is_at_or_under}
use Rattle.class_mapping.proofs.Having.{place_in_map}
use Rattle.mapping_laws.specs.Hierarchies.{HasHierarchies}
use Rattle.keeper_core.specs.Programs.{each, give}
use Rattle.object_arena.specs.declared.object.Cell.{Cell}
use Rattle.object_arena.specs.declared.object.Link.{Link}
use Rattle.object_arena.specs.declared.object.Link.TheVariants.{Unloaded}
use Rattle.object_arena.specs.declared.object.Object.{Object}
use Rattle.object_arena.specs.Graph.{Graph, IsObject, no_object, object_at, object_limit, place_of, with_link, with_object}
use Rattle.object_arena.specs.Identity.{find_identity, holds, id_of_place}
use Rattle.object_arena.proofs.GraphLemmas.{same_equiv}
use Rattle.base_core.specs.declared.ids.RelNo.{RelNo}
use Rattle.relations.specs.Mirror.{is_of}
use Rattle.load_filling.specs.Filled.{Found, cell_read, filled_cell, filled_object, value_found, with_filled}
use Rattle.load_filling.specs.Loaded.{load, loaded_object, with_loaded}
use Rattle.load_filling.specs.Rows.{class_named, found_or_loaded, loaded_as, row_key, row_object}
use Rattle.load_rows.specs.Loading.{Loading, filled, found_in_row, take_row, taken_as}
use Rattle.load_calls.specs.Collections.{take_next, take_rows}
use Rattle.load_targets.specs.ForeignKeys.{value_of}
use Rattle.loading_laws.proofs.Members.Ranks.{same_equal}
use Rattle.loading_laws.specs.Strategies.Filled.{Goes}
use Rattle.loading_laws.proofs.Strategies.Goes.{given, parted, row_taken, same_answer}
use Rattle.loading_laws.proofs.Strategies.Standing.{found_stands, itself, named_root, named_under, set_related}

-- ---- places among tests

abbrev seat : List Bool → Option ℕ
seat tests = position (λ b. b) tests

seat_in : {A : Type 0} (test : A → Bool) (xs : List A) → position test xs ≡ seat (map test xs)
seat_in test xs =
    ap (λ (n : ℕ). cond (nat_lt n (length xs)) (Some n) None) (sym (place_in_map (λ b. b) test xs))
    ∙ ap (λ (long : ℕ). cond (nat_lt (position_or_len (λ b. b) (map test xs)) long) (Some (position_or_len (λ b. b) (map test xs))) None) (sym (length-map xs test))

first_kept : (tests : List Bool) (b : Bool) → position_or_len (λ b. b) tests < length tests → position_or_len (λ b. b) (tests ++ b ∷ []) ≡ position_or_len (λ b. b) tests
first_kept [] b less = absurd (omega (arith, less))
first_kept (true ∷ tests) b less = refl
first_kept (false ∷ tests) b less = let more : position_or_len (λ b. b) tests < length tests = omega (arith, less) in ap (λ (n : ℕ). 1 + n) (first_kept tests b more)

first_last : (tests : List Bool) (b : Bool) → length tests ≤ position_or_len (λ b. b) tests → position_or_len (λ b. b) (tests ++ b ∷ []) ≡ length tests + cond b 0 1
first_last [] true none = refl
first_last [] false none = refl
first_last (true ∷ tests) b none = absurd (omega (arith, none))
first_last (false ∷ tests) b none =
    let more : length tests ≤ position_or_len (λ b. b) tests = omega (arith, none) in
    let rest = first_last tests b more in
    omega (arith, rest)

seat_by : (n long m wide : ℕ) (place : ℕ) → cond (nat_lt n long) (Some n) None ≡ Some place → (n < long → m ≡ n) → long ≤ wide → cond (nat_lt m wide) (Some m) None ≡ Some place
seat_by n long m wide place found same wider = by (nat_lt n long) refl found
  where
    by : (b : Bool) → nat_lt n long ≡ b → cond b (Some n) None ≡ Some place → cond (nat_lt m wide) (Some m) None ≡ Some place
    by false is e = absurd cc
    by true is e =
        let less : n < long = ltb-true n long is in
        let one : m ≡ n = same less in
        ap (λ (b : Bool). cond b (Some m) None) (lt-ltb m wide (omega (arith, less, one, wider))) ∙ ap Some one ∙ e

-- one that was found is found where there is another test behind
seat_kept : (tests : List Bool) (b : Bool) (place : ℕ) → seat tests ≡ Some place → seat (tests ++ b ∷ []) ≡ Some place
seat_kept tests b place found =
    let wide : length (tests ++ b ∷ []) ≡ length tests + 1 = length-append tests (b ∷ []) in
    seat_by (position_or_len (λ b. b) tests) (length tests) (position_or_len (λ b. b) (tests ++ b ∷ [])) (length (tests ++ b ∷ [])) place found (first_kept tests b) (omega (arith, wide))

last_by : (n long m wide : ℕ) (b : Bool) → cond (nat_lt n long) (Some n) None ≡ None → (long ≤ n → m ≡ long + cond b 0 1) → wide ≡ long + 1 → cond (nat_lt m wide) (Some m) None ≡ cond b (Some long) None
last_by n long m wide b none ends is = by (nat_lt n long) refl none
  where
    here : (c : Bool) → m ≡ long + cond c 0 1 → cond (nat_lt m wide) (Some m) None ≡ cond c (Some long) None
    here true e =
        let same : m ≡ long = omega (arith, e) in
        ap (λ (b : Bool). cond b (Some m) None) (lt-ltb m wide (omega (arith, same, is))) ∙ ap Some same
    here false e = past (nat_lt m wide) refl
      where
        past : (b : Bool) → nat_lt m wide ≡ b → cond b (Some m) None ≡ None
        past false t = refl
        past true t = absurd (let less : m < wide = ltb-true m wide t in omega (arith, less, e, is))

    by : (c : Bool) → nat_lt n long ≡ c → cond c (Some n) None ≡ None → cond (nat_lt m wide) (Some m) None ≡ cond b (Some long) None
    by true t e = absurd cc
    by false t e = here b (ends (ltb-false n long t))

-- where none was found the one behind is, if it is true
seat_last : (tests : List Bool) (b : Bool) → seat tests ≡ None → seat (tests ++ b ∷ []) ≡ cond b (Some (length tests)) None
seat_last tests b none =
    last_by (position_or_len (λ b. b) tests) (length tests) (position_or_len (λ b. b) (tests ++ b ∷ [])) (length (tests ++ b ∷ [])) b none (first_last tests b) (length-append tests (b ∷ []))

-- ---- the identity map by tests of its objects

abbrev marks : ClassId → List Value → Graph → List Bool
marks root key graph = map (holds root key) (zip graph.objects graph.roots)

found_by_marks : (root : ClassId) (key : List Value) (graph : Graph) → find_identity graph root key ≡ option_map id_of_place (seat (marks root key graph))
found_by_marks root key graph = ap (option_map id_of_place) (seat_in (holds root key) (zip graph.objects graph.roots))

zip_behind : {A B : Type 0} (xs : List A) (ys : List B) (x : A) (y : B) → length ys ≡ length xs → zip (xs ++ x ∷ []) (ys ++ y ∷ []) ≡ zip xs ys ++ (x, y) ∷ []
zip_behind [] [] x y long = refl
zip_behind [] (b ∷ ys) x y long = absurd (omega (arith, long))
zip_behind (a ∷ xs) [] x y long = absurd (omega (arith, long))
zip_behind (a ∷ xs) (b ∷ ys) x y long = ap (λ rest. (a, b) ∷ rest) (zip_behind xs ys x y (omega (arith, long)))

map_behind : {A B : Type 0} (f : A → B) (xs : List A) (x : A) → map f (xs ++ x ∷ []) ≡ map f xs ++ f x ∷ []
map_behind f [] x = refl
map_behind f (y ∷ xs) x = ap (λ rest. f y ∷ rest) (map_behind f xs x)

-- the tests of a graph with one more object
marks_behind : (root : ClassId) (key : List Value) (objects : List Object) (roots : List ClassId) (new : Object) (own : ClassId) → length roots ≡ length objects
    → map (holds root key) (zip (objects ++ new ∷ []) (roots ++ own ∷ [])) ≡ map (holds root key) (zip objects roots) ++ holds root key (new, own) ∷ []
marks_behind root key objects roots new own long = ap (map (holds root key)) (zip_behind objects roots new own long) ∙ map_behind (holds root key) (zip objects roots) (new, own)

marks_set : {A B C : Type 0} (f : A × B → C) (xs : List A) (ys : List B) (i : ℕ) (new d : A) → ((y : B) → f (new, y) ≡ f (get_or xs i d, y)) → map f (zip (slice_set xs i new) ys) ≡ map f (zip xs ys)
marks_set f [] ys i new d same = refl
marks_set f (x ∷ xs) [] zero new d same = refl
marks_set f (x ∷ xs) [] (suc i) new d same = refl
marks_set f (x ∷ xs) (y ∷ ys) zero new d same = ap (λ one. one ∷ map f (zip xs ys)) (same y)
marks_set f (x ∷ xs) (y ∷ ys) (suc i) new d same = ap (λ rest. f (x, y) ∷ rest) (marks_set f xs ys i new d same)

-- ---- what stays

-- a cell that is held has its value still
abbrev pub HoldsOn : AttrNo → Object → Object → Type 0
HoldsOn attr old new = is_none (value_of old attr) ≡ false → value_of new attr ≡ value_of old attr

-- the map finds the same objects, of the same classes, and cells that are held have their values
pub record Same (old new : Graph) : Type 0 where
  pub long : length new.objects ≡ length old.objects
  pub rooted : length new.roots ≡ length old.roots
  pub found : (root : ClassId) (key : List Value) → find_identity new root key ≡ find_identity old root key
  pub classes : (object : ObjId) → (object_at new object).class ≡ (object_at old object).class
  pub cells : (object : ObjId) (attr : AttrNo) → HoldsOn attr (object_at old object) (object_at new object)

pub same_same : (graph : Graph) → Same graph graph
same_same graph = record { long = refl; rooted = refl; found = λ root key. refl; classes = λ object. refl; cells = λ object attr held. refl }

pub same_then : (a b c : Graph) → Same a b → Same b c → Same a c
same_then a b c p q = record {
  long = q.long ∙ p.long;
  rooted = q.rooted ∙ p.rooted;
  found = λ root key. q.found root key ∙ p.found root key;
  classes = λ object. q.classes object ∙ p.classes object;
  cells = λ object attr held. q.cells object attr (ap is_none (p.cells object attr held) ∙ held) ∙ p.cells object attr held;
}

-- another record of an object, of the same state, identity and class
same_put : (graph : Graph) (object : ObjId) (new : Object) → ((own : ClassId) (root : ClassId) (key : List Value) → holds root key (new, own) ≡ holds root key (object_at graph object, own)) → new.class ≡ (object_at graph object).class
    → ((attr : AttrNo) → HoldsOn attr (object_at graph object) new) → Same graph (with_object graph object new)
same_put graph object new holding class cells = record {
  long = length-set graph.objects (place_of object) new;
  rooted = refl;
  found = λ root key.
      found_by_marks root key (with_object graph object new)
      ∙ ap (λ (tests : List Bool). option_map id_of_place (seat tests)) (marks_set (holds root key) graph.objects graph.roots (place_of object) new no_object (λ own. holding own root key))
      ∙ sym (found_by_marks root key graph);
  classes = λ other. set_related (λ (x y : Object). y.class ≡ x.class) graph.objects (place_of object) (place_of other) new no_object (λ x. refl) class;
  cells = λ other attr. set_related (HoldsOn attr) graph.objects (place_of object) (place_of other) new no_object (λ x held. refl) (cells attr);
}

pub same_link : (graph : Graph) (object : ObjId) (place : RelNo) (link : Link) → Same graph (with_link graph object place link)
same_link graph object place link =
    same_put graph object (record (object_at graph object) { links = slice_set (object_at graph object).links place.0 link }) (λ own root key. refl) refl (λ attr held. refl)

abbrev value_in : Option Cell → Option Value
value_in found = option_and_then (λ cell. cell.value) found

cell_kept : (found : Found) (cells : List Cell) (k n : ℕ) → is_none (value_in (slice_get cells n)) ≡ false → value_in (slice_get (map (filled_cell found) (enumerate_from k cells)) n) ≡ value_in (slice_get cells n)
cell_kept found [] k n held = refl
cell_kept found (cell ∷ cells) k zero held = ap (λ (b : Bool). (if b then cell_read cell (value_found found k) else cell).value) held
cell_kept found (cell ∷ cells) k (suc n) held = cell_kept found cells (k + 1) n held

same_filled : (graph : Graph) (object : ObjId) (found : Found) → Same graph (with_filled graph object found)
unfolding with_filled
same_filled graph object found =
    same_put graph object (filled_object found (object_at graph object)) (λ own root key. refl) refl (λ attr held. cell_kept found (object_at graph object).cells 0 attr.0 held)

-- ---- what is added

-- who had a key has it still, the classes and held cells of objects stay, and of the keys that nobody had those have objects now that
-- were asked for, of the class or below it
pub record Gains (mapped : Mapped) (class : ClassId) (asked : List Value → Bool) (old new : Graph) : Type 0 where
  pub long : length old.objects ≤ length new.objects
  pub found : (root : ClassId) (key : List Value) (object : ObjId) → find_identity old root key ≡ Some object → find_identity new root key ≡ Some object
  pub classes : (object : ObjId) → IsObject old object → (object_at new object).class ≡ (object_at old object).class
  pub cells : (object : ObjId) → IsObject old object → (attr : AttrNo) → HoldsOn attr (object_at old object) (object_at new object)
  pub some : (key : List Value) → find_identity old (root_of mapped class) key ≡ None → is_some (find_identity new (root_of mapped class) key) ≡ asked key
  pub of : (key : List Value) (object : ObjId) → find_identity old (root_of mapped class) key ≡ None → find_identity new (root_of mapped class) key ≡ Some object → is_of new mapped class object ≡ true

later : (old new : Graph) (object : ObjId) → length old.objects ≤ length new.objects → IsObject old object → IsObject new object
later old new object long is = (is.0, omega (arith, long, is.1))

pub gains_none : (mapped : Mapped) (class : ClassId) (graph : Graph) → Gains mapped class (λ key. false) graph graph
gains_none mapped class graph = record {
  long = omega arith;
  found = λ root key object e. e;
  classes = λ object is. refl;
  cells = λ object is attr held. refl;
  some = λ key none. ap is_some none;
  of = λ key object none e. absurd cc;
}

pub gains_same : (mapped : Mapped) (class : ClassId) (asked : List Value → Bool) (a b c : Graph) → Gains mapped class asked a b → Same b c → Gains mapped class asked a c
gains_same mapped class asked a b c p q = record {
  long = let one = p.long in let two = q.long in omega (arith, one, two);
  found = λ root key object e. q.found root key ∙ p.found root key object e;
  classes = λ object is. q.classes object ∙ p.classes object is;
  cells = λ object is attr held. let one = p.cells object is attr held in q.cells object attr (ap is_none one ∙ held) ∙ one;
  some = λ key none. ap is_some (q.found (root_of mapped class) key) ∙ p.some key none;
  of = λ key object none e. ap (λ (own : ClassId). is_at_or_under mapped own class) (q.classes object) ∙ p.of key object none (sym (q.found (root_of mapped class) key) ∙ e);
}

same_some : {A : Type 0} (x y : A) → ◌≡◌ {A = Option A} (Some x) (Some y) → x ≡ y
same_some x y e = cc

module _ (mapped : Mapped) (class : ClassId) (first second : List Value → Bool) (a b c : Graph) (rooted : length b.roots ≡ length b.objects) (p : Gains mapped class first a b) (q : Gains mapped class second b c) where
  abbrev root : ClassId
  root = root_of mapped class

  some_then : (key : List Value) (between : Option ObjId) → find_identity a root key ≡ None → find_identity b root key ≡ between → is_some (find_identity c root key) ≡ (first key || second key)
  some_then key None none is = q.some key is ∙ ap (λ (t : Bool). t || second key) (sym (ap is_some is) ∙ p.some key none)
  some_then key (Some object) none is = ap is_some (q.found root key object is) ∙ ap (λ (t : Bool). t || second key) (sym (ap is_some is) ∙ p.some key none)

  of_then : (key : List Value) (object : ObjId) (between : Option ObjId) → find_identity a root key ≡ None → find_identity b root key ≡ between → find_identity c root key ≡ Some object → is_of c mapped class object ≡ true
  of_then key object None none is e = q.of key object is e
  of_then key object (Some held) none is e =
      let one : held ≡ object = same_some held object (sym (q.found root key held is) ∙ e) in
      let there : IsObject b held = (found_stands b root key held rooted is).0 in
      subst (λ (o : ObjId). is_of c mapped class o ≡ true) one (ap (λ (own : ClassId). is_at_or_under mapped own class) (q.classes held there) ∙ p.of key held none is)

  pub gains_then : Gains mapped class (λ key. first key || second key) a c
  gains_then = record {
    long = let one = p.long in let two = q.long in omega (arith, one, two);
    found = λ other key object e. q.found other key object (p.found other key object e);
    classes = λ object is. q.classes object (later a b object p.long is) ∙ p.classes object is;
    cells = λ object is attr held. let one = p.cells object is attr held in q.cells object (later a b object p.long is) attr (ap is_none one ∙ held) ∙ one;
    some = λ key none. some_then key (find_identity b root key) none refl;
    of = λ key object none e. of_then key object (find_identity b root key) none refl e;
  }

-- ---- what is found and made

-- an object as a load makes it: no link of it is loaded, and nothing is kept for one
abbrev pub IsUntouched : Mapped → Object → Type 0
IsUntouched mapped object = object.links ≡ map (λ relation. Unloaded [] []) (relations_of mapped object.class)

-- the object is found under the key; what is found of the objects that there were was found before, and the others are as a load
-- makes them
pub record Finds (mapped : Mapped) (root : ClassId) (key : List Value) (object : ObjId) (old new : Graph) : Type 0 where
  pub found : find_identity new root key ≡ Some object
  pub before : (other_root : ClassId) (other_key : List Value) (other : ObjId) → IsObject old other → find_identity new other_root other_key ≡ Some other → find_identity old other_root other_key ≡ Some other
  pub made : (other : ObjId) → IsObject new other → IsObject old other ⊎ IsUntouched mapped (object_at new other)

finds_filled : (mapped : Mapped) (root : ClassId) (key : List Value) (object : ObjId) (old new : Graph) (filled_one : ObjId) (values : Found) → Finds mapped root key object old new → Finds mapped root key object old (with_filled new filled_one values)
unfolding with_filled
finds_filled mapped root key object old new filled_one values finds =
    let record_of : Object = filled_object values (object_at new filled_one) in
    let same : Same new (with_filled new filled_one values) = same_filled new filled_one values in
    record {
      found = same.found root key ∙ finds.found;
      before = λ other_root other_key other there e. finds.before other_root other_key other there (sym (same.found other_root other_key) ∙ e);
      made = λ other there.
          let long = same.long in
          let links : (object_at (with_filled new filled_one values) other).links ≡ (object_at new other).links =
          set_related (λ (x y : Object). y.links ≡ x.links) new.objects (place_of filled_one) (place_of other) record_of no_object (λ x. refl) refl in
          by other links (same.classes other) (finds.made other (there.0, omega (arith, long, there.1)));
    }
  where
    by : (other : ObjId) → (object_at (with_filled new filled_one values) other).links ≡ (object_at new other).links → (object_at (with_filled new filled_one values) other).class ≡ (object_at new other).class
        → IsObject old other ⊎ IsUntouched mapped (object_at new other) → IsObject old other ⊎ IsUntouched mapped (object_at (with_filled new filled_one values) other)
    by other links class (inl was) = inl was
    by other links class (inr untouched) = inr (links ∙ untouched ∙ ap (λ (own : ClassId). map (λ relation. Unloaded [] []) (relations_of mapped own)) (sym class))

-- ---- a row that is taken

found_place : (o : Option ℕ) (object : ObjId) → option_map id_of_place o ≡ Some object → (place : ℕ) × (o ≡ Some place) × (id_of_place place ≡ object)
found_place None object e = absurd cc
found_place (Some place) object e = (place, refl, same_some (id_of_place place) object e)

no_place : (o : Option ℕ) → option_map id_of_place o ≡ None → o ≡ None
no_place None e = refl
no_place (Some place) e = absurd cc

made_place : (b : Bool) (n : ℕ) (object : ObjId) → option_map id_of_place (cond b (Some n) None) ≡ Some object → id_of_place n ≡ object
made_place true n object e = same_some (id_of_place n) object e
made_place false n object e = absurd cc

one_found : (b : Bool) (n : ℕ) → is_some (option_map id_of_place (cond b (Some n) None)) ≡ b
one_found true n = refl
one_found false n = refl

module _ (mapped : Mapped) (class : ClassId) (row : List Value) (old : Graph) (has : HasHierarchies mapped) (declared : IsClass mapped class) (rooted : length old.roots ≡ length old.objects) where
  abbrev row_root : ClassId
  row_root = root_of mapped class

  abbrev own_key : List Value
  own_key = row_key mapped class row

  abbrev asked : List Value → Bool
  asked key = same_values own_key key

  -- an object that has the key already
  asked_by : (key : List Value) (object : ObjId) (b : Bool) → asked key ≡ b → find_identity old row_root own_key ≡ Some object → find_identity old row_root key ≡ None → false ≡ b
  asked_by key object false is found none = refl
  asked_by key object true is found none = absurd (let same : own_key ≡ key = same_equal own_key key is in let never = sym (ap (find_identity old row_root) same ∙ none) ∙ found in cc)

  gains_held : (object : ObjId) → find_identity old row_root own_key ≡ Some object → Gains mapped class asked old old
  gains_held object is = record {
    long = omega arith;
    found = λ root key other e. e;
    classes = λ other made. refl;
    cells = λ other made attr held. refl;
    some = λ key none. ap is_some none ∙ asked_by key object (asked key) refl is none;
    of = λ key other none e. absurd cc;
  }

  finds_held : (object : ObjId) → find_identity old row_root own_key ≡ Some object → Finds mapped row_root own_key object old old
  finds_held object is = record { found = is; before = λ root key other there e. e; made = λ other there. inl there }

  -- one that is made
  module _ (named : ClassId) (names : class_named mapped class row ≡ Some named) where
    abbrev new : Object
    new = loaded_object mapped named own_key

    abbrev after : Graph
    after = with_loaded mapped named own_key old

    long_is : length after.objects ≡ length old.objects + 1
    long_is = length-append old.objects (new ∷ [])

    marks_are : (root : ClassId) (key : List Value) → marks root key after ≡ marks root key old ++ holds root key (new, root_of mapped named) ∷ []
    marks_are root key = marks_behind root key old.objects old.roots new (root_of mapped named) rooted

    same_root : root_of mapped named ≡ row_root
    same_root = named_root mapped class named row has.paired names

    new_holds : (key : List Value) (b : Bool) → asked key ≡ b → holds row_root key (new, root_of mapped named) ≡ b
    new_holds key true is = ap (λ (r : ClassId). holds row_root key (new, r)) same_root ∙ itself row_root.0 (asked key) is
    new_holds key false is = ap (λ (r : ClassId). holds row_root key (new, r)) same_root ∙ no_holder (row_root.0 == row_root.0) (asked key) is
      where
        no_holder : (a b : Bool) → b ≡ false → (true && (a && b)) ≡ false
        no_holder true b e = e
        no_holder false b e = refl

    marks_long : (root : ClassId) (key : List Value) → length (marks root key old) ≡ length old.objects
    marks_long root key =
        let many : length (marks root key old) ≡ length (zip old.objects old.roots) = length-map (zip old.objects old.roots) (holds root key) in
        let paired = length-zip old.objects old.roots in
        omega (arith, many, paired, rooted)

    -- what is found under a key that nobody had
    found_after : (root : ClassId) (key : List Value) → find_identity old root key ≡ None → find_identity after root key ≡ option_map id_of_place (cond (holds root key (new, root_of mapped named)) (Some (length (marks root key old))) None)
    found_after root key none =
        found_by_marks root key after
        ∙ ap (λ (tests : List Bool). option_map id_of_place (seat tests)) (marks_are root key)
        ∙ ap (option_map id_of_place) (seat_last (marks root key old) (holds root key (new, root_of mapped named)) (no_place (seat (marks root key old)) (sym (found_by_marks root key old) ∙ none)))

    found_new : (key : List Value) → find_identity old row_root key ≡ None → find_identity after row_root key ≡ option_map id_of_place (cond (asked key) (Some (length (marks row_root key old))) None)
    found_new key none = found_after row_root key none ∙ ap (λ (b : Bool). option_map id_of_place (cond b (Some (length (marks row_root key old))) None)) (new_holds key (asked key) refl)

    kept : (root : ClassId) (key : List Value) (object : ObjId) → find_identity old root key ≡ Some object → find_identity after root key ≡ Some object
    kept root key object e =
        let place = found_place (seat (marks root key old)) object (sym (found_by_marks root key old) ∙ e) in
        found_by_marks root key after
        ∙ ap (λ (tests : List Bool). option_map id_of_place (seat tests)) (marks_are root key)
        ∙ ap (option_map id_of_place) (seat_kept (marks root key old) (holds root key (new, root_of mapped named)) place.0 place.1)
        ∙ ap Some place.2

    at_old : (object : ObjId) → IsObject old object → object_at after object ≡ object_at old object
    at_old object is = get_or_append_left old.objects (new ∷ []) no_object (place_of object) (omega (arith, is.0, is.1))

    at_new : (key : List Value) (object : ObjId) → id_of_place (length (marks row_root key old)) ≡ object → object_at after object ≡ new
    at_new key object is =
        let long = marks_long row_root key in
        let number : length (marks row_root key old) + 1 ≡ object.0 = ap (λ (o : ObjId). o.0) is in
        let place : place_of object ≡ length old.objects = omega (arith, long, number) in
        ap (λ (n : ℕ). get_or (old.objects ++ new ∷ []) n no_object) place ∙ get_or-append_seam old.objects new [] no_object

    gains_loaded : Gains mapped class asked old after
    gains_loaded = record {
      long = let more = long_is in omega (arith, more);
      found = kept;
      classes = λ object is. ap (λ (o : Object). o.class) (at_old object is);
      cells = λ object is attr held. ap (λ (o : Object). value_of o attr) (at_old object is);
      some = λ key none. ap is_some (found_new key none) ∙ one_found (asked key) (length (marks row_root key old));
      of = λ key object none e.
          ap (λ (o : Object). is_at_or_under mapped o.class class)
          (at_new key object (made_place (asked key) (length (marks row_root key old)) object (sym (found_new key none) ∙ e)))
          ∙ named_under mapped class named row has declared names;
    }

    made_by : (other : ObjId) (b : Bool) → nat_lt (place_of other) (length old.objects) ≡ b → IsObject after other → IsObject old other ⊎ IsUntouched mapped (object_at after other)
    made_by other true is there = inl (there.0, let less = ltb-true (place_of other) (length old.objects) is in omega (arith, there.0, less))
    made_by other false is there =
        let more = long_is in
        let past = ltb-false (place_of other) (length old.objects) is in
        let place : place_of other ≡ length old.objects = omega (arith, there.0, there.1, more, past) in
        let at : object_at after other ≡ new = ap (λ (n : ℕ). get_or (old.objects ++ new ∷ []) n no_object) place ∙ get_or-append_seam old.objects new [] no_object in
        inr (subst (IsUntouched mapped) (sym at) refl)

    before_by : (root : ClassId) (key : List Value) (other : ObjId) (held : Option ObjId) → IsObject old other → find_identity old root key ≡ held → find_identity after root key ≡ Some other → held ≡ Some other
    before_by root key other (Some one) there is e = sym (kept root key one is) ∙ e
    before_by root key other None there is e =
        let long = marks_long root key in
        let number : length (marks root key old) + 1 ≡ other.0 =
        ap (λ (o : ObjId). o.0) (made_place (holds root key (new, root_of mapped named)) (length (marks root key old)) other (sym (found_after root key is) ∙ e)) in
        absurd (omega (arith, long, number, there.1))

    finds_loaded : find_identity old row_root own_key ≡ None → Finds mapped row_root own_key (record { 0 = length old.objects + 1 }) old after
    finds_loaded none = record {
      found =
          found_new own_key none ∙ ap (λ (b : Bool). option_map id_of_place (cond b (Some (length (marks row_root own_key old))) None)) (same_equiv.refl own_key)
          ∙ ap (λ (n : ℕ). Some (id_of_place n)) (marks_long row_root own_key);
      before = λ root key other there e. before_by root key other (find_identity old root key) there refl e;
      made = λ other there. made_by other (nat_lt (place_of other) (length old.objects)) refl there;
    }

  same_pair : {A B : Type 0} (x y : A × B) → ◌≡◌ {A = Result (A × B) Refusal} (Ok x) (Ok y) → x ≡ y
  same_pair x y e = cc

  finds_made : (named : ClassId) (found : ObjId × Graph) (b : Bool) → class_named mapped class row ≡ Some named → find_identity old row_root own_key ≡ None
      → (if b then Ok (record { 0 = length old.objects + 1 }, with_loaded mapped named own_key old) else Err (LimitReached Objects)) ≡ Ok found → Finds mapped row_root own_key found.0 old found.1
  finds_made named found false names none e = absurd cc
  finds_made named found true names none e =
      subst (λ (one : ObjId × Graph). Finds mapped row_root own_key one.0 old one.1) (same_pair (record { 0 = length old.objects + 1 }, with_loaded mapped named own_key old) found e) (finds_loaded named names none)

  finds_named : (named : Option ClassId) (found : ObjId × Graph) → class_named mapped class row ≡ named → find_identity old row_root own_key ≡ None → loaded_as mapped own_key old named ≡ Ok found → Finds mapped row_root own_key found.0 old found.1
  unfolding load
  finds_named None found names none e = absurd cc
  finds_named (Some named) found names none e = finds_made named found (nat_lt (length old.objects) object_limit) names none e

  finds_found : (holder : Option ObjId) (found : ObjId × Graph) → find_identity old row_root own_key ≡ holder → found_or_loaded mapped class row old holder ≡ Ok found → Finds mapped row_root own_key found.0 old found.1
  finds_found None found is e = finds_named (class_named mapped class row) found refl is e
  finds_found (Some object) found is e = subst (λ (one : ObjId × Graph). Finds mapped row_root own_key one.0 old one.1) (same_pair (object, old) found e) (finds_held object is)

  finds_object : (found : ObjId × Graph) → row_object mapped class row old ≡ Ok found → Finds mapped row_root own_key found.0 old found.1
  unfolding row_object
  finds_object found e = finds_found (find_identity old row_root own_key) found refl e

  gains_made : (named : ClassId) (found : ObjId × Graph) (b : Bool) → class_named mapped class row ≡ Some named
      → (if b then Ok (record { 0 = length old.objects + 1 }, with_loaded mapped named own_key old) else Err (LimitReached Objects)) ≡ Ok found → Gains mapped class asked old found.1
  gains_made named found false names e = absurd cc
  gains_made named found true names e =
      subst (λ (one : ObjId × Graph). Gains mapped class asked old one.1) (same_pair (record { 0 = length old.objects + 1 }, with_loaded mapped named own_key old) found e) (gains_loaded named names)

  gains_named : (named : Option ClassId) (found : ObjId × Graph) → class_named mapped class row ≡ named → loaded_as mapped own_key old named ≡ Ok found → Gains mapped class asked old found.1
  unfolding load
  gains_named None found names e = absurd cc
  gains_named (Some named) found names e = gains_made named found (nat_lt (length old.objects) object_limit) names e

  gains_found : (holder : Option ObjId) (found : ObjId × Graph) → find_identity old row_root own_key ≡ holder → found_or_loaded mapped class row old holder ≡ Ok found → Gains mapped class asked old found.1
  gains_found None found is e = gains_named (class_named mapped class row) found refl e
  gains_found (Some object) found is e = subst (λ (one : ObjId × Graph). Gains mapped class asked old one.1) (same_pair (object, old) found e) (gains_held object is)

  gains_object : (found : ObjId × Graph) → row_object mapped class row old ≡ Ok found → Gains mapped class asked old found.1
  unfolding row_object
  gains_object found e = gains_found (find_identity old row_root own_key) found refl e

module _ (mapped : Mapped) (class : ClassId) (has : HasHierarchies mapped) (declared : IsClass mapped class) where
  taken_by : (row : List Value) (own now : Loading) (object : ObjId) (r : Result (ObjId × Graph) Refusal) → length own.graph.roots ≡ length own.graph.objects → row_object mapped class row own.graph ≡ r
      → Goes (λ (start : Loading). taken_as mapped class row start r) own object now → Gains mapped class (same_values (row_key mapped class row)) own.graph now.graph
  unfolding filled
  taken_by row own now object (Err e) rooted is g = absurd (let no = g.answer in cc)
  taken_by row own now object (Ok found) rooted is g =
      let values : Found = found_in_row mapped class row (object_at found.1 found.0).class in
      subst (λ (graph : Graph). Gains mapped class (same_values (row_key mapped class row)) own.graph graph) (ap (λ (one : Loading). one.graph) g.leaves)
      (gains_same mapped class (same_values (row_key mapped class row)) own.graph found.1 (with_filled found.1 found.0 values) (gains_object mapped class row own.graph has declared rooted found is) (same_filled found.1 found.0 values))

  -- the key of a row that is taken has an object then
  pub row_gains : (row : List Value) (own now : Loading) (object : ObjId) → length own.graph.roots ≡ length own.graph.objects → Goes (take_row mapped class row) own object now
      → Gains mapped class (same_values (row_key mapped class row)) own.graph now.graph
  unfolding take_row
  row_gains row own now object rooted g = taken_by row own now object (row_object mapped class row own.graph) rooted refl (record { answer = g.answer; leaves = g.leaves })

  found_by : (row : List Value) (own now : Loading) (object : ObjId) (r : Result (ObjId × Graph) Refusal) → length own.graph.roots ≡ length own.graph.objects → row_object mapped class row own.graph ≡ r
      → Goes (λ (start : Loading). taken_as mapped class row start r) own object now → Finds mapped (root_of mapped class) (row_key mapped class row) object own.graph now.graph
  unfolding filled
  found_by row own now object (Err e) rooted is g = absurd (let no = g.answer in cc)
  found_by row own now object (Ok found) rooted is g =
      let values : Found = found_in_row mapped class row (object_at found.1 found.0).class in
      let same : found.0 ≡ object = same_answer found.0 object g.answer in
      subst (λ (graph : Graph). Finds mapped (root_of mapped class) (row_key mapped class row) object own.graph graph) (ap (λ (one : Loading). one.graph) g.leaves)
      (subst (λ (one : ObjId). Finds mapped (root_of mapped class) (row_key mapped class row) one own.graph (with_filled found.1 found.0 values)) same
      (finds_filled mapped (root_of mapped class) (row_key mapped class row) found.0 own.graph found.1 found.0 values (finds_object mapped class row own.graph has declared rooted found is)))

  -- the identity map has the object of a row that is taken under the row's key
  pub row_finds : (row : List Value) (own now : Loading) (object : ObjId) → length own.graph.roots ≡ length own.graph.objects → Goes (take_row mapped class row) own object now
      → Finds mapped (root_of mapped class) (row_key mapped class row) object own.graph now.graph
  unfolding take_row
  row_finds row own now object rooted g = found_by row own now object (row_object mapped class row own.graph) rooted refl (record { answer = g.answer; leaves = g.leaves })

  -- one of these rows has the key
  abbrev pub has_key_of : List (List Value) → List Value → Bool
  has_key_of rows key = list_any (λ row. same_values (row_key mapped class row) key) rows

  each_gains : (rows : List (List Value)) (before : List ObjId) (own : Loading) (objects : List ObjId) (now : Loading) → length own.graph.roots ≡ length own.graph.objects → Goes (each (take_next mapped class) before rows) own objects now
      → Gains mapped class (has_key_of rows) own.graph now.graph
  unfolding each
  each_gains [] before own objects now rooted g =
      let end = given before objects own now g in subst (λ (u : Loading). Gains mapped class (has_key_of []) own.graph u.graph) end.1 (gains_none mapped class own.graph)
  each_gains (row ∷ rows) before own objects now rooted g =
      let one = parted (take_next mapped class row before) (λ (t : List ObjId). each (take_next mapped class) t rows) own objects now g in
      let two = parted (take_row mapped class row) (λ (o : ObjId). give (before ++ o ∷ [])) own one.value one.between one.first in
      let put = given (before ++ two.value ∷ []) one.value two.between one.between two.second in
      let there : length one.between.graph.roots ≡ length one.between.graph.objects =
      subst (λ (u : Loading). length u.graph.roots ≡ length u.graph.objects) put.1 (row_taken mapped class has.paired row own two.between two.value rooted two.first).rooted in
      let here : Gains mapped class (same_values (row_key mapped class row)) own.graph one.between.graph =
      subst (λ (u : Loading). Gains mapped class (same_values (row_key mapped class row)) own.graph u.graph) put.1 (row_gains row own two.between two.value rooted two.first) in
      gains_then mapped class (same_values (row_key mapped class row)) (has_key_of rows) own.graph one.between.graph now.graph there here (each_gains rows one.value one.between objects now there one.second)

  pub rows_gain : (rows : List (List Value)) (own : Loading) (objects : List ObjId) (now : Loading) → length own.graph.roots ≡ length own.graph.objects → Goes (take_rows mapped class rows) own objects now
      → Gains mapped class (has_key_of rows) own.graph now.graph
  unfolding take_rows
  rows_gain rows own objects now rooted g = each_gains rows [] own objects now rooted (record { answer = g.answer; leaves = g.leaves })
