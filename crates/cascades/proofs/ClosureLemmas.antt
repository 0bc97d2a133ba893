-- A walk that follows the links of each object to which it came has come to the closure.
use Rattle.std.proofs.Common.{◌≡◌, ℕ, ◌+◌, ◌<◌, ◌≤◌, Bool, true, false, ◌||◌, List, [], ◌∷◌, ◌++◌, length, map, cond, drop, get_or, replicate, zero, suc, Result, Ok, Err, IfOk, refl, sym, ap, ◌∙◌, subst, ⊎_elim, arith}
use Rattle.std.specs.Prelude.{◌==◌}
use Rattle.std.specs.Ordering.{eq_by_cmp, nat_cmp}
use Rattle.std.specs.Cmp.{unsigned_tied}
use Rattle.std.specs.List.{All, AllByRecursion, list_all}
use Rattle.std.specs.List.Sorted.{IsStrictlySortedBy}
use Rattle.std.specs.declared.cmp.Ordering.TheVariants.{Less}
use Rattle.std.proofs.lemmas.Bool.{and_from, and_parts, cases_Bool, eqb-true, eq-eqb, or_left, or_right}
use Rattle.std.proofs.lemmas.Bool.Decides.{nat_tests}
use Rattle.std.proofs.lemmas.List.{drop_more}
use Rattle.std.proofs.lemmas.Map.Views.{length-le_from_below}
use Rattle.std.proofs.lemmas.List.Elements.{All-nil, All-cons}
use Rattle.base_core.specs.declared.ids.ObjId.{ObjId}
use Rattle.base_core.specs.Ascending.{IsAbove, IsAscending, IsBelow}
use Rattle.class_mapping.specs.Mapped.{Mapped}
use Rattle.object_arena.specs.Graph.{Graph, IsObject}
use Rattle.object_arena.specs.Fit.{IsFit}
use Rattle.cascades.specs.declared.closures.Flag.{Flag}
use Rattle.cascades.specs.Closures.{IsClosed, is_among, linked_objects}
use Rattle.cascades.specs.Reaching.{IsReach}
use Rattle.cascades.specs.Walks.{Comes, id_of_number, is_in, is_marked, marked_from}
use Rattle.cascades.proofs.EndLemmas.{all_made, is_made, linked_made, made_is}
use Rattle.cascades.proofs.WalkLemmas.{among_left, among_one, among_split, clash, or_cases}

-- ---- tests of lists

pub at_each : (inside : ObjId → Bool) (objects : List ObjId) (object : ObjId) → list_all inside objects ≡ true → is_among objects object ≡ true → inside object ≡ true
at_each inside [] object all among = absurd cc
at_each inside (other ∷ objects) object all among =
    let parts = and_parts (inside other) (list_all inside objects) all in
    ⊎_elim
    (λ (same : (object.0 == other.0) ≡ true). subst (λ (n : ℕ). inside (id_of_number n) ≡ true) (sym (eqb-true object.0 other.0 same)) parts.0)
    (λ (later : is_among objects object ≡ true). at_each inside objects object parts.1 later)
    (or_cases (object.0 == other.0) (is_among objects object) among)

pub from_each : (inside : ObjId → Bool) (objects : List ObjId) → ((object : ObjId) → is_among objects object ≡ true → inside object ≡ true) → list_all inside objects ≡ true
from_each inside [] each = refl
from_each inside (other ∷ objects) each =
    and_from (inside other) (list_all inside objects) (each other (own other.0 (is_among objects other)))
    (from_each inside objects (λ object among. each object (more (object.0 == other.0) (is_among objects object) among)))
  where
    own : (n : ℕ) (rest : Bool) → ((n == n) || rest) ≡ true
    own n rest = ap (λ (b : Bool). b || rest) (eq-eqb n n refl)

    more : (a b : Bool) → b ≡ true → (a || b) ≡ true
    more true b h = refl
    more false b h = h

-- ---- the walk

-- The walk began at some objects. All that waits it has come to; the links of what waits no more, but for what is skipped,
-- lead to where it has come; and it has come to nothing that a closed set with these objects lacks.
pub record IsWalk (flag : Flag) (mapped : Mapped) (graph : Graph) (starts : List ObjId) (skip : ObjId → Bool) (reached : ℕ → Bool) (waiting : List ObjId) : Type 0 where
  pub began : (x : ObjId) → is_among starts x ≡ true → reached x.0 ≡ true
  pub held : (x : ObjId) → is_among waiting x ≡ true → reached x.0 ≡ true
  pub done : (x y : ObjId) → reached x.0 ≡ true → is_among waiting x ≡ false → skip x ≡ false → is_among (linked_objects flag mapped graph x) y ≡ true → reached y.0 ≡ true
  pub least : (inside : ObjId → Bool) → list_all inside starts ≡ true → IsClosed flag mapped graph inside → (number : ℕ) → reached number ≡ true → inside (id_of_number number) ≡ true

abbrev pub none : ObjId → Bool
none x = false

abbrev pub is_it : ObjId → ObjId → Bool
is_it next x = x.0 == next.0

-- no number has a mark
pub none_marked : (count number : ℕ) → is_marked (replicate count false) number ≡ false
none_marked zero number = refl
none_marked (suc count) zero = refl
none_marked (suc count) (suc number) = none_marked count number

-- it begins
pub walk_began : (flag : Flag) (mapped : Mapped) (graph : Graph) (starts : List ObjId) (none_yet keys : ℕ → Bool) (waiting : List ObjId) → ((number : ℕ) → none_yet number ≡ false) → Comes none_yet keys [] waiting starts → IsWalk flag mapped graph starts none keys waiting
walk_began flag mapped graph starts none_yet keys waiting empty comes = record {
  began = λ x among. comes.all x among;
  held = λ x among. comes.held x among refl;
  done = λ x y there idle skip linked_to. clash (is_among waiting x) (comes.waits x.0 there (empty x.0)) idle;
  least = λ inside begins closed number there. at_each inside starts (id_of_number number) begins (comes.only number there (empty number));
}

-- an object is taken out to be followed
pub walk_taken : (flag : Flag) (mapped : Mapped) (graph : Graph) (starts : List ObjId) (keys : ℕ → Bool) (waiting rest : List ObjId) (next : ObjId) → waiting ≡ rest ++ next ∷ [] → IsWalk flag mapped graph starts none keys waiting → IsWalk flag mapped graph starts (is_it next) keys rest
walk_taken flag mapped graph starts keys waiting rest next is walk = record {
  began = walk.began;
  held = λ x among. walk.held x (subst (λ (ws : List ObjId). is_among ws x ≡ true) (sym is) (among_left rest (next ∷ []) x among));
  done = λ x y there idle skip linked_to. walk.done x y there (subst (λ (ws : List ObjId). is_among ws x ≡ false) (sym is) (out x idle skip)) refl linked_to;
  least = walk.least;
}
  where
    out : (x : ObjId) → is_among rest x ≡ false → is_it next x ≡ false → is_among (rest ++ next ∷ []) x ≡ false
    out x idle skip =
        ⊎_elim
        (λ (present : is_among (rest ++ next ∷ []) x ≡ true).
        ⊎_elim
        (λ (left : is_among rest x ≡ true). clash (is_among rest x) left idle)
        (λ (right : is_among (next ∷ []) x ≡ true). clash (x.0 == next.0) (eq-eqb x.0 next.0 (among_one x next right)) skip)
        (among_split rest (next ∷ []) x present))
        (λ (absent : is_among (rest ++ next ∷ []) x ≡ false). absent)
        (cases_Bool (is_among (rest ++ next ∷ []) x))

-- the object that was taken out had been reached
pub taken_reached : (flag : Flag) (mapped : Mapped) (graph : Graph) (starts : List ObjId) (keys : ℕ → Bool) (waiting rest : List ObjId) (next : ObjId) → waiting ≡ rest ++ next ∷ [] → IsWalk flag mapped graph starts none keys waiting → keys next.0 ≡ true
taken_reached flag mapped graph starts keys waiting rest next is walk =
    walk.held next (subst (λ (ws : List ObjId). is_among ws next ≡ true) (sym is) (last rest))
  where
    last : (xs : List ObjId) → is_among (xs ++ next ∷ []) next ≡ true
    last [] = ap (λ (b : Bool). b || false) (eq-eqb next.0 next.0 refl)
    last (x ∷ xs) = more (next.0 == x.0) (is_among (xs ++ next ∷ []) next) (last xs)
      where
        more : (a b : Bool) → b ≡ true → (a || b) ≡ true
        more true b h = refl
        more false b h = h

-- its links were followed
pub walk_more : (flag : Flag) (mapped : Mapped) (graph : Graph) (starts : List ObjId) (old new : ℕ → Bool) (rest waiting : List ObjId) (next : ObjId) → old next.0 ≡ true → IsWalk flag mapped graph starts (is_it next) old rest → Comes old new rest waiting (linked_objects flag mapped graph next) → IsWalk flag mapped graph starts none new waiting
walk_more flag mapped graph starts old new rest waiting next reached walk comes = record {
  began = λ x among. comes.kept x.0 (walk.began x among);
  held = λ x among.
      ⊎_elim
      (λ (before : is_among rest x ≡ true). comes.kept x.0 (walk.held x before))
      (λ (now : is_among rest x ≡ false). comes.held x among now)
      (cases_Bool (is_among rest x));
  done = λ x y there idle skip linked_to.
      ⊎_elim
      (λ (same : (x.0 == next.0) ≡ true).
      comes.all y (subst (λ (n : ℕ). is_among (linked_objects flag mapped graph (id_of_number n)) y ≡ true) (eqb-true x.0 next.0 same) linked_to))
      (λ (other : (x.0 == next.0) ≡ false).
      ⊎_elim
      (λ (before : old x.0 ≡ true). comes.kept y.0 (walk.done x y before (still_out x idle) other linked_to))
      (λ (now : old x.0 ≡ false). clash (is_among waiting x) (comes.waits x.0 there now) idle)
      (cases_Bool (old x.0)))
      (cases_Bool (x.0 == next.0));
  least = λ inside begins closed number there.
      ⊎_elim
      (λ (before : old number ≡ true). walk.least inside begins closed number before)
      (λ (now : old number ≡ false). at_each inside (linked_objects flag mapped graph next) (id_of_number number) (closed next (walk.least inside begins closed next.0 reached)) (comes.only number there now))
      (cases_Bool (old number));
}
  where
    still_out : (x : ObjId) → is_among waiting x ≡ false → is_among rest x ≡ false
    still_out x idle =
        ⊎_elim
        (λ (present : is_among rest x ≡ true). clash (is_among waiting x) (comes.still x present) idle)
        (λ (absent : is_among rest x ≡ false). absent)
        (cases_Bool (is_among rest x))

-- ---- objects alone

made_closed : (flag : Flag) (mapped : Mapped) (graph : Graph) → IsFit mapped graph → IsClosed flag mapped graph (is_made graph)
made_closed flag mapped graph fit x made = linked_made flag mapped graph x fit (made_is graph x made)

pub reached_made : (flag : Flag) (mapped : Mapped) (graph : Graph) (starts : List ObjId) (skip : ObjId → Bool) (keys : ℕ → Bool) (waiting : List ObjId) (number : ℕ) → IsFit mapped graph → All (IsObject graph) starts → IsWalk flag mapped graph starts skip keys waiting → keys number ≡ true → IsObject graph (id_of_number number)
reached_made flag mapped graph starts skip keys waiting number fit within walk there =
    made_is graph (id_of_number number) (walk.least (is_made graph) (all_made graph starts within) (made_closed flag mapped graph fit) number there)

-- ---- a walk that keeps a set of numbers

-- each number of a list is in it
own_key : (key : ℕ) (keys : List ℕ) → is_in (key ∷ keys) key ≡ true
own_key key keys = ap (λ (b : Bool). b || is_in keys key) (unsigned_tied key key ∙ eq-eqb key key refl)

below : (count : ℕ) (keys : List ℕ) → ((number : ℕ) → is_in keys number ≡ true → number < count) → All (λ number. number < count) keys
below count [] each = All-nil (λ number. number < count)
below count (key ∷ keys) each =
    All-cons (λ number. number < count) key keys (each key (own_key key keys)) (below count keys (λ number there. each number (or_right _ (is_in keys number) there)))

-- no more than there are objects
pub reached_few : (flag : Flag) (mapped : Mapped) (graph : Graph) (starts : List ObjId) (skip : ObjId → Bool) (keys : List ℕ) (waiting : List ObjId) → IsFit mapped graph → All (IsObject graph) starts → IsStrictlySortedBy nat_cmp keys → IsWalk flag mapped graph starts skip (is_in keys) waiting → length keys ≤ length graph.objects + 1
reached_few flag mapped graph starts skip keys waiting fit within ascending walk =
    length-le_from_below (length graph.objects + 1) keys ascending
    (below (length graph.objects + 1) keys (λ number there.
    let inside : number ≤ length graph.objects = (reached_made flag mapped graph starts skip (is_in keys) waiting number fit within walk there).1 in
    omega arith))

below_all : (key : ℕ) (keys : List ℕ) → AllByRecursion (λ y. nat_cmp key y ≡ Less) keys → IsBelow (id_of_number key) (map id_of_number keys)
below_all key [] all = tt
below_all key (next ∷ keys) all = let less : nat_cmp key next ≡ Less = all.0 in (grind (arith, nat_tests), below_all key keys all.1)

pub in_order : (keys : List ℕ) → IsStrictlySortedBy nat_cmp keys → IsAscending (map id_of_number keys)
unfolding IsStrictlySortedBy
in_order [] ascending = tt
in_order (key ∷ keys) ascending = (below_all key keys ascending.0, in_order keys ascending.1)

among_has : (keys : List ℕ) (object : ObjId) → is_among (map id_of_number keys) object ≡ is_in keys object.0
among_has [] object = refl
among_has (key ∷ keys) object =
    ap (λ (b : Bool). b || is_among (map id_of_number keys) object) (sym (unsigned_tied object.0 key)) ∙ ap (λ (b : Bool). eq_by_cmp nat_cmp object.0 key || b) (among_has keys object)

-- ---- a walk that has a mark for each object

-- objects that were made have marks, each its own
within_marks : (graph : Graph) (objects : List ObjId) (marks : List Bool) → length marks ≡ length graph.objects + 1 → list_all (is_made graph) objects ≡ true → All (λ (end : ObjId). end.0 < length marks) objects
within_marks graph [] marks long made = All-nil (λ (end : ObjId). end.0 < length marks)
within_marks graph (x ∷ objects) marks long made =
    let parts = and_parts (is_made graph x) (list_all (is_made graph) objects) made in
    let it : x.0 ≤ length graph.objects = (made_is graph x parts.0).1 in
    All-cons (λ (end : ObjId). end.0 < length marks) x objects (omega (arith, it, long)) (within_marks graph objects marks long parts.1)

pub starts_within : (graph : Graph) (starts : List ObjId) (marks : List Bool) → length marks ≡ length graph.objects + 1 → All (IsObject graph) starts → All (λ (end : ObjId). end.0 < length marks) starts
starts_within graph starts marks long made = within_marks graph starts marks long (all_made graph starts made)

-- so have the objects to which one is linked
pub ends_within : (flag : Flag) (mapped : Mapped) (graph : Graph) (object : ObjId) (ends : List ObjId) (marks : List Bool) → IsFit mapped graph → IsObject graph object → ends ≡ linked_objects flag mapped graph object → length marks ≡ length graph.objects + 1
    → All (λ (end : ObjId). end.0 < length marks) ends
ends_within flag mapped graph object ends marks fit within is long = within_marks graph ends marks long (ap (list_all (is_made graph)) is ∙ linked_made flag mapped graph object fit within)

-- ---- the objects that have marks, in order

below_marked : (x : ObjId) (number : ℕ) (marks : List Bool) → x.0 < number → IsBelow x (marked_from number marks)
below_marked x number [] less = tt
below_marked x number (true ∷ marks) less = (less, below_marked x (number + 1) marks (omega (arith, less)))
below_marked x number (false ∷ marks) less = below_marked x (number + 1) marks (omega (arith, less))

pub rising_marked : (number : ℕ) (marks : List Bool) → IsAscending (marked_from number marks)
rising_marked number [] = tt
rising_marked number (true ∷ marks) = (below_marked (id_of_number number) (number + 1) marks (omega arith), rising_marked (number + 1) marks)
rising_marked number (false ∷ marks) = rising_marked (number + 1) marks

below_one : (x : ObjId) (xs : List ObjId) (y : ObjId) (ys : List ObjId) → IsBelow x (xs ++ y ∷ ys) → x.0 < y.0
below_one x [] y ys below = below.0
below_one x (z ∷ zs) y ys below = below_one x zs y ys below.1

-- in a list in order an object is above those before it
pub above_before : (xs : List ObjId) (y : ObjId) (ys : List ObjId) → IsAscending (xs ++ y ∷ ys) → IsAbove xs y
above_before [] y ys ascending = tt
above_before (x ∷ xs) y ys ascending = (below_one x xs y ys ascending.0, above_before xs y ys ascending.1)

-- ---- a loop over the marks

marked_turn : (marks : List Bool) (number : ℕ) → number < length marks → marked_from number (drop number marks) ≡ cond (is_marked marks number) (id_of_number number ∷ []) [] ++ marked_from (number + 1) (drop (number + 1) marks)
marked_turn marks number less = ap (marked_from number) (drop_more marks number false less) ∙ by (is_marked marks number)
  where
    by : (b : Bool) → marked_from number (b ∷ drop (number + 1) marks) ≡ cond b (id_of_number number ∷ []) [] ++ marked_from (number + 1) (drop (number + 1) marks)
    by true = refl
    by false = refl

marked_as : (marks : List Bool) (number : ℕ) (b : Bool) → number < length marks → is_marked marks number ≡ b → marked_from number (drop number marks) ≡ cond b (id_of_number number ∷ []) [] ++ marked_from (number + 1) (drop (number + 1) marks)
marked_as marks number b less is = marked_turn marks number less ∙ ap (λ (m : Bool). cond m (id_of_number number ∷ []) [] ++ marked_from (number + 1) (drop (number + 1) marks)) is

-- the next object is above those before it
pub above_marked : (marks : List Bool) (number : ℕ) (set : List ObjId) → number < length marks → is_marked marks number ≡ true → set ++ marked_from number (drop number marks) ≡ marked_from 0 marks → IsAbove set (id_of_number number)
above_marked marks number set less mark so_far =
    above_before set (id_of_number number) (marked_from (number + 1) (drop (number + 1) marks))
    (subst IsAscending (sym (ap (λ (rest : List ObjId). set ++ rest) (sym (marked_as marks number true less mark)) ∙ so_far)) (rising_marked 0 marks))

-- ---- the end

other_number : (n m : ℕ) → (n ≡ m → ⊥) → (n == m) ≡ false
other_number n m differs = by (n == m) refl
  where
    by : (b : Bool) → (n == m) ≡ b → b ≡ false
    by true same = absurd (differs (eqb-true n m same))
    by false same = refl

before_marked : (number : ℕ) (marks : List Bool) (object : ObjId) → object.0 < number → is_among (marked_from number marks) object ≡ false
before_marked number [] object less = refl
before_marked number (true ∷ marks) object less =
    ap (λ (b : Bool). b || is_among (marked_from (number + 1) marks) object) (other_number object.0 number (λ same. omega (arith, same, less)))
    ∙ before_marked (number + 1) marks object (omega (arith, less))
before_marked number (false ∷ marks) object less = before_marked (number + 1) marks object (omega (arith, less))

among_at : (number : ℕ) (marks : List Bool) (object : ObjId) (place : ℕ) → object.0 ≡ number + place → is_among (marked_from number marks) object ≡ get_or marks place false
among_at number [] object place is = refl
among_at number (true ∷ marks) object zero is = or_left (object.0 == number) (is_among (marked_from (number + 1) marks) object) (eq-eqb object.0 number (omega (arith, is)))
among_at number (true ∷ marks) object (suc place) is =
    ap (λ (b : Bool). b || is_among (marked_from (number + 1) marks) object) (other_number object.0 number (λ same. omega (arith, same, is)))
    ∙ among_at (number + 1) marks object place (omega (arith, is))
among_at number (false ∷ marks) object zero is = before_marked (number + 1) marks object (omega (arith, is))
among_at number (false ∷ marks) object (suc place) is = among_at (number + 1) marks object place (omega (arith, is))

-- nothing waits any more
pub walk_ended : (flag : Flag) (mapped : Mapped) (graph : Graph) (starts : List ObjId) (keys : ℕ → Bool) (waiting : List ObjId) (set : List ObjId) → IsFit mapped graph → All (IsObject graph) starts → IsAscending set → ((x : ObjId) → is_among set x ≡ keys x.0) → waiting ≡ [] → IsWalk flag mapped graph starts none keys waiting → IsReach flag mapped graph starts set
walk_ended flag mapped graph starts keys waiting set fit within ascending there ended walk =
    record {
      ascending = ascending;
      has = from_each (is_among set) starts (λ x among. there x ∙ walk.began x among);
      closed = λ x inside. from_each (is_among set) (linked_objects flag mapped graph x) (λ y linked_to.
          there y ∙ walk.done x y (sym (there x) ∙ inside) (ap (λ (ws : List ObjId). is_among ws x) ended) refl linked_to);
      least = λ inside begins closed. from_each inside set (λ x among. walk.least inside begins closed x.0 (sym (there x) ∙ among));
      objects = all_objects set (λ x among. reached_made flag mapped graph starts none keys waiting x.0 fit within walk (sym (there x) ∙ among));
    }
  where
    all_objects : (objects : List ObjId) → ((x : ObjId) → is_among objects x ≡ true → IsObject graph x) → All (IsObject graph) objects
    all_objects [] each = All-nil (IsObject graph)
    all_objects (x ∷ objects) each =
        All-cons (IsObject graph) x objects (each x (ap (λ (b : Bool). b || is_among objects x) (eq-eqb x.0 x.0 refl)))
        (all_objects objects (λ y among. each y (or_right (y.0 == x.0) (is_among objects y) among)))

-- the numbers of a set
pub kept_ended : (flag : Flag) (mapped : Mapped) (graph : Graph) (starts : List ObjId) (keys : List ℕ) (waiting : List ObjId) (set : List ObjId) → IsFit mapped graph → All (IsObject graph) starts → IsStrictlySortedBy nat_cmp keys → waiting ≡ [] → set ≡ map id_of_number keys
    → IsWalk flag mapped graph starts none (is_in keys) waiting → IsReach flag mapped graph starts set
kept_ended flag mapped graph starts keys waiting set fit within sorted ended is walk =
    walk_ended flag mapped graph starts (is_in keys) waiting set fit within (subst IsAscending (sym is) (in_order keys sorted)) (λ x. ap (λ (xs : List ObjId). is_among xs x) is ∙ among_has keys x) ended walk

-- the objects that have marks
pub marks_ended : (flag : Flag) (mapped : Mapped) (graph : Graph) (starts : List ObjId) (marks : List Bool) (waiting : List ObjId) (set : List ObjId) → IsFit mapped graph → All (IsObject graph) starts → waiting ≡ [] → set ≡ marked_from 0 marks
    → IsWalk flag mapped graph starts none (is_marked marks) waiting → IsReach flag mapped graph starts set
marks_ended flag mapped graph starts marks waiting set fit within ended is walk =
    walk_ended flag mapped graph starts (is_marked marks) waiting set fit within (subst IsAscending (sym is) (rising_marked 0 marks)) (λ x. ap (λ (xs : List ObjId). is_among xs x) is ∙ among_at 0 marks x x.0 (omega arith)) ended walk

-- ---- answers

pub empty_of : {X : Type 0} (xs : List X) → length xs ≡ 0 → xs ≡ []
empty_of [] h = refl
empty_of (x ∷ xs) h = absurd (omega (arith, h))

pub if_ok : {X E : Type 0} (P Q : X → Type 0) (result : Result X E) → ((x : X) → P x → Q x) → IfOk result P → IfOk result Q
if_ok P Q (Ok x) step h = step x h
if_ok P Q (Err e) step h = h
