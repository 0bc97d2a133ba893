-- Writes of one object after another, and of every object in turn.
use Rattle.std.proofs.Common.{◌≡◌, ℕ, ◌+◌, ◌<◌, ◌≤◌, List, [], ◌∷◌, ◌++◌, length, map, get_or, take, drop, zero, suc, refl, sym, ap, ◌∙◌, arith, add-one}
use Rattle.std.specs.Prelude.{slice_set}
use Rattle.std.specs.List.{enumerate_from}
use Rattle.std.proofs.lemmas.List.{get_or-set_same, get_or_past, set-get_or, take_all, drop_all, append-nil}
use Rattle.std.proofs.lemmas.Option.{slice_get-get_or}
use Rattle.base_core.specs.declared.ids.ObjId.{ObjId}
use Rattle.object_arena.specs.declared.object.Object.{Object}
use Rattle.object_arena.specs.Graph.{Graph, IsObject, no_object, object_at, place_of, with_object}
use Rattle.object_arena.specs.Every.{each_object, each_placed}
use Rattle.object_arena.proofs.PartLemmas.{set_twice, write_over}

-- the record that was put in is read again
pub at_with : (graph : Graph) (object : ObjId) (new : Object) → IsObject graph object → object_at (with_object graph object new) object ≡ new
at_with graph object new made = get_or-set_same graph.objects (place_of object) new no_object (omega (arith, made.0, made.1))

-- of two writes of an object the second stays
pub with_twice : (graph : Graph) (object : ObjId) (one two : Object) → with_object (with_object graph object one) object two ≡ with_object graph object two
with_twice graph object one two = ap (λ (objects : List Object). record { objects = objects; roots = graph.roots }) (set_twice graph.objects (place_of object) one two)

-- a write of the record that is there changes nothing
pub with_same : (graph : Graph) (object : ObjId) → with_object graph object (object_at graph object) ≡ graph
with_same graph object = ap (λ (objects : List Object). record { objects = objects; roots = graph.roots }) (set-get_or graph.objects (place_of object) no_object)

-- one write after another, the second told by what the first put in
pub written_twice : (change : Object → Object) (graph now new : Graph) (object : ObjId) (one : Object) → IsObject graph object → now ≡ with_object graph object one → new ≡ with_object now object (change (object_at now object)) → new ≡ with_object graph object (change one)
written_twice change graph now new object one made first second =
    second
    ∙ ap (λ (g : Graph). with_object g object (change (object_at g object))) first
    ∙ ap (λ (o : Object). with_object (with_object graph object one) object (change o)) (at_with graph object one made)
    ∙ with_twice graph object one (change one)

-- ---- every object in turn

-- the graph in which the objects before a place are changed
abbrev pub changed_before : (Object → Object) → Graph → ℕ → Graph
changed_before change graph place = record { objects = map change (take place graph.objects) ++ drop place graph.objects; roots = graph.roots }

-- one object more
pub changed_more : (change : Object → Object) (graph now new : Graph) (i n : ℕ) → i < length graph.objects → length now.objects ≡ length graph.objects → now ≡ changed_before change graph i → n ≡ i + 1
    → (let object : ObjId = record { 0 = n } in new ≡ with_object now object (change (object_at now object))) → new ≡ changed_before change graph (i + 1)
changed_more change graph now new i n less same so_far number write =
    let object : ObjId = record { 0 = n } in
    let place : place_of object ≡ i = omega (arith, number) in
    let within : i < length now.objects = omega (arith, less, same) in
    let here : object_at now object ≡ get_or now.objects i no_object = ap (λ (p : ℕ). get_or now.objects p no_object) place in
    let put : new.objects ≡ slice_set now.objects i (change (get_or now.objects i no_object)) =
    ap (λ (g : Graph). g.objects) write
    ∙ ap (λ (p : ℕ). slice_set now.objects p (change (object_at now object))) place
    ∙ ap (λ (o : Object). slice_set now.objects i (change o)) here in
    let objects : new.objects ≡ map change (take (i + 1) graph.objects) ++ drop (i + 1) graph.objects =
    write_over change graph.objects now.objects new.objects i (get_or now.objects i no_object) less (ap (λ (g : Graph). g.objects) so_far) (slice_get-get_or now.objects i no_object within) put in
    let roots : new.roots ≡ graph.roots = ap (λ (g : Graph). g.roots) write ∙ ap (λ (g : Graph). g.roots) so_far in
    cc

-- none yet
pub changed_none : (change : Object → Object) (graph : Graph) → graph ≡ changed_before change graph 0
changed_none change graph = refl

-- all of them
pub changed_all : (change : Object → Object) (graph now : Graph) (i : ℕ) → length graph.objects ≤ i → now ≡ changed_before change graph i → now ≡ each_object change graph
changed_all change graph now i ended so_far =
    so_far ∙ ap (λ (objects : List Object). record { objects = objects; roots = graph.roots })
    (ap (λ (objects : List Object). map change (take i graph.objects) ++ objects) (drop_all i graph.objects ended)
    ∙ append-nil (map change (take i graph.objects))
    ∙ ap (map change) (take_all i graph.objects ended))

pub ruleset turns = (changed_more, changed_none, changed_all)

-- ---- every object in turn, each as its place says

-- the items of which those before a place are changed, each as its own place says
abbrev pub placed_before : {X : Type 0} → (ℕ → X → X) → ℕ → ℕ → List X → List X
placed_before change n place xs = map (λ placed. change placed.0 placed.1) (enumerate_from n (take place xs)) ++ drop place xs

-- a write of the item at a place, made of the place and the item that stood there
pub placed_write : {X : Type 0} (change : ℕ → X → X) (n : ℕ) (xs : List X) (i p : ℕ) (d : X) → i < length xs → p ≡ n + i
    → slice_set (placed_before change n i xs) i (change p (get_or (placed_before change n i xs) i d)) ≡ placed_before change n (suc i) xs
placed_write change n [] i p d less at = absurd (omega arith)
placed_write change n (x ∷ xs) zero p d less at = let same : p ≡ n = omega arith in ap (λ q. change q x ∷ xs) same
placed_write change n (x ∷ xs) (suc i) p d less at = ap (λ ys. change n x ∷ ys) (placed_write change (n + 1) xs i p d (omega arith) (omega arith))

-- an item that has been changed
pub placed_done : {X : Type 0} (change : ℕ → X → X) (n : ℕ) (xs : List X) (i j : ℕ) (d e : X) → j < i → j < length xs → get_or (placed_before change n i xs) j d ≡ change (n + j) (get_or xs j e)
placed_done change n [] i j d e before less = absurd (omega arith)
placed_done change n (x ∷ xs) zero j d e before less = absurd (omega arith)
placed_done change n (x ∷ xs) (suc i) zero d e before less = let same : n ≡ n + 0 = omega arith in ap (λ q. change q x) same
placed_done change n (x ∷ xs) (suc i) (suc j) d e before less =
    let same : n + 1 + j ≡ n + suc j = omega arith in
    placed_done change (n + 1) xs i j d e (omega arith) (omega arith) ∙ ap (λ q. change q (get_or xs j e)) same

-- an item that is still to be changed
pub placed_left : {X : Type 0} (change : ℕ → X → X) (n : ℕ) (xs : List X) (i j : ℕ) (d : X) → i ≤ j → get_or (placed_before change n i xs) j d ≡ get_or xs j d
placed_left change n [] zero j d after = refl
placed_left change n [] (suc i) j d after = refl
placed_left change n (x ∷ xs) zero j d after = refl
placed_left change n (x ∷ xs) (suc i) zero d after = absurd (omega arith)
placed_left change n (x ∷ xs) (suc i) (suc j) d after = placed_left change (n + 1) xs i j d (omega arith)

-- no item
pub placed_past : {X : Type 0} (change : ℕ → X → X) (n : ℕ) (xs : List X) (i j : ℕ) (d : X) → length xs ≤ j → get_or (placed_before change n i xs) j d ≡ d
placed_past change n [] zero j d past = refl
placed_past change n [] (suc i) j d past = refl
placed_past change n (x ∷ xs) i zero d past = absurd (omega arith)
placed_past change n (x ∷ xs) zero (suc j) d past = get_or_past xs j d (omega arith)
placed_past change n (x ∷ xs) (suc i) (suc j) d past = placed_past change (n + 1) xs i j d (omega arith)

-- as many items
pub placed_long : {X : Type 0} (change : ℕ → X → X) (n : ℕ) (xs : List X) (i : ℕ) → length (placed_before change n i xs) ≡ length xs
placed_long change n [] zero = refl
placed_long change n [] (suc i) = refl
placed_long change n (x ∷ xs) zero = refl
placed_long change n (x ∷ xs) (suc i) = ap (λ k. suc k) (placed_long change (n + 1) xs i)

-- all have been changed
pub placed_whole : {X : Type 0} (change : ℕ → X → X) (n : ℕ) (xs : List X) (i : ℕ) → length xs ≤ i → placed_before change n i xs ≡ map (λ placed. change placed.0 placed.1) (enumerate_from n xs)
placed_whole change n [] zero ended = refl
placed_whole change n [] (suc i) ended = refl
placed_whole change n (x ∷ xs) zero ended = absurd (omega arith)
placed_whole change n (x ∷ xs) (suc i) ended = ap (λ ys. change n x ∷ ys) (placed_whole change (n + 1) xs i (omega arith))

-- the graph in which the objects before a place are changed
abbrev pub graph_before : (ℕ → Object → Object) → Graph → ℕ → Graph
graph_before change graph place = record { objects = placed_before change 0 place graph.objects; roots = graph.roots }

-- one object more
pub placed_more : (change : ℕ → Object → Object) (graph now new : Graph) (i n : ℕ) → i < length graph.objects → now ≡ graph_before change graph i → n ≡ i + 1
    → (let object : ObjId = record { 0 = n } in new ≡ with_object now object (change i (object_at now object))) → new ≡ graph_before change graph (i + 1)
placed_more change graph now new i n less so_far number write =
    let object : ObjId = record { 0 = n } in
    let place : place_of object ≡ i = omega (arith, number) in
    let mid : List Object = placed_before change 0 i graph.objects in
    write
    ∙ ap (λ (p : ℕ). record { objects = slice_set now.objects p (change i (get_or now.objects p no_object)); roots = now.roots }) place
    ∙ ap (λ (g : Graph). record { objects = slice_set g.objects i (change i (get_or g.objects i no_object)); roots = g.roots }) so_far
    ∙ ap (λ (objects : List Object). record { objects = objects; roots = graph.roots })
    (placed_write change 0 graph.objects i i no_object less (omega arith) ∙ ap (λ (p : ℕ). placed_before change 0 p graph.objects) (sym (add-one i)))

-- all of them
pub placed_all : (change : ℕ → Object → Object) (graph now : Graph) (i : ℕ) → length graph.objects ≤ i → now ≡ graph_before change graph i → now ≡ each_placed change graph
placed_all change graph now i ended so_far = so_far ∙ ap (λ (objects : List Object). record { objects = objects; roots = graph.roots }) (placed_whole change 0 graph.objects i ended)
