-- Steps of the loops over traces.
use Rattle.std.proofs.Common.{◌≡◌, ℕ, ◌+◌, ◌-◌, ◌<◌, ◌≤◌, List, [], ◌∷◌, ◌++◌, length, map, get_or, take, drop, zero, suc, refl, sym, ap, ◌∙◌, arith, append_assoc}
use Rattle.std.specs.Prelude.{replicate, slice_set}
use Rattle.std.proofs.lemmas.List.Edits.{map_over_more}
use Rattle.std.proofs.lemmas.List.{append-nil, take_all, drop_all, take-append-le, length-append, length-replicate}
use Rattle.base_core.specs.declared.ids.ObjId.{ObjId}
use Rattle.object_arena.specs.Graph.{Graph, object_at, place_of}
use Rattle.savepoints.specs.declared.scope.Scope.{Scope}
use Rattle.savepoints.specs.declared.traces.Trace.{Trace}
use Rattle.savepoints.specs.Scopes.{Framed, no_trace, outward, padded_traces, touch, touch_in, touched_trace}

replicate_more : (n : ℕ) → replicate n no_trace ++ no_trace ∷ [] ≡ replicate (n + 1) no_trace
replicate_more zero = refl
replicate_more (suc n) = let e : suc (n + 1) ≡ suc n + 1 = omega arith in ap (λ (ts : List Trace). no_trace ∷ ts) (replicate_more n) ∙ ap (λ (k : ℕ). replicate k no_trace) e

-- one trace more
pub pad_more : (old now : List Trace) (n : ℕ) → now ≡ old ++ replicate n no_trace → now ++ no_trace ∷ [] ≡ old ++ replicate (n + 1) no_trace
pad_more old now n so_far = ap (λ (ts : List Trace). ts ++ no_trace ∷ []) so_far ∙ append_assoc old (replicate n no_trace) (no_trace ∷ []) ∙ ap (λ (ts : List Trace). old ++ ts) (replicate_more n)

pub pad_none : (old : List Trace) → old ≡ old ++ replicate 0 no_trace
pad_none old = sym (append-nil old)

-- what stood there stays
pub pad_kept : (old now : List Trace) (n : ℕ) → now ≡ old ++ replicate n no_trace → take (length old) now ≡ old
pad_kept old now n so_far = ap (λ (ts : List Trace). take (length old) ts) so_far ∙ take-append-le (length old) old (replicate n no_trace) (omega arith) ∙ take_all (length old) old (omega arith)

pub ruleset grows = (pad_more, pad_none, pad_kept)

-- ---- one trace after another passes outwards

pub outward_more : (depth : ℕ) (old now new : List Trace) (i : ℕ) (trace : Trace) → i < length old → now ≡ map (outward depth) (take i old) ++ drop i old → trace ≡ get_or now i trace → new ≡ slice_set now i (outward depth trace) → new ≡ map (outward depth) (take (i + 1) old) ++ drop (i + 1) old
outward_more depth old now new i trace less so_far here write = write ∙ map_over_more (outward depth) old now i trace less so_far here

pub outward_none : (depth : ℕ) (old : List Trace) → old ≡ map (outward depth) (take 0 old) ++ drop 0 old
outward_none depth old = refl

pub outward_all : (depth : ℕ) (old now : List Trace) (i : ℕ) → length old ≤ i → now ≡ map (outward depth) (take i old) ++ drop i old → now ≡ map (outward depth) old
outward_all depth old now i ended so_far =
    so_far
    ∙ ap (λ (ts : List Trace). map (outward depth) (take i old) ++ ts) (drop_all i old ended)
    ∙ append-nil (map (outward depth) (take i old))
    ∙ ap (map (outward depth)) (take_all i old ended)

pub ruleset outwards = (outward_more, outward_none, outward_all)

-- ---- touching

-- the trace was put in where a scope is in progress
pub touch_is : (frames : Framed) (graph : Graph) (object : ObjId) (items : List Trace) (trace : Trace) → 0 < length frames.scopes → items ≡ padded_traces frames.traces (place_of object) → trace ≡ touched_trace frames (place_of object) (object_at graph object)
    → record frames { traces = slice_set items (place_of object) trace } ≡ touch graph object frames
unfolding touch
touch_is frames graph object items trace some is_items is_trace = by_scopes frames.scopes some
  where
    by_scopes : (scopes : List Scope) → 0 < length scopes → record frames { traces = slice_set items (place_of object) trace } ≡ touch_in scopes graph object frames
    by_scopes [] less = absurd (omega (arith, less))
    by_scopes (scope ∷ scopes) less =
        ap (λ (xs : List Trace). record frames { traces = slice_set xs (place_of object) trace }) is_items
        ∙ ap (λ (t : Trace). record frames { traces = slice_set (padded_traces frames.traces (place_of object)) (place_of object) t }) is_trace
