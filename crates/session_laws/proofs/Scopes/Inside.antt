-- What is done inside a scope leaves it and those around it, and unmakes no object.
use Rattle.std.proofs.Common.{◌≡◌, ℕ, ◌+◌, ◌-◌, ◌<◌, ◌≤◌, Bool, true, false, List, [], ◌∷◌, ◌++◌, length, drop, get_or, Ok, Err, refl, ap, ◌∙◌, arith}
use Rattle.std.specs.Prelude.{nat_lt, if◌then◌else◌}
use Rattle.std.proofs.Math.Seq.{drop-append-add, get_or-append_seam}
use Rattle.std.proofs.lemmas.Bool.Decides.{nat_tests}
use Rattle.std.proofs.lemmas.List.{drop-append-le, length-append}
use Rattle.base_core.specs.declared.refusal.LimitKind.TheVariants.{Savepoints}
use Rattle.base_core.specs.declared.refusal.Refusal.TheVariants.{LimitReached}
use Rattle.object_arena.specs.Graph.{Graph}
use Rattle.savepoints.specs.declared.scope.Scope.{Scope}
use Rattle.savepoints.specs.Scopes.{Framed, around, begun_at, no_scope, push, put_back_all, read_again, scope_released, restored_graph, scope_at, scope_limit, stood_again, touch}
use Rattle.savepoints.proofs.BackLemmas.{each_long}
use Rattle.session_laws.specs.Scopes.{Act, AreInside, Change, IsInside, IsLater, IsScope, Objects, Push, Release, Restore, ScopesOutsideStay, Touch, after_act, after_acts, after_push, inside, next_depth}
use Rattle.session_laws.proofs.Scopes.Traces.{touch_long}

-- the scopes end with those outside
abbrev pub EndsWith : List Scope → List Scope → Type 0
EndsWith outer scopes = (inner : List Scope) × (scopes ≡ inner ++ outer)

long : (outer scopes inner : List Scope) → scopes ≡ inner ++ outer → length scopes ≡ length inner + length outer
long outer scopes inner is = ap length is ∙ length-append inner outer

dropped : (n : ℕ) (outer scopes inner : List Scope) → scopes ≡ inner ++ outer → n ≤ length inner → EndsWith outer (drop n scopes)
dropped n outer scopes inner is le = (drop n inner, ap (drop n) is ∙ drop-append-le n inner outer le)

later_same : (graph : Graph) → IsLater graph graph
later_same graph = record { count = omega arith; roots = λ place less. refl }

later_then : (one two three : Graph) → IsLater one two → IsLater two three → IsLater one three
later_then one two three first second = record {
  count = omega (arith, first.count, second.count);
  roots = λ place less. second.roots place (omega (arith, less, first.count)) ∙ first.roots place less;
}

pub restored_long : (depth : ℕ) (frames : Framed) (graph : Graph) → length (restored_graph depth frames graph).objects ≡ length graph.objects
unfolding restored_graph put_back_all
restored_long depth frames graph =
    each_long (read_again depth frames.traces) (put_back_all (scope_at depth frames.scopes) frames.traces graph)
    ∙ each_long (stood_again (scope_at depth frames.scopes) frames.traces graph) graph

restored_later : (depth : ℕ) (frames : Framed) (graph : Graph) → IsLater graph (restored_graph depth frames graph)
unfolding restored_graph put_back_all
restored_later depth frames graph = record { count = omega (arith, restored_long depth frames graph); roots = λ place less. refl }

push_stays : (room : Bool) (outer : List Scope) (graph : Graph) (frames : Framed) → EndsWith outer frames.scopes
    → EndsWith outer (after_push (if room then Ok (tt, record frames { scopes = begun_at graph ∷ frames.scopes }) else Err (LimitReached Savepoints)) frames).scopes
push_stays true outer graph frames e = (begun_at graph ∷ e.0, ap (λ (scopes : List Scope). begun_at graph ∷ scopes) e.1)
push_stays false outer graph frames e = e

act_stays : (depth : ℕ) (outer : List Scope) (act : Act) (s : Objects) → length outer ≡ depth → IsInside depth act s → EndsWith outer s.frames.scopes → EndsWith outer (after_act act s).frames.scopes
unfolding touch push scope_released around
act_stays depth outer (Change graph) s size within e = e
act_stays depth outer (Touch object) s size within e = (e.0, touch_long s.frames.scopes s.graph object s.frames ∙ e.1)
act_stays depth outer Push s size within e = push_stays (nat_lt (length s.frames.scopes) scope_limit) outer s.graph s.frames e
act_stays depth outer Release s size within e =
    dropped (length s.frames.scopes - (length s.frames.scopes - 1)) outer s.frames.scopes e.0 e.1 (omega (arith, size, within, long outer s.frames.scopes e.0 e.1))
act_stays depth outer (Restore inner) s size within e =
    dropped (length s.frames.scopes - (inner - 1)) outer s.frames.scopes e.0 e.1 (omega (arith, size, within, long outer s.frames.scopes e.0 e.1))

act_later : (depth : ℕ) (act : Act) (s : Objects) → IsInside depth act s → IsLater s.graph (after_act act s).graph
act_later depth (Change graph) s within = within
act_later depth (Touch object) s within = later_same s.graph
act_later depth Push s within = later_same s.graph
act_later depth Release s within = later_same s.graph
act_later depth (Restore inner) s within = restored_later inner s.frames s.graph

acts_stay : (depth : ℕ) (outer : List Scope) (acts : List Act) (s : Objects) → length outer ≡ depth → AreInside depth acts s → EndsWith outer s.frames.scopes → EndsWith outer (after_acts acts s).frames.scopes
acts_stay depth outer [] s size within e = e
acts_stay depth outer (act ∷ acts) s size within e = acts_stay depth outer acts (after_act act s) size within.1 (act_stays depth outer act s size within.0 e)

acts_later : (depth : ℕ) (acts : List Act) (s : Objects) → AreInside depth acts s → IsLater s.graph (after_acts acts s).graph
acts_later depth [] s within = later_same s.graph
acts_later depth (act ∷ acts) s within = later_then s.graph (after_act act s).graph (after_acts acts (after_act act s)).graph (act_later depth act s within.0) (acts_later depth acts (after_act act s) within.1)

started : (s : Objects) → length s.frames.scopes < scope_limit → (after_act Push s).frames.scopes ≡ begun_at s.graph ∷ s.frames.scopes
unfolding push
started s room =
    let open_to : nat_lt (length s.frames.scopes) scope_limit ≡ true = grind (arith, nat_tests) in
    ap (λ (b : Bool). (after_push (if b then Ok (tt, record s.frames { scopes = begun_at s.graph ∷ s.frames.scopes }) else Err (LimitReached Savepoints)) s.frames).scopes) open_to

-- after what was done the scope is there
pub scopes_then : (s : Objects) (acts : List Act) → IsScope acts s → EndsWith (begun_at s.graph ∷ s.frames.scopes) (inside acts s).frames.scopes
scopes_then s acts is = acts_stay (next_depth s) (begun_at s.graph ∷ s.frames.scopes) acts (after_act Push s) (omega arith) is.within ([], started s is.room)

-- and each object
pub later_then_start : (s : Objects) (acts : List Act) → IsScope acts s → IsLater s.graph (inside acts s).graph
later_then_start s acts is = acts_later (next_depth s) acts (after_act Push s) is.within

-- the scope that ends
pub scope_then : (s : Objects) (acts : List Act) → IsScope acts s → scope_at (next_depth s) (inside acts s).frames.scopes ≡ begun_at s.graph
scope_then s acts is =
    let e = scopes_then s acts is in
    let scopes : List Scope = (inside acts s).frames.scopes in
    let place : length scopes - next_depth s ≡ length e.0 = omega (arith, long (begun_at s.graph ∷ s.frames.scopes) scopes e.0 e.1) in
    ap (λ (n : ℕ). get_or scopes n no_scope) place
    ∙ ap (λ (xs : List Scope). get_or xs (length e.0) no_scope) e.1
    ∙ get_or-append_seam e.0 (begun_at s.graph) s.frames.scopes no_scope

pub outside_stay : ScopesOutsideStay
unfolding around
outside_stay s acts is =
    let e = scopes_then s acts is in
    let scopes : List Scope = (inside acts s).frames.scopes in
    let count : length scopes - (next_depth s - 1) ≡ length e.0 + 1 = omega (arith, long (begun_at s.graph ∷ s.frames.scopes) scopes e.0 e.1) in
    ap (λ (n : ℕ). drop n scopes) count
    ∙ ap (drop (length e.0 + 1)) e.1
    ∙ drop-append-add e.0 (begun_at s.graph ∷ s.frames.scopes) 1
