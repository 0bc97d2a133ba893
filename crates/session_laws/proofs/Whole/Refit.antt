-- Objects that change, each in its class, go on to fit.
use Rattle.std.proofs.Common.{◌≡◌, ℕ, ◌-◌, ◌<◌, ◌≤◌, Bool, true, false, List, [], ◌∷◌, length, map, get_or, Option, None, Some, ⊎_elim, refl, sym, ap, ◌∙◌, subst, arith}
use Rattle.std.specs.Prelude.{if◌then◌else◌, nat_lt}
use Rattle.std.specs.List.{All}
use Rattle.std.proofs.lemmas.Bool.{cases_lt}
use Rattle.std.proofs.lemmas.List.{get_or_default, get_or_past, length-map}
use Rattle.base_core.specs.declared.ids.ClassId.{ClassId}
use Rattle.base_core.specs.declared.ids.ObjId.{ObjId}
use Rattle.base_core.specs.declared.value.Value.{Value}
use Rattle.class_mapping.specs.Mapped.{Mapped, attributes_of}
use Rattle.object_arena.specs.declared.object.Link.TheVariants.{Unloaded}
use Rattle.object_arena.specs.declared.object.Object.{Object}
use Rattle.object_arena.specs.declared.object.State.{State}
use Rattle.object_arena.specs.declared.object.State.TheVariants.{Transient, Pending, Persistent, Deleted, Detached}
use Rattle.object_arena.specs.Every.{classes_of, each_object, each_placed}
use Rattle.object_arena.specs.Fit.{IsFit, ObjectFits, cell_fits, identity_fits, links_fit}
use Rattle.object_arena.specs.Graph.{Graph, expired_cell, expired_object, kept_identity, no_object, object_at, place_of, put_back_object, settled_object, with_object}
use Rattle.object_arena.proofs.ClassLemmas.{classes_set}
use Rattle.object_arena.proofs.FitLemmas.{object_back}
use Rattle.object_arena.proofs.LinkLemmas.{links_expired, links_settled}
use Rattle.object_arena.proofs.PartLemmas.{pointwise_map}
use Rattle.savepoints.specs.declared.scope.Scope.{Scope}
use Rattle.savepoints.specs.declared.scope.Standing.{Standing}
use Rattle.savepoints.specs.Scopes.{Framed, HasKeys, back_to, expired_in, expired_where, no_scope, put_back_all, read_again, restored_graph, scope_at, since, standing_at, stood_again, trace_in}
use Rattle.session_parts.specs.Ends.{left_state, object_committed_in, object_left}
use Rattle.session_laws.specs.Sound.{EachObject}
use Rattle.session_laws.proofs.Sound.Everyone.{each_changed}
use Rattle.session_laws.proofs.Sound.Restoring.{again, again_at, lost, object, same_roots, start, want}
use Rattle.session_laws.proofs.Scopes.Inside.{restored_long}
use Rattle.session_laws.proofs.Health.Fits.{classes_each, same_classes}
use Rattle.session_laws.proofs.Health.Named.{each_with}
use Rattle.session_laws.proofs.Health.Objects.{back_class}
use Rattle.session_laws.proofs.Health.Restored.{where_class}

-- ---- a graph whose objects changed, each in its class

pub record IsRefit (mapped : Mapped) (old new : Graph) : Type 0 where
  pub fit : IsFit mapped new
  pub same : classes_of new ≡ classes_of old

-- an object fits its class, and its links fit among objects of these root classes
pub record FitsIn (mapped : Mapped) (roots : List ClassId) (o : Object) : Type 0 where
  pub own : ObjectFits mapped o
  pub links : links_fit mapped roots o ≡ true

pub refit : (mapped : Mapped) (old new : Graph) → IsFit mapped old → classes_of new ≡ classes_of old → new.roots ≡ old.roots → EachObject (FitsIn mapped old.roots) new → IsRefit mapped old new
refit mapped old new fit same roots all = record {
  fit = record {
    objects = λ place d less. subst (ObjectFits mapped) (get_or_default new.objects place no_object d less) (all place less).own;
    roots = roots ∙ fit.roots ∙ same_classes mapped old new same;
    links = λ place d less.
        subst (λ (o : Object). links_fit mapped new.roots o ≡ true) (get_or_default new.objects place no_object d less)
        (subst (λ (among : List ClassId). links_fit mapped among (get_or new.objects place no_object) ≡ true) (sym roots) (all place less).links);
  };
  same = same;
}

pub fits_each : (mapped : Mapped) (graph : Graph) → IsFit mapped graph → EachObject (FitsIn mapped graph.roots) graph
fits_each mapped graph fit place less = record { own = fit.objects place no_object less; links = fit.links place no_object less }

-- one object
pub refit_with : (mapped : Mapped) (graph : Graph) (object : ObjId) (new : Object) → IsFit mapped graph → new.class ≡ (object_at graph object).class → (place_of object < length graph.objects → FitsIn mapped graph.roots new) → IsRefit mapped graph (with_object graph object new)
refit_with mapped graph object new fit class one =
    refit mapped graph (with_object graph object new) fit (classes_set graph (with_object graph object new) object new class refl) refl (each_with (FitsIn mapped graph.roots) graph object new (fits_each mapped graph fit) one)

classes_mapped : (change : Object → Object) (objects : List Object) → ((o : Object) → (change o).class ≡ o.class) → map (λ (o : Object). o.class) (map change objects) ≡ map (λ (o : Object). o.class) objects
classes_mapped change [] same = refl
classes_mapped change (o ∷ objects) same = λ i. same o i ∷ classes_mapped change objects same i

pub classes_all : (change : Object → Object) (graph : Graph) → ((o : Object) → (change o).class ≡ o.class) → classes_of (each_object change graph) ≡ classes_of graph
unfolding classes_of
classes_all change graph same = λ i. (classes_mapped change graph.objects same i, graph.roots)

-- all objects
pub refit_all : (mapped : Mapped) (graph : Graph) (change : Object → Object) → IsFit mapped graph → ((o : Object) → (change o).class ≡ o.class) → ((o : Object) → FitsIn mapped graph.roots o → FitsIn mapped graph.roots (change o)) → IsRefit mapped graph (each_object change graph)
refit_all mapped graph change fit class step = refit mapped graph (each_object change graph) fit (classes_all change graph class) refl (each_changed (FitsIn mapped graph.roots) (FitsIn mapped graph.roots) change graph (fits_each mapped graph fit) step)

-- ---- what is left of an object that is expired, ends or goes back

pub expired_fits : (mapped : Mapped) (roots : List ClassId) (o : Object) → FitsIn mapped roots o → FitsIn mapped roots (expired_object o)
expired_fits mapped roots o fits = record {
  own = record {
    class = fits.own.class;
    cells = pointwise_map cell_fits (λ cell. expired_cell) (attributes_of mapped o.class) o.cells (λ attribute cell h. refl) fits.own.cells;
    identity = fits.own.identity;
    links = length-map o.links (λ link. Unloaded [] []) ∙ fits.own.links;
  };
  links = links_expired mapped roots o fits.links;
}

in_fits : (mapped : Mapped) (roots : List ClassId) (state : State) (o : Object) → FitsIn mapped roots o → FitsIn mapped roots (expired_in state o)
in_fits mapped roots Transient o fits = fits
in_fits mapped roots Pending o fits = fits
in_fits mapped roots Persistent o fits = expired_fits mapped roots o fits
in_fits mapped roots Deleted o fits = fits
in_fits mapped roots Detached o fits = fits

where_fits : (mapped : Mapped) (roots : List ClassId) (is_read : Bool) (o : Object) → FitsIn mapped roots o → FitsIn mapped roots (expired_where is_read o)
where_fits mapped roots true o fits = in_fits mapped roots o.state o fits
where_fits mapped roots false o fits = fits

pub committed_fits : (mapped : Mapped) (roots : List ClassId) (state : State) (o : Object) → FitsIn mapped roots o → FitsIn mapped roots (object_committed_in state o)
committed_fits mapped roots Transient o fits = fits
committed_fits mapped roots Pending o fits = fits
committed_fits mapped roots Persistent o fits = expired_fits mapped roots o fits
committed_fits mapped roots Deleted o fits = record { own = record { class = fits.own.class; cells = fits.own.cells; identity = fits.own.identity; links = fits.own.links }; links = fits.links }
committed_fits mapped roots Detached o fits = fits

pub committed_class : (state : State) (o : Object) → (object_committed_in state o).class ≡ o.class
committed_class Transient o = refl
committed_class Pending o = refl
committed_class Persistent o = refl
committed_class Deleted o = refl
committed_class Detached o = refl

left_key : (mapped : Mapped) (class : ClassId) (state : State) (identity : Option (List Value)) → identity_fits mapped class identity ≡ true → identity_fits mapped class (kept_identity (left_state state) identity) ≡ true
left_key mapped class Transient identity fits = refl
left_key mapped class Pending identity fits = refl
left_key mapped class Persistent identity fits = fits
left_key mapped class Deleted identity fits = fits
left_key mapped class Detached identity fits = fits

pub left_fits : (mapped : Mapped) (roots : List ClassId) (o : Object) → FitsIn mapped roots o → FitsIn mapped roots (object_left o)
left_fits mapped roots o fits = record {
  own = record { class = fits.own.class; cells = fits.own.cells; identity = left_key mapped o.class o.state o.identity fits.own.identity; links = fits.own.links };
  links = fits.links;
}

back_links : (mapped : Mapped) (roots : List ClassId) (state : State) (o : Object) → links_fit mapped roots o ≡ true → links_fit mapped roots (settled_object state o) ≡ true
back_links mapped roots Transient o fits = links_settled mapped roots o fits
back_links mapped roots Pending o fits = fits
back_links mapped roots Persistent o fits = fits
back_links mapped roots Deleted o fits = fits
back_links mapped roots Detached o fits = fits

back_fits : (mapped : Mapped) (roots : List ClassId) (o : Object) (state : State) (identity : Option (List Value)) → FitsIn mapped roots o → identity_fits mapped o.class identity ≡ true → FitsIn mapped roots (put_back_object o state identity)
back_fits mapped roots o state identity fits key = record {
  own = object_back mapped o state identity fits.own key;
  links = back_links mapped roots state (record o { state = state; identity = identity; marked = false }) fits.links;
}

-- ---- a rollback

placed_classes : (change : ℕ → Object → Object) (graph : Graph) → ((place : ℕ) (o : Object) → (change place o).class ≡ o.class) → classes_of (each_placed change graph) ≡ classes_of graph
unfolding classes_of
placed_classes change graph same = let all = classes_each (λ placed. change placed.0 placed.1) graph.objects 0 (λ placed. same placed.0 placed.1) in λ i. (all i, graph.roots)

either_key : (mapped : Mapped) (class : ClassId) (within : Bool) (first later : Standing) → identity_fits mapped class first.identity ≡ true → identity_fits mapped class later.identity ≡ true → identity_fits mapped class (if within then first else later).identity ≡ true
either_key mapped class true first later one other = one
either_key mapped class false first later one other = other

since_key : (mapped : Mapped) (class : ClassId) (is_loaded : Bool) (identity : Option (List Value)) → identity_fits mapped class identity ≡ true → identity_fits mapped class (since is_loaded identity).identity ≡ true
since_key mapped class true None fits = refl
since_key mapped class true (Some key) fits = fits
since_key mapped class false identity fits = refl

start_key : (mapped : Mapped) (graph : Graph) (scopes : List Scope) (n place : ℕ) → All (HasKeys mapped graph) scopes → place < length graph.objects → identity_fits mapped (get_or graph.objects place no_object).class (standing_at (get_or scopes n no_scope) place).identity ≡ true
start_key mapped graph scopes n place keys less =
    ⊎_elim
    (λ (inside : n < length scopes). (keys n no_scope inside).keys place less)
    (λ (past : length scopes ≤ n). ap (λ (scope : Scope). identity_fits mapped (get_or graph.objects place no_object).class (standing_at scope place).identity) (get_or_past scopes n no_scope past))
    (cases_lt n (length scopes))

module _ (depth : ℕ) (frames : Framed) (graph : Graph) where
  again_fits : (mapped : Mapped) → IsFit mapped graph → All (HasKeys mapped graph) frames.scopes → (place : ℕ) → place < length graph.objects → FitsIn mapped graph.roots (again depth frames graph place)
  again_fits mapped fit keys place less =
      let o : Object = object depth frames graph place in
      let fits : FitsIn mapped graph.roots o = fits_each mapped graph fit place less in
      let wanted : Standing = want depth frames graph place in
      where_fits mapped graph.roots _ (back_to wanted (lost depth frames graph place) o)
      (back_fits mapped graph.roots o _ wanted.identity fits
      (either_key mapped o.class (nat_lt place (length (start depth frames graph).standings)) (standing_at (start depth frames graph) place) (since (trace_in frames.traces place).loaded o.identity)
      (start_key mapped graph frames.scopes (length frames.scopes - depth) place keys less) (since_key mapped o.class (trace_in frames.traces place).loaded o.identity fits.own.identity)))

  restored_classes : classes_of (restored_graph depth frames graph) ≡ classes_of graph
  unfolding restored_graph put_back_all
  restored_classes =
      placed_classes (read_again depth frames.traces) (put_back_all (scope_at depth frames.scopes) frames.traces graph) (λ place o. where_class _ o)
      ∙ placed_classes (stood_again (scope_at depth frames.scopes) frames.traces graph) graph (λ place o. back_class o _ _)

  pub restored_refit : (mapped : Mapped) → IsFit mapped graph → All (HasKeys mapped graph) frames.scopes → IsRefit mapped graph (restored_graph depth frames graph)
  restored_refit mapped fit keys =
      refit mapped graph (restored_graph depth frames graph) fit restored_classes (same_roots depth frames graph)
      (λ place less.
      let within : place < length graph.objects = omega (arith, less, restored_long depth frames graph) in
      subst (FitsIn mapped graph.roots) (sym (again_at depth frames graph place no_object within)) (again_fits mapped fit keys place within))
