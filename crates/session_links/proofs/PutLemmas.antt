-- Links that are put in one by one leave all objects standing, with as many links.
use Rattle.std.proofs.Common.{◌≡◌, ◌≢◌, ℕ, Bool, length, get_or, Option, None, Some, refl, sym, ap, ◌∙◌, subst, ⊎_elim, arith}
use Rattle.std.specs.Prelude.{slice_set}
use Rattle.std.proofs.lemmas.Bool.{cases_eq}
use Rattle.std.proofs.lemmas.List.{get_or-set_other, get_or-set_same, length-set}
use Rattle.base_core.specs.declared.ids.ObjId.{ObjId}
use Rattle.class_mapping.specs.Mapped.{Mapped}
use Rattle.object_arena.specs.declared.object.Object.{Object}
use Rattle.object_arena.specs.Graph.{Graph, IsObject, no_object, object_at, place_of, with_link, with_object}
use Rattle.relations.specs.Fits.{PutFits}
use Rattle.relations.specs.Mirror.{with_orphan}
use Rattle.relations.specs.Places.{IsPutIn}
use Rattle.relations.specs.declared.change.LinkPut.{LinkPut}
use Rattle.relations.proofs.ChangeLemmas.{fits_later}
use Rattle.session_objects.specs.Taking.{is_inside}
use Rattle.session_objects.proofs.JoiningLemmas.{StandAlike}
use Rattle.session_objects.proofs.OutsiderLemmas.{StayInside}
use Rattle.session_scopes.specs.SessionState.{SameObjects, SessionState}
use Rattle.session_links.specs.Relinked.{IsRelinked}

-- ---- what stays

pub relinked_same : (graph : Graph) → IsRelinked graph graph
relinked_same graph = record { places = record { objects = refl; links = λ object. refl }; roots = refl; state = λ place. refl; identity = λ place. refl }

pub relinked_more : {old mid new : Graph} → IsRelinked old mid → IsRelinked mid new → IsRelinked old new
relinked_more p q = record {
  places = record { objects = q.places.objects ∙ p.places.objects; links = λ object. q.places.links object ∙ p.places.links object };
  roots = q.roots ∙ p.roots;
  state = λ place. q.state place ∙ p.state place;
  identity = λ place. q.identity place ∙ p.identity place;
}

-- what an object keeps when another record of it is put in
kept_at : {A : Type 0} (part : Object → A) (graph : Graph) (object : ObjId) (new : Object) → IsObject graph object → part new ≡ part (object_at graph object) → (place : ℕ) → part (get_or (slice_set graph.objects (place_of object) new) place no_object) ≡ part (get_or graph.objects place no_object)
kept_at part graph object new made same place =
    ⊎_elim
    (λ (here : place ≡ place_of object).
    ap (λ (p : ℕ). part (get_or (slice_set graph.objects (place_of object) new) p no_object)) here
    ∙ ap part (get_or-set_same graph.objects (place_of object) new no_object (omega (arith, made.0, made.1)))
    ∙ same ∙ sym (ap (λ (p : ℕ). part (get_or graph.objects p no_object)) here))
    (λ (there : place ≢ place_of object). ap part (get_or-set_other graph.objects (place_of object) place new no_object there))
    (cases_eq place (place_of object))

relinked_with : (graph : Graph) (object : ObjId) (new : Object) → IsObject graph object → new.state ≡ (object_at graph object).state → new.identity ≡ (object_at graph object).identity → length new.links ≡ length (object_at graph object).links
    → IsRelinked graph (with_object graph object new)
relinked_with graph object new made state identity links = record {
  places = record {
    objects = length-set graph.objects (place_of object) new;
    links = λ other. kept_at (λ (o : Object). length o.links) graph object new made links (place_of other);
  };
  roots = refl;
  state = λ place. kept_at (λ (o : Object). o.state) graph object new made state place;
  identity = λ place. kept_at (λ (o : Object). o.identity) graph object new made identity place;
}

pub relinked_put : (graph : Graph) (put : LinkPut) → IsObject graph put.object → IsRelinked graph (with_link graph put.object put.relation put.link)
relinked_put graph put made =
    let o : Object = object_at graph put.object in
    relinked_with graph put.object (record o { links = slice_set o.links put.relation.0 put.link }) made refl refl (length-set o.links put.relation.0 put.link)

pub relinked_orphan : (graph : Graph) (object : ObjId) (orphan : Bool) → IsObject graph object → IsRelinked graph (with_orphan graph object (Some orphan))
relinked_orphan graph object orphan made =
    let o : Object = object_at graph object in
    relinked_with graph object (record o { orphan = orphan }) made refl refl refl

-- ---- what may be put in later still may

pub placed_later : (old new : Graph) (put : Option LinkPut) → IsRelinked old new → IsPutIn old put → IsPutIn new put
placed_later old new None same placed = tt
placed_later old new (Some put) same placed = ((placed.0.0, rw same.places.objects placed.0.1), rw (same.places.links put.object) placed.1)

pub fits_there : (old new : SessionState) (put : Option LinkPut) → SameObjects old new → IsPutIn old.graph put → PutFits old.mapping old.graph put → PutFits new.mapping new.graph put
fits_there old new put same placed fits = subst (λ (mapped : Mapped). PutFits mapped new.graph put) (sym same.mapping) (fits_later old.mapping old.graph new.graph put same.classes placed fits)

pub stand_alike : (old new : Graph) → IsRelinked old new → StandAlike old new
stand_alike old new same = record { long = same.places.objects; roots = same.roots; state = same.state; identity = same.identity }

-- who was in the session is in it still
pub stay_inside : (old new : Graph) → IsRelinked old new → StayInside old new
stay_inside old new same object inside = ap is_inside (same.state (place_of object)) ∙ inside
