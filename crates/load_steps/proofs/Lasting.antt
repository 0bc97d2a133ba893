-- What each step of a load leaves of the objects that there were, and that they stay an arena's that fit.
use Rattle.std.proofs.Common.{◌≡◌, ℕ, ◌<◌, true, false, List, [], ◌∷◌, length, Option, None, Some, Result, Ok, Err, IfOk, refl, sym, ap, subst, ◌∙◌}
use Rattle.std.specs.List.{All, AllByRecursion}
use Rattle.std.proofs.lemmas.List.Elements.{All-from_recursion}
use Rattle.base_core.specs.declared.ids.AttrNo.{AttrNo}
use Rattle.base_core.specs.declared.ids.ClassId.{ClassId}
use Rattle.base_core.specs.declared.ids.ObjId.{ObjId}
use Rattle.base_core.specs.declared.ids.RelNo.{RelNo}
use Rattle.base_core.specs.declared.refusal.Refusal.{Refusal}
use Rattle.base_core.specs.declared.value.Value.{Value}
use Rattle.class_types.specs.declared.mapped.Relation.{Relation}
use Rattle.class_mapping.specs.Mapped.{IsClass, Mapped, relations_of, root_of}
use Rattle.class_mapping.specs.Related.{IsRelated}
use Rattle.mapping_laws.specs.Hierarchies.{HasHierarchies}
use Rattle.keeper_core.specs.declared.sent.Sent.{Sent}
use Rattle.object_arena.specs.declared.object.Object.{Object}
use Rattle.object_arena.specs.Fit.{IsFit, end_fits, is_of_root, relation_of}
use Rattle.object_arena.specs.Graph.{Graph, IsObject, no_object, object_at, place_of}
use Rattle.load_filling.specs.Filled.{AreFoundFor, Found, filled_object, with_filled}
use Rattle.load_rows.specs.Loading.{Loading, filled, take_row}
use Rattle.load_rows.specs.Reading.{IsRowOf, identity_key}
use Rattle.load_rows.specs.Links.{collection_filled, end_filled}
use Rattle.load_calls.specs.Reading.{with_statement}
use Rattle.load_calls.specs.Refreshing.{found_among}
use Rattle.load_ends.specs.Ends.{IsChild}
use Rattle.loading_laws.specs.Loaders.Options.{Leaves}
use Rattle.loading_laws.specs.Strategies.Filled.{Goes}
use Rattle.loading_laws.specs.Strategies.Standing.{Stays}
use Rattle.loading_laws.proofs.Strategies.Goes.{row_taken}
use Rattle.loading_laws.proofs.Strategies.Standing.{made_later, set_related, stays_put, stays_same, stays_then}
use Rattle.loading_laws.proofs.Loaders.Frames.{collection_leaves, end_leaves, framed_row, graph_put}
use Rattle.loading_laws.proofs.Loaders.Refused.{refused_row}
use Rattle.loading_laws.proofs.Loading.Fits.{fit_filled, row_fit}
use Rattle.loading_laws.proofs.Loading.FitLinks.{collection_fit, end_fit, stands_of_root}
use Rattle.load_steps.specs.Steps.{AreFound, AreLoadSteps, Holds, IsArena, IsEnd, IsFound}

-- ---- what was there

-- who stood for a key does, and each object is of its class
pub record IsSince (old new : Graph) : Type 0 where
  pub stays : Stays old new
  pub classes : (object : ObjId) → IsObject old object → (object_at new object).class ≡ (object_at old object).class

pub since_same : (graph : Graph) → IsSince graph graph
since_same graph = record { stays = stays_same graph; classes = λ object made. refl }

pub since_then : (a b c : Graph) → IsSince a b → IsSince b c → IsSince a c
since_then a b c p q = record {
  stays = stays_then a b c p.stays q.stays;
  classes = λ object made. q.classes object (made_later a b object p.stays made) ∙ p.classes object made;
}

since_leaves : (place : RelNo) (old new : Graph) → Leaves place old new → IsSince old new
since_leaves place old new leaves = record { stays = leaves.stays; classes = leaves.classes }

-- ---- and what stays of it

pub found_since : (root : ClassId) (object : ObjId) (old new : Graph) → IsSince old new → IsFound old root object → IsFound new root object
found_since root object old new since is = record { key = is.key; stands = since.stays.stand root is.key object is.stands }

pub all_found_since : (root : ClassId) (objects : List ObjId) (old new : Graph) → IsSince old new → AreFound old root objects → AreFound new root objects
all_found_since root [] old new since all = tt
all_found_since root (object ∷ objects) old new since all = (found_since root object old new since all.0, all_found_since root objects old new since all.1)

pub child_since : (mapped : Mapped) (relation : Relation) (place : RelNo) (object : ObjId) (old new : Graph) → IsSince old new → IsChild mapped old relation place object → IsChild mapped new relation place object
child_since mapped relation place object old new since child =
    let same = since.classes object child.made in
    record {
      made = made_later old new object since.stays child.made;
      within = subst (λ (class : ClassId). place.0 < length (relations_of mapped class)) (sym same) child.within;
      is = ap (λ (class : ClassId). relation_of mapped class place) same ∙ child.is;
    }

-- ---- who is found is of the hierarchy

found_of_root : (mapped : Mapped) (root : ClassId) (graph : Graph) (object : ObjId) → IsFit mapped graph → IsFound graph root object → is_of_root graph.roots root object ≡ true
found_of_root mapped root graph object fit is = stands_of_root mapped root graph object fit (record { key = is.key; stands = is.stands })

all_of_root : (mapped : Mapped) (root : ClassId) (graph : Graph) (objects : List ObjId) → IsFit mapped graph → AreFound graph root objects → AllByRecursion (λ object. is_of_root graph.roots root object ≡ true) objects
all_of_root mapped root graph [] fit all = tt
all_of_root mapped root graph (object ∷ objects) fit all = (found_of_root mapped root graph object fit all.0, all_of_root mapped root graph objects fit all.1)

end_of_root : (mapped : Mapped) (root : ClassId) (graph : Graph) (end : Option ObjId) → IsFit mapped graph → IsEnd graph root end → end_fits graph.roots root end ≡ true
end_of_root mapped root graph None fit is = refl
end_of_root mapped root graph (Some object) fit is = found_of_root mapped root graph object fit is

-- ---- the steps

any_place : RelNo
any_place = record { 0 = 0 }

-- what a step makes of the objects
pub record IsStep (mapped : Mapped) (old new : Graph) : Type 0 where
  pub arena : IsArena mapped new
  pub since : IsSince old new

module _ (mapped : Mapped) (has : HasHierarchies mapped) where
  -- the object that a row gives
  pub record IsTakenStep (class : ClassId) (own now : Loading) (r : Result ObjId Refusal) : Type 0 where
    pub step : IsStep mapped own.graph now.graph
    pub answer : IfOk r (λ object. IsFound now.graph (root_of mapped class) object)

  pub row_step : (class : ClassId) (row : List Value) (own : Loading) → IsClass mapped class → IsRowOf mapped class row → IsArena mapped own.graph
      → IsTakenStep class own (take_row mapped class row own).after (take_row mapped class row own).answer
  row_step class row own declared of arena = by (take_row mapped class row own).answer refl
    where
      now : Loading
      now = (take_row mapped class row own).after

      by : (r : Result ObjId Refusal) → (take_row mapped class row own).answer ≡ r → IsTakenStep class own now r
      by (Ok object) e =
          let goes : Goes (take_row mapped class row) own object now = record { answer = e; leaves = refl } in
          let leaves = framed_row any_place mapped class has declared row own now object arena.graph goes in
          record {
            step = record {
              arena = record { fit = row_fit mapped class has declared row own now object of arena.fit arena.graph.rooted goes; graph = leaves.graph };
              since = since_leaves any_place own.graph now.graph leaves;
            };
            answer = record { key = _; stands = (row_taken mapped class has.paired row own now object arena.graph.rooted goes).stands };
          }
      by (Err f) e = record {
        step = subst (λ (after : Loading). IsStep mapped own.graph after.graph) (sym (refused_row mapped class row own f e)) (record { arena = arena; since = since_same own.graph });
        answer = tt;
      }

  pub filled_step : (object : ObjId) (found : Found) (own : Loading) → IsObject own.graph object → AreFoundFor (object_at own.graph object).class found mapped → IsArena mapped own.graph → IsStep mapped own.graph (filled object found own).graph
  unfolding filled with_filled
  filled_step object found own made kinds arena =
      let new : Object = filled_object found (object_at own.graph object) in
      record {
        arena = record { fit = fit_filled mapped own.graph object arena.fit made found kinds; graph = graph_put own.graph object new arena.graph refl refl };
        since = record {
          stays = stays_put own.graph object new refl refl;
          classes = λ other there. set_related (λ (x y : Object). y.class ≡ x.class) own.graph.objects (place_of object) (place_of other) new no_object (λ x. refl) refl;
        };
      }

  pub members_step : (relation : Relation) (place : RelNo) (owner : ObjId) (members : List ObjId) (own : Loading) → relation.many ≡ true → IsChild mapped own.graph relation place owner → AreFound own.graph (root_of mapped relation.target) members
      → IsArena mapped own.graph → IsStep mapped own.graph (collection_filled owner place members own).graph
  members_step relation place owner members own many child found arena =
      let root : ClassId = root_of mapped relation.target in
      let leaves = collection_leaves place owner members own arena.graph in
      let of : All (λ object. is_of_root own.graph.roots root object ≡ true) members = All-from_recursion _ members (all_of_root mapped root own.graph members arena.fit found) in
      record { arena = record { fit = collection_fit place mapped relation own owner arena.fit child members many of; graph = leaves.graph }; since = since_leaves place own.graph (collection_filled owner place members own).graph leaves }

  pub ended_step : (relation : Relation) (place : RelNo) (owner : ObjId) (end : Option ObjId) (own : Loading) → relation.many ≡ false → IsChild mapped own.graph relation place owner → IsEnd own.graph (root_of mapped relation.target) end
      → IsArena mapped own.graph → IsStep mapped own.graph (end_filled owner place end own).graph
  ended_step relation place owner end own single child is arena =
      let leaves = end_leaves place owner end own arena.graph in
      record {
        arena = record { fit = end_fit place mapped relation own owner arena.fit child end single (end_of_root mapped (root_of mapped relation.target) own.graph end arena.fit is); graph = leaves.graph };
        since = since_leaves place own.graph (end_filled owner place end own).graph leaves;
      }

-- ---- a predicate of the objects alone

abbrev pub Both : (Loading → Type 0) → (Loading → Type 0) → Loading → Type 0
Both P Q own = P own × Q own

-- P, and beside it what is said of the objects
abbrev pub With : (Loading → Type 0) → (Graph → Type 0) → Loading → Type 0
With P Q own = P own × Q own.graph

-- what is said of the objects lasts
abbrev pub Lasts : (Graph → Type 0) → Type 0
Lasts Q = (old new : Graph) → IsSince old new → Q old → Q new

module _ {mapped : Mapped} {IsRow : ClassId → List Value → Type 0} {IsCells : ClassId → List AttrNo → List Value → List Value → Type 0} where
  pub steps_both : {P Q : Loading → Type 0} → AreLoadSteps mapped IsRow IsCells P → AreLoadSteps mapped IsRow IsCells Q → AreLoadSteps mapped IsRow IsCells (Both P Q)
  steps_both p q = record {
    noted = λ statement own is. (p.noted statement own is.0, q.noted statement own is.1);
    taken = λ class row own declared of arena is. (p.taken class row own declared of arena is.0, q.taken class row own declared of arena is.1);
    filled = λ root object attrs row own found of arena is. (p.filled root object attrs row own found of arena is.0, q.filled root object attrs row own found of arena is.1);
    members = λ relation place owner members own related many child found arena is. (p.members relation place owner members own related many child found arena is.0, q.members relation place owner members own related many child found arena is.1);
    ended = λ relation place owner end own related single child found arena is. (p.ended relation place owner end own related single child found arena is.0, q.ended relation place owner end own related single child found arena is.1);
  }

-- rows of the mapping
pub record AreOfMapping (mapped : Mapped) (IsRow : ClassId → List Value → Type 0) (IsCells : ClassId → List AttrNo → List Value → List Value → Type 0) : Type 0 where
  pub has : HasHierarchies mapped
  pub rows : (class : ClassId) (row : List Value) → IsRow class row → IsRowOf mapped class row
  pub cells : (class : ClassId) (attrs : List AttrNo) (key row : List Value) (count : ℕ) → IsCells class attrs key row → AreFoundFor class (found_among count attrs row) mapped

module _ {mapped : Mapped} {IsRow : ClassId → List Value → Type 0} {IsCells : ClassId → List AttrNo → List Value → List Value → Type 0} (of : AreOfMapping mapped IsRow IsCells) where
  pub lasting_steps : (Q : Graph → Type 0) → Lasts Q → AreLoadSteps mapped IsRow IsCells (λ own. Q own.graph)
  lasting_steps Q lasts = record {
    noted = λ statement own is. is;
    taken = λ class row own declared row_is arena is. lasts own.graph (take_row mapped class row own).after.graph (row_step mapped of.has class row own declared (of.rows class row row_is) arena).step.since is;
    filled = λ root object attrs row own found cells arena is.
        let found_cells = found_among (length (object_at own.graph object).cells) attrs row in
        lasts own.graph (filled object found_cells own).graph
        (filled_step mapped of.has object found_cells own found.stands.0 (of.cells (object_at own.graph object).class attrs (identity_key own.graph object) row (length (object_at own.graph object).cells) cells) arena).since is;
    members = λ relation place owner members own related many child found arena is. lasts own.graph (collection_filled owner place members own).graph (members_step mapped of.has relation place owner members own many child found arena).since is;
    ended = λ relation place owner end own related single child found arena is. lasts own.graph (end_filled owner place end own).graph (ended_step mapped of.has relation place owner end own single child found arena).since is;
  }

  -- with what lasts beside it
  pub steps_with : {P : Loading → Type 0} (Q : Graph → Type 0) → Lasts Q → AreLoadSteps mapped IsRow IsCells P → AreLoadSteps mapped IsRow IsCells (With P Q)
  steps_with Q lasts steps = steps_both steps (lasting_steps Q lasts)

  -- each step keeps the arena too
  module _ {P : Loading → Type 0} (steps : AreLoadSteps mapped IsRow IsCells P) where
    pub noted_holds : (statement : Sent) (own : Loading) → Holds mapped P own → Holds mapped P (with_statement statement own)
    noted_holds statement own h = record { arena = h.arena; is = steps.noted statement own h.is }

    pub taken_holds : (class : ClassId) (row : List Value) (own : Loading) → IsClass mapped class → IsRow class row → Holds mapped P own → Holds mapped P (take_row mapped class row own).after
    taken_holds class row own declared is h = record { arena = (row_step mapped of.has class row own declared (of.rows class row is) h.arena).step.arena; is = steps.taken class row own declared is h.arena h.is }

    pub filled_holds : (root : ClassId) (object : ObjId) (attrs : List AttrNo) (row : List Value) (own : Loading) → IsFound own.graph root object → IsCells (object_at own.graph object).class attrs (identity_key own.graph object) row
        → Holds mapped P own → Holds mapped P (filled object (found_among (length (object_at own.graph object).cells) attrs row) own)
    filled_holds root object attrs row own found cells h = record {
      arena =
          (filled_step mapped of.has object (found_among (length (object_at own.graph object).cells) attrs row) own found.stands.0
          (of.cells (object_at own.graph object).class attrs (identity_key own.graph object) row (length (object_at own.graph object).cells) cells) h.arena).arena;
      is = steps.filled root object attrs row own found cells h.arena h.is;
    }

    pub members_holds : (relation : Relation) (place : RelNo) (owner : ObjId) (members : List ObjId) (own : Loading) → IsRelated mapped relation → relation.many ≡ true → IsChild mapped own.graph relation place owner
        → AreFound own.graph (root_of mapped relation.target) members → Holds mapped P own → Holds mapped P (collection_filled owner place members own)
    members_holds relation place owner members own related many child found h = record {
      arena = (members_step mapped of.has relation place owner members own many child found h.arena).arena;
      is = steps.members relation place owner members own related many child found h.arena h.is;
    }

    pub ended_holds : (relation : Relation) (place : RelNo) (owner : ObjId) (end : Option ObjId) (own : Loading) → IsRelated mapped relation → relation.many ≡ false → IsChild mapped own.graph relation place owner
        → IsEnd own.graph (root_of mapped relation.target) end → Holds mapped P own → Holds mapped P (end_filled owner place end own)
    ended_holds relation place owner end own related single child is h = record {
      arena = (ended_step mapped of.has relation place owner end own single child is h.arena).arena;
      is = steps.ended relation place owner end own related single child is h.arena h.is;
    }
