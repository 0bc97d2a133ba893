-- Lazy and select-in loads fill links of any kind with the objects of the rows that are related to their owners.
use Rattle.std.proofs.Common.{◌≡◌, ℕ, ◌==◌, Bool, true, false, ◌||◌, List, [], ◌∷◌, ◌++◌, Option, Some, None, if◌then◌else◌, refl, sym, ap, subst, ◌∙◌, arith}
use Rattle.std.specs.List.{All, AllByRecursion, flat_map}
use Rattle.std.proofs.lemmas.Bool.{eqb-true}
use Rattle.std.proofs.lemmas.List.Elements.{All-from_recursion, recursion_from_All}
use Rattle.base_core.specs.declared.ids.ObjId.{ObjId}
use Rattle.base_core.specs.declared.ids.RelNo.{RelNo}
use Rattle.sql_semantics.specs.Created.{bare}
use Rattle.sql_semantics.specs.Eval.{Row, Tables}
use Rattle.class_types.specs.declared.mapped.Relation.{Relation}
use Rattle.class_sides.specs.Keys.{TableKey}
use Rattle.class_mapping.specs.Mapped.{Mapped}
use Rattle.class_mapping.proofs.Having.{true_false}
use Rattle.object_arena.specs.declared.object.Link.{Link}
use Rattle.object_arena.specs.Fit.{relation_of}
use Rattle.object_arena.specs.Graph.{Graph, is_among, object_at}
use Rattle.load_rows.specs.Loading.{Loading}
use Rattle.load_rows.specs.Reading.{identity_key}
use Rattle.load_rows.specs.Links.{link_at}
use Rattle.load_calls.specs.Reading.{World}
use Rattle.keeper_core.specs.Beside.{by_own}
use Rattle.load_calls.specs.Collections.{load_collection}
use Rattle.load_targets.specs.Targets.{load_by, load_lazy, load_target}
use Rattle.load_batches.specs.Batches.{IsOwner, is_unloaded, load_batches, load_members, unloaded_owner, unloaded_owners, with_key as with_owner_key}
use Rattle.load_batches.specs.declared.owners.Owner.{Owner}
use Rattle.load_ends.specs.Ends.{if_unloaded, key_of, load_ends, load_unloaded, unloaded}
use Rattle.load_queries.specs.Selectin.{load_selectin, load_together}
use Rattle.loading_laws.specs.Answers.Answers.{AreRowsOf}
use Rattle.loading_laws.specs.Strategies.Ends.{IsManyToOne, IsPointing, LeadsToTarget}
use Rattle.loading_laws.specs.Strategies.Filled.{AreAlike, Goes, IsFilled, IsOneToMany, IsWaiting, related_rows}
use Rattle.loading_laws.specs.Strategies.Paired.{IsHolding}
use Rattle.loading_laws.proofs.Strategies.Batch.{agree, one_waiting, selectin_fills}
use Rattle.loading_laws.proofs.Strategies.Goes.{by_own_goes}
use Rattle.loading_laws.proofs.Strategies.Lazy.{lazy_fills}
use Rattle.loading_laws.proofs.Strategies.Paired.{lazy_fills_pairs, pair_alike, selectin_fills_pairs}
use Rattle.loading_laws.proofs.Strategies.TargetKeys.{target_long}
use Rattle.loading_laws.proofs.Strategies.Targets.{lazy_leads}
use Rattle.loading_laws.proofs.Strategies.Together.{lead_alike, selectin_leads}
use Rattle.loading_laws.specs.Loaders.Calls.{HoldsRelated}
use Rattle.loading_laws.specs.Loaders.Linked.{AgreesWithMap, HoldAlike, HoldsRows, IsReady, IsStage, link_with, referred_rows, related_by, related_to}
use Rattle.loading_laws.proofs.Loaders.Ends.{alike_holds, led_holds}
use Rattle.loading_laws.proofs.Loaders.EachKind.{IsOpen, IsSet, far_many, holds, many_to_one, one_to_many, opened, owned_related, paired_stage, plain_stage, points, waits}

-- ---- the calls by the kind of the relationship

pub lazy_by : (mapped : Mapped) (relation : Relation) (place : RelNo) (owner : ObjId) (w after : World) → IsOwner mapped w.own.graph relation place owner → Goes (load_lazy mapped owner place) w tt after → Goes (load_by mapped relation owner place) w tt after
unfolding load_lazy
lazy_by mapped relation place owner w after owned g =
    subst (λ (named : Relation). Goes (load_by mapped named owner place) w tt after) owned.is
    (by_own_goes (λ (own : Loading). load_by mapped (relation_of mapped (object_at own.graph owner).class place) owner place) w tt after (record { answer = g.answer; leaves = g.leaves }))

pub together_by : (mapped : Mapped) (relation : Relation) (place : RelNo) (owners : List ObjId) (owner : ObjId) (w after : World) → All (IsReady mapped relation place w.own.graph) owners → is_among owners owner ≡ true
    → Goes (load_selectin mapped place owners) w tt after → Goes (load_together mapped relation place owners) w tt after
unfolding load_selectin
together_by mapped relation place [] owner w after ready among g = absurd cc
together_by mapped relation place (first ∷ more) owner w after ready among g =
    subst (λ (named : Relation). Goes (load_together mapped named place (first ∷ more)) w tt after) (ready 0 first (omega arith)).owner.is
    (by_own_goes (λ (own : Loading). load_together mapped (relation_of mapped (object_at own.graph first).class place) place (first ∷ more)) w tt after (record { answer = g.answer; leaves = g.leaves }))

-- ---- only owners whose link is unloaded count

module _ (graph : Graph) (place : RelNo) where
  abbrev waiting : ObjId → Bool
  waiting owner = is_unloaded (link_at graph owner place)

  abbrev pub unread : List ObjId → List ObjId
  unread owners = flat_map (if_unloaded graph place) owners

  members_unread : (owners : List ObjId) → flat_map (unloaded_owner graph place) (unread owners) ≡ flat_map (unloaded_owner graph place) owners
  members_unread [] = refl
  members_unread (owner ∷ owners) = by (waiting owner) refl (members_unread owners)
    where
      by : (b : Bool) → waiting owner ≡ b → flat_map (unloaded_owner graph place) (unread owners) ≡ flat_map (unloaded_owner graph place) owners
          → flat_map (unloaded_owner graph place) ((if b then owner ∷ [] else []) ++ unread owners) ≡ ((if b then with_owner_key graph owner ∷ [] else []) ++ flat_map (unloaded_owner graph place) owners)
      by true is rest = ap (λ (b : Bool). (if b then with_owner_key graph owner ∷ [] else []) ++ flat_map (unloaded_owner graph place) (unread owners)) is ∙ ap (λ (xs : List Owner). with_owner_key graph owner ∷ xs) rest
      by false is rest = rest

  ends_unread : (owners : List ObjId) → unread (unread owners) ≡ unread owners
  ends_unread [] = refl
  ends_unread (owner ∷ owners) = by (waiting owner) refl (ends_unread owners)
    where
      by : (b : Bool) → waiting owner ≡ b → unread (unread owners) ≡ unread owners → unread ((if b then owner ∷ [] else []) ++ unread owners) ≡ ((if b then owner ∷ [] else []) ++ unread owners)
      by true is rest = ap (λ (b : Bool). (if b then owner ∷ [] else []) ++ unread (unread owners)) is ∙ ap (λ (xs : List ObjId). owner ∷ xs) rest
      by false is rest = rest

  -- one that is unloaded is among them
  pub among_unread : (owners : List ObjId) (owner : ObjId) → is_among owners owner ≡ true → waiting owner ≡ true → is_among (unread owners) owner ≡ true
  among_unread [] owner among is = absurd cc
  among_unread (other ∷ owners) owner among is = by (waiting other) (other.0 == owner.0) refl refl (among_unread owners owner)
    where
      by : (b c : Bool) → waiting other ≡ b → (other.0 == owner.0) ≡ c → (is_among owners owner ≡ true → waiting owner ≡ true → is_among (unread owners) owner ≡ true) → is_among ((if b then other ∷ [] else []) ++ unread owners) owner ≡ true
      by true true p q more = ap (λ (b : Bool). b || is_among (unread owners) owner) q
      by true false p q more = ap (λ (b : Bool). b || is_among (unread owners) owner) q ∙ more (sym (ap (λ (b : Bool). b || is_among owners owner) q) ∙ among) is
      by false true p q more = absurd (true_false (waiting other) (subst (λ (o : ObjId). waiting o ≡ true) (ap (λ (n : ℕ). let o : ObjId = record { 0 = n } in o) (sym (eqb-true other.0 owner.0 q))) is) p)
      by false false p q more = more (sym (ap (λ (b : Bool). b || is_among owners owner) q) ∙ among) is

  -- and what holds of those that are unloaded holds of all of them
  pub every_unread : (P : ObjId → Type 0) (owners : List ObjId) → AllByRecursion (λ owner. waiting owner ≡ true → P owner) owners → AllByRecursion P (unread owners)
  every_unread P [] all = tt
  every_unread P (owner ∷ owners) all = by (waiting owner) refl (every_unread P owners all.1)
    where
      by : (b : Bool) → waiting owner ≡ b → AllByRecursion P (unread owners) → AllByRecursion P ((if b then owner ∷ [] else []) ++ unread owners)
      by true is rest = (all.0 is, rest)
      by false is rest = rest

pub unread_goes : (mapped : Mapped) (relation : Relation) (place : RelNo) (owners : List ObjId) (w after : World) (many : Bool) → Goes (if many then load_members mapped relation place owners else load_ends mapped relation place owners) w tt after
    → Goes (if many then load_members mapped relation place (unread w.own.graph place owners) else load_ends mapped relation place (unread w.own.graph place owners)) w tt after
unfolding load_members unloaded_owners load_ends unloaded by_own
unread_goes mapped relation place owners w after true g =
    let shown = subst (λ (own : List Owner). Goes (load_batches mapped relation place own) w tt after) (sym (members_unread w.own.graph place owners)) (record { answer = g.answer; leaves = g.leaves }) in
    record { answer = shown.answer; leaves = shown.leaves }
unread_goes mapped relation place owners w after false g =
    let shown = subst (λ (own : List ObjId). Goes (load_unloaded mapped relation place w.own.graph own) w tt after) (sym (ends_unread w.own.graph place owners)) (record { answer = g.answer; leaves = g.leaves }) in
    record { answer = shown.answer; leaves = shown.leaves }

-- ---- what is filled

-- a collection is filled with rows
pub filled_holds : (mapped : Mapped) (relation : Relation) (rows : List Row) (old : Link) (graph : Graph) (now : Link) → relation.many ≡ true → IsFilled mapped relation rows old graph now → HoldsRows mapped relation rows old graph now
filled_holds mapped relation rows old graph now many filled = record {
  objects = filled.base;
  keys = filled.keys;
  stand = filled.stand;
  link = filled.link ∙ ap (λ (b : Bool). link_with b filled.base old) (sym many);
}

pub alike_filled : (mapped : Mapped) (relation : Relation) (first second : Graph) (old one other : Link) → relation.many ≡ true → AreAlike first second old one other → HoldAlike first second relation.many old one other
alike_filled mapped relation first second old one other many alike = record {
  objects = alike.base;
  same = alike.same;
  one_link = alike.one_link ∙ ap (λ (b : Bool). link_with b alike.base old) (sym many);
  other_link = alike.other_link ∙ ap (λ (b : Bool). link_with b alike.same old) (sym many);
  alike = alike.alike;
}

module _ (mapped : Mapped) (relation : Relation) (place : RelNo) (all : List Row) (w : World) (set : IsSet mapped relation all w) where
  abbrev graph : Graph
  graph = w.own.graph

  abbrev tables : Tables
  tables = bare w.store.tables

  abbrev Holds : List Row → World → ObjId → Type 0
  Holds found after owner = HoldsRows mapped relation found (link_at graph owner place) after.own.graph (link_at after.own.graph owner place)

  -- what a link holds of other rows, where they are the same
  held_as : (one other : List Row) (after : World) (owner : ObjId) → other ≡ one → Holds one after owner → Holds other after owner
  held_as one other after owner same holds = subst (λ (found : List Row). Holds found after owner) (sym same) holds

  abbrev related_here : ObjId → Option TableKey → List Row
  related_here owner far = related_by mapped relation tables all graph owner far

  abbrev of_many : ObjId → List Row
  of_many owner = related_rows mapped relation all (identity_key graph owner)

  abbrev of_one : ObjId → List Row
  of_one owner = referred_rows mapped relation all (key_of mapped relation graph owner)

  near_rows : (owner : ObjId) (many : Bool) → relation.far ≡ None → relation.many ≡ many → related_here owner relation.far ≡ (if many then of_many owner else of_one owner)
  near_rows owner many near is = ap (related_here owner) near ∙ ap (λ (b : Bool). if b then of_many owner else of_one owner) is

  -- each owner of several, and what it has for the laws of its kind
  one_open : (owners : List ObjId) (owner : ObjId) → All (IsOpen mapped relation place graph) owners → is_among owners owner ≡ true → IsOpen mapped relation place graph owner
  one_open owners owner free among = one_waiting (IsOpen mapped relation place graph) owners owner (recursion_from_All (IsOpen mapped relation place graph) owners free) among

  each_holds : (owners : List ObjId) → All (IsOpen mapped relation place graph) owners → All (IsHolding mapped relation place graph) owners
  each_holds owners free = λ i d less. let one = free i d less in holds mapped relation all w set place _ one

  each_waits : IsOneToMany mapped relation → (owners : List ObjId) → All (IsOpen mapped relation place graph) owners → All (IsWaiting mapped relation place graph) owners
  each_waits kind owners free = λ i d less. let one = free i d less in waits mapped relation all w set place _ one kind

  each_points : relation.many ≡ false → (owners : List ObjId) → All (IsOpen mapped relation place graph) owners → All (IsPointing mapped relation place graph) owners
  each_points single owners free = λ i d less. let one = free i d less in points mapped relation all w set place _ one single

  led : (owner : ObjId) (after : World) → relation.far ≡ None → relation.many ≡ false → IsOpen mapped relation place graph owner → AgreesWithMap mapped relation all graph owner → LeadsToTarget mapped relation place all w after owner
      → Holds (related_to mapped relation tables all graph owner) after owner
  led owner after near single free agrees leads =
      let one : IsManyToOne mapped relation = many_to_one mapped relation all w set near single in
      held_as (of_one owner) (related_to mapped relation tables all graph owner) after owner (near_rows owner false near single)
      (led_holds mapped relation all (key_of mapped relation graph owner) one (target_long mapped relation (object_at graph owner) one) graph after.own.graph (link_at graph owner place) (link_at after.own.graph owner place) free.unloaded (agrees single) leads)

  pub lazily : (owner : ObjId) (after : World) (far : Option TableKey) (many : Bool) → relation.far ≡ far → relation.many ≡ many → IsOpen mapped relation place graph owner → AgreesWithMap mapped relation all graph owner
      → Goes (if many then load_collection mapped relation owner place else load_target mapped relation owner place) w tt after → Holds (related_to mapped relation tables all graph owner) after owner
  lazily owner after (Some far) true is many free agrees g =
      held_as (related_here owner (Some far)) (related_to mapped relation tables all graph owner) after owner (ap (related_here owner) is)
      (filled_holds mapped relation (related_here owner (Some far)) (link_at graph owner place) after.own.graph (link_at after.own.graph owner place) many
      (lazy_fills_pairs mapped relation far place owner all w after (paired_stage mapped relation all w set far is many) (holds mapped relation all w set place owner free) g))
  lazily owner after (Some far) false is single free agrees g =
      absurd (true_false relation.many (far_many mapped relation place graph owner far set.has set.related free is) single)
  lazily owner after None true near many free agrees g =
      let kind : IsOneToMany mapped relation = one_to_many mapped relation all w set near many in
      held_as (of_many owner) (related_to mapped relation tables all graph owner) after owner (near_rows owner true near many)
      (filled_holds mapped relation (of_many owner) (link_at graph owner place) after.own.graph (link_at after.own.graph owner place) many
      (lazy_fills mapped relation place owner all w after kind (plain_stage mapped relation all w set) (waits mapped relation all w set place owner free kind) g))
  lazily owner after None false near single free agrees g =
      led owner after near single free agrees
      (lazy_leads mapped relation place owner all w after (many_to_one mapped relation all w set near single) (plain_stage mapped relation all w set)
      (points mapped relation all w set place owner free single) g)

  pub together : (owners : List ObjId) (owner : ObjId) (after : World) (far : Option TableKey) (many : Bool) → relation.far ≡ far → relation.many ≡ many → All (IsOpen mapped relation place graph) owners → is_among owners owner ≡ true
      → AgreesWithMap mapped relation all graph owner → Goes (if many then load_members mapped relation place owners else load_ends mapped relation place owners) w tt after
      → Holds (related_to mapped relation tables all graph owner) after owner
  together owners owner after (Some far) true is many free among agrees g =
      held_as (related_here owner (Some far)) (related_to mapped relation tables all graph owner) after owner (ap (related_here owner) is)
      (filled_holds mapped relation (related_here owner (Some far)) (link_at graph owner place) after.own.graph (link_at after.own.graph owner place) many
      (selectin_fills_pairs mapped relation far place owners owner all w after (paired_stage mapped relation all w set far is many) (each_holds owners free) among g))
  together owners owner after (Some far) false is single free among agrees g =
      let one : IsOpen mapped relation place graph owner = one_open owners owner free among in
      absurd (true_false relation.many (far_many mapped relation place graph owner far set.has set.related one is) single)
  together owners owner after None true near many free among agrees g =
      let kind : IsOneToMany mapped relation = one_to_many mapped relation all w set near many in
      held_as (of_many owner) (related_to mapped relation tables all graph owner) after owner (near_rows owner true near many)
      (filled_holds mapped relation (of_many owner) (link_at graph owner place) after.own.graph (link_at after.own.graph owner place) many
      (selectin_fills mapped relation place owners owner all w after kind (plain_stage mapped relation all w set) (each_waits kind owners free) among g))
  together owners owner after None false near single free among agrees g =
      led owner after near single (one_open owners owner free among) agrees
      (selectin_leads mapped relation place owners owner all w after (many_to_one mapped relation all w set near single) (plain_stage mapped relation all w set) (each_points single owners free) among g)

  alike : (owners : List ObjId) (owner : ObjId) (lazy after : World) (far : Option TableKey) (many : Bool) → relation.far ≡ far → relation.many ≡ many → All (IsOpen mapped relation place graph) owners → is_among owners owner ≡ true
      → Goes (if many then load_collection mapped relation owner place else load_target mapped relation owner place) w tt lazy → Goes (if many then load_members mapped relation place owners else load_ends mapped relation place owners) w tt after
      → HoldAlike lazy.own.graph after.own.graph relation.many (link_at graph owner place) (link_at lazy.own.graph owner place) (link_at after.own.graph owner place)
  alike owners owner lazy after (Some far) true is many free among g h =
      alike_filled mapped relation lazy.own.graph after.own.graph (link_at graph owner place) (link_at lazy.own.graph owner place) (link_at after.own.graph owner place) many
      (pair_alike mapped relation far place owners owner all w lazy after (paired_stage mapped relation all w set far is many) (each_holds owners free) among g h)
  alike owners owner lazy after (Some far) false is single free among g h =
      let one : IsOpen mapped relation place graph owner = one_open owners owner free among in
      absurd (true_false relation.many (far_many mapped relation place graph owner far set.has set.related one is) single)
  alike owners owner lazy after None true near many free among g h =
      let kind : IsOneToMany mapped relation = one_to_many mapped relation all w set near many in
      alike_filled mapped relation lazy.own.graph after.own.graph (link_at graph owner place) (link_at lazy.own.graph owner place) (link_at after.own.graph owner place) many
      (agree mapped relation place owners owner all w lazy after kind (plain_stage mapped relation all w set) (each_waits kind owners free) among g h)
  alike owners owner lazy after None false near single free among g h =
      alike_holds mapped relation lazy.own.graph after.own.graph (link_at graph owner place) (link_at lazy.own.graph owner place) (link_at after.own.graph owner place) single (one_open owners owner free among).unloaded
      (lead_alike mapped relation place owners owner all w lazy after (many_to_one mapped relation all w set near single) (plain_stage mapped relation all w set) (each_points single owners free) among g h)

-- ---- the laws

set_by : (mapped : Mapped) (relation : Relation) (place : RelNo) (owner : ObjId) (all : List Row) (w : World) → IsStage mapped w → AreRowsOf mapped relation.target (bare w.store.tables) all → IsReady mapped relation place w.own.graph owner → IsSet mapped relation all w
set_by mapped relation place owner all w stage rows ready = record { has = stage.has; related = owned_related mapped relation place w owner stage ready.owner; rooted = stage.graph.rooted; held = stage.held; rows = rows }

pub lazy_links : (mapped : Mapped) (relation : Relation) (place : RelNo) (owner : ObjId) (all : List Row) (w after : World) → IsStage mapped w → AreRowsOf mapped relation.target (bare w.store.tables) all → IsReady mapped relation place w.own.graph owner
    → is_unloaded (link_at w.own.graph owner place) ≡ true → AgreesWithMap mapped relation all w.own.graph owner → Goes (load_lazy mapped owner place) w tt after → HoldsRelated mapped relation place all w after owner
lazy_links mapped relation place owner all w after stage rows ready unloaded agrees g =
    lazily mapped relation place all w (set_by mapped relation place owner all w stage rows ready) owner after relation.far relation.many refl refl (opened mapped relation place w owner stage ready unloaded) agrees (lazy_by mapped relation place owner w after ready.owner g)

all_open : (mapped : Mapped) (relation : Relation) (place : RelNo) (owners : List ObjId) (w : World) → IsStage mapped w → All (IsReady mapped relation place w.own.graph) owners → All (IsOpen mapped relation place w.own.graph) (unread w.own.graph place owners)
all_open mapped relation place owners w stage ready =
    All-from_recursion (IsOpen mapped relation place w.own.graph) (unread w.own.graph place owners)
    (every_unread w.own.graph place (IsOpen mapped relation place w.own.graph) owners (each owners (recursion_from_All (IsReady mapped relation place w.own.graph) owners ready)))
  where
    each : (some : List ObjId) → AllByRecursion (IsReady mapped relation place w.own.graph) some → AllByRecursion (λ owner. is_unloaded (link_at w.own.graph owner place) ≡ true → IsOpen mapped relation place w.own.graph owner) some
    each [] all = tt
    each (owner ∷ some) all = (λ is. opened mapped relation place w owner stage all.0 is, each some all.1)

pub selectin_links : (mapped : Mapped) (relation : Relation) (place : RelNo) (owners : List ObjId) (owner : ObjId) (all : List Row) (w after : World) → IsStage mapped w → AreRowsOf mapped relation.target (bare w.store.tables) all
    → All (IsReady mapped relation place w.own.graph) owners → is_among owners owner ≡ true → is_unloaded (link_at w.own.graph owner place) ≡ true → AgreesWithMap mapped relation all w.own.graph owner
    → Goes (load_selectin mapped place owners) w tt after → HoldsRelated mapped relation place all w after owner
selectin_links mapped relation place owners owner all w after stage rows ready among unloaded agrees g =
    let one = one_waiting (IsReady mapped relation place w.own.graph) owners owner (recursion_from_All (IsReady mapped relation place w.own.graph) owners ready) among in
    together mapped relation place all w (set_by mapped relation place owner all w stage rows one) (unread w.own.graph place owners) owner after relation.far relation.many refl refl (all_open mapped relation place owners w stage ready)
    (among_unread w.own.graph place owners owner among unloaded) agrees (unread_goes mapped relation place owners w after relation.many (together_by mapped relation place owners owner w after ready among g))

pub both_agree : (mapped : Mapped) (relation : Relation) (place : RelNo) (owners : List ObjId) (owner : ObjId) (all : List Row) (w lazy after : World) → IsStage mapped w → AreRowsOf mapped relation.target (bare w.store.tables) all
    → All (IsReady mapped relation place w.own.graph) owners → is_among owners owner ≡ true → is_unloaded (link_at w.own.graph owner place) ≡ true → Goes (load_lazy mapped owner place) w tt lazy → Goes (load_selectin mapped place owners) w tt after
    → HoldAlike lazy.own.graph after.own.graph relation.many (link_at w.own.graph owner place) (link_at lazy.own.graph owner place) (link_at after.own.graph owner place)
both_agree mapped relation place owners owner all w lazy after stage rows ready among unloaded g h =
    let one = one_waiting (IsReady mapped relation place w.own.graph) owners owner (recursion_from_All (IsReady mapped relation place w.own.graph) owners ready) among in
    alike mapped relation place all w (set_by mapped relation place owner all w stage rows one) (unread w.own.graph place owners) owner lazy after relation.far relation.many refl refl (all_open mapped relation place owners w stage ready)
    (among_unread w.own.graph place owners owner among unloaded) (lazy_by mapped relation place owner w lazy one.owner g) (unread_goes mapped relation place owners w after relation.many (together_by mapped relation place owners owner w after ready among h))
