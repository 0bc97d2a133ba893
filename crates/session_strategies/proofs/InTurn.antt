-- Links that a session's calls read one after another, where nothing is left to flush: each read leaves all others, and in the end each of
-- them holds what is related.
use Rattle.std.proofs.Common.{◌≡◌, ℕ, ◌==◌, Bool, ◌||◌, true, false, List, [], ◌∷◌, refl, sym, ap, subst, ◌∙◌}
use Rattle.std.specs.List.{All, AllByRecursion, list_any}
use Rattle.std.proofs.lemmas.Bool.{and_parts, eqb-true}
use Rattle.std.proofs.lemmas.List.Elements.{recursion_from_All}
use Rattle.base_core.specs.declared.ids.ObjId.{ObjId}
use Rattle.base_core.specs.declared.ids.RelNo.{RelNo}
use Rattle.sql_semantics.specs.Created.{bare}
use Rattle.sql_semantics.specs.Eval.{Row}
use Rattle.class_types.specs.declared.mapped.Relation.{Relation}
use Rattle.class_mapping.specs.Mapped.{Mapped}
use Rattle.keeper_core.specs.Programs.{each, give}
use Rattle.keeper_core.specs.Store.{Store}
use Rattle.object_arena.specs.declared.object.Link.{Link}
use Rattle.object_arena.specs.Fit.{IsFit}
use Rattle.object_arena.specs.Graph.{Graph}
use Rattle.object_parts.specs.Links.{is_unloaded}
use Rattle.load_rows.specs.Links.{link_at}
use Rattle.load_calls.specs.Reading as loads
use Rattle.load_targets.specs.Targets.{load_lazy}
use Rattle.load_steps.specs.Loads.{Load}
use Rattle.ranked_rows.specs.Laws.{MainSelectsAnswerTableRows, OwnSelectsAnswerTableRows, SelectsAnswerTableRows}
use Rattle.loading_laws.specs.Answers.Answers.{AreRowsOf}
use Rattle.loading_laws.specs.Strategies.Filled.{Goes}
use Rattle.loading_laws.proofs.Strategies.Goes.{given, parted}
use Rattle.loading_laws.proofs.Strategies.Standing.{made_later}
use Rattle.loading_laws.proofs.Joined.Owners.{object_is}
use Rattle.loading_laws.specs.Loaders.Lazily.{CanBeRead, LeavesOthers, is_link}
use Rattle.loading_laws.specs.Loaders.Linked.{AgreesWithMap, HoldsRows, IsReady, IsStage, related_to}
use Rattle.loading_laws.specs.Loaders.OwnRows.{AreOfTheirRows}
use Rattle.loading_laws.proofs.Loaders.Frames.{leaves_same}
use Rattle.loading_laws.proofs.Loaders.Later.{IsLater, Kept, agrees_before, holds_left, kept_by, kept_same, kept_then, key_held, later_same, later_then}
use Rattle.loading_laws.proofs.Loaders.Lazily.{IsReadAt, filled_then, link_same, one_read}
use Rattle.loading_laws.proofs.Loading.FitLoads.{persistent_later}
use Rattle.session_scopes.specs.SessionState.{SessionState}
use Rattle.session_calls.specs.Parts.{World}
use Rattle.session_calls.proofs.Joining.{goes_itself}
use Rattle.session_links.specs.declared.reading.Related.{Related}
use Rattle.session_loads.specs.Reads.{read_related, tell_related}
use Rattle.session_laws.specs.Loads.{loading_of}
use Rattle.session_laws.specs.Preparing.{PreparationsLeaveReread}
use Rattle.session_laws.proofs.Health.Acts.{FlushLeavesSound, FlushWritesAll}
use Rattle.session_laws.proofs.Whole.Inside.{IsWithin}
use Rattle.session_load_laws.specs.Loads.{LoadsLeaveLoaded, MayLoad}
use Rattle.session_load_laws.specs.Readings.{IsPlace}
use Rattle.session_load_laws.proofs.Readings.{place_on, related_led}
use Rattle.session_strategies.specs.Strategies.{IsOfItsRows, read_link, read_links}
use Rattle.session_strategies.specs.Unwritten.{NothingIsLeft}
use Rattle.session_strategies.proofs.Loaded.{load_left}
use Rattle.session_strategies.proofs.Reading.{IsLazyLoad, inside_goes, loaded_stays, read_goes}

module _ (selects : SelectsAnswerTableRows) (owns : OwnSelectsAnswerTableRows) (mains : MainSelectsAnswerTableRows) (leaves : LoadsLeaveLoaded) (reads : PreparationsLeaveReread) (keeps : FlushLeavesSound) (answers : FlushWritesAll) (start : World)
    (stage : IsStage start.own.mapping (loading_of start)) where
  abbrev mapped : Mapped
  mapped = start.own.mapping

  abbrev before : loads.World
  before = loading_of start

  -- a session that reads have left, of which nothing is left to flush
  record IsOnWay (v : World) : Type 0 where
    within : IsWithin start.own v
    nothing : NothingIsLeft v.own.graph
    later : IsLater before (loading_of v)

  -- what one read leaves, and the load that it made of a link that waited
  record IsReadOnce (object : ObjId) (place : RelNo) (v x : World) : Type 0 where
    way : IsOnWay x
    read : IsReadAt place object (loading_of v) (loading_of x)
    lazy : is_unloaded (link_at v.own.graph object place) ≡ true → IsLazyLoad object place v x

  -- ---- one read

  module _ (object : ObjId) (place : RelNo) (can : CanBeRead mapped start.own.graph (object, place)) where
    at : IsPlace object place start.own
    at = record { made = can.owner.made; there = can.owner.within }

    lazy_goes : (v x : World) → IsOnWay v → (lazy : IsLazyLoad object place v x) → Goes (load_lazy mapped object place) (loading_of v) tt lazy.now
    lazy_goes v x way lazy = subst (λ (m : Mapped). Goes (load_lazy m object place) (loading_of v) tt lazy.now) way.within.goes.mapping lazy.loaded

    may : (v : World) → IsOnWay v → MayLoad (Load.Link object place) v
    may v way =
        let here = place_on object place start.own v.own way.within.goes at in
        ((here.made, persistent_later start.own.graph v.own.graph object stage.graph way.later.kept can.owner.made can.owner.persistent), here.there)

    -- a link that waits is loaded
    waiting_read : (v x : World) → IsOnWay v → IsWithin start.own x → IsLazyLoad object place v x → IsReadOnce object place v x
    waiting_read v x way within lazy =
        let one = one_read mapped before stage object place (loading_of v) lazy.now can way.later.kept (lazy_goes v x way lazy) in
        let left : LeavesOthers place object v.own.graph x.own.graph = subst (LeavesOthers place object v.own.graph) (sym lazy.graph) one.left in
        let store : x.store ≡ v.store = lazy.store ∙ one.store in
        let nothing = load_left selects owns mains leaves v way.within.hale (Load.Link object place) (may v way) way.nothing in
        record {
          way = record {
            within = within;
            nothing = subst NothingIsLeft (ap (λ (u : loads.World). u.own.graph) lazy.loaded.leaves ∙ sym lazy.graph) nothing;
            later = later_then before (loading_of v) (loading_of x) way.later (record { kept = kept_by place v.own.graph x.own.graph left.leaves; store = store });
          };
          read = record { left = left; store = store };
          lazy = λ waits. lazy;
        }

    -- of one that is loaded nothing is read
    loaded_read : (v : World) → IsOnWay v → is_unloaded (link_at v.own.graph object place) ≡ false → IsReadOnce object place v v
    loaded_read v way loaded = record {
      way = way;
      read = record { left = record { leaves = leaves_same place v.own.graph way.later.kept.graph; others = λ other made apart. refl }; store = refl };
      lazy = λ waits. absurd (let never : false ≡ true = sym loaded ∙ waits in cc);
    }

    related_read : (v : World) (related : Related) (x : World) → IsOnWay v → Goes (read_related object place) v related x → IsReadOnce object place v x
    related_read v related x way g = by (is_unloaded (link_at v.own.graph object place)) refl
      where
        inside : Goes (tell_related object place) v related x
        inside = inside_goes object place start.own v related x way.within g

        within : IsWithin start.own x
        within = subst (IsWithin start.own) inside.leaves ((related_led leaves reads keeps answers start.own object place at v way.within).told related inside.answer)

        by : (waits : Bool) → is_unloaded (link_at v.own.graph object place) ≡ waits → IsReadOnce object place v x
        by true waits = waiting_read v x way within (read_goes object place v related x way.nothing waits inside)
        by false loaded = subst (IsReadOnce object place v) (loaded_stays object place v related x loaded inside) (loaded_read v way loaded)

    once_read : (n t : Unit {0}) (v x : World) → IsOnWay v → Goes (read_link (object, place) n) v t x → IsReadOnce object place v x
    once_read n t v x way g =
        let two = parted (read_related object place) (λ (related : Related). give tt) v t x (record { answer = g.answer; leaves = g.leaves }) in
        subst (IsReadOnce object place v) (given tt t two.between x two.second).1 (related_read v two.value two.between way two.first)

  -- ---- several

  module _ (relation : Relation) (place : RelNo) (owner : ObjId) (all : List Row) (ready : IsReady mapped relation place start.own.graph owner) (rows : AreRowsOf mapped relation.target (bare start.store.tables) all)
      (unloaded : is_unloaded (link_at start.own.graph owner place) ≡ true) where
    abbrev old : Link
    old = link_at start.own.graph owner place

    abbrev wanted : List Row
    wanted = related_to mapped relation (bare start.store.tables) all start.own.graph owner

    -- the link is filled
    abbrev Held : Graph → Type 0
    Held graph = HoldsRows mapped relation wanted old graph (link_at graph owner place)

    -- reads behind it leave it so
    record IsTail (v x : World) : Type 0 where
      way : IsOnWay x
      kept : Kept v.own.graph x.own.graph
      held : Held v.own.graph → Held x.own.graph

    tail_go : (links : List (ObjId × RelNo)) (n : Unit {0}) (v x : World) → AllByRecursion (CanBeRead mapped start.own.graph) links → IsOnWay v → Goes (each read_link n links) v tt x → IsTail v x
    unfolding each
    tail_go [] n v x can way g = subst (IsTail v) (given n tt v x g).1 (record { way = way; kept = kept_same v.own.graph way.later.kept.graph; held = λ held. held })
    tail_go ((object, other) ∷ links) n v x can way g =
        let two = parted (read_link (object, other) n) (λ (m : Unit {0}). each read_link m links) v tt x g in
        let y : World = two.between in
        let one = once_read object other can.0 n two.value v y way two.first in
        let rest = tail_go links two.value y x can.1 one.way two.second in
        record {
          way = rest.way;
          kept = kept_then v.own.graph y.own.graph x.own.graph (kept_by other v.own.graph y.own.graph one.read.left.leaves) rest.kept;
          held = λ held.
              rest.held (holds_left mapped relation place other owner wanted old v.own.graph y.own.graph (made_later start.own.graph v.own.graph owner way.later.kept.stays ready.owner.made) one.read.left.leaves held);
        }

    -- its own read
    own_read : (v y : World) → IsOnWay v → link_at v.own.graph owner place ≡ old → AgreesWithMap mapped relation all v.own.graph owner → (lazy : IsLazyLoad owner place v y) → Goes (load_lazy mapped owner place) (loading_of v) tt lazy.now
        → Held y.own.graph
    own_read v y way same agrees lazy goes =
        subst Held (sym lazy.graph)
        (filled_then mapped relation place owner all before stage ready rows unloaded (loading_of v) lazy.now (record { kept = way.later.kept; store = way.later.store; link = same }) agrees goes)

    links_go : (links : List (ObjId × RelNo)) (n : Unit {0}) (v x : World) → AllByRecursion (CanBeRead mapped start.own.graph) links → list_any (is_link owner place) links ≡ true → IsOnWay v → link_at v.own.graph owner place ≡ old
        → AgreesWithMap mapped relation all x.own.graph owner → Goes (each read_link n links) v tt x → Held x.own.graph
    unfolding each
    links_go [] n v x can there way same agrees g = absurd cc
    links_go ((object, other) ∷ links) n v x can there way same agrees g =
        let two = parted (read_link (object, other) n) (λ (m : Unit {0}). each read_link m links) v tt x g in
        let y : World = two.between in
        let one = once_read object other can.0 n two.value v y way two.first in
        let rest = tail_go links two.value y x can.1 one.way two.second in
        let made = made_later start.own.graph v.own.graph owner way.later.kept.stays ready.owner.made in
        let kept : Kept v.own.graph x.own.graph = kept_then v.own.graph y.own.graph x.own.graph (kept_by other v.own.graph y.own.graph one.read.left.leaves) rest.kept in
        let agreed : AgreesWithMap mapped relation all v.own.graph owner =
        agrees_before mapped relation all v.own.graph x.own.graph owner way.later.kept.graph made kept (λ single. key_held mapped relation start.own.graph v.own.graph owner ready.owner.made way.later.kept (ready.held single)) agrees in
        by y one rest agreed (is_link owner place (object, other)) refl (λ more still. links_go links two.value y x can.1 more one.way still agrees two.second)
      where
        by : (y : World) → IsReadOnce object other v y → IsTail y x → AgreesWithMap mapped relation all v.own.graph owner → (is : Bool) → is_link owner place (object, other) ≡ is
            → (list_any (is_link owner place) links ≡ true → link_at y.own.graph owner place ≡ old → Held x.own.graph) → Held x.own.graph
        by y one rest agreed true is more =
            let both = and_parts (object.0 == owner.0) (other.0 == place.0) is in
            let itself : object ≡ owner = object_is object owner both.0 in
            let here : other ≡ place = ap (λ (n : ℕ). let r : RelNo = record { 0 = n } in r) (eqb-true other.0 place.0 both.1) in
            let can_be : CanBeRead mapped start.own.graph (owner, place) =
            subst (λ (o : ObjId). CanBeRead mapped start.own.graph (o, place)) itself (subst (λ (r : RelNo). CanBeRead mapped start.own.graph (object, r)) here can.0) in
            let mine : IsReadOnce owner place v y = subst (λ (o : ObjId). IsReadOnce o place v y) itself (subst (λ (r : RelNo). IsReadOnce object r v y) here one) in
            let lazy : IsLazyLoad owner place v y = mine.lazy (ap is_unloaded same ∙ unloaded) in
            rest.held (own_read v y way same agreed lazy (lazy_goes owner place can_be v y way lazy))
        by y one rest agreed false is more =
            more (sym (ap (λ (b : Bool). b || list_any (is_link owner place) links) is) ∙ there)
            (link_same mapped relation place owner all before stage ready rows unloaded object other (loading_of v) (loading_of y) (record { kept = way.later.kept; store = way.later.store; link = same }) one.read (object.0 == owner.0)
            (other.0 == place.0) refl refl is
            ∙ same)

    -- Where a many-to-one relationship's target is in the identity map in the end, it is of its row, since persistent objects are.
    pub links_hold : (first : SessionState) (links : List (ObjId × RelNo)) (lazy : World) → IsWithin first start → NothingIsLeft start.own.graph → All (CanBeRead mapped start.own.graph) links → list_any (is_link owner place) links ≡ true
        → (IsLater before (loading_of lazy) → IsFit mapped lazy.own.graph → AreOfTheirRows mapped (bare start.store.tables) lazy.own.graph → AgreesWithMap mapped relation all lazy.own.graph owner) → IsOfItsRows lazy
        → Goes (read_links links) start tt lazy → Held lazy.own.graph
    links_hold first links lazy it nothing can there agrees of_rows g =
        let each_can = recursion_from_All (CanBeRead mapped start.own.graph) links can in
        let began : IsOnWay start = record {
          within = record { hale = it.hale; opened = it.opened; awake = it.awake; goes = goes_itself start.own };
          nothing = nothing;
          later = later_same before before refl stage.graph;
        } in
        let whole = tail_go links tt start lazy each_can began g in
        let mapping : lazy.own.mapping ≡ mapped = whole.way.within.goes.mapping in
        let fit : IsFit mapped lazy.own.graph = subst (λ (m : Mapped). IsFit m lazy.own.graph) mapping whole.way.within.hale.keyed.fit in
        let of : AreOfTheirRows mapped (bare start.store.tables) lazy.own.graph =
        subst (λ (s : Store). AreOfTheirRows mapped (bare s.tables) lazy.own.graph) whole.way.later.store (subst (λ (m : Mapped). AreOfTheirRows m (bare lazy.store.tables) lazy.own.graph) mapping of_rows) in
        links_go links tt start lazy each_can there began refl (agrees whole.way.later fit of) g
