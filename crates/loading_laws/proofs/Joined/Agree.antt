-- Joined loading and lazy loading fill links alike: both with what is related to the owner.
use Rattle.std.proofs.Common.{◌≡◌, Bool, true, List, map, Option, None, Some, refl, sym, ap, subst, ◌∙◌}
use Rattle.base_core.specs.declared.ids.ObjId.{ObjId}
use Rattle.base_core.specs.declared.ids.RelNo.{RelNo}
use Rattle.base_core.specs.declared.value.Value.{Value}
use Rattle.expr_types.specs.declared.select.ObjectQuery.{ObjectQuery}
use Rattle.sql_semantics.specs.Created.{bare}
use Rattle.sql_semantics.specs.Eval.{Row, rows_in}
use Rattle.class_types.specs.declared.mapped.Relation.{Relation}
use Rattle.class_sides.specs.Keys.{TableKey}
use Rattle.class_mapping.specs.Mapped.{Mapped, root_of}
use Rattle.keeper_core.specs.Store.{Store}
use Rattle.object_arena.specs.Fit.{relation_of}
use Rattle.load_filling.specs.Rows.{row_key}
use Rattle.load_rows.specs.Reading.{identity_key}
use Rattle.load_rows.specs.Links.{collection_of, link_at}
use Rattle.load_calls.specs.Reading.{World}
use Rattle.load_ends.specs.Ends.{key_of}
use Rattle.load_calls.specs.Collections.{load_collection}
use Rattle.load_targets.specs.Targets.{load_target}
use Rattle.loading_laws.specs.Answers.Answers.{AreRowsOf}
use Rattle.loading_laws.specs.Members.{paired_rows}
use Rattle.loading_laws.specs.Strategies.Filled.{AreAlike, Goes, IsFilled, IsOneToMany, IsWaiting, Stage, keys_in_order, related_rows}
use Rattle.loading_laws.specs.Strategies.Ends.{IsLed, IsManyToOne, IsPointing, LeadAlike, has_row}
use Rattle.loading_laws.specs.Strategies.Paired.{IsHolding, PairedStage}
use Rattle.loading_laws.proofs.Strategies.KeyOrder.{key_of_stand}
use Rattle.loading_laws.proofs.Strategies.Lazy.{filled_as, lazy_fills}
use Rattle.loading_laws.proofs.Strategies.Paired.{lazy_fills_pairs}
use Rattle.loading_laws.proofs.Strategies.Standing.{found_stands}
use Rattle.loading_laws.proofs.Strategies.Targets.{lazy_leads}
use Rattle.loading_laws.proofs.Strategies.Together.{ends_alike}
use Rattle.loading_laws.specs.Joined.Agree.{AreLoaded, HoldsItsKey}
use Rattle.loading_laws.specs.Joined.Blocks.{referred_key, tied_by, tied_rows}
use Rattle.loading_laws.specs.Joined.Joined.{ReferAlike, first_link}
use Rattle.loading_laws.proofs.Joined.Fills.{joined_fills, joined_leads, place_within}
use Rattle.loading_laws.proofs.Joined.Objects.{selected_in}
use Rattle.loading_laws.proofs.Joined.Owners.{is_ready}

module _ (mapped : Mapped) (query : ObjectQuery) (plain joined all : List Row) (objects answered : List ObjId) (w first after : World) (row : Row) (place : RelNo) (one owner : ObjId)
    (loaded : AreLoaded mapped query plain joined objects answered w first after row place one owner) where
  abbrev relation : Relation
  relation = relation_of mapped query.class place

  abbrev key : List Value
  key = row_key mapped query.class row

  -- the own select changes no tables
  pub same_store : first.store ≡ w.store
  same_store = (selected_in mapped query plain joined objects w first loaded.joining loaded.selected).store

  pub are_first : AreRowsOf mapped relation.target (bare first.store.tables) all → AreRowsOf mapped relation.target (bare w.store.tables) all
  are_first are = subst (λ (store : Store). AreRowsOf mapped relation.target (bare store.tables) all) same_store are

  -- the owner has the key of its row
  pub own_key : identity_key first.own.graph one ≡ key
  own_key =
      let rooted = (selected_in mapped query plain joined objects w first loaded.joining loaded.selected).extends.rooted in
      key_of_stand (root_of mapped query.class) first.own.graph key one (found_stands first.own.graph (root_of mapped query.class) key one rooted loaded.lazy_owner.found)

  -- its link is as before, or unloaded where it was made
  pub first_is : link_at first.own.graph one place ≡ first_link mapped query.class place w.own.graph row
  first_is =
      let joining = loaded.joining in
      let within = place_within mapped query.class query.joined place joining.places loaded.joined_owner.asked in
      (is_ready mapped joining.has query.class place within row w.own.graph first.own.graph joining.fit (selected_in mapped query plain joined objects w first joining loaded.selected).extends one loaded.lazy_owner.found loaded.lazy_owner.of).waits

  -- collections that hold the same rows
  alike : (lazy : World) (rows : List Row) → IsFilled mapped relation rows (link_at first.own.graph one place) lazy.own.graph (link_at lazy.own.graph one place)
      → IsFilled mapped relation rows (first_link mapped query.class place w.own.graph row) after.own.graph (link_at after.own.graph owner place)
      → AreAlike lazy.own.graph after.own.graph (link_at first.own.graph one place) (link_at lazy.own.graph one place) (link_at after.own.graph owner place)
  alike lazy rows filled other =
      record { base = filled.base; same = other.base; one_link = filled.link; other_link = other.link ∙ ap (collection_of other.base) (sym first_is); alike = filled.keys ∙ sym other.keys }

  pub filled_joined : relation.many ≡ true → AreRowsOf mapped relation.target (bare first.store.tables) all
      → IsFilled mapped relation (tied_rows mapped query.class relation (bare w.store.tables) all row) (first_link mapped query.class place w.own.graph row) after.own.graph (link_at after.own.graph owner place)
  filled_joined many are = joined_fills mapped query plain joined all answered w after row place owner loaded.joining many (are_first are) loaded.loaded loaded.joined_owner

  pub tied_is : (far : Option TableKey) → relation.many ≡ true → relation.far ≡ far → tied_rows mapped query.class relation (bare w.store.tables) all row ≡ tied_by mapped query.class relation (bare w.store.tables) all row true far
  tied_is far many is =
      ap (λ (b : Bool). tied_by mapped query.class relation (bare w.store.tables) all row b relation.far) many
      ∙ ap (λ (f : Option TableKey). tied_by mapped query.class relation (bare w.store.tables) all row true f) is

  pub collections_agree : (lazy : World) → IsOneToMany mapped relation → Stage mapped relation all first → IsWaiting mapped relation place first.own.graph one → Goes (load_collection mapped relation one place) first tt lazy
      → AreAlike lazy.own.graph after.own.graph (link_at first.own.graph one place) (link_at lazy.own.graph one place) (link_at after.own.graph owner place)
  collections_agree lazy many stage waiting g =
      let filled = lazy_fills mapped relation place one all first lazy many stage waiting g in
      let rows : related_rows mapped relation all (identity_key first.own.graph one) ≡ tied_rows mapped query.class relation (bare w.store.tables) all row =
      ap (related_rows mapped relation all) own_key ∙ sym (tied_is None many.many many.near) in
      alike lazy (tied_rows mapped query.class relation (bare w.store.tables) all row)
      (filled_as mapped relation (related_rows mapped relation all (identity_key first.own.graph one)) (tied_rows mapped query.class relation (bare w.store.tables) all row) (link_at first.own.graph one place) lazy.own.graph (link_at lazy.own.graph one place)
      (ap (λ (rs : List Row). keys_in_order (map (row_key mapped relation.target) rs)) rows) filled)
      (filled_joined many.many stage.rows)

  pub pairs_agree : (far : TableKey) (lazy : World) → PairedStage mapped relation far all first → IsHolding mapped relation place first.own.graph one → Goes (load_collection mapped relation one place) first tt lazy
      → AreAlike lazy.own.graph after.own.graph (link_at first.own.graph one place) (link_at lazy.own.graph one place) (link_at after.own.graph owner place)
  pairs_agree far lazy stage holding g =
      let filled = lazy_fills_pairs mapped relation far place one all first lazy stage holding g in
      let lazy_rows : List Row = paired_rows mapped relation far all (rows_in (bare first.store.tables) relation.foreign.0.0) (identity_key first.own.graph one) in
      let rows : lazy_rows ≡ tied_rows mapped query.class relation (bare w.store.tables) all row =
      ap (paired_rows mapped relation far all (rows_in (bare first.store.tables) relation.foreign.0.0)) own_key
      ∙ ap (λ (store : Store). paired_rows mapped relation far all (rows_in (bare store.tables) relation.foreign.0.0) key) same_store ∙ sym (tied_is (Some far) stage.paired.many stage.paired.far_is) in
      alike lazy (tied_rows mapped query.class relation (bare w.store.tables) all row)
      (filled_as mapped relation lazy_rows (tied_rows mapped query.class relation (bare w.store.tables) all row) (link_at first.own.graph one place) lazy.own.graph (link_at lazy.own.graph one place)
      (ap (λ (rs : List Row). keys_in_order (map (row_key mapped relation.target) rs)) rows) filled)
      (filled_joined stage.paired.many stage.paired.rows)

  pub ends_agree : (lazy : World) → IsManyToOne mapped relation → Stage mapped relation all first → IsPointing mapped relation place first.own.graph one → HoldsItsKey mapped query.class relation plain all first.own.graph row one
      → Goes (load_target mapped relation one place) first tt lazy → LeadAlike lazy.own.graph after.own.graph (link_at lazy.own.graph one place) (link_at after.own.graph owner place)
  ends_agree lazy single stage pointing holds g =
      let referred : List Value = referred_key mapped query.class relation row in
      let led = lazy_leads mapped relation place one all first lazy single stage pointing g in
      let own : List Value = key_of mapped relation first.own.graph one in
      let key_is : own ≡ referred = holds.holds row loaded.joined_owner.among refl in
      let refer : ReferAlike mapped query.class relation plain row = λ other there same. sym (holds.holds other there same) ∙ key_is in
      let led_row : IsLed mapped relation (has_row mapped relation.target all own) own lazy.own.graph (link_at lazy.own.graph one place) =
      subst (λ (b : Bool). IsLed mapped relation b own lazy.own.graph (link_at lazy.own.graph one place)) holds.leads led in
      let led_lazy : IsLed mapped relation (has_row mapped relation.target all referred) referred lazy.own.graph (link_at lazy.own.graph one place) =
      subst (λ (k : List Value). IsLed mapped relation (has_row mapped relation.target all k) k lazy.own.graph (link_at lazy.own.graph one place)) key_is led_row in
      let led_joined = joined_leads mapped query plain joined all answered w after row place owner loaded.joining single.one (are_first stage.rows) refer loaded.loaded loaded.joined_owner in
      record {
        end = led_lazy.end;
        same = led_joined.end;
        one_link = led_lazy.link;
        other_link = led_joined.link;
        alike = ends_alike (root_of mapped relation.target) lazy.own.graph after.own.graph referred (has_row mapped relation.target all referred) led_lazy.end led_joined.end led_lazy.some led_joined.some led_lazy.stands led_joined.stands;
      }
