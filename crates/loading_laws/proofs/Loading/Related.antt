-- A joined load fills the link of an owner with what is related to the object that the query's own select gives.
use Rattle.std.proofs.Common.{◌≡◌, Bool, true, false, List, Option, None, Some, if◌then◌else◌, refl, sym, ap, subst, ◌∙◌}
use Rattle.base_core.specs.declared.ids.ObjId.{ObjId}
use Rattle.base_core.specs.declared.ids.RelNo.{RelNo}
use Rattle.base_core.specs.declared.value.Value.{Value}
use Rattle.expr_types.specs.declared.select.ObjectQuery.{ObjectQuery}
use Rattle.sql_semantics.specs.Created.{bare}
use Rattle.sql_semantics.specs.Eval.{Row, Tables, rows_in}
use Rattle.class_types.specs.declared.mapped.Relation.{Relation}
use Rattle.class_sides.specs.Keys.{TableKey}
use Rattle.class_mapping.specs.Mapped.{Mapped}
use Rattle.class_mapping.proofs.Having.{true_false}
use Rattle.keeper_core.specs.Store.{Store}
use Rattle.object_arena.specs.declared.object.Link.{Link}
use Rattle.object_arena.specs.Fit.{relation_of}
use Rattle.object_arena.specs.Graph.{object_at}
use Rattle.load_filling.specs.Rows.{row_key}
use Rattle.load_rows.specs.Reading.{identity_key}
use Rattle.load_rows.specs.Links.{link_at}
use Rattle.load_calls.specs.Reading.{World}
use Rattle.load_ends.specs.Ends.{key_of}
use Rattle.loading_laws.specs.Members.{paired_rows}
use Rattle.loading_laws.specs.Strategies.Ends.{IsLed, IsManyToOne, has_row, leads_to_one}
use Rattle.loading_laws.specs.Strategies.Filled.{IsFilled, related_rows}
use Rattle.loading_laws.proofs.Strategies.TargetKeys.{target_long}
use Rattle.loading_laws.specs.Joined.Agree.{AreLoaded, HoldsItsKey}
use Rattle.loading_laws.specs.Joined.Blocks.{referred_key, tied_rows}
use Rattle.loading_laws.specs.Joined.Joined.{ReferAlike}
use Rattle.loading_laws.proofs.Joined.Agree.{are_first, filled_joined, first_is, own_key, same_store, tied_is}
use Rattle.loading_laws.proofs.Joined.Fills.{joined_leads}
use Rattle.loading_laws.specs.Loaders.Linked.{AgreesWithMap, HoldsRows, referred_rows, related_by, related_to}
use Rattle.loading_laws.proofs.Loaders.Ends.{led_holds}
use Rattle.loading_laws.proofs.Loaders.EachKind.{IsOpen, IsSet, far_many, many_to_one}
use Rattle.loading_laws.proofs.Loaders.Loads.{filled_holds}

module _ (mapped : Mapped) (query : ObjectQuery) (plain joined all : List Row) (objects answered : List ObjId) (w first after : World) (row : Row) (place : RelNo) (one owner : ObjId)
    (loaded : AreLoaded mapped query plain joined objects answered w first after row place one owner) (set : IsSet mapped (relation_of mapped query.class place) all first) (free : IsOpen mapped (relation_of mapped query.class place) place first.own.graph one)
    (settled : (relation_of mapped query.class place).many ≡ false → HoldsItsKey mapped query.class (relation_of mapped query.class place) plain all first.own.graph row one)
    (agrees : AgreesWithMap mapped (relation_of mapped query.class place) all first.own.graph one) where
  abbrev relation : Relation
  relation = relation_of mapped query.class place

  abbrev tables : Tables
  tables = bare first.store.tables

  abbrev old : Link
  old = link_at first.own.graph one place

  -- the rows to which the owner's row leads
  abbrev tied : List Row
  tied = tied_rows mapped query.class relation (bare w.store.tables) all row

  abbrev Holds : List Row → Type 0
  Holds rows = HoldsRows mapped relation rows old after.own.graph (link_at after.own.graph owner place)

  abbrev related : List Row
  related = related_to mapped relation tables all first.own.graph one

  key_is : identity_key first.own.graph one ≡ row_key mapped query.class row
  key_is = own_key mapped query plain joined all objects answered w first after row place one owner loaded

  filled : relation.many ≡ true → related ≡ tied → Holds related
  filled many same =
      let there : IsFilled mapped relation tied old after.own.graph (link_at after.own.graph owner place) =
      subst (λ (link : Link). IsFilled mapped relation tied link after.own.graph (link_at after.own.graph owner place)) (sym (first_is mapped query plain joined all objects answered w first after row place one owner loaded))
      (filled_joined mapped query plain joined all objects answered w first after row place one owner loaded many set.rows) in
      subst Holds (sym same) (filled_holds mapped relation tied old after.own.graph (link_at after.own.graph owner place) many there)

  -- the links of each kind
  paired : (far : TableKey) → relation.far ≡ Some far → relation.many ≡ true → related ≡ tied
  paired far is many =
      ap (related_by mapped relation tables all first.own.graph one) is
      ∙ ap (paired_rows mapped relation far all (rows_in tables relation.foreign.0.0)) key_is
      ∙ ap (λ (store : Store). paired_rows mapped relation far all (rows_in (bare store.tables) relation.foreign.0.0) (row_key mapped query.class row)) (same_store mapped query plain joined all objects answered w first after row place one owner loaded)
      ∙ sym (tied_is mapped query plain joined all objects answered w first after row place one owner loaded (Some far) many is)

  referring : relation.far ≡ None → relation.many ≡ true → related ≡ tied
  referring near many =
      ap (related_by mapped relation tables all first.own.graph one) near
      ∙ ap (λ (b : Bool). if b then related_rows mapped relation all (identity_key first.own.graph one) else referred_rows mapped relation all (key_of mapped relation first.own.graph one)) many
      ∙ ap (related_rows mapped relation all) key_is
      ∙ sym (tied_is mapped query plain joined all objects answered w first after row place one owner loaded None many near)

  led : relation.far ≡ None → relation.many ≡ false → Holds related
  led near single =
      let kind : IsManyToOne mapped relation = many_to_one mapped relation all first set near single in
      let own : List Value = key_of mapped relation first.own.graph one in
      let referred : List Value = referred_key mapped query.class relation row in
      let holds = settled single in
      let here : own ≡ referred = holds.holds row loaded.joined_owner.among refl in
      let refer : ReferAlike mapped query.class relation plain row = λ other there same. sym (holds.holds other there same) ∙ here in
      let by_row : IsLed mapped relation (has_row mapped relation.target all referred) referred after.own.graph (link_at after.own.graph owner place) =
      joined_leads mapped query plain joined all answered w after row place owner loaded.joining single (are_first mapped query plain joined all objects answered w first after row place one owner loaded set.rows) refer loaded.loaded loaded.joined_owner in
      let by_key : IsLed mapped relation (has_row mapped relation.target all own) own after.own.graph (link_at after.own.graph owner place) =
      subst (λ (key : List Value). IsLed mapped relation (has_row mapped relation.target all key) key after.own.graph (link_at after.own.graph owner place)) (sym here) by_row in
      let leads : IsLed mapped relation (leads_to_one mapped relation all first.own.graph own) own after.own.graph (link_at after.own.graph owner place) =
      subst (λ (b : Bool). IsLed mapped relation b own after.own.graph (link_at after.own.graph owner place)) (sym holds.leads) by_key in
      let same : related ≡ referred_rows mapped relation all own =
      ap (related_by mapped relation tables all first.own.graph one) near
      ∙ ap (λ (b : Bool). if b then related_rows mapped relation all (identity_key first.own.graph one) else referred_rows mapped relation all own) single in
      subst Holds (sym same)
      (led_holds mapped relation all own kind (target_long mapped relation (object_at first.own.graph one) kind) first.own.graph after.own.graph old (link_at after.own.graph owner place) free.unloaded (agrees single) leads)

  by_kind : (far : Option TableKey) (many : Bool) → relation.far ≡ far → relation.many ≡ many → Holds related
  by_kind (Some far) true is many = filled many (paired far is many)
  by_kind (Some far) false is single = absurd (true_false relation.many (far_many mapped relation place first.own.graph one far set.has set.related free is) single)
  by_kind None true near many = filled many (referring near many)
  by_kind None false near single = led near single

  -- the joined load's link holds what is related
  pub joined_holds : Holds related
  joined_holds = by_kind relation.far relation.many refl refl
