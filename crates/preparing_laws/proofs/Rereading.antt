-- Objects of which is read, one time after another.
use Rattle.std.proofs.Common.{◌≡◌, ◌⊎◌, inl, inr, ℕ, ◌<◌, ◌≤◌, Bool, true, false, List, length, Option, None, Some, if◌then◌else◌, is_none, refl, sym, ap, subst, ◌∙◌, arith}
use Rattle.std.proofs.Math.Seq.{map-set_same}
use Rattle.std.proofs.lemmas.Bool.{cases_lt}
use Rattle.std.proofs.lemmas.List.{get_or-map, length-map, length-set}
use Rattle.std.proofs.lemmas.List.Elements.{All-set}
use Rattle.base_core.specs.declared.ids.ClassId.{ClassId}
use Rattle.base_core.specs.declared.ids.ObjId.{ObjId}
use Rattle.base_core.specs.declared.value.Value.{Value}
use Rattle.schema_core.specs.Tables as held
use Rattle.class_types.specs.declared.mapped.Attribute.{Attribute}
use Rattle.class_mapping.specs.Mapped.{Mapped, attributes_of, root_of}
use Rattle.object_arena.specs.declared.object.Cell.{Cell}
use Rattle.object_arena.specs.declared.object.Object.{Object}
use Rattle.object_arena.specs.Every.{classes_of}
use Rattle.object_arena.specs.Fit.{IsFit, ObjectFits, cell_fits, links_fit}
use Rattle.object_arena.specs.Graph.{Graph, IsObject, cell_in, expired_cell, no_object, object_at, place_of, with_object}
use Rattle.object_arena.proofs.FitLemmas.{fit_at, fit_links}
use Rattle.object_arena.proofs.LinkLemmas.{links_same}
use Rattle.object_arena.proofs.PartLemmas.{pointwise_map}
use Rattle.load_filling.specs.Loaded.{loaded_object}
use Rattle.load_filling.proofs.LoadedLemmas.{grows_same}
use Rattle.load_rows.specs.Links.{link_in}
use Rattle.load_rows.proofs.TakenLemmas.{grows_filled}
use Rattle.load_calls.proofs.RowsLemmas.{grows_then}
use Rattle.load_preparing.specs.Preparing.{reread_cell, reread_object}
use Rattle.loading_laws.proofs.Strategies.Standing.{set_related}
use Rattle.load_steps.specs.Loaded.{AreReadFrom, IsReadFrom, object_in, row_value}
use Rattle.load_steps.proofs.Loaded.{cell_then, grown_long, link_then}
use Rattle.preparing_laws.specs.Reread.{AreRereadFrom, IsMadeAnew, IsRereadCell, IsRereadFrom}

module _ (mapped : Mapped) (tables : held.Tables) where
  -- ---- one cell

  left_then : (found : Option Value) (was mid now : Cell) → IsRereadCell found was mid → IsRereadCell found mid now → IsRereadCell found was now
  left_then found was mid now (inl first) (inl second) = inl (cell_then mapped tables found was mid now first second)
  left_then found was mid now (inl (inl same)) (inr lost) = inr (record { unknown = sym (ap (λ (cell : Cell). cell.base) same) ∙ lost.unknown; left = lost.left })
  left_then found was mid now (inl (inr filled)) (inr lost) = absurd (let never : ◌≡◌ {A = Option Value} (Some filled.held) None = sym (ap (λ (cell : Cell). cell.base) filled.even) ∙ lost.unknown in cc)
  left_then found was mid now (inr lost) (inl second) = inr (record { unknown = lost.unknown; left = cell_then mapped tables found expired_cell mid now lost.left second })
  left_then found was mid now (inr lost) (inr again) = inr (record { unknown = lost.unknown; left = again.left })

  -- a cell that is to be read again
  cell_left : (found : Option Value) (cell : Cell) → IsRereadCell found cell (reread_cell cell)
  cell_left found cell = by cell.base refl
    where
      by : (base : Option Value) → cell.base ≡ base → IsRereadCell found cell (if is_none base then expired_cell else cell)
      by None is = inr (record { unknown = is; left = inl refl })
      by (Some value) is = inl (inl refl)

  -- ---- one object

  pub reread_same : (object : Object) → IsRereadFrom mapped tables object object
  reread_same object = record { rest = refl; long = refl; linked = refl; cells = λ attr within. inl (inl refl); links = λ place. inl refl }

  from_read : (was now : Object) → IsReadFrom mapped tables was now → IsRereadFrom mapped tables was now
  from_read was now of = record { rest = of.rest; long = of.long; linked = of.linked; cells = λ attr within. inl (of.cells attr within); links = of.links }

  reread_then : (was mid now : Object) → IsRereadFrom mapped tables was mid → IsRereadFrom mapped tables mid now → IsRereadFrom mapped tables was now
  reread_then was mid now p q = record {
    rest = q.rest ∙ ap (λ (o : Object). record o { cells = now.cells; links = now.links }) p.rest;
    long = q.long ∙ p.long;
    linked = q.linked ∙ p.linked;
    cells = λ attr within.
        let found : row_value mapped tables now attr ≡ row_value mapped tables mid attr = ap (λ (o : Object). row_value mapped tables o attr) q.rest in
        let first = p.cells attr (subst (λ (n : ℕ). attr.0 < n) q.long within) in
        left_then (row_value mapped tables now attr) (cell_in was attr) (cell_in mid attr) (cell_in now attr)
        (subst (λ (value : Option Value). IsRereadCell value (cell_in was attr) (cell_in mid attr)) (sym found) first) (q.cells attr within);
    links = λ place. link_then mapped tables (link_in was.links place) (link_in mid.links place) (link_in now.links place) (p.links place) (q.links place);
  }

  object_left : (object : Object) → IsRereadFrom mapped tables object (reread_object object)
  object_left object = record {
    rest = refl;
    long = length-map object.cells reread_cell;
    linked = refl;
    cells = λ attr within.
        let inside : attr.0 < length object.cells = omega (arith, within, length-map object.cells reread_cell) in
        subst (IsRereadCell (row_value mapped tables (reread_object object) attr) (cell_in object attr)) (sym (get_or-map reread_cell object.cells attr.0 expired_cell expired_cell inside))
        (cell_left (row_value mapped tables (reread_object object) attr) (cell_in object attr));
    links = λ place. inl refl;
  }

  -- ---- all objects

  pub none_reread : (graph : Graph) → AreRereadFrom mapped tables graph graph
  none_reread graph = record { grows = grows_same graph graph refl; read = λ place less. reread_same (object_in graph place); made = λ place past less. absurd (omega (arith, past, less)) }

  pub all_read : (old new : Graph) → AreReadFrom mapped tables old new → AreRereadFrom mapped tables old new
  all_read old new all = record {
    grows = all.grows;
    read = λ place less. from_read (object_in old place) (object_in new place) (all.read place less);
    made = λ place past less. let made = all.made place past less in record { key = made.key; read = from_read (loaded_object mapped (object_in new place).class made.key) (object_in new place) made.read };
  }

  module _ (old mid new : Graph) (first : AreRereadFrom mapped tables old mid) (second : AreRereadFrom mapped tables mid new) where
    made_then : (place : ℕ) → length old.objects ≤ place → place < length new.objects → (place < length mid.objects) ⊎ (length mid.objects ≤ place) → IsMadeAnew mapped tables (object_in new place)
    made_then place past less (inl before) =
        let made = first.made place past before in
        let more = second.read place before in
        let same : (object_in mid place).class ≡ (object_in new place).class = sym (ap (λ (o : Object). o.class) more.rest) in
        record {
          key = made.key;
          read = subst (λ (class : ClassId). IsRereadFrom mapped tables (loaded_object mapped class made.key) (object_in new place)) same
              (reread_then (loaded_object mapped (object_in mid place).class made.key) (object_in mid place) (object_in new place) made.read more);
        }
    made_then place past less (inr behind) = second.made place behind less

    pub all_then : AreRereadFrom mapped tables old new
    all_then =
        let longer = grown_long old mid first.grows in
        record {
          grows = grows_then old mid new first.grows second.grows;
          read = λ place less. reread_then (object_in old place) (object_in mid place) (object_in new place) (first.read place less) (second.read place (omega (arith, less, longer)));
          made = λ place past less. made_then place past less (cases_lt place (length mid.objects));
        }

  -- an object is there still, of its class
  pub still_there : (old new : Graph) (object : ObjId) → AreRereadFrom mapped tables old new → IsObject old object → IsObject new object
  still_there old new object all made = let longer = grown_long old new all.grows in (made.0, omega (arith, made.1, longer))

  pub class_still : (old new : Graph) (object : ObjId) → AreRereadFrom mapped tables old new → IsObject old object → (object_at new object).class ≡ (object_at old object).class
  class_still old new object all made = ap (λ (o : Object). o.class) (all.read (place_of object) (let within : place_of object < length old.objects = omega (arith, made.0, made.1) in within)).rest

  -- what is to be read again of an object
  module _ (graph : Graph) (object : ObjId) where
    abbrev new : Object
    new = reread_object (object_at graph object)

    pub graph_left : AreRereadFrom mapped tables graph (with_object graph object new)
    unfolding classes_of
    graph_left = record {
      grows =
          grows_filled graph graph (with_object graph object new) (grows_same graph graph refl)
          (ap (λ (classes : List ClassId). (classes, graph.roots)) (map-set_same (λ (o : Object). o.class) graph.objects (place_of object) new no_object refl));
      read = λ place less. set_related (λ (x y : Object). IsRereadFrom mapped tables x y) graph.objects (place_of object) place new no_object reread_same (object_left (object_at graph object));
      made = λ place past less. absurd (let long = length-set graph.objects (place_of object) new in omega (arith, past, less, long));
    }

    cells_fit : IsFit mapped graph → IsObject graph object → ObjectFits mapped new
    cells_fit fit made =
        let old : Object = object_at graph object in
        let fits : ObjectFits mapped old = fit_at mapped graph object fit made in
        record {
          class = fits.class;
          cells = pointwise_map cell_fits reread_cell (attributes_of mapped old.class) old.cells (λ attribute cell h. by attribute cell h (is_none cell.base)) fits.cells;
          identity = fits.identity;
          links = fits.links;
        }
      where
        by : (attribute : Attribute) (cell : Cell) → cell_fits attribute cell ≡ true → (b : Bool) → cell_fits attribute (if b then expired_cell else cell) ≡ true
        by attribute cell h true = refl
        by attribute cell h false = h

    pub fit_left : IsFit mapped graph → IsObject graph object → IsFit mapped (with_object graph object new)
    fit_left fit made = record {
      objects = All-set (ObjectFits mapped) graph.objects (place_of object) new (cells_fit fit made) fit.objects;
      roots = fit.roots ∙ sym (map-set_same (λ (o : Object). root_of mapped o.class) graph.objects (place_of object) new no_object refl);
      links =
          All-set (λ (o : Object). links_fit mapped graph.roots o ≡ true) graph.objects (place_of object) new
          (links_same mapped graph.roots (object_at graph object) new refl refl (fit_links mapped graph object fit made)) fit.links;
    }
