-- Objects of which nothing is left to flush.
use Rattle.std.specs.Prelude.{◌≡◌, true, false}
use Rattle.std.specs.List.{AllByRecursion}
use Rattle.object_arena.specs.declared.object.Cell.{Cell}
use Rattle.object_arena.specs.declared.object.Link.{Link}
use Rattle.object_arena.specs.declared.object.Object.{Object}
use Rattle.object_arena.specs.Graph.{Graph, is_persistent}
use Rattle.prepared_objects.specs.Leaving.{starts_deletes}
use Rattle.graph_flushed.specs.Flushed.{kept_cell, kept_link}
use Rattle.session_laws.specs.Sound.{EachObject, IsSettled}

-- The object is neither pending nor marked to be deleted. Where it is persistent its parent has not left it, and its cells and links are
-- as a flush keeps them: what a cell holds is what its row was last known to hold, and no link was changed since it was read or written.
pub record IsAsFlushed (object : Object) : Type 0 where
  pub settled : IsSettled object
  pub stays : starts_deletes object ≡ false
  pub cells : is_persistent object.state ≡ true → AllByRecursion (λ (cell : Cell). kept_cell cell ≡ cell) object.cells
  pub links : is_persistent object.state ≡ true → AllByRecursion (λ (link : Link). kept_link link ≡ link) object.links

-- so is each object
abbrev pub NothingIsLeft : Graph → Type 0
NothingIsLeft graph = EachObject IsAsFlushed graph
