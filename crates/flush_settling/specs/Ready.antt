-- When it can be told what success of a flush makes of the objects.
use Rattle.std.specs.Prelude.{◌≡◌, length}
use Rattle.object_writes.specs.Ready.{IsReady}
use Rattle.flush_settling.specs.declared.flushing.Flushing.{Flushing}
use Rattle.graph_flushed.specs.Flushed.{Written}
use Rattle.graph_flushed.specs.Ready.{AreHolders}

-- what was written, as it is told by the parts of a flush
abbrev pub written_of : Flushing → Written
written_of flushing = record {
  mapping = flushing.projection.now.mapping.now;
  graph = flushing.projection.now.arena.now;
  prepared = flushing.projection.now.prepared.now;
  names = flushing.projection.now.names.now;
  keys = flushing.keys.now;
}

pub record IsFlushing (flushing : Flushing) : Type 0 where
  pub ready : IsReady flushing.projection.now
  pub long : length flushing.keys.now ≡ length flushing.projection.now.arena.now.objects
  pub holders : AreHolders flushing.holders.now.maps.items flushing.keys.now flushing.projection.now.arena.now.roots
