-- What a flush writes fits the mapping.
use Rattle.std.proofs.Common.{◌<◌, length}
use Rattle.std.proofs.lemmas.Option.{slice_get-get_or}
use Rattle.base_core.specs.declared.ids.AttrNo.{AttrNo}
use Rattle.base_core.specs.declared.ids.ClassId.{ClassId}
use Rattle.class_mapping.specs.Mapped.{Mapped, attribute_of, attributes_of, no_attribute}
use Rattle.class_mapping.proofs.Having.{Has, has_at}
use Rattle.object_arena.specs.Graph.{object_at}
use Rattle.object_arena.proofs.FitLemmas.{fit_class}
use Rattle.graph_flushed.specs.Flushes.{FlushesFit}
use Rattle.graph_flushed.proofs.Flushes.Columns.{told_fits}
use Rattle.graph_flushed.proofs.Flushes.Links.{come_fits}

attribute_there : (mapped : Mapped) (class : ClassId) (attr : AttrNo) → attr.0 < length (attributes_of mapped class) → Has (attributes_of mapped class) (attribute_of mapped class attr)
attribute_there mapped class attr less = has_at (attributes_of mapped class) attr.0 (attribute_of mapped class attr) (slice_get-get_or (attributes_of mapped class) attr.0 no_attribute less)

pub flushes_fit : FlushesFit
flushes_fit mapped graph prepared changes keys has related fit clearable = record {
  come = λ object attr there.
      come_fits mapped graph prepared changes keys has related fit object (attribute_of mapped (object_at graph object).class attr) there.0 (attribute_there mapped (object_at graph object).class attr there.1);
  told = λ object attr there told.
      told_fits mapped (object_at graph object).class (attribute_of mapped (object_at graph object).class attr) has (fit_class mapped graph object fit there.0) (attribute_there mapped (object_at graph object).class attr there.1) told;
  cleared = clearable;
}
