use Rattle.std.proofs.lemmas.List.Elements.{recursion_from_All}
use Rattle.class_mapping.specs.Mapped.{IsAttribute}
use Rattle.collection_selects.proofs.Rows.{are_cells}
use Rattle.collection_selects.proofs.row_laws.cells_are_of_kinds.Goals as goal

pub returns : goal.returns
returns c = λ mapped class attrs key rows has less there kinds. are_cells mapped class attrs key rows has less (recursion_from_All (IsAttribute mapped class) attrs there) kinds
