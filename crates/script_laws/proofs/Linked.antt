-- What a link leads to, and what was read of rows, can be bound to a name.
use Rattle.std.proofs.Common.{ℕ, Option, None, Some, refl}
use Rattle.std.proofs.lemmas.List.Elements.{All-map, All-weaker}
use Rattle.base_core.specs.declared.ids.ClassId.{ClassId}
use Rattle.base_core.specs.declared.ids.ObjId.{ObjId}
use Rattle.class_mapping.specs.Mapped.{IsClass, Mapped}
use Rattle.object_arena.specs.Fit.{IsFit}
use Rattle.object_arena.specs.Graph.{Graph, IsObject}
use Rattle.object_arena.proofs.FitLemmas.{fit_class}
use Rattle.session_scopes.specs.SessionState.{IsMadeOf}
use Rattle.session_links.specs.Reading.{AreToldMade}
use Rattle.session_links.specs.declared.reading.Related.{Related}
use Rattle.session_links.specs.declared.reading.Related.TheVariants.{Many, One}
use Rattle.relations.specs.Keys.{IsEnd}
use Rattle.command_names.specs.Standing.{IsOfDeclared, IsThere}
use Rattle.session_perform.specs.Performing.{link_shown, with_class}

pub end_made : (graph : Graph) (end : Option ObjId) → IsEnd graph end → AreToldMade graph (One end)
end_made graph None made = tt
end_made graph (Some end) made = made

module _ (mapped : Mapped) (graph : Graph) (drawn : ℕ) (fit : IsFit mapped graph) where
  pub link_there : (related : Related) → AreToldMade graph related → IsThere graph drawn (link_shown graph related)
  link_there (One None) made = tt
  link_there (One (Some end)) made = (made, refl)
  link_there (Many members) made =
      All-map (λ (one : ObjId × ClassId). IsMadeOf graph one.0 one.1) (with_class graph) members
      (All-weaker (IsObject graph) (λ (member : ObjId). IsMadeOf graph (with_class graph member).0 (with_class graph member).1) (λ member there. (there, refl)) members made)

  pub link_declared : (related : Related) → AreToldMade graph related → IsOfDeclared mapped (link_shown graph related)
  link_declared (One None) made = tt
  link_declared (One (Some end)) made = fit_class mapped graph end fit made
  link_declared (Many members) made =
      All-map (λ (one : ObjId × ClassId). IsClass mapped one.1) (with_class graph) members
      (All-weaker (IsObject graph) (λ (member : ObjId). IsClass mapped (with_class graph member).1) (λ member there. fit_class mapped graph member fit there) members made)
