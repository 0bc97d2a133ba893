-- What the parts of a line may be refused for the line may be.
use Rattle.base_core.specs.declared.refusal.Refusal.{Refusal}
use Rattle.base_core.specs.declared.refusal.Refusal.TheVariants.{InvalidRequestError, NotBuilt}
use Rattle.base_core.specs.declared.refusal.RequestKind.{RequestKind}
use Rattle.base_core.specs.declared.refusal.RequestKind.TheVariants.{JoinedLimit}
use Rattle.script_resolve.specs.Refusals.{CanRefuse}
use Rattle.query_names.specs.Queries.{IsOfQueries}
use Rattle.command_resolve.specs.Standing.{IsOfResolving}

of_kind : (kind : RequestKind) → CanRefuse (InvalidRequestError kind) → IsOfResolving (InvalidRequestError kind)
of_kind JoinedLimit cause = tt
of_kind kind cause = cause

pub of_names : (e : Refusal) → CanRefuse e → IsOfResolving e
of_names (InvalidRequestError kind) cause = of_kind kind cause
of_names NotBuilt cause = tt
of_names e cause = cause

pub of_queries : (e : Refusal) → IsOfQueries e → IsOfResolving e
of_queries NotBuilt cause = tt
of_queries e cause = cause

pub ruleset causes = (of_names, of_queries)
