-- What is judged of a query whose names are known.
use Rattle.std.proofs.Common.{◌≡◌, [], Ok, Err, sym, ap, subst, ◌∙◌}
use Rattle.base_core.specs.Answers.{Refuses}
use Rattle.base_core.specs.declared.refusal.Refusal.{Refusal}
use Rattle.base_core.specs.declared.refusal.Refusal.TheVariants.{InvalidRequestError}
use Rattle.base_core.specs.declared.refusal.RequestKind.{RequestKind}
use Rattle.base_core.specs.declared.refusal.RequestKind.TheVariants.{JoinedLimit}
use Rattle.expr_types.specs.declared.select.ObjectQuery.{ObjectQuery}
use Rattle.sql_semantics.specs.Checked.{Checked, ◌>>=◌}
use Rattle.class_mapping.specs.Mapped.{Mapped}
use Rattle.script_names.specs.Faults.{IsFirst, unless}
use Rattle.script_names.proofs.Firsts.{gives_told}
use Rattle.script_resolve.specs.Refusals.{CanRefuse, IsOfNames}
use Rattle.query_names.specs.Judging.{query_faults}
use Rattle.query_names.specs.Queries.{IsOfQueries, judged_query, normal_query}

of_kind : (kind : RequestKind) → IsOfNames kind → IsOfQueries (InvalidRequestError kind)
of_kind JoinedLimit h = tt
of_kind kind h = h

-- what names may be refused for queries may be
pub of_names : (e : Refusal) → CanRefuse e → IsOfQueries e
of_names (InvalidRequestError kind) h = of_kind kind h
of_names e h = h

-- ---- answers

-- a query whose names are known is refused
pub refused_query : (mapped : Mapped) (told : Checked ObjectQuery) (query : ObjectQuery) (e : Refusal) → told ≡ Ok query → IsFirst e (query_faults mapped query) → Refuses e (told >>= judged_query mapped)
refused_query mapped told query e is h = subst (λ (t : Checked ObjectQuery). Refuses e (t >>= judged_query mapped)) (sym is) (gives_told (Err e) (query_faults mapped query) (normal_query query) tt h)

-- or has no fault
pub given_query : (mapped : Mapped) (told : Checked ObjectQuery) (query : ObjectQuery) → told ≡ Ok query → query_faults mapped query ≡ [] → (told >>= judged_query mapped) ≡ Ok (normal_query query)
given_query mapped told query is none =
    ap (λ (t : Checked ObjectQuery). t >>= judged_query mapped) is ∙ ap (λ faults. unless faults (normal_query query)) none

pub ruleset names = (of_names)

pub ruleset judged = (of_names, refused_query, given_query)
