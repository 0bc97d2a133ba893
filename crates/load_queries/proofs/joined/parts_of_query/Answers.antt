use Rattle.std.proofs.Common.{◌≡◌, ◌<◌, length, List, subst, sym}
use Rattle.std.specs.List.{All}
use Rattle.base_core.specs.declared.ids.RelNo.{RelNo}
use Rattle.class_mapping.specs.Mapped.{IsClass, relations_of}
use Rattle.class_mapping.specs.Related.{AreRelated}
use Rattle.load_calls.proofs.ReadLemmas.{told_of}
use Rattle.load_queries.proofs.AnswerSteps.{parts_told, seen_parts, targets_told}
use Rattle.load_queries.proofs.joined.parts_of_query.Goals as goal

pub parts_of-requires-clause-places : goal.parts_of-requires-clause-places
parts_of-requires-clause-places c =
    subst (λ (places : List RelNo). All (λ place. place.0 < length (relations_of c.args.mapping.now c.args.query.now.class)) places) (sym c.as_slice.ensures) c.requires.options

pub returns-clause-parts : goal.returns-clause-parts
returns-clause-parts c = seen_parts c.args.mapping.now c.args.query.now.class c.args.query.now.joined c.as_slice.result.now c.parts_of.result c.as_slice.ensures c.parts_of.ensures

pub returns-clause-of : goal.returns-clause-of
returns-clause-of c = parts_told c.args.mapping.now c.args.query.now.class c.args.query.now.joined c.parts_of.result c.requires.options (returns-clause-parts c)

pub returns-clause-targets : goal.returns-clause-targets
returns-clause-targets c =
    told_of (AreRelated c.args.mapping.now) (All (λ part. IsClass c.args.mapping.now part.target)) c.parts_of.result
    (λ related. targets_told c.args.mapping.now c.args.query.now.class c.args.query.now.joined c.parts_of.result related c.requires.class c.requires.options (returns-clause-parts c))
