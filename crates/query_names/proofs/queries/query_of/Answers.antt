use Rattle.std.proofs.Common.{sym, subst}
use Rattle.query_names.specs.Queries.{AreRelations}
use Rattle.query_names.proofs.Standing.{AreOptions, joined_exist, selectin_exist}
use Rattle.query_names.proofs.queries.query_of.Goals as goal

pub returns-clause-options : goal.returns-clause-options
returns-clause-options c =
    let mapped = c.args.mapping.now in
    let class = c.args.class in (
      subst (AreRelations mapped class) (sym c.in_ok-joined.ensures)
          (joined_exist mapped class c.as_slice.result.now (subst (AreOptions mapped class) (sym c.as_slice.ensures) c.requires.exist)),
      subst (AreRelations mapped class) (sym c.in_ok-selectin.ensures)
          (selectin_exist mapped class c.as_slice-2.result.now (subst (AreOptions mapped class) (sym c.as_slice-2.ensures) c.requires.exist)),
    )
