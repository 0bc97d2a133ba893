use Rattle.std.proofs.Common.{List, IfErr, refl, sym, subst}
use Rattle.std.specs.List.{All}
use Rattle.base_core.specs.declared.ids.AttrNo.{AttrNo}
use Rattle.base_core.specs.declared.value.Value.{Value}
use Rattle.class_types.specs.Shown.{rules_of}
use Rattle.class_mapping.specs.Mapped.{IsAttribute}
use Rattle.expr_types.specs.declared.select.Bulk.{Bulk}
use Rattle.expr_types.specs.declared.select.ObjectQuery.{ObjectQuery}
use Rattle.expr_types.specs.declared.select.Select.{Select}
use Rattle.sql_semantics.specs.Plain.{IsPlainSelect}
use Rattle.load_queries.specs.Selectin.{IsSelectable}
use Rattle.session_acts.specs.Steps as acts
use Rattle.command_resolve.specs.declared.answer.Answer.TheVariants as answer
use Rattle.command_resolve.specs.declared.resolved.Resolved.{Resolved}
use Rattle.command_resolve.specs.declared.resolved.Resolved.TheVariants as resolved
use Rattle.session_perform.specs.Performing.{IsPerformed, IsReady, make, same, select_objects, state_of, telling}
use Rattle.session_perform.proofs.Performed.{as_it_stands, at_case, performs, stands}
use Rattle.session_perform.specs.Refused.{IsRefusedLine}
use Rattle.session_perform.proofs.Refusing.{told_case, why_case}
use Rattle.session_perform.proofs.Sendable.{plain_but_for_keys}
use Rattle.session_perform.proofs.performing.perform.Goals as goal

pub returns-in-CreateAll-clause-performed : goal.returns-in-CreateAll-clause-performed
returns-in-CreateAll-clause-performed g c = at_case g.K.Keeper.moment (rules_of c.args.hooks.now) c.in-CreateAll.is (performs g.K.Keeper.moment c.nothing_told.ensures c.create_all.ensures.call)

pub returns-in-DropAll-clause-performed : goal.returns-in-DropAll-clause-performed
returns-in-DropAll-clause-performed g c = at_case g.K.Keeper.moment (rules_of c.args.hooks.now) c.in-DropAll.is (performs g.K.Keeper.moment c.nothing_told-in-DropAll.ensures c.drop_all.ensures.call)

pub returns-in-Dump-clause-performed : goal.returns-in-Dump-clause-performed
returns-in-Dump-clause-performed g c = at_case g.K.Keeper.moment (rules_of c.args.hooks.now) c.in-Dump.is c.tables.ensures.performed

pub make-requires : goal.make-requires
make-requires g c =
    let ready = subst (λ (line : Resolved). IsReady c.args.session.now line) c.in-New.is c.requires.ready in
    record {
      in_step = c.requires.in_step;
      class = ready.0;
      attributes = subst (λ (cells : List (AttrNo × Value)). All (λ one. IsAttribute c.args.session.now.mapping c.in-New.class one.0) cells) (sym c.as_slice.ensures) ready.1;
    }

pub returns-in-New-clause-performed : goal.returns-in-New-clause-performed
returns-in-New-clause-performed g c =
    at_case g.K.Keeper.moment (rules_of c.args.hooks.now) c.in-New.is
    (subst (λ (cells : List (AttrNo × Value)). IsPerformed g.K.Keeper.moment (make (rules_of c.args.hooks.now) c.in-New.name c.in-New.class cells) (c.args.session.now, c.args.keeper.now) c.make.result (c.make.new.session, c.args.keeper.now)) c.as_slice.ensures c.make.ensures.performed)

pub returns-in-BeginNested-clause-performed : goal.returns-in-BeginNested-clause-performed
returns-in-BeginNested-clause-performed g c = at_case g.K.Keeper.moment (rules_of c.args.hooks.now) c.in-BeginNested.is c.begin_nested.ensures.performed

pub set_valid-requires : goal.set_valid-requires
set_valid-requires g c =
    let ready = subst (λ (line : Resolved). IsReady c.args.session.now line) c.in-SetCell.is c.requires.ready in
    record { in_step = c.requires.in_step; object = ready.0.0; attr = ready.0.1 }

pub returns-in-SetCell-clause-performed : goal.returns-in-SetCell-clause-performed
returns-in-SetCell-clause-performed g c = at_case g.K.Keeper.moment (rules_of c.args.hooks.now) c.in-SetCell.is (performs g.K.Keeper.moment c.nothing_told-in-SetCell.ensures c.set_valid.ensures.call)

pub change_link-requires : goal.change_link-requires
change_link-requires g c =
    let ready = subst (λ (line : Resolved). IsReady c.args.session.now line) c.in-ChangeLink.is c.requires.ready in
    record { in_step = c.requires.in_step; owner = ready.0.0; relation = ready.0.1.0; form = ready.0.1.1; end = ready.1 }

pub returns-in-ChangeLink-clause-performed : goal.returns-in-ChangeLink-clause-performed
returns-in-ChangeLink-clause-performed g c = at_case g.K.Keeper.moment (rules_of c.args.hooks.now) c.in-ChangeLink.is (performs g.K.Keeper.moment c.nothing_told-in-ChangeLink.ensures c.change_link.ensures.call)

pub add-requires : goal.add-requires
add-requires g c =
    let ready = subst (λ (line : Resolved). IsReady c.args.session.now line) c.in-Add.is c.requires.ready in
    record { in_step = c.requires.in_step; object = ready }

pub returns-in-Add-clause-performed : goal.returns-in-Add-clause-performed
returns-in-Add-clause-performed g c = at_case g.K.Keeper.moment (rules_of c.args.hooks.now) c.in-Add.is (performs g.K.Keeper.moment c.nothing_told-in-Add.ensures c.add.ensures.call)

pub delete-requires : goal.delete-requires
delete-requires g c =
    let ready = subst (λ (line : Resolved). IsReady c.args.session.now line) c.in-Delete.is c.requires.ready in
    record { in_step = c.requires.in_step; object = ready }

pub returns-in-Delete-clause-performed : goal.returns-in-Delete-clause-performed
returns-in-Delete-clause-performed g c = at_case g.K.Keeper.moment (rules_of c.args.hooks.now) c.in-Delete.is (performs g.K.Keeper.moment c.nothing_told-in-Delete.ensures c.delete.ensures.call)

pub returns-in-Show-clause-performed : goal.returns-in-Show-clause-performed
returns-in-Show-clause-performed g c = at_case g.K.Keeper.moment (rules_of c.args.hooks.now) c.in-Show.is (stands g.K.Keeper.moment (answer.Thing c.in-Show.thing) refl (subst (λ (line : Resolved). IsReady c.args.session.now line) c.in-Show.is c.requires.ready) c.requires.in_step)

pub read_cell-requires : goal.read_cell-requires
read_cell-requires g c =
    let ready = subst (λ (line : Resolved). IsReady c.args.session.now line) c.in-ShowCell.is c.requires.ready in
    record { in_step = c.requires.in_step; object = ready.0; attr = ready.1 }

pub returns-in-ShowCell-clause-performed : goal.returns-in-ShowCell-clause-performed
returns-in-ShowCell-clause-performed g c = at_case g.K.Keeper.moment (rules_of c.args.hooks.now) c.in-ShowCell.is c.read_cell.ensures.performed

pub read_link-requires : goal.read_link-requires
read_link-requires g c =
    let ready = subst (λ (line : Resolved). IsReady c.args.session.now line) c.in-ShowLink.is c.requires.ready in
    record { in_step = c.requires.in_step; object = ready.0; relation = ready.1 }

pub returns-in-ShowLink-clause-performed : goal.returns-in-ShowLink-clause-performed
returns-in-ShowLink-clause-performed g c = at_case g.K.Keeper.moment (rules_of c.args.hooks.now) c.in-ShowLink.is c.read_link.ensures.performed

pub state-requires : goal.state-requires
state-requires g c =
    let ready = subst (λ (line : Resolved). IsReady c.args.session.now line) c.in-State.is c.requires.ready in
    ready

pub returns-in-State-clause-performed : goal.returns-in-State-clause-performed
returns-in-State-clause-performed g c = at_case g.K.Keeper.moment (rules_of c.args.hooks.now) c.in-State.is (as_it_stands g.K.Keeper.moment (state_of c.in-State.object) c.state.ensures tt c.requires.in_step)

pub returns-in-Same-clause-performed : goal.returns-in-Same-clause-performed
returns-in-Same-clause-performed g c = at_case g.K.Keeper.moment (rules_of c.args.hooks.now) c.in-Same.is (stands g.K.Keeper.moment (same c.in-Same.object c.in-Same.other) c.same.ensures tt c.requires.in_step)

pub returns-in-Flush-clause-performed : goal.returns-in-Flush-clause-performed
returns-in-Flush-clause-performed g c = at_case g.K.Keeper.moment (rules_of c.args.hooks.now) c.in-Flush.is (performs g.K.Keeper.moment c.nothing_told-in-Flush.ensures c.flush_now.ensures.call)

pub returns-in-Commit-clause-performed : goal.returns-in-Commit-clause-performed
returns-in-Commit-clause-performed g c = at_case g.K.Keeper.moment (rules_of c.args.hooks.now) c.in-Commit.is (performs g.K.Keeper.moment c.nothing_told-in-Commit.ensures c.commit.ensures.call)

pub returns-in-Rollback-clause-performed : goal.returns-in-Rollback-clause-performed
returns-in-Rollback-clause-performed g c = at_case g.K.Keeper.moment (rules_of c.args.hooks.now) c.in-Rollback.is (performs g.K.Keeper.moment c.nothing_told-in-Rollback.ensures c.roll_back.ensures.call)

pub returns-in-Close-clause-performed : goal.returns-in-Close-clause-performed
returns-in-Close-clause-performed g c = at_case g.K.Keeper.moment (rules_of c.args.hooks.now) c.in-Close.is (performs g.K.Keeper.moment c.nothing_told-in-Close.ensures c.close.ensures.call)

pub rows-requires : goal.rows-requires
rows-requires g c =
    let ready = subst (λ (line : Resolved). IsReady c.args.session.now line) c.in-Rows.is c.requires.ready in
    record { in_step = c.requires.in_step; plain = subst (λ (select : Select). IsPlainSelect c.args.session.now.mapping.schema select) (sym c.get-in-Rows.ensures) ready }

pub returns-in-Rows-clause-performed : goal.returns-in-Rows-clause-performed
returns-in-Rows-clause-performed g c =
    at_case g.K.Keeper.moment (rules_of c.args.hooks.now) c.in-Rows.is
    (subst (λ (select : Select). IsPerformed g.K.Keeper.moment (telling answer.Rows (acts.rows select)) (c.args.session.now, c.args.keeper.now) c.rows.result (c.rows.new.session, c.rows.new.keeper)) c.get-in-Rows.ensures c.rows.ensures.performed)

pub bulk-requires : goal.bulk-requires
bulk-requires g c =
    let ready = subst (λ (line : Resolved). IsReady c.args.session.now line) c.in-Bulk.is c.requires.ready in
    record {
      in_step = c.requires.in_step;
      plain = subst (λ (statement : Bulk). acts.IsPlainButForKeys c.args.session.now.mapping.schema statement) (sym c.get-in-Bulk.ensures) (plain_but_for_keys c.args.session.now.mapping.schema c.in-Bulk.statement ready.0 ready.1);
    }

pub returns-in-Bulk-clause-performed : goal.returns-in-Bulk-clause-performed
returns-in-Bulk-clause-performed g c =
    at_case g.K.Keeper.moment (rules_of c.args.hooks.now) c.in-Bulk.is
    (subst (λ (statement : Bulk). IsPerformed g.K.Keeper.moment (telling answer.Count (acts.bulk statement)) (c.args.session.now, c.args.keeper.now) c.bulk.result (c.bulk.new.session, c.bulk.new.keeper)) c.get-in-Bulk.ensures c.bulk.ensures.performed)

-- ---- why a line is refused

pub returns-in-CreateAll-clause-refused : goal.returns-in-CreateAll-clause-refused
returns-in-CreateAll-clause-refused g c =
    told_case (rules_of c.args.hooks.now) c.args.resolved _ c.args.session.now c.create_all.new.session (g.K.Keeper.moment c.args.keeper.now) (g.K.Keeper.moment c.create_all.new.keeper) c.create_all.result c.nothing_told.result c.in-CreateAll.is c.nothing_told.ensures c.create_all.ensures.refused

pub returns-in-DropAll-clause-refused : goal.returns-in-DropAll-clause-refused
returns-in-DropAll-clause-refused g c =
    told_case (rules_of c.args.hooks.now) c.args.resolved _ c.args.session.now c.drop_all.new.session (g.K.Keeper.moment c.args.keeper.now) (g.K.Keeper.moment c.drop_all.new.keeper) c.drop_all.result c.nothing_told-in-DropAll.result c.in-DropAll.is c.nothing_told-in-DropAll.ensures c.drop_all.ensures.refused

pub returns-in-SetCell-clause-refused : goal.returns-in-SetCell-clause-refused
returns-in-SetCell-clause-refused g c =
    told_case (rules_of c.args.hooks.now) c.args.resolved _ c.args.session.now c.set_valid.new.session (g.K.Keeper.moment c.args.keeper.now) (g.K.Keeper.moment c.set_valid.new.keeper) c.set_valid.result c.nothing_told-in-SetCell.result c.in-SetCell.is c.nothing_told-in-SetCell.ensures c.set_valid.ensures.refused

pub returns-in-ChangeLink-clause-refused : goal.returns-in-ChangeLink-clause-refused
returns-in-ChangeLink-clause-refused g c =
    told_case (rules_of c.args.hooks.now) c.args.resolved _ c.args.session.now c.change_link.new.session (g.K.Keeper.moment c.args.keeper.now) (g.K.Keeper.moment c.change_link.new.keeper) c.change_link.result c.nothing_told-in-ChangeLink.result c.in-ChangeLink.is c.nothing_told-in-ChangeLink.ensures (c.change_link.ensures.refused (rules_of c.args.hooks.now))

pub returns-in-Add-clause-refused : goal.returns-in-Add-clause-refused
returns-in-Add-clause-refused g c =
    told_case (rules_of c.args.hooks.now) c.args.resolved _ c.args.session.now c.add.new.session (g.K.Keeper.moment c.args.keeper.now) (g.K.Keeper.moment c.add.new.keeper) c.add.result c.nothing_told-in-Add.result c.in-Add.is c.nothing_told-in-Add.ensures c.add.ensures.refused

pub returns-in-Delete-clause-refused : goal.returns-in-Delete-clause-refused
returns-in-Delete-clause-refused g c =
    told_case (rules_of c.args.hooks.now) c.args.resolved _ c.args.session.now c.delete.new.session (g.K.Keeper.moment c.args.keeper.now) (g.K.Keeper.moment c.delete.new.keeper) c.delete.result c.nothing_told-in-Delete.result c.in-Delete.is c.nothing_told-in-Delete.ensures c.delete.ensures.refused

pub returns-in-Flush-clause-refused : goal.returns-in-Flush-clause-refused
returns-in-Flush-clause-refused g c =
    told_case (rules_of c.args.hooks.now) c.args.resolved _ c.args.session.now c.flush_now.new.session (g.K.Keeper.moment c.args.keeper.now) (g.K.Keeper.moment c.flush_now.new.keeper) c.flush_now.result c.nothing_told-in-Flush.result c.in-Flush.is c.nothing_told-in-Flush.ensures c.flush_now.ensures.refused

pub returns-in-Close-clause-refused : goal.returns-in-Close-clause-refused
returns-in-Close-clause-refused g c =
    told_case (rules_of c.args.hooks.now) c.args.resolved _ c.args.session.now c.close.new.session (g.K.Keeper.moment c.args.keeper.now) (g.K.Keeper.moment c.close.new.keeper) c.close.result c.nothing_told-in-Close.result c.in-Close.is c.nothing_told-in-Close.ensures c.close.ensures.stops

pub returns-in-Commit-clause-refused : goal.returns-in-Commit-clause-refused
returns-in-Commit-clause-refused g c =
    told_case (rules_of c.args.hooks.now) c.args.resolved _ c.args.session.now c.commit.new.session (g.K.Keeper.moment c.args.keeper.now) (g.K.Keeper.moment c.commit.new.keeper) c.commit.result c.nothing_told-in-Commit.result c.in-Commit.is c.nothing_told-in-Commit.ensures (c.commit.ensures.refused (rules_of c.args.hooks.now))

pub returns-in-Rollback-clause-refused : goal.returns-in-Rollback-clause-refused
returns-in-Rollback-clause-refused g c =
    told_case (rules_of c.args.hooks.now) c.args.resolved _ c.args.session.now c.roll_back.new.session (g.K.Keeper.moment c.args.keeper.now) (g.K.Keeper.moment c.roll_back.new.keeper) c.roll_back.result c.nothing_told-in-Rollback.result c.in-Rollback.is c.nothing_told-in-Rollback.ensures (c.roll_back.ensures.refused (rules_of c.args.hooks.now))

pub returns-in-Dump-clause-refused : goal.returns-in-Dump-clause-refused
returns-in-Dump-clause-refused g c =
    why_case (rules_of c.args.hooks.now) c.args.resolved _ c.args.session.now c.args.session.now (g.K.Keeper.moment c.args.keeper.now) (g.K.Keeper.moment c.tables.new.keeper) c.tables.result c.in-Dump.is (c.tables.ensures.refused (rules_of c.args.hooks.now))

pub returns-in-BeginNested-clause-refused : goal.returns-in-BeginNested-clause-refused
returns-in-BeginNested-clause-refused g c =
    why_case (rules_of c.args.hooks.now) c.args.resolved _ c.args.session.now c.begin_nested.new.session (g.K.Keeper.moment c.args.keeper.now) (g.K.Keeper.moment c.begin_nested.new.keeper) c.begin_nested.result c.in-BeginNested.is (c.begin_nested.ensures.refused (rules_of c.args.hooks.now))

pub returns-in-ShowCell-clause-refused : goal.returns-in-ShowCell-clause-refused
returns-in-ShowCell-clause-refused g c =
    why_case (rules_of c.args.hooks.now) c.args.resolved _ c.args.session.now c.read_cell.new.session (g.K.Keeper.moment c.args.keeper.now) (g.K.Keeper.moment c.read_cell.new.keeper) c.read_cell.result c.in-ShowCell.is (c.read_cell.ensures.refused (rules_of c.args.hooks.now))

pub returns-in-ShowLink-clause-refused : goal.returns-in-ShowLink-clause-refused
returns-in-ShowLink-clause-refused g c =
    why_case (rules_of c.args.hooks.now) c.args.resolved _ c.args.session.now c.read_link.new.session (g.K.Keeper.moment c.args.keeper.now) (g.K.Keeper.moment c.read_link.new.keeper) c.read_link.result c.in-ShowLink.is (c.read_link.ensures.refused (rules_of c.args.hooks.now))

pub returns-in-New-clause-refused : goal.returns-in-New-clause-refused
returns-in-New-clause-refused g c =
    let rules = rules_of c.args.hooks.now in
    why_case rules c.args.resolved _ c.args.session.now c.make.new.session (g.K.Keeper.moment c.args.keeper.now) (g.K.Keeper.moment c.args.keeper.now) c.make.result c.in-New.is
    (subst (λ (cells : List (AttrNo × Value)). IfErr c.make.result (λ e. IsRefusedLine rules (resolved.New c.in-New.name c.in-New.class cells) c.args.session.now (g.K.Keeper.moment c.args.keeper.now) e c.make.new.session (g.K.Keeper.moment c.args.keeper.now))) c.as_slice.ensures c.make.ensures.refused)

pub returns-in-Rows-clause-refused : goal.returns-in-Rows-clause-refused
returns-in-Rows-clause-refused g c =
    let rules = rules_of c.args.hooks.now in
    why_case rules c.args.resolved _ c.args.session.now c.rows.new.session (g.K.Keeper.moment c.args.keeper.now) (g.K.Keeper.moment c.rows.new.keeper) c.rows.result c.in-Rows.is
    (subst (λ (select : Select). IfErr c.rows.result (λ e. IsRefusedLine rules (resolved.Rows select) c.args.session.now (g.K.Keeper.moment c.args.keeper.now) e c.rows.new.session (g.K.Keeper.moment c.rows.new.keeper))) c.get-in-Rows.ensures (c.rows.ensures.refused rules))

pub returns-in-Bulk-clause-refused : goal.returns-in-Bulk-clause-refused
returns-in-Bulk-clause-refused g c =
    let rules = rules_of c.args.hooks.now in
    why_case rules c.args.resolved _ c.args.session.now c.bulk.new.session (g.K.Keeper.moment c.args.keeper.now) (g.K.Keeper.moment c.bulk.new.keeper) c.bulk.result c.in-Bulk.is
    (subst (λ (statement : Bulk). IfErr c.bulk.result (λ e. IsRefusedLine rules (resolved.Bulk statement) c.args.session.now (g.K.Keeper.moment c.args.keeper.now) e c.bulk.new.session (g.K.Keeper.moment c.bulk.new.keeper))) c.get-in-Bulk.ensures (c.bulk.ensures.refused rules))

pub get-requires : goal.get-requires
get-requires g c =
    let ready = subst (λ (line : Resolved). IsReady c.args.session.now line) c.in-Get.is c.requires.ready in
    record { in_step = c.requires.in_step; class = ready.0; key = ready.1 }

pub returns-in-Get-clause-performed : goal.returns-in-Get-clause-performed
returns-in-Get-clause-performed g c = at_case g.K.Keeper.moment (rules_of c.args.hooks.now) c.in-Get.is c.get.ensures.performed

pub returns-in-Get-clause-refused : goal.returns-in-Get-clause-refused
returns-in-Get-clause-refused g c =
    why_case (rules_of c.args.hooks.now) c.args.resolved _ c.args.session.now c.get.new.session (g.K.Keeper.moment c.args.keeper.now) (g.K.Keeper.moment c.get.new.keeper) c.get.result c.in-Get.is (c.get.ensures.refused (rules_of c.args.hooks.now))

pub select_objects-requires : goal.select_objects-requires
select_objects-requires g c =
    let ready = subst (λ (line : Resolved). IsReady c.args.session.now line) c.in-Objects.is c.requires.ready in
    record { in_step = c.requires.in_step; query = subst (λ (query : ObjectQuery). IsSelectable c.args.session.now.mapping query) (sym c.get-in-Objects.ensures) ready.0 }

pub returns-in-Objects-clause-performed : goal.returns-in-Objects-clause-performed
returns-in-Objects-clause-performed g c =
    at_case g.K.Keeper.moment (rules_of c.args.hooks.now) c.in-Objects.is
    (subst (λ (query : ObjectQuery). IsPerformed g.K.Keeper.moment (select_objects c.in-Objects.name query) (c.args.session.now, c.args.keeper.now) c.select_objects.result (c.select_objects.new.session, c.select_objects.new.keeper)) c.get-in-Objects.ensures c.select_objects.ensures.performed)

pub returns-in-Objects-clause-refused : goal.returns-in-Objects-clause-refused
returns-in-Objects-clause-refused g c =
    let rules = rules_of c.args.hooks.now in
    why_case rules c.args.resolved _ c.args.session.now c.select_objects.new.session (g.K.Keeper.moment c.args.keeper.now) (g.K.Keeper.moment c.select_objects.new.keeper) c.select_objects.result c.in-Objects.is
    (subst (λ (query : ObjectQuery). IfErr c.select_objects.result (λ e. IsRefusedLine rules (resolved.Objects c.in-Objects.name query) c.args.session.now (g.K.Keeper.moment c.args.keeper.now) e c.select_objects.new.session (g.K.Keeper.moment c.select_objects.new.keeper))) c.get-in-Objects.ensures (c.select_objects.ensures.refused rules))

pub bind_related-requires : goal.bind_related-requires
bind_related-requires g c =
    let ready = subst (λ (line : Resolved). IsReady c.args.session.now line) c.in-Related.is c.requires.ready in
    record { in_step = c.requires.in_step; object = ready.0; relation = ready.1 }

pub returns-in-Related-clause-performed : goal.returns-in-Related-clause-performed
returns-in-Related-clause-performed g c = at_case g.K.Keeper.moment (rules_of c.args.hooks.now) c.in-Related.is c.bind_related.ensures.performed

pub returns-in-Related-clause-refused : goal.returns-in-Related-clause-refused
returns-in-Related-clause-refused g c =
    why_case (rules_of c.args.hooks.now) c.args.resolved _ c.args.session.now c.bind_related.new.session (g.K.Keeper.moment c.args.keeper.now) (g.K.Keeper.moment c.bind_related.new.keeper) c.bind_related.result c.in-Related.is (c.bind_related.ensures.refused (rules_of c.args.hooks.now))

pub expunge-requires : goal.expunge-requires
expunge-requires g c =
    let ready = subst (λ (line : Resolved). IsReady c.args.session.now line) c.in-Expunge.is c.requires.ready in
    record { in_step = c.requires.in_step; object = ready }

pub returns-in-Expunge-clause-performed : goal.returns-in-Expunge-clause-performed
returns-in-Expunge-clause-performed g c = at_case g.K.Keeper.moment (rules_of c.args.hooks.now) c.in-Expunge.is (performs g.K.Keeper.moment c.nothing_told-in-Expunge.ensures c.expunge.ensures.call)

pub returns-in-Expunge-clause-refused : goal.returns-in-Expunge-clause-refused
returns-in-Expunge-clause-refused g c =
    told_case (rules_of c.args.hooks.now) c.args.resolved _ c.args.session.now c.expunge.new.session (g.K.Keeper.moment c.args.keeper.now) (g.K.Keeper.moment c.expunge.new.keeper) c.expunge.result c.nothing_told-in-Expunge.result c.in-Expunge.is c.nothing_told-in-Expunge.ensures c.expunge.ensures.refused

pub expire-requires : goal.expire-requires
expire-requires g c =
    let ready = subst (λ (line : Resolved). IsReady c.args.session.now line) c.in-Expire.is c.requires.ready in
    record { in_step = c.requires.in_step; object = ready }

pub returns-in-Expire-clause-performed : goal.returns-in-Expire-clause-performed
returns-in-Expire-clause-performed g c = at_case g.K.Keeper.moment (rules_of c.args.hooks.now) c.in-Expire.is (performs g.K.Keeper.moment c.nothing_told-in-Expire.ensures c.expire.ensures.call)

pub returns-in-Expire-clause-refused : goal.returns-in-Expire-clause-refused
returns-in-Expire-clause-refused g c =
    told_case (rules_of c.args.hooks.now) c.args.resolved _ c.args.session.now c.expire.new.session (g.K.Keeper.moment c.args.keeper.now) (g.K.Keeper.moment c.expire.new.keeper) c.expire.result c.nothing_told-in-Expire.result c.in-Expire.is c.nothing_told-in-Expire.ensures c.expire.ensures.refused

pub refresh-requires : goal.refresh-requires
refresh-requires g c =
    let ready = subst (λ (line : Resolved). IsReady c.args.session.now line) c.in-Refresh.is c.requires.ready in
    record { in_step = c.requires.in_step; object = ready }

pub returns-in-Refresh-clause-performed : goal.returns-in-Refresh-clause-performed
returns-in-Refresh-clause-performed g c = at_case g.K.Keeper.moment (rules_of c.args.hooks.now) c.in-Refresh.is (performs g.K.Keeper.moment c.nothing_told-in-Refresh.ensures c.refresh.ensures.call)

pub returns-in-Refresh-clause-refused : goal.returns-in-Refresh-clause-refused
returns-in-Refresh-clause-refused g c =
    told_case (rules_of c.args.hooks.now) c.args.resolved _ c.args.session.now c.refresh.new.session (g.K.Keeper.moment c.args.keeper.now) (g.K.Keeper.moment c.refresh.new.keeper) c.refresh.result c.nothing_told-in-Refresh.result c.in-Refresh.is c.nothing_told-in-Refresh.ensures c.refresh.ensures.refused
