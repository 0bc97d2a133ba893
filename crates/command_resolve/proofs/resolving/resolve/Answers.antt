use Rattle.command_resolve.proofs.resolving.resolve.Goals as goal

pub returns-in-New-clause-stands : goal.returns-in-New-clause-stands
returns-in-New-clause-stands c = λ graph drawn there. c.resolved_new.ensures.stands graph drawn

pub returns-in-Show-clause-stands : goal.returns-in-Show-clause-stands
returns-in-Show-clause-stands c = λ graph drawn there. c.resolved_thing.ensures.stands c.args.mapping.now graph drawn c.requires.declared there

pub returns-in-Same-clause-stands : goal.returns-in-Same-clause-stands
returns-in-Same-clause-stands c = λ graph drawn there. c.resolved_same.ensures.stands c.args.mapping.now graph drawn there

pub returns-in-Rows-clause-stands : goal.returns-in-Rows-clause-stands
returns-in-Rows-clause-stands c = λ graph drawn there. c.resolved_rows.ensures.stands graph drawn

pub returns-in-Bulk-clause-stands : goal.returns-in-Bulk-clause-stands
returns-in-Bulk-clause-stands c = λ graph drawn there. c.resolved_statement.ensures.stands graph drawn

pub returns-in-Get-clause-stands : goal.returns-in-Get-clause-stands
returns-in-Get-clause-stands c = λ graph drawn there. c.resolved_get.ensures.stands graph drawn

pub returns-in-Objects-clause-stands : goal.returns-in-Objects-clause-stands
returns-in-Objects-clause-stands c = λ graph drawn there. c.resolved_objects.ensures.stands graph drawn
