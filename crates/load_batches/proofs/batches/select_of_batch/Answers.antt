use Rattle.class_mapping.specs.Configured.{IsConfigured}
use Rattle.sql_semantics.specs.Plain.{IsPlainSelect}
use Rattle.load_calls.proofs.ReadLemmas.{told_of}
use Rattle.load_batches.proofs.BatchSteps.{batch_plain, named_select}
use Rattle.load_batches.proofs.batches.select_of_batch.Goals as goal

pub returns-clause-select : goal.returns-clause-select
returns-clause-select c = named_select c.args.mapping.now c.args.relation.now c.args.owners.now c.in_ok-keys.keys c.as_slice.result.now c.batch_select.result c.in_ok-keys.ensures c.as_slice.ensures c.batch_select.ensures

pub returns-clause-plain : goal.returns-clause-plain
returns-clause-plain c = told_of (IsConfigured c.args.mapping.now) (IsPlainSelect c.args.mapping.now.schema) c.batch_select.result (λ configured.
    batch_plain c.args.mapping.now c.args.relation.now c.args.owners.now c.batch_select.result configured.hierarchies c.requires.related c.requires.many c.requires.some (c.requires.keyed configured)
    (returns-clause-select c))

pub batch_select-requires : goal.batch_select-requires
batch_select-requires c = record { target = c.requires.related.target }
