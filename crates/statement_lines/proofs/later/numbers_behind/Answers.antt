use Rattle.std.proofs.Common.{rules, ◌≡◌, ◌<◌, length, get_or, arith}
use Rattle.schema_core.specs.Catalog.{spec_of, target_of}
use Rattle.statement_lines.specs.Later.{is_behind}
use Rattle.statement_lines.proofs.Numbers.{all_taken, all_with, one_more}
use Rattle.statement_lines.proofs.later.numbers_behind.Goals as goal

pub loop-foreign-preserved : goal.loop-foreign-preserved
loop-foreign-preserved c =
    let schema = c.args.schema.now in
    let foreigns = c.as_slice-foreigns.result.now in
    let i = c.loop-foreign.foreign-index in
    let behind-is : c.is_behind-behind.result ≡ is_behind c.args.order.now c.args.table (target_of schema (get_or foreigns i c.foreign-item.result)) = cc in
    record {
      so_far = one_more schema c.args.order.now c.args.table foreigns i c.foreign-item.result c.is_behind-behind.result c.loop-foreign.number c.in_ok-number.number c.loop-foreign.numbers.items c.put_number.new.numbers.items _ c.loop-foreign-test.true behind-is c.in_ok-put_number.ensures c.in_ok-number.ensures c.loop-foreign.invariant.so_far;
      counted = omega (arith, c.loop-foreign.invariant.counted, c.in_ok-number.ensures);
      numbered = all_with (λ number. number < length (spec_of schema c.args.table).foreigns) c.loop-foreign.numbers.items c.put_number.new.numbers.items c.is_behind-behind.result c.loop-foreign.number c.loop-foreign.invariant.numbered (search rules) c.in_ok-put_number.ensures;
    }

pub returns-clause-numbers : goal.returns-clause-numbers
returns-clause-numbers c = all_taken c.args.schema.now c.args.order.now c.args.table c.as_slice-foreigns.result.now c.loop-foreign.foreign-index c.loop-foreign.number c.loop-foreign.numbers.items _ c.loop-foreign-test.false c.loop-foreign.invariant.so_far
