use Rattle.snap_actions.proofs.Touching.{first_missing, second_missing, table_touches, first_touches, second_touches}
use Rattle.snap_actions.proofs.interference.interfere.Goals as goal

pub returns-in-None : goal.returns-in-None
returns-in-None c = λ p h. first_missing p c.args.items.now c.args.a c.args.b h c.in-None.ensures

pub returns-in-None-rows : goal.returns-in-None-rows
returns-in-None-rows c = λ p h. second_missing p c.args.items.now c.args.a c.args.b h c.in-None-rows.ensures

pub returns-then-touches : goal.returns-then-touches
returns-then-touches c = λ p h.
    first_touches p c.args.a c.args.b c.touches.result
    (table_touches p c.args.items.now c.args.a c.args.b c.in-Some.first.now c.in-Some-rows.second.now c.touches.result h c.in-Some.ensures c.in-Some-rows.ensures c.touches.ensures)
    c.if-touches.true

pub returns-else-touches : goal.returns-else-touches
returns-else-touches c = λ p h.
    second_touches p c.args.a c.args.b c.touches.result c.touches-else-touches.result
    (table_touches p c.args.items.now c.args.a c.args.b c.in-Some.first.now c.in-Some-rows.second.now c.touches.result h c.in-Some.ensures c.in-Some-rows.ensures c.touches.ensures)
    c.if-touches.false
    (table_touches p c.args.items.now c.args.b c.args.a c.in-Some-rows.second.now c.in-Some.first.now c.touches-else-touches.result h c.in-Some-rows.ensures c.in-Some.ensures c.touches-else-touches.ensures)
