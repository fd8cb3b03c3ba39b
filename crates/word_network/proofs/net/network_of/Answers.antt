use Rattle.std.proofs.Common.{◌≡◌, ℕ, ◌+◌, ◌<◌, ◌≤◌, List, length, map, ap, subst, ◌∙◌, arith}
use Rattle.tp_laws.proofs.ClockActs.{sound-acts}
use Rattle.std.specs.Prelude.{IfSome, slice_get}
use Rattle.tp_spec.specs.declared.plan.Timed.{Timed}
use Rattle.tp_spec.specs.Schedules.{awaited}
use Rattle.word_network.specs.Nets.{lasts_at}
use Rattle.word_network.specs.Parts.{act_of}
use Rattle.word_network.specs.declared.parts.WordAct.{WordAct}
use Rattle.word_network.proofs.WordNets.{commits-small, exact-inside, clock-inside, last-inside, net-made, no-room}
use Rattle.word_network.proofs.net.network_of.Goals as goal

pub returns-then-not-leaves_room-clause-none : goal.returns-then-not-leaves_room-clause-none
returns-then-not-leaves_room-clause-none c = λ x s.
    no-room c.args.problem.now c.args.limits.now c.args.now c.args.commits.now c.args.word.now c.in_ok-parts.parts.groups c.len-3.result c.leaves_room.result x c.leaves_room.ensures.1 c.if-not-leaves_room.true c.in_ok-parts.ensures.parts.counted
    (omega (arith, c.len-3.ensures, c.in_ok-parts.parts.timed.ok.0, ap length c.in_ok-parts.ensures.parts.timing)) s

pub asked_by-requires-clause-early : goal.asked_by-requires-clause-early
asked_by-requires-clause-early c = commits-small c.args.problem.now c.args.commits.now c.keeps_the_rules.ensures c.requires.commits

pub net_of-requires-clause-exact : goal.net_of-requires-clause-exact
net_of-requires-clause-exact c =
    exact-inside c.args.problem.now c.args.limits.now c.args.now c.args.commits.now c.args.word.now c.in_ok-parts.parts c.in_ok-asked.asked.exact.items c.in_ok-asked.asked.clock.items c.deref-3.result.now c.in_ok-waiting.waiting.items
    (record {
      made = c.in_ok-parts.ensures.parts;
      exact_is = c.in_ok-asked.ensures.exact;
      clock_is = c.in_ok-asked.ensures.clock;
      waiting_is = c.in_ok-waiting.ensures ∙ ap (λ (xs : List WordAct). awaited (map act_of xs) c.args.commits.now) c.deref.ensures.value;
      last_is = c.deref-3.ensures.value ∙ c.in_ok-last.ensures ∙ ap (λ (ws : List Timed). lasts_at c.args.problem.now c.in_ok-parts.parts.groups (length c.in_ok-parts.parts.timed.items) ws) c.deref-2.ensures.value;
    })
    (sound-acts c.args.problem.now c.args.word.now c.requires.sound)

pub net_of-requires-clause-clock : goal.net_of-requires-clause-clock
net_of-requires-clause-clock c =
    clock-inside c.args.problem.now c.args.limits.now c.args.now c.args.commits.now c.args.word.now c.in_ok-parts.parts c.in_ok-asked.asked.exact.items c.in_ok-asked.asked.clock.items c.deref-3.result.now c.in_ok-waiting.waiting.items
    (record {
      made = c.in_ok-parts.ensures.parts;
      exact_is = c.in_ok-asked.ensures.exact;
      clock_is = c.in_ok-asked.ensures.clock;
      waiting_is = c.in_ok-waiting.ensures ∙ ap (λ (xs : List WordAct). awaited (map act_of xs) c.args.commits.now) c.deref.ensures.value;
      last_is = c.deref-3.ensures.value ∙ c.in_ok-last.ensures ∙ ap (λ (ws : List Timed). lasts_at c.args.problem.now c.in_ok-parts.parts.groups (length c.in_ok-parts.parts.timed.items) ws) c.deref-2.ensures.value;
    })
    (sound-acts c.args.problem.now c.args.word.now c.requires.sound)

pub net_of-requires-clause-last : goal.net_of-requires-clause-last
net_of-requires-clause-last c =
    last-inside c.args.problem.now c.args.limits.now c.args.now c.args.commits.now c.args.word.now c.in_ok-parts.parts c.in_ok-asked.asked.exact.items c.in_ok-asked.asked.clock.items c.deref-3.result.now c.in_ok-waiting.waiting.items
    (record {
      made = c.in_ok-parts.ensures.parts;
      exact_is = c.in_ok-asked.ensures.exact;
      clock_is = c.in_ok-asked.ensures.clock;
      waiting_is = c.in_ok-waiting.ensures ∙ ap (λ (xs : List WordAct). awaited (map act_of xs) c.args.commits.now) c.deref.ensures.value;
      last_is = c.deref-3.ensures.value ∙ c.in_ok-last.ensures ∙ ap (λ (ws : List Timed). lasts_at c.args.problem.now c.in_ok-parts.parts.groups (length c.in_ok-parts.parts.timed.items) ws) c.deref-2.ensures.value;
    })

pub returns-clause-some : goal.returns-clause-some
returns-clause-some c =
    let few : length c.in_ok-parts.parts.acts.items + length c.in_ok-waiting.waiting.items ≤ c.args.limits.now.actions = omega (arith, c.are_few.ensures.0 c.if-not-are_few.false, c.len.ensures, c.len-2.ensures, c.in_ok-parts.parts.acts.ok.0, c.in_ok-waiting.waiting.ok.0) in
    let next = c.leaves_room.ensures.0 c.if-not-leaves_room.false in
    let same : c.len-3.result ≡ length c.in_ok-parts.parts.timed.items = omega (arith, c.len-3.ensures, c.in_ok-parts.parts.timed.ok.0) in
    net-made c.args.problem.now c.args.limits.now c.args.now c.args.commits.now c.args.word.now (record { parts = c.in_ok-parts.parts; net = c.in_ok-net.net }) c.in_ok-asked.asked.exact.items c.in_ok-asked.asked.clock.items c.deref-3.result.now c.in_ok-waiting.waiting.items
    (record {
      made = c.in_ok-parts.ensures.parts;
      exact_is = c.in_ok-asked.ensures.exact;
      clock_is = c.in_ok-asked.ensures.clock;
      waiting_is = c.in_ok-waiting.ensures ∙ ap (λ (xs : List WordAct). awaited (map act_of xs) c.args.commits.now) c.deref.ensures.value;
      last_is = c.deref-3.ensures.value ∙ c.in_ok-last.ensures ∙ ap (λ (ws : List Timed). lasts_at c.args.problem.now c.in_ok-parts.parts.groups (length c.in_ok-parts.parts.timed.items) ws) c.deref-2.ensures.value;
    })
    (record { low = c.in_ok-net.ensures.low; high = c.in_ok-net.ensures.high; rows = c.in_ok-net.ensures.rows })
    (sound-acts c.args.problem.now c.args.word.now c.requires.sound)
    c.keeps_the_rules.ensures
    c.requires.limits.horizon
    few
    (subst (λ (k : ℕ). 0 < c.in_ok-parts.parts.groups → IfSome (slice_get c.args.problem.now.timed k) (λ i. 0 < i.tick)) same next)
