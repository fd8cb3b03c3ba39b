use Rattle.std.proofs.Common.{refl, sym, ap, subst, ◌≡◌, ◌∙◌, length, arith}
use Rattle.std.proofs.Common.{false}
use Rattle.machine_run.specs.Turns.{has_outcome}
use Rattle.word_frontier.specs.Nodes.{live_at}
use Rattle.open_tree.proofs.Merging.{acts-standing, limit-finishes, on-err}
use Rattle.open_tree.proofs.tree.grow.Goals as goal

pub limit-requires-clause-full : goal.limit-requires-clause-full
limit-requires-clause-full c =
    let now = c.now.ensures (acts-standing c.args.run.now c.args.actor c.requires.held.may) in
    let live = c.count_live-live.ensures ∙ ap (λ n. length (live_at n c.args.children.now)) now in
    omega (arith, live, c.if-saturating_add-limits.true, c.saturating_add.ensures, c.made.ensures, ap (λ l. l.nodes) c.limits.ensures)

pub returns-in_err-limit-clause-err : goal.returns-in_err-limit-clause-err
returns-in_err-limit-clause-err c =
    on-err c.from_residual.result _ (subst (λ h. has_outcome h ≡ false) (sym c.in_err-limit.ensures.err) (acts-standing c.args.run.now c.args.actor c.requires.held.may))

pub returns-then-saturating_add-limits-clause-done : goal.returns-then-saturating_add-limits-clause-done
returns-then-saturating_add-limits-clause-done c =
    limit-finishes c.args.run.now c.limit.new.self c.args.actor c.args.id _ _ _ refl c.in_ok-limit.ensures.deed

pub expand-requires-clause-room : goal.expand-requires-clause-room
expand-requires-clause-room c =
    let now = c.now.ensures (acts-standing c.args.run.now c.args.actor c.requires.held.may) in
    let live = c.count_live-live.ensures ∙ ap (λ n. length (live_at n c.args.children.now)) now in
    omega (arith, live, c.if-saturating_add-limits.false, c.saturating_add.ensures, c.made.ensures, ap (λ l. l.nodes) c.limits.ensures)

pub limit-requires-clause-offspring : goal.limit-requires-clause-offspring
limit-requires-clause-offspring c = record { incomplete = c.requires.none; exact = c.requires.brood.exact; each = c.requires.brood.each }

pub expand-requires-clause-offspring : goal.expand-requires-clause-offspring
expand-requires-clause-offspring c = record { incomplete = c.requires.none; exact = c.requires.brood.exact; each = c.requires.brood.each }
