use Rattle.std.proofs.Common.{◌≡◌, ◌∙◌, ap, subst, ℕ, length, ◌<◌, ◌≤◌}
use Rattle.node_state.specs.Readings.{progress_of}
use Rattle.node_state.proofs.Growing.{timed-over, timed-next}
use Rattle.node_state.proofs.judge.Judge.offer_timed.Goals as goal

pub returns-then-reading-as_slice : goal.returns-then-reading-as_slice
returns-then-reading-as_slice c =
    let same : length c.as_slice.result.now ≡ length c.args.self.now.timed = ap length (c.as_slice.ensures ∙ ap (λ q. q.timed) c.problem.view_is ∙ ap (λ q. q.timed) c.self.view_is) in
    timed-over c.args.self.now (progress_of c.args.reading.now) c.args.fresh c.args.found.now (subst (λ (n : ℕ). n ≤ c.args.reading.now.timed) same c.if-reading-as_slice.true)

pub returns : goal.returns
returns c =
    let same : length c.as_slice.result.now ≡ length c.args.self.now.timed = ap length (c.as_slice.ensures ∙ ap (λ q. q.timed) c.problem.view_is ∙ ap (λ q. q.timed) c.self.view_is) in
    timed-next c.args.self.now (progress_of c.args.reading.now) c.args.fresh c.args.found.now c.offer.new.found (subst (λ (n : ℕ). c.args.reading.now.timed < n) same c.if-reading-as_slice.false) c.in_ok-offer.ensures
