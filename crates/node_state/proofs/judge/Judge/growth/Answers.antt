use Rattle.std.proofs.Common.{◌≡◌, subst, Option, false}
use Rattle.std.specs.Prelude.{MatchOption}
use Rattle.tp_spec.specs.Words.{closes}
use Rattle.node_state.specs.declared.reading.Reading.{Reading}
use Rattle.node_state.specs.Readings.{progress_of, IsClosed}
use Rattle.node_state.proofs.Growing.{growth-shut, growth-open}
use Rattle.node_state.proofs.judge.Judge.growth.Goals as goal

pub returns-in_default-clause-growth : goal.returns-in_default-clause-growth
returns-in_default-clause-growth c =
    growth-shut c.args.self.now c.args.word.now (progress_of c.args.reading.now) c.in_ok-found.found c.offer_joining.new.found c.into_growth.result c.requires.progress c.in_ok-found.ensures.marks c.in_ok-found.ensures.ranks c.in_ok-offer_joining.ensures
    (subst (λ (o : Option Reading). MatchOption o (closes c.args.self.now (progress_of c.args.reading.now) ≡ false) (λ n. IsClosed c.args.self.now (progress_of c.args.reading.now) n)) c.in_default.is c.in_ok-next.ensures)
    c.into_growth.ensures.marks c.into_growth.ensures.ranks c.into_growth.ensures.whole

pub returns-clause-growth : goal.returns-clause-growth
returns-clause-growth c =
    let closed : IsClosed c.args.self.now (progress_of c.args.reading.now) c.in-Some.next =
    subst (λ (o : Option Reading). MatchOption o (closes c.args.self.now (progress_of c.args.reading.now) ≡ false) (λ n. IsClosed c.args.self.now (progress_of c.args.reading.now) n)) c.in-Some.is c.in_ok-next.ensures in
    growth-open c.args.self.now c.args.word.now (progress_of c.args.reading.now) c.in-Some.next c.in_ok-found.found c.offer_joining.new.found c.offer_opening.new.found c.into_growth-2.result c.is_whole-whole.result c.requires.progress c.in_ok-found.ensures.marks c.in_ok-found.ensures.ranks c.in_ok-offer_joining.ensures
    closed (c.in_ok-offer_opening.ensures (progress_of c.args.reading.now) closed) c.into_growth-2.ensures.marks c.into_growth-2.ensures.ranks c.into_growth-2.ensures.whole c.is_whole-whole.ensures

pub returns-clause-closed : goal.returns-clause-closed
returns-clause-closed c =
    subst (λ (o : Option Reading). MatchOption o (closes c.args.self.now (progress_of c.args.reading.now) ≡ false) (λ n. IsClosed c.args.self.now (progress_of c.args.reading.now) n)) c.in-Some.is c.in_ok-next.ensures
