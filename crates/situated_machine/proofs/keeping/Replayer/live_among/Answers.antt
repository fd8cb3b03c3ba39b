use Rattle.std.proofs.Common.{◌≡◌, ◌∙◌, ℕ, sym, subst, false, get_or, ◌++◌, ◌∷◌, []}
use Rattle.tp_spec.specs.declared.plan.Item.TheVariants.{TimedAt}
use Rattle.tp_spec.specs.declared.plan.Mark.{Mark}
use Rattle.tp_spec.specs.Words.{Sound}
use Rattle.situated_machine.proofs.Marking.{live-more, dead-more, sound-next}
use Rattle.situated_machine.specs.Marked.{IsDeadlineAfter, IsLiveAfter, Sight, sight_of}
use Rattle.situated_machine.proofs.keeping.Replayer.live_among.Goals as goal
use Rattle.situated_machine.proofs.keeping.Replayer.live_among.Goals.{in-Some+in_ok-push-in-Some, in-None}

abbrev blank : Mark
blank = record { fresh = false; item = TimedAt 0 }

pub live_until-requires-clause-sound : goal.live_until-requires-clause-sound
live_until-requires-clause-sound c =
    let s : Sight = sight_of c.args.self.now c.args.word.now.items in
    let i = c.loop-index.index in
    subst (λ w. Sound s.problem (w ++ get_or c.args.marks.now i blank ∷ [])) (sym c.loop-index.invariant.0)
    (sound-next s c.requires.known c.args.marks.now c.requires.follow i blank c.loop-index-test.true)

pub loop-index-preserved : goal.loop-index-preserved
loop-index-preserved c =
    let s : Sight = sight_of c.args.self.now c.args.word.now.items in
    let marks = c.args.marks.now in
    let i = c.loop-index.index in
    let mark : Mark = get_or marks i blank in
    let old = c.loop-index.children in
    let new = c.match-branch-2.children in
    let before : c.loop-index.word.items ≡ s.word = c.loop-index.invariant.0 in
    let after : c.live_until.new.word.items ≡ s.word = c.in_ok-deadline.ensures.same ∙ before in
    elim c.match-branch-2.branch [
      | in-Some+in_ok-push-in-Some w ↦
          let deadline : ℕ = w.in-Some.deadline in
          let timely : IsDeadlineAfter (sight_of c.args.self.now c.loop-index.word.items) mark deadline = rw w.in-Some.is at c.in_ok-deadline.ensures.timely in
          let live : IsLiveAfter (sight_of c.args.self.now c.loop-index.word.items) mark = rw w.in-Some.is at c.in_ok-deadline.ensures.live in (
            after,
            live-more s marks i blank c.loop-index-test.true old new c.loop-index.invariant.1 c.args.ranks.now c.requires.ranked deadline
                (subst (λ u. IsDeadlineAfter (sight_of c.args.self.now u) mark deadline) before timely) (subst (λ u. IsLiveAfter (sight_of c.args.self.now u) mark) before live)
                (w.children-is ∙ w.in_ok-push-in-Some.ensures.ok),
          )
      | in-None w ↦
          let dead : ¬ (IsLiveAfter (sight_of c.args.self.now c.loop-index.word.items) mark) = rw w.in-None.is at c.in_ok-deadline.ensures.none in (
            after,
            dead-more s marks i blank c.loop-index-test.true old new c.loop-index.invariant.1
                (subst (λ u. ¬ (IsLiveAfter (sight_of c.args.self.now u) mark)) before dead) w.children-is,
          )
    ]
