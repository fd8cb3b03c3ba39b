use Rattle.std.proofs.Common.{◌≡◌, ◌∙◌, sym, subst, refl, get_or, false, All, ◌++◌, ◌∷◌, []}
use Rattle.tp_spec.specs.declared.plan.Item.TheVariants.{TimedAt}
use Rattle.tp_spec.specs.declared.plan.Mark.{Mark}
use Rattle.tp_spec.specs.Lists.{IsIn}
use Rattle.tp_laws.specs.Clocks.{IsDeadline}
use Rattle.machine_run.specs.Children.{IsChild}
use Rattle.word_frontier.specs.declared.child.Child.{Child}
use Rattle.search_workers.specs.Sprouting.{IsLiveMark}
use Rattle.search_workers.proofs.LiveMarks.{at-in, next-sound, those-kept, those-left, rank-of, each-kept}
use Rattle.search_workers.proofs.children.children_of.Goals as goal
use Rattle.search_workers.proofs.children.children_of.Goals.{in-Some+in_ok-push-in-Some, in-None}

abbrev blank : Mark
blank = record { fresh = false; item = TimedAt 0 }

pub live_until-requires-clause-sound : goal.live_until-requires-clause-sound
live_until-requires-clause-sound c =
    next-sound c.args.problem.now c.args.job.now.node.word c.requires.can.sound _
    (subst (IsIn _) c.requires.follow (at-in c.args.marks.now c.loop-index.index _ c.loop-index-test.true))

pub loop-index-preserved : goal.loop-index-preserved
loop-index-preserved c =
    let p = c.args.problem.now in
    let j = c.args.job.now in
    let marks = c.args.marks.now in
    let i = c.loop-index.index in
    let old = c.loop-index.children in
    elim c.match-branch-2.branch [
      | in-Some+in_ok-push-in-Some w ↦
          let mark : Mark = get_or marks i blank in
          let timely : IsDeadline p j.limits j.commits (j.node.word ++ mark ∷ []) w.in-Some.deadline = rw w.in-Some.is at c.in_ok-deadline.ensures.timely in
          let live : IsLiveMark p j mark = rw w.in-Some.is at c.in_ok-deadline.ensures.live in
          let child : Child = record { mark = mark; rank = get_or c.args.ranks.now i 0; deadline = w.in-Some.deadline } in
          let grown : c.match-branch-2.children ≡ old ++ child ∷ [] = w.children-is ∙ w.in_ok-push-in-Some.ensures.ok in
          record {
            those = those-kept p j marks i blank c.loop-index-test.true old c.loop-index.invariant.those c.match-branch-2.children child refl live grown;
            each = each-kept (IsChild p j.limits j.commits j.node.word) old c.match-branch-2.children child c.loop-index.invariant.each
                (record { ranked = rank-of p j.node.word marks c.args.ranks.now i blank c.loop-index-test.true c.requires.ranked; timely = timely }) grown;
          }
      | in-None w ↦
          let dead : ¬ (IsLiveMark p j (get_or marks i blank)) = rw w.in-None.is at c.in_ok-deadline.ensures.none in
          record {
            those = those-left p j marks i blank c.loop-index-test.true old c.loop-index.invariant.those c.match-branch-2.children dead w.children-is;
            each = subst (All (IsChild p j.limits j.commits j.node.word)) (sym w.children-is) c.loop-index.invariant.each;
          }
    ]
