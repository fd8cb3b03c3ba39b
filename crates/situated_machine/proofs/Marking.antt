-- What may be asked of the word of a node that stands, its plan, and its live marks.
use Rattle.std.proofs.Common.{is_some, ◌≡◌, refl, sym, ap, subst, ◌∙◌, ℕ, ◌+◌, ◌<◌, ◌≤◌, ◌^◌, ◌==◌, max, nat_le, Bool, true, false, List, [], ◌∷◌, ◌++◌, length, map, take, get_or, All, ◌&&◌, Decides, Option, Some, None, Result, IfOk, IfSome, IfNone, arith}
use Rattle.std.specs.List.{list_all}
use Rattle.std.proofs.lemmas.Bool.{and_parts, and_from, false≢true, eq-eqb, eqb-true, leb-true, le-leb, ltb-true}
use Rattle.std.proofs.lemmas.Slice.Eq.{slice_eq-Decides}
use Rattle.std.specs.Cmp.Lexicographic.{pointwise}
use Rattle.std.proofs.lemmas.List.Elements.{recursion_from_All}
use Rattle.tp_spec.specs.declared.plan.Mark.{Mark}
use Rattle.tp_spec.specs.declared.plan.Plan.{Plan}
use Rattle.tp_spec.specs.declared.plan.Timed.{Timed}
use Rattle.tp_spec.specs.Courses.{Possible}
use Rattle.tp_spec.specs.Lists.{IsIn, is_empty}
use Rattle.tp_spec.specs.Machine.{SpellsNone, word_of}
use Rattle.tp_spec.specs.Schedules.{Live, awaited}
use Rattle.tp_spec.specs.Words.{Sound, acts_of, spell}
use Rattle.tp_spec.specs.WellFormed.{IsWellFormed}
use Rattle.tp_laws.specs.Clocks.{IsDeadline}
use Rattle.tp_laws.specs.Plans.{is_whole}
use Rattle.tp_laws.proofs.ClockLaws.{later-earlier}
use Rattle.tp_laws.proofs.EarlyLists.{each-in, each-true}
use Rattle.tp_laws.proofs.Members.{map-in}
use Rattle.tp_laws.proofs.WordOfPlans.{spell-sound}
use Rattle.tp_laws.proofs.WordLaws.{word-laws}
use Rattle.run_laws.specs.Histories.{is_below}
use Rattle.run_laws.proofs.Covering.{word_of-in}
use Rattle.node_state.specs.Growths.{IsGrowthOf, next_marks, rank_with}
use Rattle.node_state.specs.declared.growth.Growth.{Growth}
use Rattle.word_frontier.specs.declared.child.Child.{Child}
use Rattle.word_frontier.specs.Nodes.{IsCopy, NodeView}
use Rattle.word_network.specs.Schedules.{IsEarliest}
use Rattle.machine_run.specs.Children.{IsChild, marks_of}
use Rattle.machine_run.specs.Frontiers.{plain_node}
use Rattle.open_tree.specs.Views.{JobView}
use Rattle.open_tree.proofs.Merging.{some-ok, none-ok}
use Rattle.open_tree.proofs.Offspring.{part-spells, lacking-spells, dead-spells}
use Rattle.search_workers.specs.Sprouting.{AreThose}
use Rattle.search_workers.proofs.LiveMarks.{at-in, each-kept, kept-live, next-sound, rank-of, those-kept, those-left}
use Rattle.situated_machine.specs.Judged.{AreChildrenOf}
use Rattle.situated_machine.specs.Keeping.{ReplayParts, ReplayView, IsKept, machine_of, view_of}
use Rattle.situated_machine.specs.Marked.{AreLiveAmong, HasNoPlan, IsDeadlineAfter, IsInSight, IsLiveAfter, Sight, sight_of}
use Rattle.situated_machine.specs.Rules.{IsPlanOf}
use Rattle.situated_machine.proofs.Settled.{timed-same}
use Rattle.situated_machine.proofs.Single.{one-plan}

-- commitments that end within a horizon start by the greatest one
early-starts : (horizon : ℕ) (cs : List Timed) → horizon ≤ 2 ^ 40 → list_all (λ c. nat_le (c.start + c.length) horizon) cs ≡ true → list_all (λ c. nat_le c.start (2 ^ 40)) cs ≡ true
early-starts horizon [] top h = refl
early-starts horizon (c ∷ cs) top h =
    and_from _ _ (le-leb c.start (2 ^ 40) (omega (arith, top, leb-true (c.start + c.length) horizon (and_parts _ _ h).0))) (early-starts horizon cs top (and_parts _ _ h).1)

-- the word of a copy of a node that stands
module _ (t : ReplayParts) (kept : IsKept t) (id : ℕ) (v : NodeView) (copy : IsCopy t.frontier.nodes id v) where
  there : IsIn (plain_node copy.node) (machine_of t).nodes
  there = map-in plain_node copy.node t.frontier.nodes copy.there

  same : v.word ≡ copy.node.word
  same = ap (λ n. n.word) copy.is

  copy-word : v.word ≡ word_of id (machine_of t).nodes
  copy-word = same ∙ sym (word_of-in id (plain_node copy.node) (machine_of t).nodes kept.orderly.told_apart there (eq-eqb copy.node.id id copy.id_is))

  copy-sight : IsInSight (sight_of (view_of t) v.word)
  copy-sight =
      let short : length copy.node.word ≤ copy.node.id = kept.orderly.short (plain_node copy.node) there in
      let below : copy.node.id < t.frontier.made = ltb-true copy.node.id t.frontier.made (each-in (λ n. is_below t.frontier.made n ≡ true) (machine_of t).nodes (plain_node copy.node) (each-true (is_below t.frontier.made) (machine_of t).nodes kept.orderly.below) there) in
      let few : t.frontier.made ≤ max 1 t.limits.nodes = kept.orderly.few in
      let most : t.limits.nodes ≤ 200000 = kept.limited.nodes in
      let all : length copy.node.word + 1 < 2 ^ 31 = omega (arith, short, below, few, most) in
      subst (λ w. IsInSight (sight_of (view_of t) w)) (sym same) (record {
        formed = kept.formed;
        limited = kept.limited;
        commits = record {
          in_turn = kept.orderly.committed.in_turn;
          early = early-starts t.limits.horizon t.commits kept.limited.horizon kept.orderly.committed.within;
          ranged = kept.orderly.committed.ranged;
        };
        clock = kept.orderly.clocked;
        sound = (kept.orderly.live (plain_node copy.node) there).sound;
        short = all;
      })

-- a word that is not live at the start is not live later
never-live : (s : Sight) (a : Mark) → ¬ (Live s.problem s.limits 0 s.commits (s.word ++ a ∷ [])) → ¬ (IsLiveAfter s a)
never-live s a none live = none (record { sound = live.sound; schedule = live.schedule; is = later-earlier _ _ _ _ 0 _ live.schedule (omega arith) live.is })

-- a word whose deadline is past is not live
dead-by : (s : Sight) (a : Mark) (d : ℕ) → IsInSight s → IsDeadlineAfter s a d → d < s.now → ¬ (IsLiveAfter s a)
dead-by s a d known timely lt live = omega (arith, lt, (timely.tells s.now known.clock).0 live)

-- the plan of a word
module _ (s : Sight) (known : IsInSight s) where
  pub part-none : is_whole s.problem s.word ≡ false → HasNoPlan s
  part-none part = part-spells s.problem s.limits known.formed s.word part s.now s.commits

  lacking-none : is_empty (awaited (acts_of s.problem s.word) s.commits) ≡ false → HasNoPlan s
  lacking-none lacks = lacking-spells s.problem s.limits known.formed s.word s.now s.commits known.commits.in_turn lacks

  dead-none : ¬ (Live s.problem s.limits s.now s.commits s.word) → HasNoPlan s
  dead-none dead = dead-spells s.problem s.limits known.formed s.word s.now s.commits known.commits.in_turn dead

-- the earliest plan of a complete word
earliest-plan : (r : ReplayView) (w : List Mark) (plan : Plan) → IsInSight (sight_of r w) → is_whole r.problem w ≡ true → is_empty (awaited (acts_of r.problem w) r.machine.commits) ≡ true
    → IsEarliest r.problem r.limits r.machine.now r.machine.commits w plan → IsPlanOf r.problem r.limits r.machine w plan
earliest-plan r w plan known whole held e =
    let complete = and_from _ _ whole held in
    let laws = word-laws r.problem r.limits known.formed in
    record {
      possible = subst (λ q. Possible r.problem r.limits r.machine.now r.machine.commits q) (sym e.2) (laws.possible r.machine.now r.machine.commits w e.0 known.commits.in_turn known.sound complete e.1.is);
      spells = ap (spell r.problem) e.2 ∙ laws.spelled r.machine.now r.machine.commits w e.0 known.commits.in_turn known.sound complete e.1.is;
      schedule = e.0;
      least = e.1;
      is = e.2;
    }

-- a word as the word of a job
abbrev job_of : Sight → JobView
job_of s = record { problem = s.problem; limits = s.limits; id = 0; node = record { word = s.word; rank = 0; deadline = 0 }; clock = s.now; commits = s.commits }

-- one mark more was judged
module _ (s : Sight) (marks : List Mark) (i : ℕ) (d : Mark) (below : i < length marks) (old new : List Child) (before : AreLiveAmong s (take i marks) old) where
  pub live-more : (ranks : List ℕ) → ranks ≡ map (rank_with s.problem s.word) marks → (deadline : ℕ) → IsDeadlineAfter s (get_or marks i d) deadline → IsLiveAfter s (get_or marks i d)
      → new ≡ old ++ record { mark = get_or marks i d; rank = get_or ranks i 0; deadline = deadline } ∷ [] → AreLiveAmong s (take (i + 1) marks) new
  live-more ranks ranked deadline timely live grown =
      let child : Child = record { mark = get_or marks i d; rank = get_or ranks i 0; deadline = deadline } in
      record {
        those = those-kept s.problem (job_of s) marks i d below old before.those new child refl live grown;
        each = each-kept (IsChild s.problem s.limits s.commits s.word) old new child before.each
            (record { ranked = rank-of s.problem s.word marks ranks i d below ranked; timely = timely }) grown;
      }

  pub dead-more : ¬ (IsLiveAfter s (get_or marks i d)) → new ≡ old → AreLiveAmong s (take (i + 1) marks) new
  dead-more dead is = record {
    those = those-left s.problem (job_of s) marks i d below old before.those new dead is;
    each = subst (All (IsChild s.problem s.limits s.commits s.word)) (sym is) before.each;
  }

-- a mark that may follow makes a sound word
pub sound-next : (s : Sight) → IsInSight s → (marks : List Mark) → marks ≡ next_marks s.problem s.word → (i : ℕ) (d : Mark) → i < length marks → Sound s.problem (s.word ++ get_or marks i d ∷ [])
sound-next s known marks follow i d below = next-sound s.problem s.word known.sound (get_or marks i d) (subst (IsIn (get_or marks i d)) follow (at-in marks i d below))

-- the live ones of the marks that may follow a word that no plan spells are its children
children-among : (r : ReplayView) (w : List Mark) (marks : List Mark) (children : List Child) → marks ≡ next_marks r.problem w → HasNoPlan (sight_of r w) → AreLiveAmong (sight_of r w) marks children → AreChildrenOf r w children
children-among r w marks children follow none among =
    let exact = kept-live r.problem (job_of (sight_of r w)) (marks_of children) (subst (λ ms. AreThose (IsLiveAfter (sight_of r w)) ms (marks_of children)) follow among.those) in
    record {
      incomplete = none;
      exact = record { in_order = exact.in_order; live = exact.live; all = exact.all };
      each = recursion_from_All (IsChild r.problem r.limits r.machine.commits w) children among.each;
    }

-- the same facts of a replay by its parts
module _ {t : ReplayParts} (kept : IsKept t) (r : ReplayView) (is : view_of t ≡ r) (w : List Mark) (commits : List Timed) (same-acts : commits ≡ t.commits) where
  seen : IsInSight (sight_of r w) → IsInSight (sight_of (view_of t) w)
  seen = subst (λ (v : ReplayView). IsInSight (sight_of v w)) (sym is)

  pub plan-some : {E : Type 0} → IsInSight (sight_of r w) → is_whole r.problem w ≡ true → is_empty (awaited (acts_of t.problem w) commits) ≡ true
      → (result : Result (Option Plan) E) → IfOk result (λ o. IfSome o (IsEarliest t.problem t.limits t.clock commits w)) → IfOk result (λ o. IfSome o (IsPlanOf r.problem r.limits r.machine w))
  plan-some known whole held result h =
      subst (λ (v : ReplayView). IfOk result (λ o. IfSome o (IsPlanOf v.problem v.limits v.machine w))) is
      (some-ok (IsEarliest t.problem t.limits t.clock commits w) (IsPlanOf t.problem t.limits (machine_of t) w) result
      (λ plan e. earliest-plan (view_of t) w plan (seen known) (subst (λ (v : ReplayView). is_whole v.problem w ≡ true) (sym is) whole)
      (subst (λ cs. is_empty (awaited (acts_of t.problem w) cs) ≡ true) same-acts held)
      (subst (λ cs. IsEarliest t.problem t.limits t.clock cs w plan) same-acts e)) h)

  pub plan-none : {E : Type 0} → IsInSight (sight_of r w)
      → (result : Result (Option Plan) E) → IfOk result (λ o. IfNone o (¬ (Live t.problem t.limits t.clock commits w))) → IfOk result (λ o. IfNone o (HasNoPlan (sight_of r w)))
  plan-none known result h =
      subst (λ (v : ReplayView). IfOk result (λ o. IfNone o (HasNoPlan (sight_of v w)))) is
      (none-ok (¬ (Live t.problem t.limits t.clock commits w)) (HasNoPlan (sight_of (view_of t) w)) result
      (λ dead. dead-none (sight_of (view_of t) w) (seen known) (subst (λ cs. ¬ (Live t.problem t.limits t.clock cs w)) same-acts dead)) h)

  pub lacking : IsInSight (sight_of r w) → is_empty (awaited (acts_of t.problem w) commits) ≡ false → HasNoPlan (sight_of r w)
  lacking known lacks =
      subst (λ (v : ReplayView). HasNoPlan (sight_of v w)) is
      (lacking-none (sight_of (view_of t) w) (seen known) (subst (λ cs. is_empty (awaited (acts_of t.problem w) cs) ≡ false) same-acts lacks))

pub word-known : {t : ReplayParts} (kept : IsKept t) (r : ReplayView) → view_of t ≡ r → (id : ℕ) (v : NodeView) → IsCopy t.frontier.nodes id v → (w : List Mark) → w ≡ v.word
    → (w ≡ word_of id r.machine.nodes) × IsInSight (sight_of r w)
word-known {t} kept r is id v copy w same = (
  same ∙ copy-word t kept id v copy ∙ ap (λ (x : ReplayView). word_of id x.machine.nodes) is,
  subst (λ u. IsInSight (sight_of r u)) (sym same) (subst (λ (x : ReplayView). IsInSight (sight_of x v.word)) is (copy-sight t kept id v copy)),
)

-- whether a longer word is live, by the parts
module _ {t : ReplayParts} (kept : IsKept t) (r : ReplayView) (is : view_of t ≡ r) (w : List Mark) (a : Mark) (commits : List Timed) (same-acts : commits ≡ t.commits)
    (longer : List Mark) (same-word : longer ≡ w ++ a ∷ []) where
  pub never-after : ¬ (Live t.problem t.limits 0 commits longer) → ¬ (IsLiveAfter (sight_of r w) a)
  never-after none =
      subst (λ (v : ReplayView). ¬ (IsLiveAfter (sight_of v w) a)) is
      (never-live (sight_of (view_of t) w) a (subst (λ u. ¬ (Live t.problem t.limits 0 t.commits u)) same-word (subst (λ cs. ¬ (Live t.problem t.limits 0 cs longer)) same-acts none)))

  pub dead-after : (d : ℕ) → IsInSight (sight_of r w) → IsDeadline t.problem t.limits commits longer d → d < t.clock → ¬ (IsLiveAfter (sight_of r w) a)
  dead-after d known timely lt =
      subst (λ (v : ReplayView). ¬ (IsLiveAfter (sight_of v w) a)) is
      (dead-by (sight_of (view_of t) w) a d (subst (λ (v : ReplayView). IsInSight (sight_of v w)) (sym is) known)
      (subst (λ u. IsDeadline t.problem t.limits t.commits u d) same-word (subst (λ cs. IsDeadline t.problem t.limits cs longer d) same-acts timely)) lt)

-- a plan of the word of a node that stands, or none
module _ (new old : ReplayView) (stays : new ≡ old) (id : ℕ) (w : List Mark) (same-word : w ≡ word_of id old.machine.nodes) where
  pub its-plan : (plan : Plan) → IsPlanOf new.problem new.limits new.machine w plan → IsPlanOf old.problem old.limits old.machine (word_of id old.machine.nodes) plan
  its-plan plan own =
      subst (λ u. IsPlanOf old.problem old.limits old.machine u plan) same-word
      (subst (λ (r : ReplayView). IsPlanOf r.problem r.limits r.machine w plan) stays own)

  pub some-spells : (found : Option Plan) → is_some found ≡ true → IfSome found (IsPlanOf new.problem new.limits new.machine w) → ¬ (SpellsNone old.problem old.limits old.machine (word_of id old.machine.nodes))
  some-spells (Some plan) h some none = let own = its-plan plan some in none plan own.possible own.spells
  some-spells None h some none = absurd (false≢true h)

  no-spelling : HasNoPlan (sight_of new w) → HasNoPlan (sight_of old (word_of id old.machine.nodes))
  no-spelling none = subst (λ u. HasNoPlan (sight_of old u)) same-word (subst (λ r. HasNoPlan (sight_of r w)) stays none)

  pub no-plan : HasNoPlan (sight_of new w) → (plan : Plan) → ¬ (IsPlanOf old.problem old.limits old.machine (word_of id old.machine.nodes) plan)
  no-plan none plan own = no-spelling none plan own.possible own.spells

  pub other-plan : IsWellFormed old.problem → (found plan : Plan) → IsPlanOf new.problem new.limits new.machine w found → ¬ (found ≡ plan) → ¬ (IsPlanOf old.problem old.limits old.machine (word_of id old.machine.nodes) plan)
  other-plan formed found plan own differ given =
      differ (one-plan old.problem old.limits (spell-sound old.problem old.limits formed) old.machine (word_of id old.machine.nodes) found plan (its-plan found own) given)

  pub its-children : (marks : List Mark) → marks ≡ next_marks old.problem w → (found : Option Plan) → is_some found ≡ false → IfNone found (HasNoPlan (sight_of new w))
      → (children : List Child) → AreLiveAmong (sight_of new w) marks children → AreChildrenOf old (word_of id old.machine.nodes) children
  its-children marks follow (Some plan) h none children among = absurd (false≢true (sym h))
  its-children marks follow None h none children among =
      children-among old (word_of id old.machine.nodes) marks children (follow ∙ ap (next_marks old.problem) same-word) (no-spelling none)
      (subst (λ u. AreLiveAmong (sight_of old u) marks children) same-word (subst (λ r. AreLiveAmong (sight_of r w) marks children) stays among))

-- plans with the same acts and the same end are one
pub one-by-parts : (a b : Plan) → a.acts ≡ b.acts → a.end ≡ b.end → a ≡ b
one-by-parts a b acts end = λ i. record { acts = acts i; end = end i }

-- whether a word may be a whole plan's is what its growth tells
pub whole-told : (new old : ReplayView) → new ≡ old → (first w : List Mark) → first ≡ w → (g : Growth) → IsGrowthOf old.problem first g → g.whole ≡ is_whole new.problem w
whole-told new old stays first w same g growth = growth.whole ∙ ap (is_whole old.problem) same ∙ ap (λ (r : ReplayView). is_whole r.problem w) (sym stays)

-- the tests of two acts and of two lists of acts
timed-decides : (a b : Timed) → Decides (a.action == b.action && (a.start == b.start && a.length == b.length)) (a ≡ b)
timed-decides a b = (together, timed-same a b) where
  together : (a.action == b.action && (a.start == b.start && a.length == b.length)) ≡ true → a ≡ b
  together h =
      let rest = (and_parts (a.action == b.action) (a.start == b.start && a.length == b.length) h).1 in
      λ i. record {
        action = eqb-true a.action b.action (and_parts (a.action == b.action) (a.start == b.start && a.length == b.length) h).0 i;
        start = eqb-true a.start b.start (and_parts (a.start == b.start) (a.length == b.length) rest).0 i;
        length = eqb-true a.length b.length (and_parts (a.start == b.start) (a.length == b.length) rest).1 i;
      }

pub acts-decide : (xs ys : List Timed) (r : Bool) → r ≡ pointwise (λ a b. a.action == b.action && (a.start == b.start && a.length == b.length)) xs ys → Decides r (xs ≡ ys)
acts-decide = slice_eq-Decides timed-decides
