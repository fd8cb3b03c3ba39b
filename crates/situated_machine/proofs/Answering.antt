-- Histories whose events keep each rule against runs, and that a history has one answer.
use Rattle.std.proofs.Common.{◌≡◌, refl, sym, ap, subst, ◌∙◌, ℕ, zero, suc, ◌<◌, ◌⊎◌, inl, inr, List, [], ◌∷◌, ◌++◌, length, arith}
use Rattle.tp_spec.specs.declared.event.Event.{Event}
use Rattle.tp_spec.specs.declared.plan.Limits.{Limits}
use Rattle.tp_spec.specs.declared.problem.Problem.{Problem}
use Rattle.tp_spec.specs.Machine.{Machine, AreLegal, IsRun, first, step, end_of}
use Rattle.tp_laws.specs.Plans.{FrontsAreLive}
use Rattle.run_laws.specs.Histories.{IsTree}
use Rattle.run_laws.proofs.Runs.{tree-first, tree-step}
use Rattle.situated_machine.specs.declared.replayed.Replayed.{Replayed}
use Rattle.situated_machine.specs.declared.replayed.Replayed.TheVariants.{Run, Broken}
use Rattle.situated_machine.specs.declared.replayed.Rule.{Rule}
use Rattle.situated_machine.specs.declared.replayed.Rule.TheVariants as rules
use Rattle.situated_machine.specs.Rules.{KeepsAll, BreaksFirst, place}
use Rattle.situated_machine.specs.Judged.{rule_at}
use Rattle.situated_machine.specs.Replays.{AreKept, IsBrokenAt, IsReplay}
use Rattle.situated_machine.specs.Laws.{AreFounded}
use Rattle.situated_machine.proofs.Judging.{legal-keeps, legal-founded, founded-legal}

module _ (p : Problem) (l : Limits) (fronts : FrontsAreLive p l) where
  kept-run : (m : Machine) (es : List Event) → IsTree p l m → AreLegal p l m es → AreKept p l m es × AreFounded p l m es
  kept-run m [] t h = (tt, tt)
  kept-run m (e ∷ es) t h =
      let r = kept-run (step l m e) es (tree-step p l fronts m t e h.0) h.1 in
      ((legal-keeps p l m t.told_apart e h.0, r.0), (legal-founded p l m t.told_apart e h.0, r.1))

  run-kept : (m : Machine) (es : List Event) → IsTree p l m → AreKept p l m es → AreFounded p l m es → AreLegal p l m es
  run-kept m [] t k f = tt
  run-kept m (e ∷ es) t k f =
      let legal = founded-legal p l m t.told_apart e k.0 f.0 in
      (legal, run-kept (step l m e) es (tree-step p l fronts m t e legal) k.1 f.1)

  pub runs-founded : (h : List Event) → IsRun p l h → AreKept p l first h × AreFounded p l first h
  runs-founded h run = kept-run first h (tree-first p l fronts) run.legal

  pub founded-runs : (h : List Event) → AreKept p l first h → AreFounded p l first h → IsRun p l h
  founded-runs h k f = record { legal = run-kept first h (tree-first p l fronts) k f }

-- rules are told apart by their places

pub placed : (r : Rule) → rule_at (place r) ≡ r
placed rules.Outcome = refl
placed rules.Turn = refl
placed rules.Id = refl
placed rules.Least = refl
placed rules.Live = refl
placed rules.Marks = refl
placed rules.Commit = refl
placed rules.Plan = refl
placed rules.Number = refl
placed rules.Early = refl

pub by_order : (a b : ℕ) → (a < b) ⊎ ((a ≡ b) ⊎ (b < a))
by_order zero zero = inr (inl refl)
by_order zero (suc b) = inl (omega arith)
by_order (suc a) zero = inr (inr (omega arith))
by_order (suc a) (suc b) = elim (by_order a b) [
  | inl lt ↦ inl (omega (arith, lt))
  | inr r ↦ elim r [ inl e ↦ inr (inl (ap suc e)) | inr gt ↦ inr (inr (omega (arith, gt))) ]
]

head-same : (a b : Event) (xs ys : List Event) → ◌≡◌ {A = List Event} (a ∷ xs) (b ∷ ys) → a ≡ b
head-same a b xs ys e = cc

tail-same : (a b : Event) (xs ys : List Event) → ◌≡◌ {A = List Event} (a ∷ xs) (b ∷ ys) → xs ≡ ys
tail-same a b xs ys e = cc

module _ (p : Problem) (l : Limits) where
  one-rule : (m : Machine) (e : Event) (r s : Rule) → BreaksFirst p l m e r → BreaksFirst p l m e s → r ≡ s
  one-rule m e r s a b = elim (by_order (place r) (place s)) [
    | inl lt ↦ absurd (a.broken (b.before r lt))
    | inr q ↦ elim q [ inl same ↦ sym (placed r) ∙ ap rule_at same ∙ placed s | inr gt ↦ absurd (b.broken (a.before s gt)) ]
  ]

  -- one event where two fronts end
  one-place : (m : Machine) (fa fb : List Event) (a b : Event) (xs ys : List Event) (r s : Rule)
      → fa ++ a ∷ xs ≡ fb ++ b ∷ ys → AreKept p l m fa → AreKept p l m fb
      → BreaksFirst p l (end_of l m fa) a r → BreaksFirst p l (end_of l m fb) b s → (length fa ≡ length fb) × (r ≡ s)
  one-place m [] [] a b xs ys r s e ka kb ba bb = (refl, one-rule m b r s (subst (λ x. BreaksFirst p l m x r) (head-same a b xs ys e) ba) bb)
  one-place m [] (c ∷ fb) a b xs ys r s e ka kb ba bb = absurd (ba.broken (subst (KeepsAll p l m) (sym (head-same a c xs (fb ++ b ∷ ys) e)) kb.0 r))
  one-place m (c ∷ fa) [] a b xs ys r s e ka kb ba bb = absurd (bb.broken (subst (KeepsAll p l m) (head-same c b (fa ++ a ∷ xs) ys e) ka.0 s))
  one-place m (c ∷ fa) (d ∷ fb) a b xs ys r s e ka kb ba bb =
      let same : c ≡ d = head-same c d (fa ++ a ∷ xs) (fb ++ b ∷ ys) e in
      let q : (length fa ≡ length fb) × (r ≡ s) = one-place (step l m c) fa fb a b xs ys r s (tail-same c d (fa ++ a ∷ xs) (fb ++ b ∷ ys) e) ka.1
      (subst (λ x. AreKept p l (step l m x) fb) (sym same) kb.1) ba
      (subst (λ x. BreaksFirst p l (end_of l (step l m x) fb) b s) (sym same) bb) in
      (ap suc q.0, q.1)

  kept-at : (m : Machine) (front : List Event) (e : Event) (rest : List Event) → AreKept p l m (front ++ e ∷ rest) → KeepsAll p l (end_of l m front) e
  kept-at m [] e rest k = k.0
  kept-at m (c ∷ front) e rest k = kept-at (step l m c) front e rest k.1

  pub none-broken : (h : List Event) (event : ℕ) (rule : Rule) → AreKept p l first h → ¬ (IsBrokenAt p l h event rule)
  none-broken h event rule k b = b.breaks.broken (kept-at first b.front b.next b.rest (subst (AreKept p l first) b.parts k) rule)

  pub one-answer : (h : List Event) (a b : Replayed) → IsReplay p l h a → IsReplay p l h b → a ≡ b
  one-answer h (Run n) (Run k) a b = ap Run (a.1 ∙ sym b.1)
  one-answer h (Run n) (Broken k s) a b = absurd (none-broken h k s a.0 b)
  one-answer h (Broken n r) (Run k) a b = absurd (none-broken h n r b.0 a)
  one-answer h (Broken n r) (Broken k s) a b =
      let q : (length a.front ≡ length b.front) × (r ≡ s) = one-place first a.front b.front a.next b.next a.rest b.rest r s (sym a.parts ∙ b.parts) a.kept b.kept a.breaks b.breaks in
      let e : n ≡ k = a.counted ∙ q.0 ∙ sym b.counted in
      λ i. Broken (e i) (q.1 i)
