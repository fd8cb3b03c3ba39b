-- What the texts of a source say of its files.
use Rattle.std.proofs.Common.{◌≡◌, refl, subst, ◌∙◌, ℕ, inl, inr, List, [], ◌∷◌, ◌++◌, Result, Ok, Err}
use Rattle.std.specs.Prelude.{IfOk, IfErr}
use Rattle.tp_spec.specs.declared.problem.Problem.{Problem}
use Rattle.tp_spec.specs.WellFormed.{IsWellFormed}
use Rattle.tp_world.specs.Contents.{FilesView}
use Rattle.tp_world.specs.Loads.{Wanted, AreLoaded}
use Rattle.run_cli.specs.Sources.{source_files, texts_of, AreTextsOf, ReadsAs, IsPddlRefusal, IsRefusal, RefusesPddl, HoldsProblem, IsSourceStop}
use Rattle.run_cli.specs.Stopping.{IsStop}
use Rattle.run_cli.specs.declared.loading.SourceTexts.{SourceTexts}
use Rattle.run_cli.specs.declared.loading.SourceTexts.TheVariants as kept
use Rattle.run_cli.specs.declared.loading.Stop.{Stop}
use Rattle.run_cli.specs.declared.loading.Stop.TheVariants.{Said, NoMemory}
use Rattle.run_cli.specs.declared.words.Source.{Source}
use Rattle.run_cli.specs.declared.words.Source.TheVariants.{GroundText, Pddl}
use Rattle.run_cli.proofs.FirstLoads.{all-asked}

formed-of : (source : Source) (texts : List (List ℕ)) (p : Problem) → ReadsAs source texts p → IsWellFormed p
formed-of (GroundText name) [] p read = absurd read
formed-of (GroundText name) (text ∷ []) p read = read.formed
formed-of (GroundText name) (text ∷ more ∷ rest) p read = absurd read
formed-of (Pddl domain problem scale) [] p read = absurd read
formed-of (Pddl domain problem scale) (a ∷ []) p read = absurd read
formed-of (Pddl domain problem scale) (a ∷ b ∷ []) p read = read.keeps
formed-of (Pddl domain problem scale) (a ∷ b ∷ c ∷ rest) p read = absurd read

module _ (source : Source) (further : List Wanted) (texts rest : List (List ℕ)) (before after : FilesView) (loaded : AreLoaded (source_files source ++ further) (texts ++ rest) before after) where
  pub holds-of : (p : Problem) → ReadsAs source texts p → HoldsProblem source further p rest before after
  holds-of p read = record { texts = texts; loaded = loaded; read = read; formed = formed-of source texts p read }

  pub holds-if : (r : Result Problem Stop) → IfOk r (ReadsAs source texts) → IfOk r (λ p. HoldsProblem source further p rest before after)
  holds-if (Ok p) read = holds-of p read
  holds-if (Err s) read = tt

  pub refused-of : (s : Stop) → IsRefusal source texts s → IsSourceStop source further before after s
  refused-of (Said answer) refusal = inr (record { texts = texts; rest = rest; loaded = loaded; refuses = refusal.1; status_is = refusal.0 })
  refused-of NoMemory refusal = all-asked loaded.asked

  pub refused-if : (r : Result Problem Stop) → IfErr r (IsRefusal source texts) → IfErr r (IsSourceStop source further before after)
  refused-if (Ok p) refusal = tt
  refused-if (Err s) refusal = refused-of s refusal

-- not all files were loaded
pub stopped-of : (source : Source) (further : List Wanted) (before after : FilesView) (s : Stop) → IsStop (source_files source ++ further) before after s → IsSourceStop source further before after s
stopped-of source further before after (Said answer) why = inl why
stopped-of source further before after NoMemory why = why

-- what is kept of a domain and a problem has these texts and this scale
abbrev pub HasTexts : SourceTexts → List ℕ → List ℕ → ℕ → Type 0
HasTexts (kept.GroundText text) domain problem scale = ⊥
HasTexts (kept.Pddl d p given) domain problem scale = (domain ≡ d.items) × (problem ≡ p.items) × (scale ≡ given)

-- the texts of a domain and a problem are refused
pub pddl-refused : (source : Source) (t : SourceTexts) (domain problem : List ℕ) (scale : ℕ) (stop : Stop) → AreTextsOf source t → HasTexts t domain problem scale
    → IsPddlRefusal domain problem scale stop → IsRefusal source (texts_of t) stop
pddl-refused source (kept.GroundText text) domain problem scale stop fits has refused = absurd has
pddl-refused (GroundText name) (kept.Pddl d p given) domain problem scale stop fits has refused = absurd fits
pddl-refused (Pddl domain_name problem_name s) (kept.Pddl d p given) domain problem scale NoMemory fits has refused = tt
pddl-refused (Pddl domain_name problem_name s) (kept.Pddl d p given) domain problem scale (Said answer) fits has refused = (
  refused.0,
  subst (λ (k : ℕ). RefusesPddl d.items p.items k answer.line.items) (has.2 ∙ fits.2)
      (subst (λ (xs : List ℕ). RefusesPddl d.items xs scale answer.line.items) has.1
      (subst (λ (xs : List ℕ). RefusesPddl xs problem scale answer.line.items) has.0 refused.1)),
)

-- what holds of each error
pub each-err : {A E : Type 0} (P Q : E → Type 0) (r : Result A E) → ((e : E) → P e → Q e) → IfErr r P → IfErr r Q
each-err P Q (Ok a) f h = tt
each-err P Q (Err e) f h = f e h
