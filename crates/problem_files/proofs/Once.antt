-- Two texts have one answer at most.
use Rattle.std.proofs.Common.{◌≡◌, ◌≢◌, ℕ, List, Option, Some, None, length, refl, ap, sym, ◌∙◌}
use Rattle.std.specs.Option.{option_map}
use Rattle.tp_spec.specs.WellFormed.{Ground}
use Rattle.pddl_tokens.specs.Trees.{Trees}
use Rattle.pddl_tokens.specs.Faults.{fault_of}
use Rattle.pddl_tokens.specs.declared.form.TextFault.{TextFault}
use Rattle.pddl_tokens.proofs.Unique.{same_trees}
use Rattle.pddl_parts.specs.Reported.{reported}
use Rattle.pddl_parts.specs.declared.faults.Fault.{Fault}
use Rattle.pddl_parts.specs.declared.faults.PddlFault.{PddlFault}
use Rattle.domain_faults.specs.Passes.{domain_fault}
use Rattle.pddl_domain.specs.declared.domain.Domain.{Domain}
use Rattle.pddl_domain.specs.Meaning.{domain_of}
use Rattle.pddl_problem.specs.declared.task.Task.{Task}
use Rattle.pddl_problem.specs.Passes.{problem_fault}
use Rattle.pddl_problem.specs.Meaning.{task_of}
use Rattle.grounder.specs.Sources.{Source}
use Rattle.grounder.specs.Grounded.{problem_of, excess}
use Rattle.grounder.specs.declared.fault.CountKind.{CountKind}
use Rattle.problem_files.specs.declared.fault.PddlFileFault.{PddlFileFault}
use Rattle.problem_files.specs.declared.fault.PddlFileFault.TheVariants.{DomainText, Domain as InDomain, ProblemText, Problem as InProblem, TooMany, NoMemory}
use Rattle.problem_files.specs.Answers.{Spells, SaysDomain, HasDomainFault, SaysTask, HasTaskFault, AreSaid, IsPddlProblem, HasTextFault, HasProblemFault, HasTooMany, IsPddlFaultOf}

-- what is read

one_tree : (text : List ℕ) (t u : Trees) → Spells text t → Spells text u → t ≡ u
one_tree text t u a b = same_trees t u (a.spelled ∙ sym b.spelled)

one_domain : (text : List ℕ) (scale : ℕ) (d e : Domain) → SaysDomain text scale d → SaysDomain text scale e → d ≡ e
one_domain text scale d e a b =
    a.says ∙ (ap (domain_of scale) (one_tree text a.trees b.trees a.spells b.spells) ∙ sym b.says)

one_task : (text : List ℕ) (scale : ℕ) (d e : Domain) (t u : Task) → d ≡ e → SaysTask text scale d t → SaysTask text scale e u → t ≡ u
one_task text scale d e t u h a b =
    let same = one_tree text a.trees b.trees a.spells b.spells in
    let says : task_of d scale a.trees ≡ task_of e scale b.trees = λ i. task_of (h i) scale (same i) in
    a.says ∙ (says ∙ sym b.says)

one_source : (d p : List ℕ) (scale : ℕ) (s r : Source) → AreSaid d p scale s → AreSaid d p scale r → s ≡ r
one_source d p scale s r a b =
    let domains = one_domain d scale s.domain r.domain a.domain_said b.domain_said in
    let tasks = one_task p scale s.domain r.domain s.task r.task domains a.task_said b.task_said in
    λ i. record { domain = domains i; task = tasks i }

pub one_problem : (d p : List ℕ) (scale : ℕ) (g h : Ground) → IsPddlProblem d p scale g → IsPddlProblem d p scale h → g ≡ h
one_problem d p scale g h a b =
    a.grounded ∙ (ap (problem_of scale) (one_source d p scale a.source b.source a.said b.said) ∙ sym b.grounded)

-- an option that is one thing

only : {A : Type 0} (o : Option A) (x y : A) → o ≡ Some x → o ≡ Some y → x ≡ y
only o x y a b = cc

never : {A : Type 0} (o : Option A) (x : A) → o ≡ Some x → o ≡ None → ⊥
never o x a b = cc

mapped : (o : Option Fault) → o ≡ None → option_map reported o ≡ None
mapped o h = ap (option_map reported) h

-- the first fault of a domain

domain_faults_meet : (text : List ℕ) (scale : ℕ) (f g : PddlFault) → HasDomainFault text scale f → HasDomainFault text scale g → f ≡ g
domain_faults_meet text scale f g a b =
    let F : Trees → Option PddlFault = λ t. option_map reported (domain_fault scale (length text) t) in
    let same = one_tree text a.trees b.trees a.spells b.spells in
    only (F b.trees) f g (sym (ap F same) ∙ a.first) b.first

no_domain : (text : List ℕ) (scale : ℕ) (f : PddlFault) (d : Domain) → HasDomainFault text scale f → SaysDomain text scale d → ⊥
no_domain text scale f d a b =
    let F : Trees → Option PddlFault = λ t. option_map reported (domain_fault scale (length text) t) in
    let same = one_tree text a.trees b.trees a.spells b.spells in
    never (F b.trees) f (sym (ap F same) ∙ a.first) (mapped (domain_fault scale (length text) b.trees) b.sound)

-- the first fault of a problem

task_faults_meet : (text : List ℕ) (scale : ℕ) (d e : Domain) (f g : PddlFault) → d ≡ e → HasTaskFault text scale d f → HasTaskFault text scale e g → f ≡ g
task_faults_meet text scale d e f g h a b =
    let same = one_tree text a.trees b.trees a.spells b.spells in
    let F : Domain → Trees → Option PddlFault = λ x t. option_map reported (problem_fault x scale (length text) t) in
    let told : F d a.trees ≡ F e b.trees = λ i. F (h i) (same i) in
    only (F e b.trees) f g (sym told ∙ a.first) b.first

no_task : (text : List ℕ) (scale : ℕ) (d e : Domain) (f : PddlFault) (t : Task) → d ≡ e → HasTaskFault text scale d f → SaysTask text scale e t → ⊥
no_task text scale d e f t h a b =
    let same = one_tree text a.trees b.trees a.spells b.spells in
    let F : Domain → Trees → Option PddlFault = λ x t. option_map reported (problem_fault x scale (length text) t) in
    let told : F d a.trees ≡ F e b.trees = λ i. F (h i) (same i) in
    never (F e b.trees) f (sym told ∙ a.first) (mapped (problem_fault e scale (length text) b.trees) b.sound)

-- faults of one kind

problem_faults_meet : (d p : List ℕ) (scale : ℕ) (f g : PddlFault) → HasProblemFault d p scale f → HasProblemFault d p scale g → f ≡ g
problem_faults_meet d p scale f g a b =
    task_faults_meet p scale a.of_domain b.of_domain f g (one_domain d scale a.of_domain b.of_domain a.said b.said) a.first b.first

counted : CountKind → ℕ → CountKind × ℕ
counted kind count = (kind, count)

counts_meet : (d p : List ℕ) (scale : ℕ) (k l : CountKind) (m n : ℕ) → HasTooMany d p scale k m → HasTooMany d p scale l n → TooMany k m ≡ TooMany l n
counts_meet d p scale k l m n a b =
    let same = one_source d p scale a.source b.source a.said b.said in
    let pair = only (excess b.source) (k, m) (l, n) (sym (ap excess same) ∙ a.first) b.first in
    ap (λ (x : CountKind × ℕ). TooMany x.0 x.1) pair

-- faults that leave no other

past_text : (d p : List ℕ) (scale : ℕ) (f : TextFault) (e : Domain) → fault_of d ≡ Some f → SaysDomain d scale e → ⊥
past_text d p scale f e a b = never (fault_of d) f a b.spells.sound

past_domain_text : (d : List ℕ) (scale : ℕ) (f : TextFault) (g : PddlFault) → fault_of d ≡ Some f → HasDomainFault d scale g → ⊥
past_domain_text d scale f g a b = never (fault_of d) f a b.spells.sound

past_problem_text : (d p : List ℕ) (scale : ℕ) (f : TextFault) (g : PddlFault) → HasTextFault d p scale f → HasProblemFault d p scale g → ⊥
past_problem_text d p scale f g a b = never (fault_of p) f a.first b.first.spells.sound

said_text : (d p : List ℕ) (scale : ℕ) (f : TextFault) (s : Source) → HasTextFault d p scale f → AreSaid d p scale s → ⊥
said_text d p scale f s a b = never (fault_of p) f a.first b.task_said.spells.sound

said_task : (d p : List ℕ) (scale : ℕ) (f : PddlFault) (s : Source) → HasProblemFault d p scale f → AreSaid d p scale s → ⊥
said_task d p scale f s a b =
    no_task p scale a.of_domain s.domain f s.task (one_domain d scale a.of_domain s.domain a.said b.domain_said) a.first b.task_said

pub one_fault : (d p : List ℕ) (scale : ℕ) (f g : PddlFileFault) → f ≢ NoMemory → g ≢ NoMemory → IsPddlFaultOf d p scale f → IsPddlFaultOf d p scale g → f ≡ g
one_fault d p scale NoMemory g hf hg a b = absurd (hf refl)
one_fault d p scale (DomainText f) NoMemory hf hg a b = absurd (hg refl)
one_fault d p scale (InDomain f) NoMemory hf hg a b = absurd (hg refl)
one_fault d p scale (ProblemText f) NoMemory hf hg a b = absurd (hg refl)
one_fault d p scale (InProblem f) NoMemory hf hg a b = absurd (hg refl)
one_fault d p scale (TooMany k m) NoMemory hf hg a b = absurd (hg refl)
one_fault d p scale (DomainText f) (DomainText g) hf hg a b = ap DomainText (only (fault_of d) f g a b)
one_fault d p scale (DomainText f) (InDomain g) hf hg a b = absurd (past_domain_text d scale f g a b)
one_fault d p scale (DomainText f) (ProblemText g) hf hg a b = absurd (past_text d p scale f b.of_domain a b.said)
one_fault d p scale (DomainText f) (InProblem g) hf hg a b = absurd (past_text d p scale f b.of_domain a b.said)
one_fault d p scale (DomainText f) (TooMany l n) hf hg a b = absurd (past_text d p scale f b.source.domain a b.said.domain_said)
one_fault d p scale (InDomain f) (DomainText g) hf hg a b = absurd (past_domain_text d scale g f b a)
one_fault d p scale (InDomain f) (InDomain g) hf hg a b = ap InDomain (domain_faults_meet d scale f g a b)
one_fault d p scale (InDomain f) (ProblemText g) hf hg a b = absurd (no_domain d scale f b.of_domain a b.said)
one_fault d p scale (InDomain f) (InProblem g) hf hg a b = absurd (no_domain d scale f b.of_domain a b.said)
one_fault d p scale (InDomain f) (TooMany l n) hf hg a b = absurd (no_domain d scale f b.source.domain a b.said.domain_said)
one_fault d p scale (ProblemText f) (DomainText g) hf hg a b = absurd (past_text d p scale g a.of_domain b a.said)
one_fault d p scale (ProblemText f) (InDomain g) hf hg a b = absurd (no_domain d scale g a.of_domain b a.said)
one_fault d p scale (ProblemText f) (ProblemText g) hf hg a b = ap ProblemText (only (fault_of p) f g a.first b.first)
one_fault d p scale (ProblemText f) (InProblem g) hf hg a b = absurd (past_problem_text d p scale f g a b)
one_fault d p scale (ProblemText f) (TooMany l n) hf hg a b = absurd (said_text d p scale f b.source a b.said)
one_fault d p scale (InProblem f) (DomainText g) hf hg a b = absurd (past_text d p scale g a.of_domain b a.said)
one_fault d p scale (InProblem f) (InDomain g) hf hg a b = absurd (no_domain d scale g a.of_domain b a.said)
one_fault d p scale (InProblem f) (ProblemText g) hf hg a b = absurd (past_problem_text d p scale g f b a)
one_fault d p scale (InProblem f) (InProblem g) hf hg a b = ap InProblem (problem_faults_meet d p scale f g a b)
one_fault d p scale (InProblem f) (TooMany l n) hf hg a b = absurd (said_task d p scale f b.source a b.said)
one_fault d p scale (TooMany k m) (DomainText g) hf hg a b = absurd (past_text d p scale g a.source.domain b a.said.domain_said)
one_fault d p scale (TooMany k m) (InDomain g) hf hg a b = absurd (no_domain d scale g a.source.domain b a.said.domain_said)
one_fault d p scale (TooMany k m) (ProblemText g) hf hg a b = absurd (said_text d p scale g a.source b a.said)
one_fault d p scale (TooMany k m) (InProblem g) hf hg a b = absurd (said_task d p scale g a.source b a.said)
one_fault d p scale (TooMany k m) (TooMany l n) hf hg a b = counts_meet d p scale k l m n a b

pub no_fault : (d p : List ℕ) (scale : ℕ) (g : Ground) (f : PddlFileFault) → IsPddlProblem d p scale g → IsPddlFaultOf d p scale f → f ≡ NoMemory
no_fault d p scale g NoMemory a b = refl
no_fault d p scale g (DomainText f) a b = absurd (past_text d p scale f a.source.domain b a.said.domain_said)
no_fault d p scale g (InDomain f) a b = absurd (no_domain d scale f a.source.domain b a.said.domain_said)
no_fault d p scale g (ProblemText f) a b = absurd (said_text d p scale f a.source b a.said)
no_fault d p scale g (InProblem f) a b = absurd (said_task d p scale f a.source b a.said)
no_fault d p scale g (TooMany k m) a b =
    let same = one_source d p scale a.source b.source a.said b.said in
    absurd (never (excess b.source) (k, m) b.first (sym (ap excess same) ∙ a.within))
