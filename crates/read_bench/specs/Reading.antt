-- What a domain's and a problem's texts say, and how much that is.
use Rattle.std.specs.Prelude.{◌≡◌, ℕ, List, length, Err}
use Rattle.pddl_tokens.specs.Tokens.{tokens_of_text}
use Rattle.pddl_tokens.specs.Trees.{Trees, all_spelled}
use Rattle.pddl_tokens.specs.Faults.{fault_of, Gives as GivesText}
use Rattle.pddl_tokens.specs.declared.form.Forms.{Forms}
use Rattle.domain_faults.specs.Passes.{domain_fault}
use Rattle.pddl_domain.specs.Meaning.{domain_of, Gives}
use Rattle.pddl_domain.specs.declared.domain.Domain.{Domain as DomainValue}
use Rattle.pddl_problem.specs.Passes.{problem_fault}
use Rattle.pddl_problem.specs.Meaning.{task_of}
use Rattle.pddl_problem.specs.declared.task.Task.{Task}
use Rattle.read_bench.specs.declared.reading.Counts.{Counts}
use Rattle.read_bench.specs.declared.reading.ReadFault.{ReadFault}
use Rattle.read_bench.specs.declared.reading.ReadFault.TheVariants.{DomainText, Domain, ProblemText, Problem}

-- a text spells trees of which something holds; it spells one row of them at most
pub record Says (text : List ℕ) (holds : Trees → Type 0) : Type 0 where
  pub forms : Trees
  pub spelled : all_spelled forms ≡ tokens_of_text text
  pub fact : holds forms

abbrev pub counts_of : DomainValue → Task → Counts
counts_of domain task =
    record {
      types = length domain.types;
      predicates = length domain.predicates;
      functions = length domain.functions;
      actions = length domain.actions;
      objects = length task.objects;
      facts = length task.init;
      values = length task.values;
      timed = length task.timed;
      goals = length task.goal;
    }

-- so much is said by a domain's text and a problem's
abbrev pub IsSaid : Counts → List ℕ → List ℕ → Type 0
IsSaid counts domain problem =
    Says domain (λ ts. Says problem
    (λ us. counts ≡ counts_of (domain_of 1 ts) (task_of (domain_of 1 ts) 1 us)))

-- why a domain's text and a problem's say nothing: the first fault of the first text that has one,
-- or no memory
abbrev pub Explains : ReadFault → List ℕ → List ℕ → Type 0
Explains (DomainText f) domain problem = GivesText {A = Forms} (Err f) (fault_of domain)
Explains (Domain f) domain problem =
    Says domain (λ ts. Gives {A = DomainValue} (Err f) (domain_fault 1 (length domain) ts))
Explains (ProblemText f) domain problem = GivesText {A = Forms} (Err f) (fault_of problem)
Explains (Problem f) domain problem =
    Says domain (λ ts. Says problem
    (λ us. Gives {A = Task} (Err f) (problem_fault (domain_of 1 ts) 1 (length problem) us)))
