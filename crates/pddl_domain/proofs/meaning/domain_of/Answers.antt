use Rattle.std.proofs.Common.{◌≡◌, IfOk, List, codes, ap, subst, ◌∙◌}
use Rattle.pddl_tokens.specs.Trees.{trees_of}
use Rattle.pddl_parts.specs.Members.{members_of}
use Rattle.pddl_domain.specs.declared.domain.Domain.{Domain}
use Rattle.domain_faults.specs.Types.{type_names}
use Rattle.pddl_domain.specs.Meaning.{symbols_of, domain_from, domain_of}
use Rattle.pddl_domain.proofs.meaning.domain_of.Goals as goal

pub returns : goal.returns
returns c =
    let name = c.domain_name.ensures in
    let sections = c.sections_of-sections.ensures in
    let types = c.in_ok-types.ensures ∙ ap type_names (c.members_of.ensures ∙ ap (members_of (codes ":types")) sections) in
    let symbols = c.in_ok-symbols.ensures ∙ ap symbols_of sections in
    let same : domain_from c.domain_name.result.now c.in_ok-types.types c.in_ok-symbols.symbols c.args.scale (trees_of c.sections_of-sections.result.now) ≡ domain_of c.args.scale (trees_of c.args.forms.now)
    = λ i. domain_from (name i) (types i) (symbols i) c.args.scale (sections i) in
    subst (λ (d : Domain). IfOk c.domain_from.result (λ x. x ≡ d)) same c.domain_from.ensures
