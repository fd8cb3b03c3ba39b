use Rattle.std.proofs.Common.{Some}
use Rattle.pddl_domain.proofs.meaning.durative_from.Goals as goal

pub returns : goal.returns
returns c =
    λ i.
    record {
      name = c.in_ok-name.ensures i;
      sorts = c.in_ok-sorts.ensures i;
      bounds = Some (c.in_ok-bounds.ensures i);
      start_conds = c.in_ok-start_conds.ensures i;
      all_conds = c.in_ok-all_conds.ensures i;
      end_conds = c.in_ok-end_conds.ensures i;
      start_effects = c.in_ok-start_effects.ensures i;
      end_effects = c.in_ok-end_effects.ensures i;
    }
