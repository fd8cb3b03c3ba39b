-- Parts as contracts see a problem.
use Rattle.tp_spec.specs.WellFormed.{Ground}
use Rattle.problem_rules.specs.declared.parts.Parts.{Parts}

abbrev pub ground_of : Parts → Ground
ground_of p =
    record {
      scale = p.scale;
      facts = p.facts;
      fluents = p.fluents;
      actions = p.actions;
      timed =
          p.timed;
      init = p.init;
      values = p.values;
      goal = p.goal;
    }
