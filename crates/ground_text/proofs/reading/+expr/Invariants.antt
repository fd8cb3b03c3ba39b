use Rattle.ground_text.proofs.reading.+expr.Given as goal

abbrev pub decreases-expr : goal.decreases-expr
decreases-expr l = l.levels
