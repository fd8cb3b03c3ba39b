use Rattle.word_network.proofs.uncounted.earliest_plan.Given as goal

abbrev pub ghosts-earliest_of_blank : goal.ghosts-earliest_of_blank
ghosts-earliest_of_blank a = record { name = a.blank.name; parts = a.blank.parts }
