use Rattle.word_network.proofs.deadlines.deadline.Given as goal

abbrev pub ghosts-deadline_of_blank : goal.ghosts-deadline_of_blank
ghosts-deadline_of_blank a = record { name = a.blank.name; parts = a.blank.parts }
