use Rattle.word_network.proofs.uncounted.latest_schedule.Given as goal

abbrev pub ghosts-latest_of_blank : goal.ghosts-latest_of_blank
ghosts-latest_of_blank a = record { name = a.blank.name; parts = a.blank.parts }
