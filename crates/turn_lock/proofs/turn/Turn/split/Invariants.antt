use Rattle.turn_lock.proofs.turn.Turn.split.Given as goal

-- the split gives away as many parts as it is told
abbrev pub ghosts-cut : goal.ghosts-cut
ghosts-cut g a = record { amount = a.parts }
