use Rattle.relay_threads.proofs.serving.turns_over_faulty.Given as goal

-- the history that was just opened
abbrev pub ghosts-turns_over_faulty_by : goal.ghosts-turns_over_faulty_by
ghosts-turns_over_faulty_by g a = record { book = a.opened.book }
