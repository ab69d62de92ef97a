use Rattle.relay_threads.proofs.mirror.played_behind.Given as goal

-- the history that was just opened
abbrev pub ghosts-played_behind_by : goal.ghosts-played_behind_by
ghosts-played_behind_by g a = record { book = a.opened.book }
