use Rattle.relay_threads.proofs.life.lived.Given as goal

-- the history that was just opened
abbrev pub ghosts-lived_by : goal.ghosts-lived_by
ghosts-lived_by g a = record { book = a.opened.book }
