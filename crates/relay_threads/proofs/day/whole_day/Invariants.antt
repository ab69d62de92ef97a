use Rattle.relay_threads.proofs.day.whole_day.Given as goal

abbrev pub ghosts-day_by-L-Ledger : goal.ghosts-day_by-L-Ledger
ghosts-day_by-L-Ledger g a = record { name = a.ledgers.0.name; parts = a.ledgers.0.parts }

abbrev pub ghosts-day_by-M-Ledger : goal.ghosts-day_by-M-Ledger
ghosts-day_by-M-Ledger g a = record { name = a.ledgers.1.name; parts = a.ledgers.1.parts }

-- the history that was just opened
abbrev pub ghosts-day_by-L-Run : goal.ghosts-day_by-L-Run
ghosts-day_by-L-Run g a = record { book = a.opened.book }
