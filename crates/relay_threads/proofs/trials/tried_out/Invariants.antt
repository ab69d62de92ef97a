use Rattle.relay_threads.proofs.trials.tried_out.Given as goal

abbrev pub ghosts-tried_by-L-Ledger : goal.ghosts-tried_by-L-Ledger
ghosts-tried_by-L-Ledger g a = record { name = a.ledgers.0.name; parts = a.ledgers.0.parts }

abbrev pub ghosts-tried_by-M-Ledger : goal.ghosts-tried_by-M-Ledger
ghosts-tried_by-M-Ledger g a = record { name = a.ledgers.1.name; parts = a.ledgers.1.parts }

-- the history that was just opened
abbrev pub ghosts-tried_by-L-Run : goal.ghosts-tried_by-L-Run
ghosts-tried_by-L-Run g a = record { book = a.opened.book }
