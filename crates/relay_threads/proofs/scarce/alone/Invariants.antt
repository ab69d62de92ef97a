use Rattle.relay_threads.proofs.scarce.alone.Given as goal

abbrev pub ghosts-alone_by-L-Ledger : goal.ghosts-alone_by-L-Ledger
ghosts-alone_by-L-Ledger g a = record { name = a.admitting.name; parts = a.admitting.parts }

abbrev pub ghosts-alone_by-M-Ledger : goal.ghosts-alone_by-M-Ledger
ghosts-alone_by-M-Ledger g a = record { name = a.working.name; parts = a.working.parts }

-- the history that was just opened
abbrev pub ghosts-alone_by-L-Run : goal.ghosts-alone_by-L-Run
ghosts-alone_by-L-Run g a = record { book = a.opened.book }
