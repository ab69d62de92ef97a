use Rattle.relay_threads.proofs.readers.four_readers.Given as goal

abbrev pub ghosts-readers_by-L-Ledger : goal.ghosts-readers_by-L-Ledger
ghosts-readers_by-L-Ledger g a = record { name = a.admitting.name; parts = a.admitting.parts }

abbrev pub ghosts-readers_by-M-Ledger : goal.ghosts-readers_by-M-Ledger
ghosts-readers_by-M-Ledger g a = record { name = a.working.name; parts = a.working.parts }

-- the history that was just opened
abbrev pub ghosts-readers_by-L-Run : goal.ghosts-readers_by-L-Run
ghosts-readers_by-L-Run g a = record { book = a.opened.book }
