use Rattle.relay_threads.proofs.seats.eight_and_four.Given as goal

abbrev pub ghosts-sums_by-L-Ledger : goal.ghosts-sums_by-L-Ledger
ghosts-sums_by-L-Ledger g a = record { name = a.admitting.name; parts = a.admitting.parts }

abbrev pub ghosts-sums_by-M-Ledger : goal.ghosts-sums_by-M-Ledger
ghosts-sums_by-M-Ledger g a = record { name = a.working.name; parts = a.working.parts }

-- the history that was just opened
abbrev pub ghosts-sums_by-L-Run : goal.ghosts-sums_by-L-Run
ghosts-sums_by-L-Run g a = record { book = a.opened.book }
