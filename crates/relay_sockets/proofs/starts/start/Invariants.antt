use Rattle.relay_sockets.proofs.starts.start.Given as goal

-- the history that was just opened
abbrev pub ghosts-refusal : goal.ghosts-refusal
ghosts-refusal g a = record { book = a.opened.book }
