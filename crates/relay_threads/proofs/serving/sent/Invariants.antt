use Rattle.relay_threads.proofs.serving.sent.Given as goal

-- the history that was just opened
abbrev pub ghosts-sent_by : goal.ghosts-sent_by
ghosts-sent_by g a = record { book = a.opened.book }
