use Rattle.relay_threads.proofs.connects.tell_all.Given as goal

-- the history that was just opened
abbrev pub ghosts-where_claimed : goal.ghosts-where_claimed
ghosts-where_claimed g a = record { book = a.opened.book }

abbrev pub ghosts-where_relieved : goal.ghosts-where_relieved
ghosts-where_relieved g a = record { book = a.opened.book }

abbrev pub ghosts-where_slow : goal.ghosts-where_slow
ghosts-where_slow g a = record { book = a.opened.book }
