use Rattle.relay_threads.proofs.tell_gates.Given as goal

-- the history that was just opened
abbrev pub ghosts-tell_gates_by : goal.ghosts-tell_gates_by
ghosts-tell_gates_by g a = record { book = a.opened.book }
