use Rattle.relay_sockets.proofs.manual_turns.make_such_turns.Given as goal

-- the history that was just opened
abbrev pub ghosts-make_turns : goal.ghosts-make_turns
ghosts-make_turns g a = record { book = a.opened.book }
