use Rattle.relay_sockets.proofs.scene.Scene.put_run.Given as goal

-- the history that was just opened
abbrev pub ghosts-run : goal.ghosts-run
ghosts-run g a = record { book = a.opened.book }
