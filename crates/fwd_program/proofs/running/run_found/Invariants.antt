use Rattle.fwd_program.proofs.running.run_found.Given as goal

-- the history that was just opened
abbrev pub ghosts-run_relay : goal.ghosts-run_relay
ghosts-run_relay g a = record { book = a.opened.book }
