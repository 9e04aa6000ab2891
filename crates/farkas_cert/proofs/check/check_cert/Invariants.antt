use Rattle.farkas_cert.proofs.check.check_cert.Given as goal

-- the count's own ledger
abbrev pub ghosts-check_with : goal.ghosts-check_with
ghosts-check_with a = record { name = a.blank.name; parts = a.blank.parts }
