use Rattle.shared_words.proofs.cells.Cells.seat_for.Given as goal

abbrev pub ghosts-cut : goal.ghosts-cut
ghosts-cut a = record { which = a.p }
