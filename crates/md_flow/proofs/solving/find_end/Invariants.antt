use Rattle.md_flow.proofs.solving.find_end.Given as goal

abbrev pub ghosts-end_with : goal.ghosts-end_with
ghosts-end_with a = record { name = a.blank.name; parts = a.blank.parts }
