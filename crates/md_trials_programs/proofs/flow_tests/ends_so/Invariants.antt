use Rattle.md_trials_programs.proofs.flow_tests.ends_so.Given as goal

abbrev pub ghosts-end_of : goal.ghosts-end_of
ghosts-end_of a = record { name = a.blank.name; parts = a.blank.parts }
