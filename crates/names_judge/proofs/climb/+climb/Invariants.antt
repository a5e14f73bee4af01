use Rattle.names_judge.proofs.climb.+climb.Given as goal

-- the levels that are left fall
abbrev pub decreases-climb : goal.decreases-climb
decreases-climb l = l.left
