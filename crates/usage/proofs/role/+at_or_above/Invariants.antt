use Rattle.usage.proofs.role.+at_or_above.Given as goal

abbrev pub decreases-at_or_above : goal.decreases-at_or_above
decreases-at_or_above l = l.other
