use Rattle.authority.proofs.Lines.+on_line.Given as goal

abbrev pub decreases-on_line : goal.decreases-on_line
decreases-on_line l = l.left
