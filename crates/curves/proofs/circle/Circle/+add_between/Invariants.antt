use Rattle.curves.proofs.circle.Circle.+add_between.Given as goal

abbrev pub decreases-add_between : goal.decreases-add_between
decreases-add_between l = l.k
