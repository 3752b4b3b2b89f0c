-- The measure is the number: each call is handed its part above the last digit.
use Rattle.text.proofs.+spelled.Given as goal

abbrev pub decreases-spelled : goal.decreases-spelled
decreases-spelled l = l.n
