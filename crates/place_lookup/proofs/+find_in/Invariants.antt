use lib.ListN.{length}
use Rattle.place_lookup.proofs.+find_in.Given as goal

abbrev pub decreases-find_in : goal.decreases-find_in
decreases-find_in l = length l.place.now
