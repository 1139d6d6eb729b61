-- The measure of the calls of `split_and_join`: each one below is asked for fewer chunks.
use Rattle.survey_core.proofs.chunks.+split_and_join.Given as goal

abbrev pub decreases-split_and_join : goal.decreases-split_and_join
decreases-split_and_join g l = l.chunks

abbrev pub decreases-join+arg2 : goal.decreases-join+arg2
decreases-join+arg2 g l = l.fewer

abbrev pub decreases-join+arg3 : goal.decreases-join+arg3
decreases-join+arg3 g l = l.others
