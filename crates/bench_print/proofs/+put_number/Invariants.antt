-- The measure is the number, which falls to its tenth.
use Rattle.bench_print.proofs.+put_number.Given as goal

abbrev pub decreases-put_number : goal.decreases-put_number
decreases-put_number l = l.k
