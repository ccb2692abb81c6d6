use Rattle.or_gen.proofs.+append_delays.Given as goal

abbrev pub decreases-append_delays : goal.decreases-append_delays
decreases-append_delays l = l.cores
