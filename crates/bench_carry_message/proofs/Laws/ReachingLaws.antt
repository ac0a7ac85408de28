-- What a set that is ready lends to a message.
use Rattle.bench_state.specs.declared.Bench.{Bench}
use Rattle.bench_rules.specs.Turning.{Lent}
use Rattle.bench_rules.specs.Workers.{BenchReady}
use Rattle.bench_carry_message.specs.Workers.{Lends}

-- a set that is ready lends what a message needs
pub ready_lends : (b : Bench) (l : Lent) → BenchReady b l → Lends b l.images l.numbers l.bytes
ready_lends b l r =
    record { fits = r.fits; few = r.few; images-long = r.images-long; numbers-long = r.numbers-long; bytes-long = r.bytes-long }
