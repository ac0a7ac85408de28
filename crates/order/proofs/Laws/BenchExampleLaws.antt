-- Laws of `specs/BenchExample`.
use mathlib.Core.Path.{refl}
use Rattle.order.specs.Claim.{stripe, read, write, changed, given, bytes}
use Rattle.order.specs.Facts.{seen, shows, ending_of}
use Rattle.order.specs.Valid.{Valid, start, fresh, onto}
use Rattle.order.proofs.Laws.OneOrderTheorem.{one_order, the_order}
use Rattle.order.proofs.Laws.ExampleLaws.{began_ok, promised_ok, stored_ok, showed_ok, launched_ok, launched_over_ok, committed_ok}
use Rattle.order.proofs.Laws.ExampleLaws.{ended_ok, at, ◌▷◌, tests, orders}
use Rattle.order.specs.BenchExample.{three, nought, ten, cut_short, reading, first_read, reading_again, BenchIsValid, BenchIsSeen, BenchHasOneOrder}

pub cut_short_valid : Valid three cut_short
unfolding tests changed given
cut_short_valid = start
    ▷ began_ok tt tt
    ▷ promised_ok tt tt
    ▷ promised_ok tt tt
    ▷ launched_ok three tt tt tt tt (write ten) ten (_, at 2 _) (λ s. refl)
    ▷ stored_ok tt tt
    ▷ ended_ok three tt tt tt

pub reading_valid : Valid three reading
unfolding tests changed given
reading_valid = cut_short_valid
    ▷ began_ok tt tt
    ▷ showed_ok tt tt tt
    ▷ promised_ok tt tt
    ▷ promised_ok tt tt
    ▷ launched_over_ok three tt tt tt tt tt tt tt

pub first_read_valid : Valid three first_read
unfolding tests changed given
first_read_valid = reading_valid
    ▷ stored_ok tt tt
    ▷ stored_ok tt tt
    ▷ ended_ok three tt tt (
      committed_ok three tt,
      record {
        kind = read;
        asked = (_, at 6 _);
        keeps = λ s. refl;
        stripe = nought;
        value = onto (_, at 2 _) (_, at 6 _) fresh refl;
        bytes = refl;
      },
    )

pub reading_again_valid : Valid three reading_again
unfolding tests changed given
reading_again_valid = first_read_valid
    ▷ began_ok tt tt
    ▷ showed_ok tt tt tt
    ▷ showed_ok tt tt tt
    ▷ promised_ok tt tt
    ▷ promised_ok tt tt
    ▷ launched_over_ok three tt tt tt tt tt tt tt

pub bench_is_valid : BenchIsValid
unfolding tests changed given
bench_is_valid = reading_again_valid
    ▷ stored_ok tt tt
    ▷ stored_ok tt tt
    ▷ ended_ok three tt tt (
      committed_ok three tt,
      record {
        kind = read;
        asked = (_, at 7 _);
        keeps = λ s. refl;
        stripe = nought;
        value = onto (_, at 2 _) (_, at 7 _) (onto (_, at 11 _) (_, at 15 _) fresh refl) refl;
        bytes = refl;
      },
    )

pub bench_is_seen : BenchIsSeen
unfolding seen shows ending_of
bench_is_seen = refl

pub bench_has_one_order : BenchHasOneOrder
unfolding orders
bench_has_one_order = (one_order bench_is_valid, the_order bench_is_valid)
