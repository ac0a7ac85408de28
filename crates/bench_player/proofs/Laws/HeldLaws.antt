-- Of a line its first 1,001 bytes are enough.
use mathlib.Core.Path.{◌≡◌, refl, ap}
use mathlib.Core.List.{List}
use Prim.Native.Nat.{ℕ, ◌≤◌}
use native.Mathlib.Omega.{arith}
use native.Mathlib.Decide.{dec_le}
use lib.ListN.{length, take}
use lib.Seq.{take_all, length-take-le}
use borrow.Author.Tests.{lt-leb}
use Rattle.bench_parse.specs.Lines.{longest, held_length, reads}

-- a line of which 1,001 bytes are kept reads as the whole
pub reads_held : (l : List ℕ) → reads (take held_length l) ≡ reads l
unfolding reads
reads_held l = by (dec_le (length l) longest)
  where
    by : Dec (length l ≤ longest) → reads (take held_length l) ≡ reads l
    by (yes h) = ap reads (take_all held_length l (omega arith))
    by (no h) =
        let n : length (take held_length l) ≡ held_length = length-take-le held_length l (omega arith) in
        rw (lt-leb (length (take held_length l)) longest (omega arith), lt-leb (length l) longest (omega arith)) refl
