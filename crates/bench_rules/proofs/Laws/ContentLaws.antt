-- Laws of `specs/Content`.
use mathlib.Core.Bool.{Bool, true, false, cond}
use mathlib.Core.List.{List}
use Prim.Native.Nat.{ℕ, ◌*◌}
use lib.ListN.{replicate}
use Rattle.settings.specs.declared.Settings.{Settings}
use Rattle.byte_lists.specs.Little.{Bytes}
use Rattle.byte_lists.proofs.Laws.LittleLaws.{zeros_bytes}
use Rattle.bench_parse.proofs.Laws.HexLaws.{bytes_are}
use Rattle.bench_parse.specs.Lines.{bytes_of}
use Rattle.bench_rules.specs.Content.{counted, content}

-- the content of a write is bytes
pub content_small : (s : Settings) (digits : List ℕ) → Bytes (content s digits)
unfolding content
content_small s digits = go (counted s digits)
  where
    go : (b : Bool) → Bytes (cond b (bytes_of digits) (replicate (s.m * s.size) 0))
    go true = bytes_are digits
    go false = zeros_bytes (s.m * s.size)
