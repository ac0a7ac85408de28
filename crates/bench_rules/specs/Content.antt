-- The bytes of a write.
use Rattle.std.specs.Prelude.{Bool, cond, List, ℕ, ◌*◌, eqb, length, replicate}
use Rattle.settings.specs.declared.Settings.{Settings}
use Rattle.bench_parse.specs.Lines.{bytes_of}

-- two hex digits for each stripe byte
unfoldable pub counted : Settings → List ℕ → Bool
counted s digits = eqb (length digits) (2 * (s.m * s.size))

-- the bytes that a write's digits stand for; where their count is wrong, the write is refused, and zeros stand in
unfoldable pub content : Settings → List ℕ → List ℕ
content s digits = cond (counted s digits) (bytes_of digits) (replicate (s.m * s.size) 0)
