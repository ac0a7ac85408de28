-- Document 01, "The bench": "Given `set 3 1 1 4; write 0 1 0a; ..` (one line each, at the semicolons), all it prints is: ..".
use Rattle.std.specs.Prelude.{◌≡◌}
use Rattle.bench_order.specs.Script.{script}
use Rattle.bench_order.specs.WorkedCase.{worked_input, worked_output}

-- Document 01's case, from the bytes of its lines to the bytes that are printed.
abbrev pub WorkedCasePrintsAsGiven : Type 0
WorkedCasePrintsAsGiven = (script worked_input).printed ≡ worked_output
