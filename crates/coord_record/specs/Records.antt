-- The records with nothing in them, and the kinds of operations. A field without meaning is 0.
use Rattle.std.specs.Prelude.{Bool, cond, ◌||◌, eqb, replicate, List, ℕ}
use Rattle.coord_record.specs.declared.Coordinator.{Coordinator}
use Rattle.coord_record.specs.declared.Geometry.{Geometry}
use Rattle.coord_record.specs.declared.Op.{Op}
use Rattle.coord_record.specs.declared.Tally.{Tally}
use Rattle.message.specs.Kinds.{block_targets, no_comparison}
use Rattle.settings.specs.declared.Clock.{Clock}
use Rattle.settings.specs.declared.Settings.{Settings}
use Rattle.settings.specs.Ranges.{max_bricks}

-- what runs: nothing, a read, a write; E2: a read and a write of one block
abbrev pub idle_kind : ℕ
idle_kind = 0

abbrev pub reading_kind : ℕ
reading_kind = 1

abbrev pub writing_kind : ℕ
writing_kind = 2

abbrev pub reading_block_kind : ℕ
reading_block_kind = 3

abbrev pub writing_block_kind : ℕ
writing_block_kind = 4

-- a read, of the stripe or of one block
unfoldable pub is_reading : ℕ → Bool
is_reading kind = eqb kind reading_kind || eqb kind reading_block_kind

-- an operation on one block: its `first` is that block's number, which is its brick's
unfoldable pub on_block : ℕ → Bool
on_block kind = eqb kind reading_block_kind || eqb kind writing_block_kind

-- how many bricks, counted upward from the first, are asked for their block in the first round: "m bricks counted upward from a given one";
-- E2: "Reading block j has brick j as its only target", "every brick gives its newest time and brick j its block"
unfoldable pub target_count : (m kind : ℕ) → ℕ
target_count m kind = cond (on_block kind) block_targets m

-- no operation
unfoldable pub no_op : Op
no_op = record { kind = idle_kind; phase = 0; stripe = 0; time = 0; round = 0; max = 0; first = 0 }

-- no brick named
unfoldable pub no_bricks : List ℕ
no_bricks = replicate max_bricks 0

-- an open round before its first reply
unfoldable pub nothing_counted : Tally
nothing_counted =
    record {
      counted = replicate max_bricks 0;
      granted = replicate max_bricks 0;
      held = replicate max_bricks 0;
      found = replicate max_bricks 0;
      said = replicate max_bricks no_comparison;
    }

-- the settings of a volume's coordinators
unfoldable pub geometry_of : Settings → Geometry
geometry_of s = record { n = s.n; m = s.m; size = s.size; stripes = s.stripes }

-- "A crash makes the coordinator idle and keeps its count."
unfoldable pub idle_with : Geometry → Clock → Coordinator
idle_with geometry clock = record { geometry = geometry; clock = clock; op = no_op; tally = nothing_counted; bricks = no_bricks }
