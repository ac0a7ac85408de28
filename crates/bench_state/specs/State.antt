-- What the bench keeps between two lines, and the run's world that it stands for (document 01, "The bench").
use Rattle.std.specs.Prelude.{Bool, cond, ◌&&◌, List, ℕ, ◌+◌, ◌*◌, eqb, leb, ltb, get_or, take, drop}
use Rattle.settings.specs.Ranges.{in_range}
use Rattle.settings.specs.declared.Settings.{Settings}
use Rattle.volume.specs.Rows.{row_size, fresh_row}
use Rattle.coord_record.specs.Records.{geometry_of, idle_with}
use Rattle.coord_record.specs.declared.Coordinator.{Coordinator}
use Rattle.coord_apply.specs.Answers.{Buffered}
use Rattle.register.specs.Runs.{Item, World, idle}
use Rattle.bench_state.specs.declared.Bench.{Bench}
use Rattle.bench_limits.specs.Limits.{bench_bricks, bench_capacity, bench_size, bench_stripes, bench_coordinators, up_flag, stripe_room, kept_room, image_room}

-- "n at most 4, capacity at most 4, block size at most 8"; "The bench keeps to one stripe"
unfoldable pub bench_limits : Settings → Bool
bench_limits s = leb s.n bench_bricks && leb s.size bench_size && leb s.capacity bench_capacity && eqb s.stripes bench_stripes

-- "Settings past the bench's limits are refusal 1"
unfoldable pub bench_range : Settings → Bool
bench_range s = in_range s && bench_limits s

-- Brick b's row of images, one on the bench, begins at its room. A brick past n is not there: the world has a fresh one in its place.
unfoldable pub images_of : Settings → List ℕ → ℕ → List ℕ
images_of s images b = cond (ltb b s.n) (take (row_size s) (drop (b * image_room) images)) (fresh_row s b)

-- a brick is up by its flag
unfoldable pub up_of : List ℕ → ℕ → Bool
up_of up b = eqb (get_or up b up_flag) up_flag

-- "16 idle coordinators with last count 0"
unfoldable pub idle_at : Settings → ℕ → Coordinator
idle_at s c = idle_with (geometry_of s) (record { coordinator = c; last = 0 })

-- "coordinators 0 to 3": what coordinator c keeps beside its record: the reply blocks, and the stripe behind their room
unfoldable pub coordinator_kept : Settings → List Coordinator → List ℕ → ℕ → Buffered
coordinator_kept s coordinators kept c =
    cond (ltb c bench_coordinators)
    (record {
      state = get_or coordinators c (idle_at s c);
      blocks = take (s.n * s.size) (drop (c * kept_room) kept);
      stripe = take (s.m * s.size) (drop (c * kept_room + stripe_room) kept);
    })
    (idle s c)

-- the world, with what was sent
unfoldable pub world_of : Bench → List ℕ → List ℕ → List Item → World
world_of b images kept sent =
    record {
      images = images_of b.settings images;
      up = up_of b.up;
      coordinators = coordinator_kept b.settings b.coordinators kept;
      sent = sent;
    }
