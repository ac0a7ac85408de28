-- What the inner workers of this crate ask and give.
use Rattle.std.specs.Prelude.{true, List, [], ◌∷◌, ℕ, ◌+◌, ◌*◌, ◌<◌, ◌≤◌, set, take, drop, length, ◌≡◌}
use Rattle.settings.specs.Ranges.{in_range, SettingsRange}
use Rattle.settings.specs.Refusal.{refuse_unless, bad_setting}
use Rattle.settings.specs.declared.Settings.{Settings}
use Rattle.volume.specs.Rows.{row_size, fresh_row}
use Rattle.coord_record.specs.declared.Coordinator.{Coordinator}
use Rattle.byte_lists.specs.Lists.{put}
use Rattle.bench_state.specs.declared.Bench.{Bench}
use Rattle.bench_state.specs.State.{bench_range, idle_at}
use Rattle.bench_limits.specs.Limits.{bench_bricks, bench_capacity, bench_size, bench_stripes, up_flag, stripe_room, kept_room, image_room, images_length}

unfoldable pub bench_refusal : Settings → ℕ
bench_refusal s = refuse_unless (bench_range s) bad_setting

-- the record of a set that begins: all bricks up, idle coordinators, nothing sent
unfoldable pub fresh_bench : Settings → Bench
fresh_bench s =
    record {
      settings = s;
      up = up_flag ∷ up_flag ∷ up_flag ∷ up_flag ∷ [];
      coordinators = idle_at s 0 ∷ idle_at s 1 ∷ idle_at s 2 ∷ idle_at s 3 ∷ [];
      sent = 0;
    }

-- the record with another coordinator, another number of messages, or another flag of a brick
unfoldable pub with_coordinator : Bench → ℕ → Coordinator → ℕ → Bench
with_coordinator b c next sent = record { settings = b.settings; up = b.up; coordinators = set b.coordinators c next; sent = sent }

unfoldable pub with_sent : Bench → ℕ → Bench
with_sent b sent = record { settings = b.settings; up = b.up; coordinators = b.coordinators; sent = sent }

unfoldable pub with_up : Bench → ℕ → ℕ → Bench
with_up b brick flag = record { settings = b.settings; up = set b.up brick flag; coordinators = b.coordinators; sent = b.sent }

-- what the coordinators keep, with another's reply blocks and stripe
unfoldable pub kept_with : ℕ → List ℕ → List ℕ → List ℕ → List ℕ
kept_with c blocks stripe kept = put (c * kept_room + stripe_room) stripe (put (c * kept_room) blocks kept)

-- the first k bricks have fresh images
pub record Begun (s : Settings) (images : List ℕ) (k : ℕ) : Type 0 where
  pub long : length images ≡ images_length
  pub images-fresh : (b : ℕ) → b < k → take (row_size s) (drop (b * image_room) images) ≡ fresh_row s b

-- what the bench asks of its settings, as numbers
pub record Small (s : Settings) : Type 0 where
  pub bricks : s.n ≤ bench_bricks
  pub blocks-fit : s.n * s.size ≤ stripe_room
  pub stripe-fits : s.m * s.size ≤ stripe_room
  pub log-fits : s.capacity ≤ bench_capacity
  pub one-stripe : s.stripes ≡ bench_stripes
  pub row_fits : row_size s ≤ image_room

-- what settings within the limits satisfy
pub record Fits (s : Settings) : Type 0 where
  pub in-range : in_range s ≡ true
  pub range : SettingsRange s
  pub small : Small s
  pub size_fits : s.size ≤ bench_size
