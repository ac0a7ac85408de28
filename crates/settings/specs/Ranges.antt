-- Document 01, "Settings and the code": the settings' ranges and the quorum. Document 02, E1: the stripes of a volume.
use Rattle.std.specs.Prelude.{Bool, ◌&&◌, ℕ, ◌-◌, ◌/◌, ◌≤◌, leb, ltb}
use Rattle.settings.specs.Refusal.{refuse_unless, bad_setting, bad_stripe, bad_block}
use Rattle.settings.specs.declared.Settings.{Settings}

-- "n is 1 to 16": so a set of bricks has 16 places
abbrev pub max_bricks : ℕ
max_bricks = 16

-- "block size 1 to 256 bytes"
abbrev pub max_size : ℕ
max_size = 256

-- "log capacity 2 to 32 entries"
abbrev pub min_capacity : ℕ
min_capacity = 2

abbrev pub max_capacity : ℕ
max_capacity = 32

-- E1: "A volume has 1 to 64 stripes"
abbrev pub max_stripes : ℕ
max_stripes = 64

-- "n is 1 to 16, m is 1 to n"
unfoldable pub bricks_in_range : ℕ → ℕ → Bool
bricks_in_range n m = leb 1 n && leb n max_bricks && leb 1 m && leb m n

-- "block size 1 to 256 bytes"
unfoldable pub size_in_range : ℕ → Bool
size_in_range size = leb 1 size && leb size max_size

-- "log capacity 2 to 32 entries"
unfoldable pub capacity_in_range : ℕ → Bool
capacity_in_range capacity = leb min_capacity capacity && leb capacity max_capacity

-- E1: "A volume has 1 to 64 stripes (else refusal 1)"
unfoldable pub stripes_in_range : ℕ → Bool
stripes_in_range stripes = leb 1 stripes && leb stripes max_stripes

-- The settings of a set: all five in range.
unfoldable pub in_range : Settings → Bool
in_range s = bricks_in_range s.n s.m && size_in_range s.size && capacity_in_range s.capacity && stripes_in_range s.stripes

-- refusal 1: "a setting outside the ranges above"
unfoldable pub settings_refusal : Settings → ℕ
settings_refusal s = refuse_unless (in_range s) bad_setting

-- the same for the code, which has no log: n, m and the block size
unfoldable pub code_refusal : ℕ → ℕ → ℕ → ℕ
code_refusal n m size = refuse_unless (bricks_in_range n m && size_in_range size) bad_setting

-- the same for the stripe count alone: a coordinator knows it, and no log
unfoldable pub stripe_count_refusal : ℕ → ℕ
stripe_count_refusal stripes = refuse_unless (stripes_in_range stripes) bad_setting

-- refusal 13: "a stripe not below S"
unfoldable pub stripe_refusal : (stripes stripe : ℕ) → ℕ
stripe_refusal stripes stripe = refuse_unless (ltb stripe stripes) bad_stripe

-- refusal 14: "a data block number not below m"
unfoldable pub data_block_refusal : (m block : ℕ) → ℕ
data_block_refusal m block = refuse_unless (ltb block m) bad_block

-- "f being (n−m)/2 rounded down"
unfoldable pub faults : ℕ → ℕ → ℕ
faults n m = (n - m) / 2

-- "The quorum is q = n − f"
unfoldable pub quorum : ℕ → ℕ → ℕ
quorum n m = n - faults n m

-- n, m and the block size in range
pub record CodeRange (n m size : ℕ) : Type 0 where
  pub n-low : 1 ≤ n
  pub n-high : n ≤ max_bricks
  pub m-low : 1 ≤ m
  pub m-high : m ≤ n
  pub size_low : 1 ≤ size
  pub size-high : size ≤ max_size

-- all five in range
pub record SettingsRange (s : Settings) : Type 0 where
  pub code : CodeRange s.n s.m s.size
  pub capacity-low : min_capacity ≤ s.capacity
  pub capacity-high : s.capacity ≤ max_capacity
  pub stripes-low : 1 ≤ s.stripes
  pub stripes-high : s.stripes ≤ max_stripes
