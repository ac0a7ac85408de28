-- Document 01, "The bench": its limits, and the layout of the buffers that it is lent.
use Rattle.std.specs.Prelude.{ℕ, ◌+◌, ◌*◌}
use Rattle.image_block.specs.Block.{block_bytes}
use Rattle.settings.specs.Ranges.{max_bricks}

-- "n at most 4"
abbrev pub bench_bricks : ℕ
bench_bricks = 4

-- "capacity at most 4"
abbrev pub bench_capacity : ℕ
bench_capacity = 4

-- "block size at most 8"
abbrev pub bench_size : ℕ
bench_size = 8

-- "coordinators 0 to 3"
abbrev pub bench_coordinators : ℕ
bench_coordinators = 4

-- document 02, E2: "The bench keeps to one stripe"
abbrev pub bench_stripes : ℕ
bench_stripes = 1

-- the number of that one stripe
abbrev pub bench_stripe : ℕ
bench_stripe = 0

-- "message 127"
abbrev pub last_message : ℕ
last_message = 127

-- the flag of a brick that is up; any other flag is of one that is down
abbrev pub up_flag : ℕ
up_flag = 1

-- room for the blocks of all bricks, or for a stripe
abbrev pub stripe_room : ℕ
stripe_room = bench_bricks * bench_size

-- what one coordinator keeps: the reply blocks, then the stripe
abbrev pub kept_room : ℕ
kept_room = 2 * stripe_room

abbrev pub kept_length : ℕ
kept_length = bench_coordinators * kept_room

-- room for a brick's row of images, which is one image: a head and its entries, a block each
abbrev pub image_room : ℕ
image_room = (bench_capacity + 1) * block_bytes

abbrev pub images_length : ℕ
images_length = bench_bricks * image_room

-- a row of bytes: the target flags, the block, and the old block of a message
abbrev pub flag_count : ℕ
flag_count = max_bricks

abbrev pub block_place : ℕ
block_place = flag_count

abbrev pub old_block_place : ℕ
old_block_place = block_place + bench_size

-- a sent message or reply has a row of numbers and a row of bytes
abbrev pub row_numbers : ℕ
row_numbers = 16

abbrev pub row_bytes : ℕ
row_bytes = flag_count + 2 * bench_size

abbrev pub numbers_length : ℕ
numbers_length = last_message * row_numbers

abbrev pub bytes_length : ℕ
bytes_length = last_message * row_bytes

-- the places in a row of numbers, those behind them are free; a message has its max where a reply has the time found, and a message alone
-- has an old time and a data block (E2), a reply alone a comparison (E5)
abbrev pub tag_place : ℕ
tag_place = 0

abbrev pub brick_place : ℕ
brick_place = 1

abbrev pub kind_place : ℕ
kind_place = 2

abbrev pub time_place : ℕ
time_place = 3

abbrev pub round_place : ℕ
round_place = 4

abbrev pub max_place : ℕ
max_place = 5

abbrev pub found_place : ℕ
found_place = 5

abbrev pub yes_place : ℕ
yes_place = 6

abbrev pub held_place : ℕ
held_place = 7

abbrev pub stripe_place : ℕ
stripe_place = 8

abbrev pub old_time_place : ℕ
old_time_place = 9

abbrev pub data_block_place : ℕ
data_block_place = 10

abbrev pub comparison_place : ℕ
comparison_place = 11

-- what the tag says
abbrev pub message_tag : ℕ
message_tag = 0

abbrev pub reply_tag : ℕ
reply_tag = 1

-- room for one printed line, and for all that one line of the input prints
abbrev pub line_room : ℕ
line_room = 128

abbrev pub text_length : ℕ
text_length = 65536
