-- Each kind of block has 512 bytes, and its fields are read back from it.
use mathlib.Core.Path.{◌≡◌, refl, sym, ap, subst, ◌∙◌}
use mathlib.Core.List.{List, []}
use Prim.Native.Nat.{ℕ, ◌+◌, ◌-◌, ◌^◌, ◌≤◌, ◌<◌}
use native.Mathlib.Omega.{arith}
use lib.ListN.{length, take, drop, get_or, length-append}
use lib.Seq.{take_at}
use Rattle.byte_lists.specs.Little.{little, number}
use Rattle.byte_lists.proofs.Laws.LittleLaws.{number_little, limit_2, limit_8}
use Rattle.settings.specs.declared.Settings.{Settings}
use Rattle.image_block.specs.Block.{block_bytes, check_bytes, body_bytes, count_bytes, time_bytes, count_from, promise_from, head_end}
use Rattle.image_block.specs.Block.{time_from, held_from, sealed, head_body, head_block, slot_body, entry_body, entry_block, mark_body}
use Rattle.image_block.specs.Block.{mark_block, unused_body, unused_block, kind_from, entry_kind, mark_kind}
use Rattle.byte_lists.specs.Lists.{zeros}
use Rattle.image_block.proofs.Laws.CheckLaws.{sealed_length}
use Rattle.byte_lists.proofs.Laws.ZeroLaws.{zeros_length}

head_body_length : (s : Settings) (brick count promise : ℕ) → length (head_body s brick count promise) ≡ body_bytes
unfolding head_body little
head_body_length s brick count promise = let z = zeros_length (block_bytes - head_end) in omega arith

pub head_length : (s : Settings) (brick count promise : ℕ) → length (head_block s brick count promise) ≡ block_bytes
unfolding head_block
head_length s brick count promise = sealed_length (head_body s brick count promise) ∙ ap (λ (k : ℕ). check_bytes + k) (head_body_length s brick count promise)

slot_body_length : (kind time size : ℕ) (block : List ℕ) → length block ≤ block_bytes - held_from → length (slot_body kind time size block) ≡ body_bytes
unfolding slot_body little
slot_body_length kind time size block h =
    let a = length-append block (zeros (block_bytes - held_from - length block)) in
    let z = zeros_length (block_bytes - held_from - length block) in
    omega arith

pub entry_length : (time : ℕ) (block : List ℕ) → length block ≤ block_bytes - held_from → length (entry_block time block) ≡ block_bytes
unfolding entry_block entry_body
entry_length time block h =
    sealed_length (entry_body time block) ∙ ap (λ (k : ℕ). check_bytes + k) (slot_body_length entry_kind time (length block) block h)

pub mark_length : (time size : ℕ) → length (mark_block time size) ≡ block_bytes
unfolding mark_block mark_body
mark_length time size = sealed_length (mark_body time size) ∙ ap (λ (k : ℕ). check_bytes + k) (slot_body_length mark_kind time size [] (omega arith))

pub unused_length : length unused_block ≡ block_bytes
unfolding unused_block unused_body
unused_length = let z = zeros_length (body_bytes - 1) in sealed_length unused_body ∙ omega arith

pub head_count : (s : Settings) (brick count promise : ℕ) → count < 65536 → number (take count_bytes (drop count_from (head_block s brick count promise))) ≡ count
unfolding head_block sealed head_body little
head_count s brick count promise h = number_little count_bytes count (subst (λ (k : ℕ). count < k) (sym limit_2) h)

pub head_promise : (s : Settings) (brick count promise : ℕ) → promise < 2 ^ 64 → number (take time_bytes (drop promise_from (head_block s brick count promise))) ≡ promise
unfolding head_block sealed head_body little
head_promise s brick count promise h = number_little time_bytes promise (subst (λ (k : ℕ). promise < k) (sym limit_8) h)

slot_time : (kind time size : ℕ) (block : List ℕ) → time < 2 ^ 64
    → number (take time_bytes (drop time_from (sealed (slot_body kind time size block)))) ≡ time
unfolding sealed slot_body little
slot_time kind time size block h = number_little time_bytes time (subst (λ (k : ℕ). time < k) (sym limit_8) h)

pub entry_time : (time : ℕ) (block : List ℕ) → time < 2 ^ 64 → number (take time_bytes (drop time_from (entry_block time block))) ≡ time
unfolding entry_block entry_body
entry_time time block h = slot_time entry_kind time (length block) block h

pub mark_time : (time size : ℕ) → time < 2 ^ 64 → number (take time_bytes (drop time_from (mark_block time size))) ≡ time
unfolding mark_block mark_body
mark_time time size h = slot_time mark_kind time size [] h

-- the kind of a block tells an entry from a mark
pub entry_kind_lem : (time : ℕ) (block : List ℕ) → get_or (entry_block time block) kind_from 0 ≡ entry_kind
unfolding entry_block entry_body sealed slot_body little
entry_kind_lem time block = refl

pub mark_kind_lem : (time size : ℕ) → get_or (mark_block time size) kind_from 0 ≡ mark_kind
unfolding mark_block mark_body sealed slot_body little
mark_kind_lem time size = refl

pub entry_held : (time : ℕ) (block : List ℕ) (size : ℕ) → length block ≡ size → take size (drop held_from (entry_block time block)) ≡ block
unfolding entry_block sealed entry_body slot_body little
entry_held time block size e = take_at block (zeros (block_bytes - held_from - length block)) size e
