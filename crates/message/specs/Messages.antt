-- What a message and a reply may hold: refusal 10, "a message or reply of unknown kind, with a time that isn't valid (0 passes only as the
-- newest or entry time in a reply), a max outside 0 to 2^44, a round outside 1 to 1,000, or Read targets that aren't m different bricks".
-- E2: "Refusal 10 allows a block read's single target, and 0 as Modify's old time." A field that a kind has no use for is not looked at.
-- The stripe is refusal 13 and the number of a data block 14, both tested before.
use Rattle.std.specs.Prelude.{Bool, true, cond, not, ◌&&◌, ◌||◌, List, [], ◌∷◌, ℕ, eqb, leb, ltb}
use Rattle.message.specs.Flags.{brick_set}
use Rattle.message.specs.Kinds.{read_kind, order_read_kind, order_block_kind, write_kind, modify_kind, trim_kind, drop_kind}
use Rattle.message.specs.Kinds.{block_targets, last_round, first_round}
use Rattle.message.specs.Kinds.{no_comparison, newer_time, promise_ahead, full_log}
use Rattle.message.specs.declared.Message.{Message}
use Rattle.message.specs.declared.Reply.{Reply}
use Rattle.settings.specs.Refusal.{passed, refuse_unless, first_refusal, bad_number, bad_message}
use Rattle.settings.specs.Ranges.{data_block_refusal}
use Rattle.settings.specs.Times.{valid_time, no_upper_end}

unfoldable pub round_right : ℕ → Bool
round_right round = leb first_round round && leb round last_round

-- the newest or entry time in a reply, and Modify's old time
unfoldable pub found_right : ℕ → Bool
found_right t = eqb t 0 || valid_time t

-- Read's targets: m different bricks, or one data brick
unfoldable pub targets_right : ℕ → ℕ → List ℕ → Bool
targets_right n m targets = brick_set targets n m || brick_set targets m block_targets

-- the rules that a kind adds: Order-and-read has a max, Read has targets, Modify has an old time
unfoldable pub kind_right : ℕ → ℕ → Message → Bool
kind_right n m msg =
    cond (eqb msg.kind order_read_kind) (leb msg.max no_upper_end)
    (cond (eqb msg.kind read_kind) (targets_right n m msg.targets)
    (cond (eqb msg.kind modify_kind) (found_right msg.old) (leb read_kind msg.kind && leb msg.kind drop_kind)))

unfoldable pub message_refusal : ℕ → ℕ → Message → ℕ
message_refusal n m msg = refuse_unless (valid_time msg.time && round_right msg.round && kind_right n m msg) bad_message

-- E2: these two name a data block
unfoldable pub names_block : ℕ → Bool
names_block kind = eqb kind order_block_kind || eqb kind modify_kind

-- refusal 14 of a message, where it names a data block
unfoldable pub message_block_refusal : (m : ℕ) → Message → ℕ
message_block_refusal m msg = cond (names_block msg.kind) (data_block_refusal m msg.block) passed

-- "Trim t: no reply"; E6: "a Drop has no reply"
unfoldable pub is_silent : ℕ → Bool
is_silent kind = eqb kind trim_kind || eqb kind drop_kind

-- these two store an entry, and so need a free one
unfoldable pub stores_entry : ℕ → Bool
stores_entry kind = eqb kind write_kind || eqb kind modify_kind

-- E5: the comparisons that an answer of a kind makes: every one with the promise, each but Read's with the newest time, and of what stores an
-- entry with a full log
unfoldable pub compares : (kind comparison : ℕ) → Bool
compares kind comparison =
    cond (eqb comparison newer_time) (not (eqb kind read_kind))
    (cond (eqb comparison promise_ahead) true (eqb comparison full_log && stores_entry kind))

-- E5: "One missing on a no, or one that the reply's kind or answer doesn't allow, is refusal 10."
unfoldable pub comparison_right : (kind : ℕ) → (granted : Bool) → (comparison : ℕ) → Bool
comparison_right kind granted comparison = cond granted (eqb comparison no_comparison) (compares kind comparison)

-- a reply's own fields; its brick is refusal 3
unfoldable pub reply_right : Reply → Bool
reply_right r =
    leb read_kind r.kind && leb r.kind modify_kind && valid_time r.time && round_right r.round && found_right r.found
    && comparison_right r.kind r.yes r.comparison

unfoldable pub reply_refusal : ℕ → Reply → ℕ
reply_refusal n r =
    first_refusal
    (refuse_unless (ltb r.brick n) bad_number
    ∷ refuse_unless (reply_right r) bad_message
    ∷ [])
