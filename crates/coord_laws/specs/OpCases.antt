-- What the phase of a sound operation says of its kind, round and max.
use Rattle.std.specs.Prelude.{◌≡◌, Bool, true, ◌||◌, ℕ, eqb}
use Rattle.coord_record.specs.declared.Op.{Op}
use Rattle.coord_record.specs.Records.{writing_block_kind, is_reading}
use Rattle.message.specs.Kinds.{first_round}

-- the kinds of operations that may recover: reads; E2: "the writer recovers with block j replaced"
unfoldable pub can_recover : ℕ → Bool
can_recover kind = is_reading kind || eqb kind writing_block_kind

-- a Read round: a read, of the stripe or of one block, in its first round
pub record InRead (op : Op) : Type 0 where
  pub kind-is : is_reading op.kind ≡ true
  pub round_is : op.round ≡ first_round
