-- Document 01, "Settings and the code": "For each byte position, the m data bytes are the values, at points 0 to m−1, of exactly one
-- polynomial of degree below m. Coded block j holds its value at point j. Decoding from m different bricks gives the data back."
-- Proved in `proofs/Laws/CodeTheoremLaws`, of agreement in `OnePolynomialLaws` there, of altered blocks in `AlteredLaws`, and of one block's
-- change in `RecodingLaws`.
use Rattle.std.specs.Prelude.{true, false, not, ◌≡◌, List, ℕ, ◌-◌, ◌*◌, ◌≤◌, ◌<◌, length, get_or}
use Rattle.byte_lists.specs.Lists.{same}
use Rattle.erasure.specs.Code.{coded_of, decoded_of, agree, PassesThrough, OnOnePolynomial, block_of, blocks_of, bricks_at, with_block, Stripe, Bricks}
use Rattle.erasure.specs.Recoding.{recoded_block}
use Rattle.erasure.specs.Refusals.{encode_refusal, list_refusal, decode_refusal, encoded_buffer, decoded_buffer}
use Rattle.gf256.specs.Product.{plus, product}
use Rattle.interpolate.specs.Bytes.{Byte, byte, byte_field}
use Rattle.interpolate.specs.Values.{byte_at}
use Rattle.poly.specs.Polynomial.{eval}
use Rattle.settings.specs.Count.{count}
use Rattle.settings.specs.Ranges.{CodeRange}
use Rattle.settings.specs.Refusal.{passed, blocks_disagree}

-- A polynomial of degree below m, by its m coefficients c, whose value at point i is byte p of data block i, for each i below m.
pub record DataPolynomial (m size : ℕ) (stripe : List ℕ) (p : ℕ) (c : List Byte) : Type 0 where
  pub degree : length c ≡ m
  pub at : (i : ℕ) → i < m → (eval byte_field c (byte i)).0 ≡ byte_at size stripe i p

-- The first two sentences, without a formula: at each byte position there is such a polynomial, no other one, and byte p of
-- coded block j is its value at point j.
abbrev pub CodedByOnePolynomial : Type 0
CodedByOnePolynomial =
    (n m size : ℕ) (stripe : List ℕ) (p : ℕ) → CodeRange n m size → ((i : ℕ) → get_or stripe i 0 < 256) → p < size
    → (c : List Byte) × DataPolynomial m size stripe p c
    × ((d : List Byte) → DataPolynomial m size stripe p d → d ≡ c)
    × ((j : ℕ) → j < n → byte_at size (coded_of n m size stripe) j p ≡ (eval byte_field c (byte j)).0)

-- "Decoding from m different bricks gives the data back": any m or more blocks of one coded stripe decode to its m data blocks,
abbrev pub DecodeAfterEncode : Type 0
DecodeAfterEncode =
    (n m size : ℕ) (stripe bricks : List ℕ) → Stripe m size stripe → Bricks n m bricks
    → decoded_of m size bricks (blocks_of size (coded_of n m size stripe) bricks) ≡ stripe

-- and they agree: they are never refused as 15.
abbrev pub CodedBlocksAgree : Type 0
CodedBlocksAgree =
    (n m size : ℕ) (stripe bricks : List ℕ) → Stripe m size stripe → Bricks n m bricks
    → agree m size bricks (blocks_of size (coded_of n m size stripe) bricks) ≡ true

-- Document 02, E3, "checks that all lie on one polynomial": blocks of bytes agree exactly if one polynomial of degree below m passes through all given
-- values at every byte position.
abbrev pub AgreeOnOnePolynomial : Type 0
AgreeOnOnePolynomial =
    (n m size : ℕ) (bricks blocks : List ℕ) → Bricks n m bricks → length blocks ≡ length bricks * size → ((i : ℕ) → get_or blocks i 0 < 256)
    → (agree m size bricks blocks ≡ true → OnOnePolynomial m size bricks blocks)
    × (OnOnePolynomial m size bricks blocks → agree m size bricks blocks ≡ true)

-- The data are then its values at points 0 to m − 1,
abbrev pub DecodedOnThePolynomial : Type 0
DecodedOnThePolynomial =
    (n m size : ℕ) (bricks blocks : List ℕ) → Bricks n m bricks → (p : ℕ) → p < size → (c : List Byte) → PassesThrough m size bricks blocks p c
    → (j : ℕ) → j < m → byte_at size (decoded_of m size bricks blocks) j p ≡ (eval byte_field c (byte j)).0

-- whichever m of the list one takes, by their places in it.
abbrev pub AnyMOfTheList : Type 0
AnyMOfTheList =
    (n m size : ℕ) (bricks blocks : List ℕ) → Bricks n m bricks → 0 < size → length blocks ≡ length bricks * size
    → ((i : ℕ) → get_or blocks i 0 < 256) → agree m size bricks blocks ≡ true
    → (places : List ℕ) → length places ≡ m → ((i : ℕ) → i < m → get_or places i 0 < length bricks)
    → ((i j : ℕ) → i < m → j < m → get_or places i 0 ≡ get_or places j 0 → i ≡ j)
    → decoded_of m size (bricks_at bricks places) (blocks_of size blocks places) ≡ decoded_of m size bricks blocks

-- The same over the buffers of `stripe_encode` and `stripe_decode`: where both calls are accepted, and the second is lent the blocks
-- of its bricks among those that the first left, it leaves the data; it is accepted if its list and lengths are right.
abbrev pub DecodedIsEncoded : Type 0
DecodedIsEncoded =
    (n m size : ℕ) (stripe coded coded' bricks blocks out out' : List ℕ) → ((i : ℕ) → get_or stripe i 0 < 256)
    → encode_refusal n m size (length stripe) (length coded) ≡ passed → coded' ≡ encoded_buffer n m size stripe coded
    → blocks ≡ blocks_of size coded' bricks
    → list_refusal n m size bricks (length blocks) (length out) ≡ passed → out' ≡ decoded_buffer n m size bricks blocks out
    → (decode_refusal n m size bricks blocks (length out) ≡ passed) × (out' ≡ stripe)

-- how many of the blocks given for the bricks of a list, in their order, are not the coded block of the stripe at their brick
unfoldable pub altered : (n m size : ℕ) → (stripe bricks blocks : List ℕ) → ℕ
altered n m size stripe bricks blocks =
    count (λ (i : ℕ). not (same (block_of size blocks i) (block_of size (coded_of n m size stripe) (get_or bricks i 0)))) (length bricks)

-- Of k blocks, up to k − m altered ones are always noticed: where settings, list and lengths are right, and at least one and at most k − m of
-- the k given blocks are not those of a stripe, they disagree, whichever they are and whatever they hold; `stripe_decode` refuses them as 15
-- and leaves its buffer.
abbrev pub AlteredBlocksAreNoticed : Type 0
AlteredBlocksAreNoticed =
    (n m size : ℕ) (stripe bricks blocks out : List ℕ) → Stripe m size stripe → ((i : ℕ) → get_or blocks i 0 < 256)
    → list_refusal n m size bricks (length blocks) (length out) ≡ passed
    → 0 < altered n m size stripe bricks blocks → altered n m size stripe bricks blocks ≤ length bricks - m
    → (agree m size bricks blocks ≡ false)
    × (decode_refusal n m size bricks blocks (length out) ≡ blocks_disagree)
    × (decoded_buffer n m size bricks blocks out ≡ out)

-- A stripe that is the sum of another and of c times a third has the codes' sum likewise. (Recoding a block after one data block
-- changed is this at each byte position: the third is the unit stripe, c the change.)
abbrev pub CodeIsLinear : Type 0
CodeIsLinear =
    (n m size : ℕ) (a d s : List ℕ) (c : ℕ) → c < 256 → ((i : ℕ) → get_or a i 0 < 256) → ((i : ℕ) → get_or d i 0 < 256)
    → ((i : ℕ) → get_or s i 0 ≡ plus (get_or a i 0) (product c (get_or d i 0))) → (j p : ℕ) → j < n → p < size
    → byte_at size (coded_of n m size s) j p ≡ plus (byte_at size (coded_of n m size a) j p) (product c (byte_at size (coded_of n m size d) j p))

-- Document 02, E2, "parity bricks their recoded one": at every brick, the block recoded from its own, the old and the new block is the
-- coded block of the stripe with block j replaced.
abbrev pub RecodedIsCoded : Type 0
RecodedIsCoded =
    (n m size : ℕ) (stripe new : List ℕ) (j brick : ℕ) → CodeRange n m size → Stripe m size stripe → length new ≡ size
    → ((i : ℕ) → get_or new i 0 < 256) → j < m → brick < n
    → recoded_block n m brick j (block_of size (coded_of n m size stripe) brick) (block_of size stripe j) new
    ≡ block_of size (coded_of n m size (with_block size stripe j new)) brick

-- "other data bricks a mark meaning the block before it": at each other data brick the coded block stays,
abbrev pub OtherDataBlocksStay : Type 0
OtherDataBlocksStay =
    (n m size : ℕ) (stripe new : List ℕ) (j b : ℕ) → CodeRange n m size → Stripe m size stripe → length new ≡ size
    → ((i : ℕ) → get_or new i 0 < 256) → j < m → b < m → (b ≡ j → ⊥)
    → block_of size (coded_of n m size (with_block size stripe j new)) b ≡ block_of size (coded_of n m size stripe) b

-- and "Brick j stores the new block": it is the coded block there.
abbrev pub WrittenBlockIsCoded : Type 0
WrittenBlockIsCoded =
    (n m size : ℕ) (stripe new : List ℕ) (j : ℕ) → CodeRange n m size → Stripe m size stripe → length new ≡ size
    → ((i : ℕ) → get_or new i 0 < 256) → j < m
    → block_of size (coded_of n m size (with_block size stripe j new)) j ≡ new
