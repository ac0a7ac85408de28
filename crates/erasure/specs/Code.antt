-- Document 01, "Settings and the code": "For each byte position, the m data bytes are the values, at points 0 to m−1, of exactly one
-- polynomial of degree below m. Coded block j holds its value at point j. Decoding from m different bricks gives the data back."
use Rattle.std.specs.Prelude.{Bool, List, ℕ, ◌+◌, ◌-◌, ◌*◌, ◌≤◌, ◌<◌, ◌≡◌, length, get_or, take, drop}
use Rattle.byte_lists.specs.Each.{each}
use Rattle.byte_lists.specs.Lists.{tabulate, stacked, put, same}
use Rattle.interpolate.specs.Bytes.{Byte, byte, byte_field}
use Rattle.interpolate.specs.Values.{byte_at, block_at, blocks_at}
use Rattle.poly.specs.Polynomial.{eval}
use Rattle.settings.specs.Ranges.{max_bricks}

-- points 0 to m − 1
unfoldable pub first_points : ℕ → List ℕ
first_points m = tabulate m (λ (i : ℕ). i)

-- the n coded blocks of m data blocks: their values at points 0 to n − 1
unfoldable pub coded_of : ℕ → ℕ → ℕ → List ℕ → List ℕ
coded_of n m size stripe = blocks_at (first_points m) size stripe n

-- the m data blocks from the blocks of m or more bricks, in the bricks' order: the values at points 0 to m − 1 of the polynomials through
-- the first m
unfoldable pub decoded_of : ℕ → ℕ → List ℕ → List ℕ → List ℕ
decoded_of m size bricks blocks = blocks_at (take m bricks) size blocks m

-- block j of a row of blocks
unfoldable pub block_of : ℕ → List ℕ → ℕ → List ℕ
block_of size blocks j = take size (drop (j * size) blocks)

-- Document 02, E3: "Decoding now takes m or more different bricks and checks that all lie on one polynomial": each block behind the first m is
-- the block, at its brick, of the polynomials through the first m.
unfoldable pub agree : (m size : ℕ) → (bricks blocks : List ℕ) → Bool
agree m size bricks blocks =
    each (λ (k : ℕ). same (block_of size blocks (m + k)) (block_at (take m bricks) size blocks (get_or bricks (m + k) 0))) (length bricks - m)

-- The same without a formula. A polynomial of degree below m, by its m coefficients c, passes through all given values of byte position p:
-- at each brick of the list it has the byte that this brick gave.
pub record PassesThrough (m size : ℕ) (bricks blocks : List ℕ) (p : ℕ) (c : List Byte) : Type 0 where
  pub degree : length c ≡ m
  pub at : (i : ℕ) → i < length bricks → (eval byte_field c (byte (get_or bricks i 0))).0 ≡ byte_at size blocks i p

-- There is such a polynomial at every byte position.
abbrev pub OnOnePolynomial : (m size : ℕ) → (bricks blocks : List ℕ) → Type 0
OnOnePolynomial m size bricks blocks = (p : ℕ) → p < size → (c : List Byte) × PassesThrough m size bricks blocks p c

-- E2: "a write of block j sets that block alone": the stripe with block j replaced
unfoldable pub with_block : (size : ℕ) → (stripe : List ℕ) → (j : ℕ) → (block : List ℕ) → List ℕ
with_block size stripe j block = put (j * size) block stripe

-- the blocks of the given bricks, in their order: what is handed to decoding
unfoldable pub blocks_of : ℕ → List ℕ → List ℕ → List ℕ
blocks_of size coded bricks = stacked (length bricks) (λ (i : ℕ). block_of size coded (get_or bricks i 0))

-- the bricks at these places of a list
unfoldable pub bricks_at : (bricks places : List ℕ) → List ℕ
bricks_at bricks places = tabulate (length places) (λ (i : ℕ). get_or bricks (get_or places i 0) 0)

-- a stripe of m blocks of bytes
pub record Stripe (m size : ℕ) (stripe : List ℕ) : Type 0 where
  pub pos : 0 < size
  pub length-is : length stripe ≡ m * size
  pub small : (i : ℕ) → get_or stripe i 0 < 256

-- m or more different bricks of n
pub record Bricks (n m : ℕ) (bricks : List ℕ) : Type 0 where
  pub some : 0 < n
  pub few : n ≤ max_bricks
  pub low : m ≤ n
  pub enough : m ≤ length bricks
  pub differ : (i j : ℕ) → i < length bricks → j < length bricks → get_or bricks i 0 ≡ get_or bricks j 0 → i ≡ j
  pub below : (i : ℕ) → i < length bricks → get_or bricks i 0 < n
