-- The refusals of encoding and decoding, in the order of the checks, and what they leave in the lent buffers.
use Rattle.std.specs.Prelude.{Bool, true, false, cond, not, ◌&&◌, List, [], ◌∷◌, ℕ, ◌*◌, ◌<◌, ◌≡◌, eqb, leb, ltb, length}
use Rattle.erasure.specs.Code.{coded_of, decoded_of, agree, PassesThrough, OnOnePolynomial}
use Rattle.interpolate.specs.Bytes.{Byte, byte, byte_field}
use Rattle.interpolate.specs.Values.{byte_at}
use Rattle.poly.specs.Polynomial.{eval}
use Rattle.settings.specs.Ranges.{code_refusal}
use Rattle.settings.specs.Refusal.{passed, refuse_unless, first_refusal, bad_length, bad_number, bad_brick_set, blocks_disagree}

-- every brick of the list is below n
unfoldable pub all_below : List ℕ → ℕ → Bool
all_below [] n = true
all_below (b ∷ bs) n = ltb b n && all_below bs n

-- x stands in the list
unfoldable pub stands : ℕ → List ℕ → Bool
stands x [] = false
stands x (b ∷ bs) = cond (eqb b x) true (stands x bs)

-- no brick stands twice
unfoldable pub all_different : List ℕ → Bool
all_different [] = true
all_different (b ∷ bs) = not (stands b bs) && all_different bs

-- 3: a brick not below n
abbrev pub number_refusal : ℕ → List ℕ → ℕ
number_refusal n bricks = refuse_unless (all_below bricks n) bad_number

-- 4: "Refusal 4 now means fewer than m, or a repeat" (E3)
abbrev pub set_refusal : ℕ → List ℕ → ℕ
set_refusal m bricks = refuse_unless (leb m (length bricks) && all_different bricks) bad_brick_set

-- 1 the settings, 2 the lengths: m blocks of data, n coded blocks
unfoldable pub encode_refusal : ℕ → ℕ → ℕ → ℕ → ℕ → ℕ
encode_refusal n m size stripe coded =
    first_refusal
    (code_refusal n m size
    ∷ refuse_unless (eqb stripe (m * size) && eqb coded (n * size)) bad_length
    ∷ [])

-- what is refused of a decoding by its settings, list and lengths: 1 the settings, 2 the lengths: a block for each brick in, m blocks out,
-- 3 a brick not below n, 4 fewer than m bricks or a repeat
unfoldable pub list_refusal : (n m size : ℕ) → (bricks : List ℕ) → (blocks stripe : ℕ) → ℕ
list_refusal n m size bricks blocks stripe =
    first_refusal
    (code_refusal n m size
    ∷ refuse_unless (eqb blocks (length bricks * size) && eqb stripe (m * size)) bad_length
    ∷ number_refusal n bricks
    ∷ set_refusal m bricks
    ∷ [])

-- E3: "15, coded blocks that disagree, last in decoding"; `blocks` are the blocks themselves, `stripe` is the output's length
unfoldable pub decode_refusal : (n m size : ℕ) → (bricks blocks : List ℕ) → (stripe : ℕ) → ℕ
decode_refusal n m size bricks blocks stripe =
    first_refusal
    (list_refusal n m size bricks (length blocks) stripe
    ∷ refuse_unless (agree m size bricks blocks) blocks_disagree
    ∷ [])

-- A decoding by its polynomials: `old` is what the output held, `number` and `out` are what the call gives and leaves. It is accepted exactly
-- if, list and lengths being right, one polynomial of degree below m passes through all given values at every byte position, else refused as
-- 15; accepted, it leaves the values of these polynomials at points 0 to m − 1.
pub record DecodedByPolynomials (n m size : ℕ) (bricks blocks old : List ℕ) (number : ℕ) (out : List ℕ) : Type 0 where
  pub if-one : list_refusal n m size bricks (length blocks) (length old) ≡ passed → OnOnePolynomial m size bricks blocks → number ≡ passed
  pub only-if-one : number ≡ passed → OnOnePolynomial m size bricks blocks
  pub otherwise : list_refusal n m size bricks (length blocks) (length old) ≡ passed → (number ≡ passed → ⊥) → number ≡ blocks_disagree
  pub values : number ≡ passed → (p : ℕ) → p < size → (c : List Byte) → PassesThrough m size bricks blocks p c
      → (j : ℕ) → j < m → byte_at size out j p ≡ (eval byte_field c (byte j)).0

-- a buffer after a call: as it was where the call was refused
unfoldable pub unless_refused : ℕ → List ℕ → List ℕ → List ℕ
unless_refused number old new = cond (eqb number passed) new old

unfoldable pub encoded_buffer : ℕ → ℕ → ℕ → List ℕ → List ℕ → List ℕ
encoded_buffer n m size stripe coded = unless_refused (encode_refusal n m size (length stripe) (length coded)) coded (coded_of n m size stripe)

unfoldable pub decoded_buffer : ℕ → ℕ → ℕ → List ℕ → List ℕ → List ℕ → List ℕ
decoded_buffer n m size bricks blocks stripe =
    unless_refused (decode_refusal n m size bricks blocks (length stripe)) stripe (decoded_of m size bricks blocks)
