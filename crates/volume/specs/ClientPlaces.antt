-- Document 02, E1: "client block v lies in stripe v mod S, data block v divided by S rounded down, S being the stripe count".
use Rattle.std.specs.Prelude.{Result, Ok, Err, cond, List, [], ◌∷◌, ℕ, ◌+◌, ◌*◌, ◌%◌, ◌/◌, eqb, ltb, length}
use Rattle.settings.specs.Ranges.{settings_refusal}
use Rattle.settings.specs.Refusal.{passed, refuse_unless, first_refusal, bad_length, bad_stripe}
use Rattle.settings.specs.declared.Settings.{Settings}
use Rattle.settings.specs.Refusal.{number_of_refusal}
use Rattle.settings.specs.declared.Refusal.{Refusal}

-- where a client block lies, a stripe and a data block; or the number of the refusal
pub data Placed : Type 0 where
  At : (stripe block : ℕ) → Placed
  Refused : ℕ → Placed

-- the answer of the code, by the refusal's number
abbrev pub placed_in : Result (ℕ × ℕ) Refusal → Placed
placed_in (Ok (stripe, block)) = At stripe block
placed_in (Err r) = Refused (number_of_refusal r)

-- "stripe v mod S"
unfoldable pub stripe_of : Settings → ℕ → ℕ
stripe_of s v = v % s.stripes

-- "data block v divided by S rounded down"
unfoldable pub data_block_of : Settings → ℕ → ℕ
data_block_of s v = v / s.stripes

-- the client block that lies in a stripe at a data block
unfoldable pub client_block : Settings → (stripe block : ℕ) → ℕ
client_block s stripe block = block * s.stripes + stripe

-- the client blocks of a volume: S × m
unfoldable pub client_blocks : Settings → ℕ
client_blocks s = s.stripes * s.m

-- refusal 13: "a client block not below S × m"
unfoldable pub client_refusal : Settings → ℕ → ℕ
client_refusal s v = refuse_unless (ltb v (client_blocks s)) bad_stripe

-- The stripe and the data block, or one refusal: 1, then 13.
unfoldable pub place_refusal : Settings → ℕ → ℕ
place_refusal s v = first_refusal (settings_refusal s ∷ client_refusal s v ∷ [])

unfoldable pub place_of : Settings → ℕ → Placed
place_of s v = cond (eqb (place_refusal s v) passed) (At (stripe_of s v) (data_block_of s v)) (Refused (place_refusal s v))

-- the paper's number for each answer: 0 for a place
unfoldable pub placed_number : Placed → ℕ
placed_number (At stripe block) = passed
placed_number (Refused number) = number

-- The same from C, into a buffer of two numbers: the number, and what the buffer holds afterwards.
pub record PlaceGiven : Type 0 where
  pub number : ℕ
  pub place : List ℕ

abbrev pub place_with : ℕ → List ℕ → PlaceGiven
place_with number place = record { number = number; place = place }

-- settings of these numbers
abbrev pub settings_with : (n m size capacity stripes : ℕ) → Settings
settings_with n m size capacity stripes = record { n = n; m = m; size = size; capacity = capacity; stripes = stripes }

-- a stripe and a data block
abbrev pub place_length : ℕ
place_length = 2

-- what is tested before the block: 1 the settings, 2 the buffer's length
unfoldable pub buffer_refusal : Settings → ℕ → ℕ
buffer_refusal s len = first_refusal (settings_refusal s ∷ refuse_unless (eqb len place_length) bad_length ∷ [])

-- the stripe and the data block, or the buffer as it was
unfoldable pub placed_buffer : Placed → List ℕ → List ℕ
placed_buffer (At stripe block) old = stripe ∷ block ∷ []
placed_buffer (Refused number) old = old

unfoldable pub place_given : Settings → ℕ → List ℕ → PlaceGiven
place_given s v old =
    cond (eqb (buffer_refusal s (length old)) passed)
    (place_with (placed_number (place_of s v)) (placed_buffer (place_of s v) old))
    (place_with (buffer_refusal s (length old)) old)
