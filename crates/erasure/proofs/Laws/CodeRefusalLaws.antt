-- The ways through the refusals: k, a and d are what the called tests gave.
use mathlib.Core.Path.{◌≡◌, sym, ap, ◌∙◌}
use mathlib.Core.Bool.{Bool, true, false, cond}
use mathlib.Core.List.{List, [], ◌∷◌}
use Prim.Native.Nat.{ℕ, ◌*◌, ◌/◌, ◌%◌, ◌≤◌, ◌<◌}
use native.Mathlib.Nat.{mul-le-mul, mul-div_cancel, mul-mod_left, div-add-mod'}
use native.Mathlib.Omega.{arith}
use lib.ListN.{length}
use Rattle.erasure.specs.Code.{agree, decoded_of}
use borrow.Author.Tests.{eq-eqb, ne_eqb}
use Rattle.erasure.specs.Refusals.{number_refusal, set_refusal, encode_refusal, list_refusal, decode_refusal, decoded_buffer, unless_refused}
use Rattle.settings.specs.Ranges.{max_bricks, max_size, code_refusal}
use Rattle.settings.proofs.Laws.RangeLaws.{code_passed}
use Rattle.settings.specs.declared.Refusal.{Refusal}
use Rattle.settings.specs.declared.Refusal.TheVariants.{BadSetting, BadLength, BadNumber, BadBrickSet, BadCheck, BadRecord, BadReading, ClockSpent}
use Rattle.settings.specs.declared.Refusal.TheVariants.{Busy, BadMessage, StrayReply, BadLine, BadStripe, BadBlock, BlocksDisagree}
use Rattle.settings.specs.Refusal.{number_of_refusal, passed, bad_length, blocks_disagree, first_refusal}
use Rattle.settings.proofs.Laws.RefusalLaws.{first_stop, first_pass, first_alone, passed_first, passed_rest, tested}

pub encode_settings : (n m size s c : ℕ) → (code_refusal n m size ≡ 0 → ⊥) → encode_refusal n m size s c ≡ code_refusal n m size
unfolding encode_refusal
encode_settings n m size s c h = sym (first_stop (code_refusal n m size) _ h)

pub encode_stripe : (n m size s c : ℕ) → code_refusal n m size ≡ 0 → (s ≡ m * size → ⊥) → encode_refusal n m size s c ≡ bad_length
unfolding encode_refusal first_refusal
encode_stripe n m size s c z h = rw (z, ne_eqb s (m * size) h)

pub encode_coded : (n m size s c : ℕ) → code_refusal n m size ≡ 0 → s ≡ m * size → (c ≡ n * size → ⊥) → encode_refusal n m size s c ≡ bad_length
unfolding encode_refusal first_refusal
encode_coded n m size s c z a h = rw (z, eq-eqb s (m * size) a, ne_eqb c (n * size) h)

pub encode_passes : (n m size s c : ℕ) → code_refusal n m size ≡ 0 → s ≡ m * size → c ≡ n * size → encode_refusal n m size s c ≡ passed
unfolding encode_refusal first_refusal
encode_passes n m size s c z a h = rw (z, eq-eqb s (m * size) a, eq-eqb c (n * size) h)

pub list_settings : (n m size : ℕ) (bricks : List ℕ) (b s : ℕ) → (code_refusal n m size ≡ 0 → ⊥)
    → list_refusal n m size bricks b s ≡ code_refusal n m size
unfolding list_refusal
list_settings n m size bricks b s h = sym (first_stop (code_refusal n m size) _ h)

list_blocks : (n m size : ℕ) (bricks : List ℕ) (b s : ℕ) → code_refusal n m size ≡ 0 → (b ≡ length bricks * size → ⊥)
    → list_refusal n m size bricks b s ≡ bad_length
unfolding list_refusal first_refusal
list_blocks n m size bricks b s z h = rw (z, ne_eqb b (length bricks * size) h)

-- a size that is not refused is not 0
pub size_positive : (n m size : ℕ) → code_refusal n m size ≡ 0 → 0 < size
size_positive n m size z = (code_passed n m size z).size_low

-- a block for each brick, by division: their number, and nothing left
pub list_quotient : (n m size : ℕ) (bricks : List ℕ) (b s : ℕ) → code_refusal n m size ≡ 0 → (b / size ≡ length bricks → ⊥)
    → list_refusal n m size bricks b s ≡ bad_length
list_quotient n m size bricks b s z h =
    list_blocks n m size bricks b s z (λ q. h (ap (λ (x : ℕ). x / size) q ∙ mul-div_cancel (length bricks) (size_positive n m size z)))

pub list_remainder : (n m size : ℕ) (bricks : List ℕ) (b s : ℕ) → code_refusal n m size ≡ 0 → (b % size ≡ 0 → ⊥)
    → list_refusal n m size bricks b s ≡ bad_length
list_remainder n m size bricks b s z h =
    list_blocks n m size bricks b s z (λ q. h (ap (λ (x : ℕ). x % size) q ∙ mul-mod_left (length bricks) size))

pub block_each : (size b l : ℕ) → b / size ≡ l → b % size ≡ 0 → b ≡ l * size
block_each size b l q r = let d = div-add-mod' b size in let e = ap (λ (x : ℕ). x * size) q in omega arith

pub list_stripe : (n m size : ℕ) (bricks : List ℕ) (b s : ℕ) → code_refusal n m size ≡ 0 → b / size ≡ length bricks → b % size ≡ 0
    → (s ≡ m * size → ⊥) → list_refusal n m size bricks b s ≡ bad_length
unfolding list_refusal first_refusal
list_stripe n m size bricks b s z q r h =
    rw (z, eq-eqb b (length bricks * size) (block_each size b (length bricks) q r), ne_eqb s (m * size) h)

-- the lengths are right: what is left are the bricks
list_bricks : (n m size : ℕ) (bricks : List ℕ) (b s : ℕ) → code_refusal n m size ≡ 0 → b / size ≡ length bricks → b % size ≡ 0
    → s ≡ m * size → list_refusal n m size bricks b s ≡ first_refusal (number_refusal n bricks ∷ set_refusal m bricks ∷ [])
unfolding list_refusal
list_bricks n m size bricks b s z q r h =
    first_pass (code_refusal n m size) _ z
    ∙ first_pass _ _ (rw (eq-eqb b (length bricks * size) (block_each size b (length bricks) q r), eq-eqb s (m * size) h))

pub list_numbers : (n m size : ℕ) (bricks : List ℕ) (b s : ℕ) → code_refusal n m size ≡ 0 → b / size ≡ length bricks → b % size ≡ 0
    → s ≡ m * size → (number_refusal n bricks ≡ 0 → ⊥) → list_refusal n m size bricks b s ≡ number_refusal n bricks
list_numbers n m size bricks b s z q r h f = list_bricks n m size bricks b s z q r h ∙ sym (first_stop (number_refusal n bricks) _ f)

pub list_set : (n m size : ℕ) (bricks : List ℕ) (b s : ℕ) → code_refusal n m size ≡ 0 → b / size ≡ length bricks → b % size ≡ 0
    → s ≡ m * size → number_refusal n bricks ≡ 0 → list_refusal n m size bricks b s ≡ set_refusal m bricks
list_set n m size bricks b s z q r h f =
    list_bricks n m size bricks b s z q r h ∙ first_pass (number_refusal n bricks) _ f ∙ first_alone (set_refusal m bricks)

-- the lengths of buffers in range
pub lengths_fit : (n m size : ℕ) → code_refusal n m size ≡ 0 → (m * size ≤ max_bricks * max_size) × (n * size ≤ max_bricks * max_size)
lengths_fit n m size z =
    let r = code_passed n m size z in
    let few : m ≤ max_bricks = let a = r.m-high in let b = r.n-high in omega arith in
    (mul-le-mul few r.size-high, mul-le-mul r.n-high r.size-high)

-- a refusal's number is not 0
pub number_above : (r : Refusal) → 0 < number_of_refusal r
number_above BadSetting = omega arith
number_above BadLength = omega arith
number_above BadNumber = omega arith
number_above BadBrickSet = omega arith
number_above BadCheck = omega arith
number_above BadRecord = omega arith
number_above BadReading = omega arith
number_above ClockSpent = omega arith
number_above Busy = omega arith
number_above BadMessage = omega arith
number_above StrayReply = omega arith
number_above BadLine = omega arith
number_above BadStripe = omega arith
number_above BadBlock = omega arith
number_above BlocksDisagree = omega arith

pub number_not : (r : Refusal) → number_of_refusal r ≡ 0 → ⊥
number_not r z = let a = number_above r in omega arith

-- a refused call leaves the buffer, and one that is not gives the code
pub refused_leaves : (number : ℕ) (old new : List ℕ) → (number ≡ 0 → ⊥) → old ≡ unless_refused number old new
unfolding unless_refused
refused_leaves number old new h = rw (ne_eqb number 0 h)

pub passed_gives : (number : ℕ) (old new r : List ℕ) → number ≡ 0 → r ≡ new → r ≡ unless_refused number old new
unfolding unless_refused
passed_gives number old new r h e = rw (eq-eqb number 0 h) e

-- the list is refused, or the blocks are tested: t is what the test gave
pub decode_listed : (n m size : ℕ) (bricks blocks : List ℕ) (s k : ℕ) → k ≡ list_refusal n m size bricks (length blocks) s → (k ≡ 0 → ⊥)
    → k ≡ decode_refusal n m size bricks blocks s
unfolding decode_refusal
decode_listed n m size bricks blocks s k e h = e ∙ first_stop (list_refusal n m size bricks (length blocks) s) _ (λ z. h (e ∙ z))

pub decode_agrees : (n m size : ℕ) (bricks blocks : List ℕ) (s : ℕ) (t : Bool) → list_refusal n m size bricks (length blocks) s ≡ 0
    → t ≡ agree m size bricks blocks → t ≡ true → passed ≡ decode_refusal n m size bricks blocks s
unfolding decode_refusal first_refusal
decode_agrees n m size bricks blocks s t z e f = rw (z, ← e, f)

pub decode_disagrees : (n m size : ℕ) (bricks blocks : List ℕ) (s : ℕ) (t : Bool) → list_refusal n m size bricks (length blocks) s ≡ 0
    → t ≡ agree m size bricks blocks → t ≡ false → blocks_disagree ≡ decode_refusal n m size bricks blocks s
unfolding decode_refusal first_refusal
decode_disagrees n m size bricks blocks s t z e f = rw (z, ← e, f)

-- a decoding that is accepted: its list was, and its blocks agree
pub decode_accepted : (n m size : ℕ) (bricks blocks : List ℕ) (s : ℕ) → decode_refusal n m size bricks blocks s ≡ 0
    → (list_refusal n m size bricks (length blocks) s ≡ 0) × (agree m size bricks blocks ≡ true)
unfolding decode_refusal
decode_accepted n m size bricks blocks s e = (
  passed_first (list_refusal n m size bricks (length blocks) s) _ e,
  tested (agree m size bricks blocks) _ (passed_first _ [] (passed_rest (list_refusal n m size bricks (length blocks) s) _ e)),
)

-- the buffer: t is what the test gave, and where it is false nothing was written
pub stripe_refused : (n m size : ℕ) (bricks blocks old : List ℕ) (k : ℕ) → k ≡ list_refusal n m size bricks (length blocks) (length old) → (k ≡ 0 → ⊥)
    → old ≡ decoded_buffer n m size bricks blocks old
unfolding decoded_buffer
stripe_refused n m size bricks blocks old k e h =
    refused_leaves _ old (decoded_of m size bricks blocks) (λ z. h (decode_listed n m size bricks blocks (length old) k e h ∙ z))

pub stripe_agrees : (n m size : ℕ) (bricks blocks old out : List ℕ) (t : Bool) → list_refusal n m size bricks (length blocks) (length old) ≡ 0
    → t ≡ agree m size bricks blocks → t ≡ true → out ≡ cond t (decoded_of m size bricks blocks) old → out ≡ decoded_buffer n m size bricks blocks old
unfolding decoded_buffer
stripe_agrees n m size bricks blocks old out t z e f eo =
    passed_gives _ old (decoded_of m size bricks blocks) out (sym (decode_agrees n m size bricks blocks (length old) t z e f))
    (eo ∙ ap (λ (b : Bool). cond b (decoded_of m size bricks blocks) old) f)

pub stripe_disagrees : (n m size : ℕ) (bricks blocks old out : List ℕ) (t : Bool) → list_refusal n m size bricks (length blocks) (length old) ≡ 0
    → t ≡ agree m size bricks blocks → t ≡ false → out ≡ cond t (decoded_of m size bricks blocks) old → out ≡ decoded_buffer n m size bricks blocks old
unfolding decoded_buffer
stripe_disagrees n m size bricks blocks old out t z e f eo =
    eo ∙ ap (λ (b : Bool). cond b (decoded_of m size bricks blocks) old) f
    ∙ refused_leaves _ old (decoded_of m size bricks blocks)
    (λ q. let w : ◌≡◌ {A = ℕ} 15 0 = decode_disagrees n m size bricks blocks (length old) t z e f ∙ q in omega arith)

-- the ways through the checks of an encoding and of a list
pub ruleset encode_ways = (encode_settings, encode_stripe, encode_coded, encode_passes, lengths_fit, number_above)

pub ruleset list_ways =
    (list_settings, size_positive, list_quotient, list_remainder, list_stripe, list_numbers, list_set, lengths_fit, number_above)
