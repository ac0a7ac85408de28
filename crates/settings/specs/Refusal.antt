-- Document 01, "Refused by number, lowest first": the twelve numbers, and those that requests added. 0 stands for "not refused".
-- A refusal returns its number alone, and every image, record and buffer keeps its bytes.
use Rattle.std.specs.Prelude.{Result, Ok, Err, Bool, cond, List, [], ◌∷◌, ℕ, zero, suc}
use Rattle.settings.specs.declared.Refusal.{Refusal}
use Rattle.settings.specs.declared.Refusal.TheVariants.{BadSetting, BadLength, BadNumber, BadBrickSet, BadCheck, BadRecord, BadReading}
use Rattle.settings.specs.declared.Refusal.TheVariants.{ClockSpent, Busy, BadMessage, StrayReply, BadLine, BadStripe, BadBlock, BlocksDisagree}

abbrev pub passed : ℕ
passed = 0

-- the given number, unless the test holds
abbrev pub refuse_unless : Bool → ℕ → ℕ
refuse_unless ok number = cond ok passed number

-- "lowest first": of a routine's checks, in the order in which they are made, the first that refuses
unfoldable pub first_refusal : List ℕ → ℕ
first_refusal [] = passed
first_refusal (zero ∷ rest) = first_refusal rest
first_refusal (suc k ∷ rest) = suc k

-- a setting outside its range
abbrev pub bad_setting : ℕ
bad_setting = 1

-- a lent buffer whose length differs from what the settings require
abbrev pub bad_length : ℕ
bad_length = 2

-- a brick number not below n, a coordinator number above 15, or a view's place not below its count
abbrev pub bad_number : ℕ
bad_number = 3

-- a brick set for decoding with fewer than m bricks, or with a repeat (E3: "Refusal 4 now means fewer than m, or a repeat")
abbrev pub bad_brick_set : ℕ
bad_brick_set = 4

-- an image block whose check fails
abbrev pub bad_check : ℕ
bad_check = 5

-- an image or coordinator record that breaks a rule
abbrev pub bad_record : ℕ
bad_record = 6

-- a clock reading above 2^40 - 1
abbrev pub bad_reading : ℕ
bad_reading = 7

-- a coordinator whose last count is 2^40 - 1
abbrev pub clock_spent : ℕ
clock_spent = 8

-- a start while an operation runs
abbrev pub busy : ℕ
busy = 9

-- a message or reply of unknown kind, or with a field outside its range
abbrev pub bad_message : ℕ
bad_message = 10

-- a reply not of the running operation and round, from a brick already counted, or with a block against the rules
abbrev pub stray_reply : ℕ
stray_reply = 11

-- a bench line that doesn't read, or that names or would send what it may not
abbrev pub bad_line : ℕ
bad_line = 12

-- E1: "a stripe not below S or a client block not below S × m, checked after 3"
abbrev pub bad_stripe : ℕ
bad_stripe = 13

-- E2: "a data block number not below m, checked after 13"
abbrev pub bad_block : ℕ
bad_block = 14

-- E3: "coded blocks that disagree, last in decoding"
abbrev pub blocks_disagree : ℕ
blocks_disagree = 15

-- the paper's number of each refusal
abbrev pub number_of_refusal : Refusal → ℕ
number_of_refusal BadSetting = bad_setting
number_of_refusal BadLength = bad_length
number_of_refusal BadNumber = bad_number
number_of_refusal BadBrickSet = bad_brick_set
number_of_refusal BadCheck = bad_check
number_of_refusal BadRecord = bad_record
number_of_refusal BadReading = bad_reading
number_of_refusal ClockSpent = clock_spent
number_of_refusal Busy = busy
number_of_refusal BadMessage = bad_message
number_of_refusal StrayReply = stray_reply
number_of_refusal BadLine = bad_line
number_of_refusal BadStripe = bad_stripe
number_of_refusal BadBlock = bad_block
number_of_refusal BlocksDisagree = blocks_disagree

-- the paper's number of an answer: 0 for one that is not refused
abbrev pub refusal_in : {A : Type 0} → Result A Refusal → ℕ
refusal_in (Ok a) = passed
refusal_in (Err r) = number_of_refusal r
