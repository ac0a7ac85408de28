-- The mission, demand 2: "a saved brick reads back as itself and rewrites to the same bytes". Document 01, "The saved brick": "A one-byte
-- change in any block is refused." Proved in `proofs/Laws/Saved`.
use Rattle.std.specs.Prelude.{◌≡◌, true, List, ℕ, ◌<◌, length, get_or, set}
use Rattle.settings.specs.Ranges.{in_range}
use Rattle.settings.specs.Refusal.{bad_check}
use Rattle.settings.specs.declared.Settings.{Settings}
use Rattle.byte_lists.specs.Little.{Bytes}
use Rattle.image.specs.Brick.{Brick, fresh_brick, sound_brick}
use Rattle.image.specs.Image.{image_of}
use Rattle.image.specs.Parse.{Opens, Refuses, parse}

-- "reads back as itself": the image of a brick that keeps to the rules opens as that brick.
abbrev pub SavedOpens : Type 0
SavedOpens =
    (s : Settings) (brick : ℕ) (x : Brick) → in_range s ≡ true → brick < s.n → sound_brick s x ≡ true
    → parse s brick (image_of s brick x) ≡ Opens x

-- So does that of a fresh brick.
abbrev pub FreshOpens : Type 0
FreshOpens =
    (s : Settings) (brick : ℕ) → in_range s ≡ true → brick < s.n
    → parse s brick (image_of s brick (fresh_brick s)) ≡ Opens (fresh_brick s)

-- "and rewrites to the same bytes": bytes that open are, to the last one, the image of the brick that they open as.
abbrev pub OpenedSaves : Type 0
OpenedSaves = (s : Settings) (brick : ℕ) (bytes : List ℕ) (x : Brick) → parse s brick bytes ≡ Opens x → image_of s brick x ≡ bytes

-- "A one-byte change in any block is refused": bytes that open, with another byte in any one place, are refused as 5.
abbrev pub OneByteChanged : Type 0
OneByteChanged =
    (s : Settings) (brick : ℕ) (bytes : List ℕ) (x : Brick) (i v : ℕ) → parse s brick bytes ≡ Opens x → Bytes bytes
    → i < length bytes → v < 256 → (v ≡ get_or bytes i 0 → ⊥) → parse s brick (set bytes i v) ≡ Refuses bad_check
