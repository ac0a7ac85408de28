-- Document 01, "The bench": "A line, or one carried number, that would send past message 127 is refused before anything changes."
use Rattle.std.specs.Prelude.{◌≡◌, List, ℕ, ◌≤◌, length}
use Rattle.settings.specs.declared.Settings.{Settings}
use Rattle.register.specs.Runs.{World, Event}
use Rattle.bench_limits.specs.Limits.{last_message}
use Rattle.bench_rules.specs.Play.{playing}
use Rattle.bench_order.specs.Script.{script}

-- No script sends past message 127.
abbrev pub NeverPastMessage127 : Type 0
NeverPastMessage127 =
    (input : List ℕ) (s : Settings) (w : World) (events : List Event) → (script input).stage ≡ playing s w events
    → length w.sent ≤ last_message
