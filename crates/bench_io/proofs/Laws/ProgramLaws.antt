-- One turn after the other, to the end of the input.
use mathlib.Core.Path.{◌≡◌, refl, sym, subst, ap, ◌∙◌}
use mathlib.Core.Bool.{Bool}
use mathlib.Core.List.{List, [], ◌∷◌, ◌++◌, append_assoc, append-nil}
use Prim.Native.Nat.{ℕ, ◌+◌, ◌≤◌}
use native.Mathlib.Omega.{arith}
use lib.IntN.{ℤ}
use lib.ListN.{length, take, length-append}
use Rattle.bench_io.specs.Counts.{Moved}
use Rattle.bench_parse.specs.Lines.{held_length}
use Rattle.bench_lines.specs.Cutting as cutting
use Rattle.bench_lines.specs.Cutting.{Cuts, last_line, HandedOn, chunk}
use Rattle.bench_limits.specs.Limits.{kept_length, images_length, numbers_length, bytes_length, text_length}
use Rattle.bench_player.specs.Calls as calls
use Rattle.bench_player.specs.Calls.{Calls}
use Rattle.bench_player.specs.Lining.{stage_of, bench_refused}
use Rattle.bench_rules.specs.Play.{waiting}
use Rattle.bench_rules.specs.Turning.{Lent}
use Rattle.bench_state.specs.declared.Bench.{Bench}
use Rattle.register.specs.Runs.{Event}
use Rattle.bench_io.specs.Workers as workers
use Rattle.bench_io.specs.Workers.{goes_on, at_end, arrived, most_turns, left_with, TurnMade, text_of, Turns, Ran, RunLeft}
use Rattle.bench_io.specs.declared.Pass.{Pass}
use Rattle.bench_io.specs.declared.Standing.{Standing}
use Rattle.bench_io.specs.declared.Standing.TheVariants as standing
use Rattle.bench_io.proofs.Laws.PassLaws.{calls_both, written_not_ended, last_not_on}
use Rattle.bench_io.proofs.Laws.ReadLaws.{none_arrived}

-- Whole chunks, one after the other, each cut from its start to its end: what is handed on so far.
data ChunksCut : List ℕ → ℕ → List (List ℕ) → List (List ℕ) → List ℕ → ℕ → Type 0 where
  none : (line : List ℕ) (held : ℕ) → ChunksCut line held [] [] line held
  one : {line line' line'' : List ℕ} {held held' held'' at : ℕ} {bytes : List ℕ} {chunks first rest : List (List ℕ)}
      → Cuts bytes line held 0 first line' held' at → length bytes ≤ at → ChunksCut line' held' chunks rest line'' held''
      → ChunksCut line held (bytes ∷ chunks) (first ++ rest) line'' held''

-- one chunk more
through_more : {a b b' bytes : List ℕ} {h k k' at : ℕ} {cs hs first : List (List ℕ)} → ChunksCut a h cs hs b k → Cuts bytes b k 0 first b' k' at
    → length bytes ≤ at → ChunksCut a h (cs ++ bytes ∷ []) (hs ++ first) b' k'
through_more {b' = b'} {bytes = bytes} {k' = k'} {first = first} (none line held) c e =
    subst (λ (t : List (List ℕ)). ChunksCut line held (bytes ∷ []) t b' k') (append-nil first) (one c e (none b' k'))
through_more {a = a} {b' = b'} {bytes = new} {h = h} {k' = k'} {first = new-lines} (one {bytes = bytes} {chunks = chunks} {first = first} {rest = rest} c₁ e₁ t) c e =
    subst (λ (u : List (List ℕ)). ChunksCut a h (bytes ∷ (chunks ++ new ∷ [])) u b' k') (sym (append_assoc first rest new-lines))
    (one c₁ e₁ (through_more t c e))

-- and the end of the input, with which no byte came
through_ended : {a b last : List ℕ} {h k : ℕ} {cs hs : List (List ℕ)} → last ≡ [] → ChunksCut a h cs hs b k → HandedOn a h (cs ++ last ∷ []) (hs ++ last_line b k)
through_ended {last = last} e (none line held) =
    subst (λ (t : List ℕ). HandedOn line held (t ∷ []) (last_line line held)) (sym e)
    (chunk (cutting.none line held 0) (omega arith) (cutting.ended line held))
through_ended {a = a} {b = b} {last = last} {h = h} {k = k} e (one {bytes = bytes} {chunks = chunks} {first = first} {rest = rest} c d t) =
    subst (λ (u : List (List ℕ)). HandedOn a h (bytes ∷ (chunks ++ last ∷ [])) u) (sym (append_assoc first rest (last_line b k))) (chunk c d (through_ended e t))

-- What a chain of turns has played: while the program goes on, the lines of the chunks so far; at the end of the input those of all that came.
record TurnsLed (p₀ : Pass) (line₀ : List ℕ) (l₀ : Lent) (out₀ : List ℕ) (chunks : List (List ℕ)) (text : List ℕ) (p : Pass) (line : List ℕ) (l : Lent) (out : List ℕ) : Type 0 where
  pub handed : List (List ℕ)
  pub calls : Calls p₀.bench l₀ out₀ handed text p.bench l out
  pub so_far : p.status ≡ goes_on → ChunksCut line₀ p₀.held chunks handed line p.held
  pub all_lines : p.status ≡ at_end → HandedOn line₀ p₀.held chunks handed

module _ (p₀ : Pass) (line₀ : List ℕ) (l₀ : Lent) (out₀ : List ℕ) (starts : p₀.status ≡ goes_on) where
  led_none : TurnsLed p₀ line₀ l₀ out₀ [] [] p₀ line₀ l₀ out₀
  led_none = record { handed = []; calls = calls.none p₀.bench l₀ out₀; so_far = λ e. none line₀ p₀.held; all_lines = λ e. cc (starts, e) }

  led_more : {chunks : List (List ℕ)} {text line line' out out' : List ℕ} {p r : Pass} {l l' : Lent} (got : ℤ) (interrupted : Bool) (bytes : List ℕ)
      → TurnsLed p₀ line₀ l₀ out₀ chunks text p line l out → p.status ≡ goes_on → (t : TurnMade got interrupted bytes line p l out r line' l' out')
      → TurnsLed p₀ line₀ l₀ out₀ (chunks ++ take (arrived got) bytes ∷ []) (text ++ text_of t) r line' l' out'
  unfolding text_of
  led_more got interrupted bytes s on (workers.came e q) =
      record {
        handed = s.handed ++ q.handed;
        calls = calls_both s.calls q.calls;
        so_far = λ g. through_more (s.so_far on) q.cut (q.to_the_end g);
        all_lines = λ g. absurd (written_not_ended q.written _ q.status-is g);
      }
  led_more {line = line} {p = p} got interrupted bytes s on (workers.ended e q) =
      record {
        handed = s.handed ++ last_line line p.held;
        calls = calls_both s.calls q.calls;
        so_far = λ g. absurd (last_not_on q.written _ q.status-is g);
        all_lines = λ g. through_ended (ap (λ (j : ℕ). take j bytes) (none_arrived got interrupted e)) (s.so_far on);
      }
  led_more {text = text} {out = out} {p = p} {r = r} {l = l} got interrupted bytes s on (workers.failed e f b) =
      record {
        handed = s.handed;
        calls =
            subst (λ (t : List ℕ). Calls p₀.bench l₀ out₀ s.handed t r.bench l out) (sym (append-nil text))
            (subst (λ (x : Bench). Calls p₀.bench l₀ out₀ s.handed text x l out) (sym b) s.calls);
        so_far = λ g. cc (f, g);
        all_lines = λ g. cc (f, g);
      }

  turns_led : {chunks : List (List ℕ)} {text line out : List ℕ} {p : Pass} {l : Lent} → Turns p₀ line₀ l₀ out₀ chunks text p line l out
      → TurnsLed p₀ line₀ l₀ out₀ chunks text p line l out
  turns_led workers.none = led_none
  turns_led (workers.next got interrupted bytes ts on moved t) = led_more got interrupted bytes (turns_led ts) on t

-- A program that stands at the end of the input has played the lines of all bytes that came.
pub record AllPlayed {line : List ℕ} {l : Lent} {out : List ℕ} {status : Standing} {l' : Lent} {out' : List ℕ} (r : Ran line l out status l' out') : Type 0 where
  pub handed : List (List ℕ)
  pub calls : Calls r.first l out handed r.text r.last.bench l' out'
  pub all_lines : HandedOn line 0 r.chunks handed

pub all_played : {line : List ℕ} {l : Lent} {out : List ℕ} {status : Standing} {l' : Lent} {out' : List ℕ} (r : Ran line l out status l' out') → status ≡ at_end → AllPlayed r
all_played {line} {l} {out} r e =
    let led = turns_led (record { bench = r.first; held = 0; status = goes_on }) line l out refl r.turns in
    record { handed = led.handed; calls = led.calls; all_lines = led.all_lines (r.status-is ∙ e) }

-- The program after some turns.
pub record Running (line₀ : List ℕ) (l₀ : Lent) (out₀ : List ℕ) (first : Bench) (line : List ℕ) (p : Pass) (l : Lent) (out : List ℕ) (done : ℕ) : Type 0 where
  pub chunks : List (List ℕ)
  pub text : List ℕ
  pub turns : Turns (record { bench = first; held = 0; status = goes_on }) line₀ l₀ out₀ chunks text p line l out
  pub within : p.status ≡ goes_on → p.held ≤ length line
  pub count : length chunks ≡ done

pub running_none : (line : List ℕ) (l : Lent) (out : List ℕ) (first : Bench)
    → Running line l out first line (record { bench = first; held = 0; status = goes_on }) l out 0
running_none line l out first = record { chunks = []; text = []; turns = workers.none; within = λ e. omega arith; count = refl }

-- where a turn goes on, the held bytes are in the line
turn_within : {got : ℤ} {interrupted : Bool} {bytes line out line' out' : List ℕ} {p r : Pass} {l l' : Lent}
    → TurnMade got interrupted bytes line p l out r line' l' out' → r.status ≡ goes_on → r.held ≤ length line'
turn_within (workers.came e q) g = q.within
turn_within (workers.ended e q) g = absurd (last_not_on q.written _ q.status-is g)
turn_within (workers.failed e f b) g = cc (f, g)

module _ (line₀ : List ℕ) (l₀ : Lent) (out₀ : List ℕ) (first : Bench) where
  pub running_more : (line : List ℕ) (p : Pass) (l : Lent) (out : List ℕ) (done : ℕ) (got : ℤ) (interrupted : Bool) (most : ℕ) (bytes : List ℕ)
      (r : Pass) (line' : List ℕ) (l' : Lent) (out' : List ℕ)
      → Running line₀ l₀ out₀ first line p l out done → p.status ≡ goes_on → Moved most got → length bytes ≡ most
      → TurnMade got interrupted bytes line p l out r line' l' out' → Running line₀ l₀ out₀ first line' r l' out' (done + 1)
  running_more line p l out done got interrupted most bytes r line' l' out' s on m k t =
      record {
        chunks = s.chunks ++ take (arrived got) bytes ∷ [];
        text = s.text ++ text_of t;
        turns = workers.next got interrupted bytes s.turns on (subst (λ (j : ℕ). Moved j got) (sym k) m) t;
        within = turn_within t;
        count = omega (arith, s.count, length-append s.chunks (take (arrived got) bytes ∷ []));
      }

  pub running_ran : (line : List ℕ) (p : Pass) (l : Lent) (out : List ℕ) (done : ℕ) → ((k : Lent) (events : List Event) → stage_of first k events ≡ waiting)
      → bench_refused first images_length kept_length numbers_length bytes_length text_length ≡ 0
      → Running line₀ l₀ out₀ first line p l out done → (p.status ≡ goes_on → done ≡ most_turns) → Ran line₀ l₀ out₀ p.status l out
  running_ran line p l out done w a s z =
      record {
        first = first;
        no-set = w;
        right = a;
        chunks = s.chunks;
        text = s.text;
        last = p;
        line' = line;
        turns = s.turns;
        status-is = refl;
        stopped = λ e. s.count ∙ z e;
      }

-- the program's own buffers have the right lengths
pub run_left : (line : List ℕ) (l : Lent) (out : List ℕ) (status : Standing) (l' : Lent) (out' : List ℕ) (left : ℕ) → Ran line l out status l' out' → left ≡ left_with status
    → held_length ≡ length line → images_length ≡ length l.images → kept_length ≡ length l.kept → numbers_length ≡ length l.numbers
    → bytes_length ≡ length l.bytes → text_length ≡ length out → RunLeft left
run_left line l out status l' out' left r e h i k n y o =
    record {
      line = line;
      l = l;
      out = out;
      status = status;
      l' = l';
      out' = out';
      line-long = sym h;
      images-long = sym i;
      kept-long = sym k;
      numbers-long = sym n;
      bytes-long = sym y;
      out-long = sym o;
      ran = r;
      left_is = e;
    }

-- the program leaves with 0 or 1
pub left_low : (left : ℕ) → RunLeft left → left ≤ 1
unfolding left_with
left_low left r = go r.status r.left_is
  where
    go : (status : Standing) → left ≡ left_with status → left ≤ 1
    go standing.GoesOn e = omega (arith, e)
    go standing.Ended e = omega (arith, e)
    go standing.CannotRead e = omega (arith, e)
    go standing.CannotWrite e = omega (arith, e)

-- who leaves with 0 stands at the end of the input
pub ended_well : (status : Standing) → 0 ≡ left_with status → status ≡ at_end
unfolding left_with
ended_well standing.GoesOn e = absurd (omega (arith, e))
ended_well standing.Ended e = refl
ended_well standing.CannotRead e = absurd (omega (arith, e))
ended_well standing.CannotWrite e = absurd (omega (arith, e))
