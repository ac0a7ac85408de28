-- Laws of `specs/ShortLogs`.
use mathlib.Core.Path.{refl}
use Rattle.register.proofs.Laws.Opened.{all_open}
use Rattle.register.specs.RunLetters.{step_letter, arriving_letter, arriving_letter_at, letter_at}
use Rattle.figures.specs.ShortLogs.{cut_writes, first_look, second_look, stores, schedule, seen_ending, DropsMakeRoom, WithoutDropsNothingIsStored}
use Rattle.figures.specs.ShortLogs.{cut_then_read, more_tries, letters_from, OneCutFillsABrick, EachTryEndsG, AThirdEntryBearsOneCut}

pub drops_make_room : DropsMakeRoom
unfolding all_open cut_writes first_look second_look stores schedule seen_ending
drops_make_room = refl

pub without_drops_nothing_is_stored : WithoutDropsNothingIsStored
unfolding all_open cut_writes first_look second_look stores schedule seen_ending
without_drops_nothing_is_stored = refl

pub one_cut_fills_a_brick : OneCutFillsABrick
unfolding all_open cut_then_read more_tries
one_cut_fills_a_brick = refl

pub each_try_ends_g : EachTryEndsG
unfolding all_open cut_then_read more_tries letters_from letter_at arriving_letter_at arriving_letter step_letter
each_try_ends_g = refl

pub a_third_entry_bears_one_cut : AThirdEntryBearsOneCut
unfolding all_open cut_then_read
a_third_entry_bears_one_cut = refl
