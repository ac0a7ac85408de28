-- Laws of `specs/FiveOfSeven`.
use mathlib.Core.Path.{refl}
use Rattle.register.proofs.Laws.Opened.{all_open}
use Rattle.figures.specs.FiveOfSeven.{five_of_seven_events, storing, one_round_more, block_under, giving_entry, looked_at, looked_up, outcome_of001, arriving_of001, arriving_at_of001}
use Rattle.figures.specs.FiveOfSeven.{step_of001, run_from_of001, run_of001, seen_giving, FinishedBlockWriteStays, LookupOf001UndoesIt}

pub finished_block_write_stays : FinishedBlockWriteStays
unfolding all_open five_of_seven_events storing seen_giving
finished_block_write_stays = refl

pub lookup_of_001_undoes_it : LookupOf001UndoesIt
unfolding all_open five_of_seven_events one_round_more seen_giving block_under giving_entry looked_at looked_up outcome_of001 arriving_of001 arriving_at_of001 step_of001 run_from_of001 run_of001
lookup_of_001_undoes_it = refl
