-- Document 01's case: every definition opened, and computed.
use mathlib.Core.Path.{refl}
use Rattle.register.proofs.Laws.Opened.{all_open}
use Rattle.bench_order.specs.CaseTheorem.{WorkedCasePrintsAsGiven}
use Rattle.bench_order.specs.WorkedCase.{worked_input, worked_output}
use Rattle.bench_parse.specs.Lines.{every, longer, words, is_digit, number_word, value_after, value_of, numbers_of, is_lower, is_upper}
use Rattle.bench_parse.specs.Lines.{is_hex, hex_value, hex_word, bytes_of, are_numbers, number_in, set_of}
use Rattle.bench_parse.specs.Lines.{write_words, write_of, read_of, carry_of, one_of, set_text, write_text, read_text, carry_text, crash_text, down_text, up_text, command_of, reads_words, reads}
use Rattle.bench_print.specs.Printing.{refused_word, read_word, write_word, ok_word, abort_word, cut_word, digits_from, decimal, hex_digit}
use Rattle.bench_print.specs.Printing.{hex_text, refused_text, kind_word, end_word, line_text, is_end, ended_text}
use Rattle.byte_lists.specs.Lists.{same}
use Rattle.bench_state.specs.State.{bench_limits, bench_range}
use Rattle.bench_rules.specs.Content.{counted, content}
use Rattle.bench_rules.specs.Play.{refuses, passes, happens, acts, at_coordinator, unless_short, writes, starts, crashes_at, switches, delivered, reaches, carries, carries_at, carried, and_then}
use Rattle.bench_rules.specs.Play.{carried_all, plays, waits, begins, first, turn}
use Rattle.bench_lines.specs.Cutting.{lines}
use Rattle.bench_order.specs.Script.{stays, follows, plays_lines, script}

-- the definitions of the bench, opened
unfoldable bench_words_open : Unit {0}
unfolding every longer words is_digit number_word value_after value_of numbers_of is_lower is_upper is_hex hex_value hex_word bytes_of
bench_words_open = tt

unfoldable bench_line_open : Unit {0}
unfolding are_numbers number_in set_of write_words write_of read_of carry_of one_of set_text write_text read_text carry_text crash_text down_text up_text same command_of reads_words reads
bench_line_open = tt

unfoldable bench_print_open : Unit {0}
unfolding refused_word read_word write_word ok_word abort_word cut_word digits_from decimal hex_digit hex_text refused_text kind_word end_word line_text is_end ended_text
bench_print_open = tt

unfoldable bench_state_open : Unit {0}
unfolding bench_limits bench_range
bench_state_open = tt

unfoldable bench_play_open : Unit {0}
unfolding counted content refuses passes happens acts at_coordinator unless_short writes starts crashes_at switches delivered reaches carries carries_at carried and_then carried_all plays waits
bench_play_open = tt

unfoldable bench_play_more_open : Unit {0}
unfolding begins first turn
bench_play_more_open = tt

unfoldable bench_order_open : Unit {0}
unfolding lines stays follows plays_lines script
bench_order_open = tt

unfoldable bench_open : Unit {0}
unfolding all_open bench_words_open bench_line_open bench_print_open bench_state_open bench_play_open bench_play_more_open bench_order_open
bench_open = tt

pub worked_case : WorkedCasePrintsAsGiven
unfolding bench_open worked_input worked_output
worked_case = refl
