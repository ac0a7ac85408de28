-- Lines that read, and lines that do not, computed.
use mathlib.Core.Path.{◌≡◌, refl}
use mathlib.Core.List.{[], ◌∷◌}
use lib.ListN.{replicate}
use Rattle.bench_parse.specs.Lines.{every, longer, words, is_digit, number_word, value_after, value_of, numbers_of, is_lower}
use Rattle.bench_parse.specs.Lines.{is_upper, is_hex, hex_value, hex_word, bytes_of, set_line, write_line, read_line, carry_line}
use Rattle.bench_parse.specs.Lines.{crash_line, down_line, up_line, no_line, are_numbers, number_in, set_of, write_words, write_of}
use Rattle.bench_parse.specs.Lines.{read_of, carry_of, one_of, set_text, write_text, read_text, carry_text, crash_text, down_text}
use Rattle.bench_parse.specs.Lines.{up_text, command_of, reads_words, reads}
use Rattle.byte_lists.specs.Lists.{same}

-- every definition, opened
unfoldable opened : Unit {0}
unfolding
    every longer words is_digit number_word value_after value_of numbers_of is_lower is_upper is_hex hex_value hex_word bytes_of are_numbers number_in set_of write_words write_of
    read_of carry_of one_of set_text write_text read_text carry_text crash_text down_text up_text same command_of reads_words reads
opened = tt

-- "set 3 1 1 4"
a_set : reads (115 ∷ 101 ∷ 116 ∷ 32 ∷ 51 ∷ 32 ∷ 49 ∷ 32 ∷ 49 ∷ 32 ∷ 52 ∷ []) ≡ set_line 3 1 1 4
unfolding opened
a_set = refl

-- "write 1 07 aF"
a_write : reads (119 ∷ 114 ∷ 105 ∷ 116 ∷ 101 ∷ 32 ∷ 49 ∷ 32 ∷ 48 ∷ 55 ∷ 32 ∷ 97 ∷ 70 ∷ []) ≡ write_line 1 7 (97 ∷ 70 ∷ [])
unfolding opened
a_write = refl

its_bytes : bytes_of (97 ∷ 70 ∷ []) ≡ 175 ∷ []
unfolding opened
its_bytes = refl

-- "read 0 10 2"
a_read : reads (114 ∷ 101 ∷ 97 ∷ 100 ∷ 32 ∷ 48 ∷ 32 ∷ 49 ∷ 48 ∷ 32 ∷ 50 ∷ []) ≡ read_line 0 10 2
unfolding opened
a_read = refl

-- "carry 12 3"
a_carry : reads (99 ∷ 97 ∷ 114 ∷ 114 ∷ 121 ∷ 32 ∷ 49 ∷ 50 ∷ 32 ∷ 51 ∷ []) ≡ carry_line (12 ∷ 3 ∷ [])
unfolding opened
a_carry = refl

-- "crash 3", "down 0", "up 1"
a_crash : reads (99 ∷ 114 ∷ 97 ∷ 115 ∷ 104 ∷ 32 ∷ 51 ∷ []) ≡ crash_line 3
unfolding opened
a_crash = refl

a_down : reads (100 ∷ 111 ∷ 119 ∷ 110 ∷ 32 ∷ 48 ∷ []) ≡ down_line 0
unfolding opened
a_down = refl

an_up : reads (117 ∷ 112 ∷ 32 ∷ 49 ∷ []) ≡ up_line 1
unfolding opened
an_up = refl

-- a blank line; "carry" alone; "up  1" with two spaces; "up 1 " with a space at the end; "Up 1"
no_blank_lem : reads [] ≡ no_line
unfolding opened
no_blank_lem = refl

no_number : reads (99 ∷ 97 ∷ 114 ∷ 114 ∷ 121 ∷ []) ≡ no_line
unfolding opened
no_number = refl

no_two_spaces : reads (117 ∷ 112 ∷ 32 ∷ 32 ∷ 49 ∷ []) ≡ no_line
unfolding opened
no_two_spaces = refl

no_space_at_the_end : reads (117 ∷ 112 ∷ 32 ∷ 49 ∷ 32 ∷ []) ≡ no_line
unfolding opened
no_space_at_the_end = refl

no_upper_case : reads (85 ∷ 112 ∷ 32 ∷ 49 ∷ []) ≡ no_line
unfolding opened
no_upper_case = refl

-- 19 digits, and 20
nineteen : reads (117 ∷ 112 ∷ 32 ∷ replicate 19 57) ≡ up_line 9999999999999999999
unfolding opened
nineteen = refl

twenty : reads (117 ∷ 112 ∷ 32 ∷ replicate 20 48) ≡ no_line
unfolding opened
twenty = refl
