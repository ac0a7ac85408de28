use Rattle.bench_parse.proofs.Laws.CallerLaws.{said_set, said_write, said_read, said_carry, said_crash, said_down, said_up, said_nothing, hex_place, number_place}
use Rattle.bench_parse.specs.Lines.{reads}
use Rattle.bench_player.proofs.Laws.PlayerTurnLaws.{line_set, line_write, line_read, line_carry, line_crash, line_down, line_up, line_nothing}
use Rattle.bench_rules.specs.Turning.{lent}
use Rattle.bench_player.proofs.play_next.Goals as goal

pub returns-in-Set : goal.returns-in-Set
returns-in-Set c =
    let l = lent c.args.images.now c.args.kept.now c.args.numbers.now c.args.bytes.now in
    line_set c.args.b l _ c.args.out.now _ _ (reads c.args.line.now) _ _ _ _
    (said_set c.args.l c.args.line.now c.requires.line_value.0 _ _ _ _ c.in-Set.is) (c.refuse_as.ensures l)

pub returns-in-Write : goal.returns-in-Write
returns-in-Write c =
    let l = lent c.args.images.now c.args.kept.now c.args.numbers.now c.args.bytes.now in
    line_write c.args.b l _ c.args.out.now _ _ (reads c.args.line.now) _ _ _
    (said_write c.args.l c.args.line.now c.requires.line_value.0 _ _ _ c.in-Write.is) (c.write_at.ensures.turned c.args.images.now)

pub returns-in-Read : goal.returns-in-Read
returns-in-Read c =
    let l = lent c.args.images.now c.args.kept.now c.args.numbers.now c.args.bytes.now in
    line_read c.args.b l _ c.args.out.now _ _ (reads c.args.line.now) _ _ _
    (said_read c.args.l c.args.line.now c.requires.line_value.0 _ _ _ c.in-Read.is) (c.read_at.ensures.turned c.args.images.now)

pub returns-in-Carry : goal.returns-in-Carry
returns-in-Carry c =
    let l = lent c.args.images.now c.args.kept.now c.args.numbers.now c.args.bytes.now in
    line_carry c.args.b l _ c.args.out.now _ _ (reads c.args.line.now) _
    (said_carry c.args.l c.args.line.now c.requires.line_value.0 _ c.in-Carry.is c.requires.line_value.1) c.carry_all.ensures

pub returns-in-Crash : goal.returns-in-Crash
returns-in-Crash c =
    let l = lent c.args.images.now c.args.kept.now c.args.numbers.now c.args.bytes.now in
    line_crash c.args.b l _ c.args.out.now _ _ (reads c.args.line.now) _
    (said_crash c.args.l c.args.line.now c.requires.line_value.0 _ c.in-Crash.is) (c.crash_at.ensures.turned c.args.images.now)

pub returns-in-Down : goal.returns-in-Down
returns-in-Down c =
    let l = lent c.args.images.now c.args.kept.now c.args.numbers.now c.args.bytes.now in
    line_down c.args.b l _ c.args.out.now _ _ (reads c.args.line.now) _
    (said_down c.args.l c.args.line.now c.requires.line_value.0 _ c.in-Down.is) (c.switch_at.ensures l)

pub returns-in-Up : goal.returns-in-Up
returns-in-Up c =
    let l = lent c.args.images.now c.args.kept.now c.args.numbers.now c.args.bytes.now in
    line_up c.args.b l _ c.args.out.now _ _ (reads c.args.line.now) _
    (said_up c.args.l c.args.line.now c.requires.line_value.0 _ c.in-Up.is) (c.switch_at-in-Up.ensures l)

pub returns-in-Unread : goal.returns-in-Unread
returns-in-Unread c =
    let l = lent c.args.images.now c.args.kept.now c.args.numbers.now c.args.bytes.now in
    line_nothing c.args.b l _ c.args.out.now _ _ (reads c.args.line.now)
    (said_nothing c.args.l c.args.line.now c.requires.line_value.0 c.in-Unread.is) (c.refuse_as-in-Unread.ensures l)

pub write_at-requires-clause-hex_in_bounds : goal.write_at-requires-clause-hex_in_bounds
write_at-requires-clause-hex_in_bounds c = (hex_place c.args.l c.args.line.now _ _ _ c.in-Write.is c.requires.line_value.1).within

pub carry_all-requires-clause-carry_from : goal.carry_all-requires-clause-carry_from
carry_all-requires-clause-carry_from c = (number_place c.args.l c.args.line.now _ c.in-Carry.is c.requires.line_value.1, c.requires.out_len)
