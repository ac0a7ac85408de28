use Rattle.interpolate.proofs.Laws.WeightRowLaws.{row_found}
use Rattle.interpolate.proofs.Known.row.Goals as goal

pub returns : goal.returns
returns c =
    let known = c.args.self.now in
    row_found _ _ _ _ _ c.in-Some.k known.ready.bytes known.blocks_bytes known.ready.set c.in-Some.ensures.0 c.in-Some.ensures.1
    known.blocks_len c.copy.ensures
