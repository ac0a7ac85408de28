use Rattle.std.proofs.Common.{refl}
use Rattle.byte_lists.specs.Each.{each}
use Rattle.gf256.specs.Product.{plus, twice}
use Rattle.gf256.specs.Tables.{logs_right, index_right, doublings}
use Rattle.gf256.proofs.Laws.TableLaws.{logs_by_test}
use Rattle.gf256.proofs.logs.Goals as goal

pub returns : goal.returns
unfolding logs_right index_right doublings each twice plus
returns c = logs_by_test _ refl
