use Rattle.std.proofs.Common.{refl}
use Rattle.gf256.specs.Product.{plus, twice}
use Rattle.gf256.specs.Tables.{powers_right, chained}
use Rattle.gf256.proofs.Laws.TableLaws.{powers_by_test}
use Rattle.gf256.proofs.powers.Goals as goal

pub returns : goal.returns
unfolding powers_right chained twice plus
returns c = powers_by_test _ refl
