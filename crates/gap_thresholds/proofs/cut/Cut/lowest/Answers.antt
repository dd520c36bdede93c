use Rattle.gap_thresholds.proofs.Lowest.{divisor_some, bottom_divided, apart_divided, equal_divided}
use Rattle.gap_thresholds.proofs.cut.Cut.lowest.Goals as goal

pub nonzero_div-result : goal.nonzero_div-result
nonzero_div-result c = divisor_some _ _ _ c.requires c.common_divisor-divisor.ensures

pub nonzero_div-result-2 : goal.nonzero_div-result-2
nonzero_div-result-2 c = divisor_some _ _ _ c.requires c.common_divisor-divisor.ensures

pub returns-clause-lowest : goal.returns-clause-lowest
returns-clause-lowest c = (bottom_divided _ _ _ c.requires c.common_divisor-divisor.ensures, apart_divided _ _ _ c.requires c.common_divisor-divisor.ensures)

pub returns-clause-equal : goal.returns-clause-equal
returns-clause-equal c = equal_divided _ _ _ c.common_divisor-divisor.ensures
