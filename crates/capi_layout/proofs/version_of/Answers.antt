use Rattle.capi_layout.proofs.LayoutNumbers.{version_three, version_one}
use Rattle.capi_layout.proofs.version_of.Goals as goal

pub returns-then-header_size-eq-POOL_HEADER : goal.returns-then-header_size-eq-POOL_HEADER
returns-then-header_size-eq-POOL_HEADER c = version_three _ _ c.header_size.ensures c.if-header_size-eq-POOL_HEADER.true

pub returns-else-header_size-eq-POOL_HEADER : goal.returns-else-header_size-eq-POOL_HEADER
returns-else-header_size-eq-POOL_HEADER c = version_one _ _ c.header_size.ensures c.if-header_size-eq-POOL_HEADER.false
