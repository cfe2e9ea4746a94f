mod RowsMore
mod FlowRows
mod BucketRows
mod PacketRows
