pub mod KeyOrder
pub mod CodecLaws
pub mod CodeLaws
