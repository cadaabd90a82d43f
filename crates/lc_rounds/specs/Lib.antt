pub mod PagesBeside
