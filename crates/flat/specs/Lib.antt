pub mod FlatWalk
pub mod Records
