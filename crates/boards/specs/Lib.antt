pub mod Boards
pub mod Stepping
pub mod RowsRead
pub mod EdgesRead
pub mod AnyBoards
pub mod Laws
pub mod Worked
pub mod Fitting
