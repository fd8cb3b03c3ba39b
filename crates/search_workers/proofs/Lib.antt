pub mod LiveMarks
pub mod ShortWay
