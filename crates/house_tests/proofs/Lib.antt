pub mod StraightLine
