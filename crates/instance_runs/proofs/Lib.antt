pub mod LoadPlaces
pub mod TableLoads
pub mod Silent
pub mod LoadLists
pub mod Wholes
pub mod StripDeeds
pub mod EmptyStructs
pub mod NextLoads
