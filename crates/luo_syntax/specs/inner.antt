pub mod Next
pub mod StopsNames
pub mod StopsProgram
pub mod TypeParts
pub mod StopsTypes
pub mod StopsPatterns
pub mod StopsStatements
pub mod StopsValues
