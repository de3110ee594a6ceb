pub mod CoreExamples
pub mod Driven
pub mod WorkedExamples
pub mod WorldExamples
