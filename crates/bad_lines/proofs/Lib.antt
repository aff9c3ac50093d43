pub mod Firsts
pub mod Owns
pub mod Walks
pub mod EventLines
pub mod SurveyLines
pub mod BlockLines
pub mod Starts
