pub mod Starting
pub mod Making
pub mod LegalStarts
pub mod ReadBack
pub mod GivenSettings
pub mod Documented
pub mod ReadTexts
pub mod Refused
