pub mod Finding
mod Listing
mod Growing
mod Lasting
