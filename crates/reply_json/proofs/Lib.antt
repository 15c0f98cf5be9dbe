pub mod Floatless
mod InARow
mod Quoted
mod ListTexts
mod ObjectTexts
mod Encoded
mod ReadBack
mod LineBack
mod Readable
mod ReadAgain
