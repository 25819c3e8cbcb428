-- The decimal text of a wide number, by its sign and size.
mod Decimals
