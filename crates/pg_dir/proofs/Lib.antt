mod Decimals
mod NoNames
