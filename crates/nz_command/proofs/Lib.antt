mod Digits
mod ListLengths
mod Members
mod Memory
mod ParsedLists
mod Sizes
mod TermLists
