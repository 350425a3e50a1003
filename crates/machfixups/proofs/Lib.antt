mod Endings
mod Facts
mod KeptFixups
mod Unseen
mod RebaseLines
mod BindLines
mod InColumns
