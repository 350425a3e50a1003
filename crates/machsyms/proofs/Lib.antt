mod Written
mod Taken
mod Keys
mod SelectedLists
mod SymbolLines
mod Ends
