mod Entries
mod Views
mod Turn
mod Sharing
mod Ends
mod Owning
mod Models
