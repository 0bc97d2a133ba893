mod Counting
mod Done
mod Going
mod Known
mod Noting
mod Rereading
