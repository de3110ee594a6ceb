mod Reading
mod Finding
mod Zero
