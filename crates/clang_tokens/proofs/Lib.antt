mod FirstLine
mod Said
