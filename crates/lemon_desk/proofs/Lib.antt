mod Seated
mod Finals
mod Told
mod Boxes
mod NoFiles
