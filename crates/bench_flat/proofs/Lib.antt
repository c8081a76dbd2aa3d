mod Guesses
