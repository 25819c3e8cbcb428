-- Printed text: document 01, "Sheets worked through". A line's parts are words and numbers with one space between, "every line ends in
-- one line feed", and a number is decimal, with a minus sign and no plus, and no zeros before it. A text is the list of its bytes.
use Rattle.std.specs.Prelude.{Bool, false, not, cond, ◌&&◌, List, [], ◌∷◌, ◌++◌, map, ℕ, zero, suc, ◌+◌, ◌-◌, ◌*◌, ◌/◌, ◌%◌, leb, eqb, ℤ}
use Rattle.std.specs.Prelude.{pos, negsuc, neg_ℤ, length, take, drop}
use Rattle.whole.specs.Lists.{every}

-- ---- The bytes, by their codes

abbrev pub line_feed : ℕ
line_feed = 10

abbrev pub space : ℕ
space = 32

abbrev pub minus : ℕ
minus = 45

-- the byte of a digit from 0 to 9
abbrev pub digit : ℕ → ℕ
digit d = 48 + d

abbrev pub is_digit : ℕ → Bool
is_digit b = leb (digit 0) b && leb b (digit 9)

-- ---- Numbers

-- The digits of n, the most significant first, none for 0. They are found from the last one backwards: `n % 10` is the last, and `n / 10`
-- has those before it. `places` only bounds how many are found.
unfoldable pub digits : ℕ → ℕ → List ℕ
digits zero n = []
digits (suc places) zero = []
digits (suc places) (suc m) = digits places (suc m / 10) ++ (digit (suc m % 10) ∷ [])

-- A number from 0 up: 0 is one digit, and no other n has more than n.
unfoldable pub natural : ℕ → List ℕ
natural zero = digit 0 ∷ []
natural (suc m) = digits (suc m) (suc m)

-- A whole number. (`negsuc n` is −(n + 1).)
unfoldable pub decimal : ℤ → List ℕ
decimal (pos n) = natural n
decimal (negsuc n) = minus ∷ natural (suc n)

-- What a number's text says, as a reader takes it: after a minus sign the number below zero, else the number; each digit counts ten times
-- less than the one before it.
unfoldable pub read_digits : ℕ → List ℕ → ℕ
read_digits before [] = before
read_digits before (b ∷ bs) = read_digits (before * 10 + (b - digit 0)) bs

unfoldable pub read_number : List ℕ → ℤ
read_number [] = pos 0
read_number (b ∷ bs) = cond (eqb b minus) (neg_ℤ (pos (read_digits 0 bs))) (pos (read_digits 0 (b ∷ bs)))

-- ---- Lines

-- the parts of a line, one space between
unfoldable pub spaced : List (List ℕ) → List ℕ
spaced [] = []
spaced (p ∷ []) = p
spaced (p ∷ q ∷ ps) = p ++ (space ∷ spaced (q ∷ ps))

-- a line of these parts
unfoldable pub line : List (List ℕ) → List ℕ
line ps = spaced ps ++ (line_feed ∷ [])

-- lines one after the other, each given by its parts
unfoldable pub lines : List (List (List ℕ)) → List ℕ
lines [] = []
lines (ps ∷ pss) = line ps ++ lines pss

-- what can be a part of a line and be told from the others: one byte or more, none of them a space or a line feed
abbrev pub is_plain : ℕ → Bool
is_plain b = not (eqb b space) && not (eqb b line_feed)

abbrev pub is_word : List ℕ → Bool
is_word [] = false
is_word (b ∷ bs) = every is_plain (b ∷ bs)

-- What stands before each mark of a text, and after the last one if anything does.
abbrev pub begun : ℕ → List (List ℕ) → List (List ℕ)
begun b [] = (b ∷ []) ∷ []
begun b (p ∷ ps) = (b ∷ p) ∷ ps

unfoldable pub split : ℕ → List ℕ → List (List ℕ)
split mark [] = []
split mark (b ∷ bs) = cond (eqb b mark) ([] ∷ split mark bs) (begun b (split mark bs))

-- the lines of a text, without their line feeds; the parts of such a line; the parts of each line of a text
abbrev pub split_lines : List ℕ → List (List ℕ)
split_lines = split line_feed

abbrev pub parts : List ℕ → List (List ℕ)
parts = split space

unfoldable pub read_lines : List ℕ → List (List (List ℕ))
read_lines t = map parts (split_lines t)

-- ---- Laying text in a buffer

-- The text t laid at a position of the buffer: its bytes stand there one after the other, as far as the buffer reaches, and every other
-- byte is as it was.
unfoldable pub laid : List ℕ → ℕ → List ℕ → List ℕ
laid buffer at t = take at buffer ++ take (length buffer - at) t ++ drop (at + length t) buffer

-- The position after it; where it has no room, one past the end of a buffer of this size. There nothing has room, so that it stays past the
-- end: the last position of several texts laid one after the other tells whether all had room.
unfoldable pub after : ℕ → ℕ → List ℕ → ℕ
after size at t = cond (leb (at + length t) size) (at + length t) (size + 1)
