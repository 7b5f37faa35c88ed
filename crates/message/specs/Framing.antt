-- The framed message of a header and a body, and its tag.
use Rattle.std.specs.Prelude.{ℕ, ◌-◌, ◌*◌, cond, List, [], ◌∷◌, ◌++◌, length, replicate, ◌==◌}
use Rattle.counts.specs.Little.{little}
use Rattle.mode.specs.Rules.{Rule, at_first, absorbed, place_after}

-- what is left over at the end of a part: nothing, or one block filled up with zeros
abbrev pub flushed : List ℕ → List (List ℕ)
flushed [] = []
flushed (b ∷ bs) = ((b ∷ bs) ++ replicate (16 - length (b ∷ bs)) 0) ∷ []

-- the bytes after those that wait, cut into blocks, the last one filled up with zeros
abbrev pub cut : List ℕ → List ℕ → List (List ℕ)
cut waiting [] = flushed waiting
cut waiting (b ∷ bs) = cond (length waiting == 15) ((waiting ++ b ∷ []) ∷ cut [] bs) (cut (waiting ++ b ∷ []) bs)

-- a part with zeros up to a whole block
abbrev pub padded : List ℕ → List (List ℕ)
padded bs = cut [] bs

-- the length block: the two lengths in bits, eight little-endian bytes each
abbrev pub length_block : ℕ → ℕ → List ℕ
length_block h b = little 8 (8 * h) ++ little 8 (8 * b)

-- header, body and length block
abbrev pub framed : List ℕ → List ℕ → List (List ℕ)
framed h b = padded h ++ (padded b ++ (length_block (length h) (length b) ∷ []))

abbrev pub zero_block : List ℕ
zero_block = replicate 16 0

-- the framed message: then as many zero blocks as fill asks for, once, after the length block
abbrev pub message : Rule → List ℕ → List ℕ → List (List ℕ)
message r h b = framed h b ++ replicate (r.due (place_after r 0 (length (framed h b)))) zero_block

-- the largest tag of a list of blocks: finish of the registers that they lead to from the starting ones
abbrev pub tag_of_blocks : Rule → List (List ℕ) → List (List ℕ) → List ℕ
tag_of_blocks r regs blocks = r.finish (absorbed r (at_first regs) blocks).regs

-- the largest tag of a header and a body, under a key and an IV
abbrev pub tag_of : Rule → List ℕ → List ℕ → List ℕ → List ℕ → List ℕ
tag_of r key iv h b = tag_of_blocks r (r.load key iv) (message r h b)
