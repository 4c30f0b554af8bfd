-- The questions in a block, by words.
use Rattle.std.specs.Prelude.{ℕ, List, [], ◌∷◌, bit_and, bit_or, bit_xor, ◌+◌, ◌-◌, ◌^◌, ◌==◌, if◌then◌else◌}
use Rattle.flow_blocks.specs.Words.{word_at}
use Rattle.flow_reach.specs.declared.question.Pass.{Pass}

abbrev pub all_bits : ℕ
all_bits = 2 ^ 64 - 1

abbrev pub without : ℕ → ℕ → ℕ
without word other = bit_and word (bit_xor other all_bits)

-- all questions end in the closed block
abbrev pub shut_of : ℕ → ℕ → ℕ
shut_of closed block = if block == closed then all_bits else 0

-- the questions whose paths go on behind a point
abbrev pub stepped : ℕ → Pass → ℕ → ℕ
stepped shut pass word = bit_or (without word (bit_or pass.stops shut)) pass.begins

-- the questions whose paths leave a block
abbrev pub out_word : ℕ → ℕ → List Pass → ℕ
out_word shut word [] = word
out_word shut word (pass ∷ row) = out_word shut (stepped shut pass word) row

-- the questions that a point of the block stops, and others
abbrev pub stops_word : ℕ → List Pass → ℕ
stops_word word [] = word
stops_word word (pass ∷ row) = stops_word (bit_or word pass.stops) row

-- the questions whose paths come to each point
abbrev pub row_words : ℕ → ℕ → List Pass → List ℕ
row_words shut word [] = []
row_words shut word (pass ∷ row) = word ∷ row_words shut (stepped shut pass word) row

-- ---- block by block

-- something for each row, by its position too
abbrev pub each_from : {X Y : Type 0} → (ℕ → X → Y) → ℕ → List X → List Y
each_from make at [] = []
each_from make at (x ∷ xs) = make at x ∷ each_from make (at + 1) xs

abbrev pub made_of : ℕ → ℕ → List Pass → ℕ
made_of closed at row = out_word (shut_of closed at) 0 row

abbrev pub stops_of : ℕ → ℕ → List Pass → ℕ
stops_of closed at row = stops_word (shut_of closed at) row

abbrev pub words_of : ℕ → List ℕ → ℕ → List Pass → List ℕ
words_of closed words at row = row_words (shut_of closed at) (word_at words at) row

-- ---- edge by edge

-- where paths begin that leave a block in which they began
abbrev pub made_start : List ℕ → ℕ × ℕ → ℕ × ℕ
made_start made e = (e.1, word_at made e.0)

-- the questions whose paths lead through the block that the edge leaves
abbrev pub kept_word : List ℕ → ℕ × ℕ → ℕ
kept_word stops e = bit_xor (word_at stops e.0) all_bits
