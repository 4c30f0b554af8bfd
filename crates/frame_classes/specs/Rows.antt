-- Rows of words, one row for each block of a function, with a word for each instruction and one for the terminator.
use Rattle.std.specs.Prelude.{ℕ, Bool, List, [], map, slice_get, slice_set, unwrap_or, bit_and, bit_or, bit_xor, ◌+◌, ◌-◌, ◌^◌, ◌∷◌, if◌then◌else◌}
use Rattle.ir_model.specs.declared.instr.Instr.{Instr}
use Rattle.ir_model.specs.declared.module.Block.{Block}
use Rattle.ir_model.specs.declared.module.Function.{Function}
use Rattle.ir_model.specs.declared.operand.Intrinsic.{Intrinsic}
use Rattle.ir_paths.specs.Windows.{is_call_of}
use Rattle.flow_points.specs.Rows.{is_marked}
use Rattle.flow_reach.specs.declared.question.Pass.{Pass}
use Rattle.frame_slots.specs.Words.{row_with}

abbrev pub all_bits : ℕ
all_bits = 2 ^ 64 - 1

-- ---- two words at each place

abbrev pub row_at : List (List ℕ) → ℕ → List ℕ
row_at rows block = unwrap_or (slice_get rows block) []

abbrev pub word_in : List ℕ → ℕ → ℕ
word_in row at = unwrap_or (slice_get row at) 0

-- something of each word of a row and that of another row at the same position, from a position on
abbrev pub zipped : {X : Type 0} → (ℕ → ℕ → X) → ℕ → List ℕ → List ℕ → List X
zipped make at [] other = []
zipped make at (w ∷ row) other = make w (word_in other at) ∷ zipped make (at + 1) row other

abbrev pub zipped_rows : {X : Type 0} → (ℕ → ℕ → X) → ℕ → List (List ℕ) → List (List ℕ) → List (List X)
zipped_rows make at [] others = []
zipped_rows make at (row ∷ rows) others = zipped make 0 row (row_at others at) ∷ zipped_rows make (at + 1) rows others

abbrev pub joined : List (List ℕ) → List (List ℕ) → List (List ℕ)
joined rows others = zipped_rows bit_or 0 rows others

abbrev pub common : List (List ℕ) → List (List ℕ) → List (List ℕ)
common rows others = zipped_rows bit_and 0 rows others

-- a word and those questions of another that are among some
abbrev pub touching : ℕ → ℕ → ℕ → ℕ
touching mask word other = bit_or word (bit_and other mask)

abbrev pub touching_rows : ℕ → List (List ℕ) → List (List ℕ) → List (List ℕ)
touching_rows mask rows others = zipped_rows (touching mask) 0 rows others

abbrev pub pass_by : ℕ → ℕ → Pass
pass_by stops begins = record { stops = stops; begins = begins }

-- the passes of questions that these rows stop, and that begin where the others say
abbrev pub passes_by : List (List ℕ) → List (List ℕ) → List (List Pass)
passes_by stops begins = zipped_rows pass_by 0 stops begins

-- ---- all words together

abbrev pub row_word : ℕ → List ℕ → ℕ
row_word word [] = word
row_word word (w ∷ row) = row_word (bit_or word w) row

abbrev pub rows_word : ℕ → List (List ℕ) → ℕ
rows_word word [] = word
rows_word word (row ∷ rows) = rows_word (row_word word row) rows

-- the words of the blocks
abbrev pub block_words : List (List ℕ) → List ℕ
block_words rows = map (row_word 0) rows

-- ---- rows of a function

-- the word at the calls of an intrinsic
abbrev pub call_word : Intrinsic → ℕ → Instr → ℕ
call_word intrinsic word i = if is_call_of intrinsic i then word else 0

abbrev pub call_row : Intrinsic → ℕ → Block → List ℕ
call_row intrinsic word b = row_with (call_word intrinsic word) (λ t. 0) b

abbrev pub call_rows : Intrinsic → ℕ → Function → List (List ℕ)
call_rows intrinsic word f = map (call_row intrinsic word) f.blocks

-- all questions at the points of a set
abbrev pub word_of_mark : Bool → ℕ
word_of_mark b = if b then all_bits else 0

abbrev pub set_row : List (List Bool) → ℕ → ℕ → List Instr → List ℕ
set_row set block at [] = word_of_mark (is_marked set (record { block = block; at = at })) ∷ []
set_row set block at (i ∷ is) = word_of_mark (is_marked set (record { block = block; at = at })) ∷ set_row set block (at + 1) is

abbrev pub set_rows : List (List Bool) → ℕ → List Block → List (List ℕ)
set_rows set block [] = []
set_rows set block (b ∷ blocks) = set_row set block 0 b.instrs ∷ set_rows set (block + 1) blocks

-- the rows without that of a block
abbrev pub cleared : List (List ℕ) → ℕ → List (List ℕ)
cleared rows block = slice_set rows block []

-- words of which only the questions among some are kept
abbrev pub kept_of : ℕ → List ℕ → List ℕ
kept_of mask words = map (λ w. bit_and w mask) words

abbrev pub kept_rows : ℕ → List (List ℕ) → List (List ℕ)
kept_rows mask rows = map (kept_of mask) rows

abbrev pub others : ℕ → ℕ
others word = bit_xor word all_bits
