-- Words of 64 questions: which values are used where.
use Rattle.std.specs.Prelude.{ℕ, Bool, List, [], slice_get, Option, bit_and, bit_or, bit_xor, ◌+◌, ◌==◌, ◌||◌, ◌∷◌, if◌then◌else◌}
use Rattle.rule_uses.specs.flow_blocks.Words.{word_at}
use Rattle.rule_uses.specs.Questions.{all_bits, block_word, edge_word, phis_word, result_word, value_word}
use Rattle.rule_uses.specs.Uses.{local_of}
use Rattle.ir_parts.specs.Contents.{ending_operands, instr_operands, result_of}
use Rattle.ir_model.specs.Names.{position_of}
use Rattle.ir_model.specs.declared.instr.Incoming.{Incoming}
use Rattle.ir_model.specs.declared.instr.Instr.{Instr}
use Rattle.ir_model.specs.declared.instr.Phi.{Phi}
use Rattle.ir_model.specs.declared.module.Block.{Block}
use Rattle.ir_model.specs.declared.module.Function.{Function}
use Rattle.ir_model.specs.declared.operand.Operand.{Operand}
use Rattle.ir_paths.specs.Windows.{label_at}
use Rattle.rule_window_values.specs.declared.chunk.Chunk.{Chunk}
use Rattle.rule_window_values.specs.declared.spans.Span.{Span}

-- ---- the questions of values

-- the questions of a list's values, with those before
abbrev pub values_word : List (Option ℕ) → ℕ → ℕ → List ℕ → ℕ
values_word numbers chunk word [] = word
values_word numbers chunk word (v ∷ vs) = values_word numbers chunk (bit_or word (value_word numbers chunk v)) vs

-- the questions of the values among operands, with those before
abbrev pub operands_word : List (Option ℕ) → ℕ → ℕ → List Operand → ℕ
operands_word numbers chunk word [] = word
operands_word numbers chunk word (x ∷ xs) = operands_word numbers chunk (result_word numbers chunk word (local_of x)) xs

-- ---- what is asked

-- the questions of the values made in a span's window
abbrev pub span_word : List (Option ℕ) → ℕ → Span → ℕ
span_word numbers chunk span = values_word numbers chunk 0 span.values

-- each question starts where the own edges of its spans lead
abbrev pub starts_of : List (Option ℕ) → ℕ → List Span → List (ℕ × ℕ)
starts_of numbers chunk [] = []
starts_of numbers chunk (s ∷ ss) = (s.resumed, span_word numbers chunk s) ∷ ((s.destroyed, span_word numbers chunk s) ∷ starts_of numbers chunk ss)

-- the questions that an edge lets through: none out of the end block, else those whose values the edge's block doesn't make
abbrev pub passed_word : List ℕ → ℕ → ℕ × ℕ → ℕ
passed_word made end e = if e.0 == end then 0 else edge_word made e

abbrev pub own_if : Bool → ℕ → ℕ → ℕ
own_if b word other = if b then bit_or word other else word

-- the questions of the spans whose suspends stand in a block, with those before
abbrev pub own_word : List (Option ℕ) → ℕ → ℕ → ℕ → List Span → ℕ
own_word numbers chunk block word [] = word
own_word numbers chunk block word (s ∷ ss) = own_word numbers chunk block (own_if (block == s.block) word (span_word numbers chunk s)) ss

-- ---- what is used

abbrev pub left_of : ℕ → ℕ → ℕ
left_of base made = bit_and base (bit_xor made all_bits)

-- the questions whose paths lead to a block; none to the end block
abbrev pub live_at : Chunk → ℕ → ℕ
live_at c block = if block == c.end then 0 else word_at c.words block

-- those at the end of the block
abbrev pub end_at : Chunk → ℕ → ℕ
end_at c block = left_of (live_at c block) (word_at c.made block)

-- told, with the questions of these operands, of those that are asked and not made before
abbrev pub with_used : List (Option ℕ) → ℕ → ℕ → ℕ → ℕ → List Operand → ℕ
with_used numbers chunk base made told xs = bit_or told (bit_and (operands_word numbers chunk 0 xs) (left_of base made))

abbrev pub told_incoming : Function → List (Option ℕ) → Chunk → ℕ → List Incoming → ℕ
told_incoming f numbers c told [] = told
told_incoming f numbers c told (i ∷ is) = told_incoming f numbers c (bit_or told (bit_and (result_word numbers c.number 0 (local_of i.value)) (end_at c (position_of f i.from)))) is

abbrev pub told_phis : Function → List (Option ℕ) → Chunk → ℕ → List Phi → ℕ
told_phis f numbers c told [] = told
told_phis f numbers c told (p ∷ ps) = told_phis f numbers c (told_incoming f numbers c told p.incoming) ps

abbrev pub told_instrs : List (Option ℕ) → ℕ → ℕ → ℕ → ℕ → List Instr → ℕ
told_instrs numbers chunk base made told [] = told
told_instrs numbers chunk base made told (i ∷ is) =
    told_instrs numbers chunk base (result_word numbers chunk made (result_of i)) (with_used numbers chunk base made told (instr_operands i)) is

unfoldable pub told_block : Function → List (Option ℕ) → Chunk → ℕ → ℕ → Block → ℕ
told_block f numbers c block told b =
    with_used numbers c.number (live_at c block) (block_word numbers c.number b)
    (told_instrs numbers c.number (live_at c block) (phis_word numbers c.number 0 b.phis) (told_phis f numbers c told b.phis) b.instrs)
    (ending_operands b.term)

-- the questions with a use in these blocks, with those before
abbrev pub told_blocks : Function → List (Option ℕ) → Chunk → ℕ → ℕ → List Block → ℕ
told_blocks f numbers c block told [] = told
told_blocks f numbers c block told (b ∷ bs) = told_blocks f numbers c (block + 1) (told_block f numbers c block told b) bs

-- ---- phis on own edges

abbrev pub label_leads : Function → ℕ → ℕ → ℕ → Bool
label_leads f number from block = block == position_of f (label_at number (slice_get f.blocks from))

-- the edges of 0 and 1 out of a block lead to another
abbrev pub is_own_edge : Function → ℕ → ℕ → Bool
is_own_edge f from block = label_leads f 0 from block || label_leads f 1 from block

abbrev pub own_at : Function → Chunk → ℕ → ℕ → ℕ
own_at f c from block = if is_own_edge f from block then word_at c.own from else 0

unfoldable pub taken_word : Function → List (Option ℕ) → Chunk → ℕ → Incoming → ℕ
taken_word f numbers c block i = bit_and (result_word numbers c.number 0 (local_of i.value)) (own_at f c (position_of f i.from) block)

abbrev pub taken_incoming : Function → List (Option ℕ) → Chunk → ℕ → ℕ → List Incoming → ℕ
taken_incoming f numbers c block told [] = told
taken_incoming f numbers c block told (i ∷ is) = taken_incoming f numbers c block (bit_or told (taken_word f numbers c block i)) is

abbrev pub taken_phis : Function → List (Option ℕ) → Chunk → ℕ → ℕ → List Phi → ℕ
taken_phis f numbers c block told [] = told
taken_phis f numbers c block told (p ∷ ps) = taken_phis f numbers c block (taken_incoming f numbers c block told p.incoming) ps

-- the questions of values that phis take on own edges, with those before
abbrev pub taken_blocks : Function → List (Option ℕ) → Chunk → ℕ → ℕ → List Block → ℕ
taken_blocks f numbers c block told [] = told
taken_blocks f numbers c block told (b ∷ bs) = taken_blocks f numbers c (block + 1) (taken_phis f numbers c block told b.phis) bs
