-- Words of 64 questions, each about one slot: the words of names, and of what takes those names.
use Rattle.std.specs.Prelude.{ℕ, Bool, List, [], map, length, nat_lt, slice_get, unwrap_or, Some, None, bit_or, ◌+◌, ◌^◌, ◌==◌, ◌∷◌, ◌++◌, if◌then◌else◌}
use Rattle.ir_model.specs.Names.{position_of}
use Rattle.ir_model.specs.declared.instr.Incoming.{Incoming}
use Rattle.ir_model.specs.declared.instr.Instr.{Instr}
use Rattle.ir_model.specs.declared.instr.Phi.{Phi}
use Rattle.ir_model.specs.declared.instr.Terminator.{Terminator}
use Rattle.ir_model.specs.declared.module.Block.{Block}
use Rattle.ir_model.specs.declared.module.Function.{Function}
use Rattle.ir_model.specs.declared.operand.Arg.{Arg}
use Rattle.ir_model.specs.declared.operand.Callee.{Callee}
use Rattle.ir_model.specs.declared.operand.Intrinsic.{Intrinsic}
use Rattle.ir_model.specs.declared.operand.Operand.{Operand}
use Rattle.ir_paths.specs.Slots.{is_memcpy, is_no_use}
use Rattle.ir_paths.specs.Windows.{call_operand, is_call_of}
use Rattle.ir_paths.specs.declared.point.Point.{Point}
use Rattle.frame_slots.specs.Uses.{is_no_use_in}
use Rattle.frame_slots.specs.declared.edge.EdgeWord.{EdgeWord}
use Rattle.frame_slots.specs.declared.edge.PhiUse.{PhiUse}

-- ---- words of names and of what takes them

-- the word of a name, empty where there is none
abbrev pub name_word : List ℕ → ℕ → ℕ
name_word words v = unwrap_or (slice_get words v) 0

-- a word with that of an operand's name
abbrev pub with_operand : List ℕ → ℕ → Operand → ℕ
with_operand words word (Operand.Local v) = bit_or word (name_word words v)
with_operand words word _ = word

abbrev pub with_args : List ℕ → ℕ → List Arg → ℕ
with_args words word [] = word
with_args words word (a ∷ args) = with_args words (with_operand words word a.value) args

abbrev pub callee_word : List ℕ → Callee → ℕ
callee_word words (Callee.Local v) = name_word words v
callee_word words _ = 0

-- the names that are operands of an instruction
abbrev pub occurring : List ℕ → Instr → ℕ
occurring words (Instr.Binary name op flags ty a b) = with_operand words (with_operand words 0 a) b
occurring words (Instr.Icmp name pred ty a b) = with_operand words (with_operand words 0 a) b
occurring words (Instr.Select name x a b) = with_operand words (with_operand words (with_operand words 0 x) a.value) b.value
occurring words (Instr.Cast name op nneg arg to) = with_operand words 0 arg.value
occurring words (Instr.Alloca name ty align) = 0
occurring words (Instr.Load name ty p align) = with_operand words 0 p
occurring words (Instr.Store arg p align) = with_operand words (with_operand words 0 arg.value) p
occurring words (Instr.Gep name inbounds ty base indices) = with_args words (with_operand words 0 base) indices
occurring words (Instr.Call result must_tail ty callee args) = with_args words (callee_word words callee) args

-- those that it uses
abbrev pub used : List ℕ → Instr → ℕ
used words i = if is_no_use_in i then 0 else occurring words i

-- those that it takes otherwise than as the address of a load, store or memcpy, as the base of a getelementptr, in a marker or in coro.id
abbrev pub exposed : List ℕ → Instr → ℕ
exposed words (Instr.Load name ty p align) = 0
exposed words (Instr.Store arg p align) = with_operand words 0 arg.value
exposed words (Instr.Gep name inbounds ty base indices) = with_args words 0 indices
exposed words (Instr.Call result must_tail ty callee args) =
    if is_no_use callee then 0 else if is_memcpy callee then 0 else with_args words (callee_word words callee) args
exposed words i = occurring words i

-- a word with those that a terminator takes
abbrev pub with_term : List ℕ → ℕ → Terminator → ℕ
with_term words word (Terminator.Jump label) = word
with_term words word (Terminator.Branch x a b) = with_operand words word x
with_term words word (Terminator.Switch arg default cases) = with_operand words word arg.value
with_term words word (Terminator.Ret None) = word
with_term words word (Terminator.Ret (Some arg)) = with_operand words word arg.value
with_term words word Terminator.Unreachable = word

-- those of the pointer of a marker
abbrev pub marked : Intrinsic → List ℕ → Instr → ℕ
marked marker words i = if is_call_of marker i then with_operand words 0 (call_operand i 1) else 0

-- ---- a row for each block, with a word for each instruction and one for the terminator

abbrev pub row_with : (Instr → ℕ) → (Terminator → ℕ) → Block → List ℕ
row_with of_instr of_term b = map of_instr b.instrs ++ of_term b.term ∷ []

-- the words of what uses the names
abbrev pub use_row : List ℕ → Block → List ℕ
use_row words b = row_with (used words) (with_term words 0) b

abbrev pub use_rows : List ℕ → Function → List (List ℕ)
use_rows words f = map (use_row words) f.blocks

-- the words of markers
abbrev pub marker_row : Intrinsic → List ℕ → Block → List ℕ
marker_row marker words b = row_with (marked marker words) (λ t. 0) b

abbrev pub marker_rows : Intrinsic → List ℕ → Function → List (List ℕ)
marker_rows marker words f = map (marker_row marker words) f.blocks

-- the word of a point
abbrev pub word_at_point : List (List ℕ) → Point → ℕ
word_at_point rows p = unwrap_or (slice_get (unwrap_or (slice_get rows p.block) []) p.at) 0

-- ---- edges

abbrev pub use_on : ℕ → ℕ → Operand → List PhiUse
use_on from to (Operand.Local v) = record { from = from; to = to; value = v } ∷ []
use_on from to _ = []

-- the same, if the block that the edge leaves is one of the function's
abbrev pub use_if : Bool → ℕ → ℕ → Operand → List PhiUse
use_if is_block from to x = if is_block then use_on from to x else []

abbrev pub incoming_uses : Function → ℕ → List Incoming → List PhiUse
incoming_uses f to [] = []
incoming_uses f to (i ∷ is) = use_if (nat_lt (position_of f i.from) (length f.blocks)) (position_of f i.from) to i.value ++ incoming_uses f to is

abbrev pub phis_uses : Function → ℕ → List Phi → List PhiUse
phis_uses f to [] = []
phis_uses f to (p ∷ ps) = incoming_uses f to p.incoming ++ phis_uses f to ps

abbrev pub uses_from : Function → ℕ → List Block → List PhiUse
uses_from f at [] = []
uses_from f at (b ∷ bs) = phis_uses f at b.phis ++ uses_from f (at + 1) bs

-- what phis take, from the block of the label to the phi's block, in order of the text
abbrev pub phi_uses : Function → List PhiUse
phi_uses f = uses_from f 0 f.blocks

abbrev pub edge_unless : Bool → ℕ → ℕ → ℕ → List EdgeWord
edge_unless is_empty from to word = if is_empty then [] else record { from = from; to = to; word = word } ∷ []

-- the words of what phis take, apart from empty ones
abbrev pub edge_words : List ℕ → List PhiUse → List EdgeWord
edge_words words [] = []
edge_words words (u ∷ us) = edge_unless (name_word words u.value == 0) u.from u.to (name_word words u.value) ++ edge_words words us

-- ---- names that are exposed

abbrev pub incoming_word : List ℕ → ℕ → List Incoming → ℕ
incoming_word words word [] = word
incoming_word words word (i ∷ is) = incoming_word words (with_operand words word i.value) is

abbrev pub phis_word : List ℕ → ℕ → List Phi → ℕ
phis_word words word [] = word
phis_word words word (p ∷ ps) = phis_word words (incoming_word words word p.incoming) ps

abbrev pub instrs_word : List ℕ → ℕ → List Instr → ℕ
instrs_word words word [] = word
instrs_word words word (i ∷ is) = instrs_word words (bit_or word (exposed words i)) is

abbrev pub block_word : List ℕ → ℕ → Block → ℕ
block_word words word b = with_term words (instrs_word words (phis_word words word b.phis) b.instrs) b.term

-- the names that are exposed in these blocks, with those before
abbrev pub blocks_word : List ℕ → ℕ → List Block → ℕ
blocks_word words word [] = word
blocks_word words word (b ∷ bs) = blocks_word words (block_word words word b) bs

-- ---- the slots of a chunk

-- each of these slots with a question of its own, from a number on
abbrev pub questions_from : ℕ → List ℕ → List (ℕ × ℕ)
questions_from c [] = []
questions_from c (slot ∷ slots) = (slot, 2 ^ c) ∷ questions_from (c + 1) slots
