-- Words of 64 values: what blocks make and use, and what comes of it at the suspends.
use Rattle.std.specs.Prelude.{ℕ, Bool, true, false, List, [], length, map, reverse, slice_get, slice_set, Some, Option, unwrap_or, filter, bit_and, bit_or, bit_xor, ◌≡◌, ◌+◌, ◌/◌, ◌%◌, ◌==◌, ◌∷◌, ◌++◌}
use Rattle.flow_bits.specs.Bits.{HasBit}
use Rattle.rule_uses.specs.flow_blocks.Edges.{block_edges, graph_of}
use Rattle.rule_uses.specs.flow_blocks.Words.{word_at}
use Rattle.rule_uses.specs.Questions.{IsNumbering, all_bits, has_bit, phis_word, result_word, value_word}
use Rattle.rule_uses.specs.Uses.{local_of}
use Rattle.flow_solver.specs.Paths.{IsListed}
use Rattle.ir_parts.specs.Contents.{ending_operands, instr_operands, result_of}
use Rattle.ir_model.specs.declared.instr.Instr.{Instr}
use Rattle.ir_model.specs.declared.instr.Terminator.{Terminator}
use Rattle.ir_model.specs.declared.module.Block.{Block}
use Rattle.ir_model.specs.declared.module.Function.{Function}
use Rattle.ir_model.specs.declared.module.Param.{Param}
use Rattle.ir_model.specs.declared.operand.Intrinsic.{Intrinsic}
use Rattle.ir_model.specs.declared.operand.Operand.{Operand}
use Rattle.ir_paths.specs.Windows.{end_block, is_call_of}
use Rattle.ir_paths.specs.declared.point.Point.{Point}
use Rattle.frame_crossing.specs.Crossing.{Crosses, suspends_of}
use Rattle.frame_crossing.specs.EdgeUses.{edge_uses, is_behind, is_edge, way_of}
use Rattle.frame_crossing.specs.Values.{values_of}
use Rattle.frame_crossing.specs.declared.edge_use.EdgeUse.{EdgeUse}
use Rattle.frame_crossing.specs.declared.plan.Plan.{Plan}

-- ---- numbers

-- each value has the number of its place among these, and no other name has one
pub record AreNumbered (names : ℕ) (numbers : List (Option ℕ)) (values : List ℕ) : Type 0 where
  pub numbering : IsNumbering names numbers values
  pub numbered : (v k : ℕ) → slice_get values k ≡ Some v → slice_get numbers v ≡ Some (Some k)

-- ---- what is found once for a function

abbrev pub turned : ℕ × ℕ → ℕ × ℕ
turned e = (e.1, e.0)

pub record IsPlanOf (f : Function) (p : Plan) : Type 0 where
  pub graph : p.graph ≡ graph_of f
  pub back : p.back ≡ record { nodes = length f.blocks + 1; edges = map turned (block_edges f) }
  pub end : p.end ≡ end_block f
  pub ways : p.ways ≡ map (way_of f) f.blocks
  pub phis : p.phis ≡ edge_uses f
  pub uses : p.uses ≡ filter (is_edge (block_edges f)) (edge_uses f)
  pub behind : p.behind ≡ filter (is_behind p.ways) (edge_uses f)

-- ---- words

-- what is needed behind a turned-around edge and so before it: what the block that it leads to doesn't stop
abbrev pub kept_back : List ℕ → ℕ × ℕ → ℕ
kept_back stops e = bit_xor (word_at stops e.1) all_bits

abbrev pub without : ℕ → ℕ → ℕ
without word other = bit_and word (bit_xor other all_bits)

abbrev pub operands_word : List (Option ℕ) → ℕ → ℕ → List Operand → ℕ
operands_word numbers chunk word [] = word
operands_word numbers chunk word (x ∷ xs) = operands_word numbers chunk (result_word numbers chunk word (local_of x)) xs

abbrev pub params_word : List (Option ℕ) → ℕ → ℕ → List Param → ℕ
params_word numbers chunk word [] = word
params_word numbers chunk word (p ∷ ps) = params_word numbers chunk (bit_or word (value_word numbers chunk p.name)) ps

-- what instructions and a terminator use that isn't made before
abbrev pub open_word : List (Option ℕ) → ℕ → ℕ → ℕ → List Instr → Terminator → ℕ
open_word numbers chunk made found [] t = bit_or found (without (operands_word numbers chunk 0 (ending_operands t)) made)
open_word numbers chunk made found (i ∷ is) t =
    open_word numbers chunk (result_word numbers chunk made (result_of i)) (bit_or found (without (operands_word numbers chunk 0 (instr_operands i)) made)) is t

abbrev pub block_open : List (Option ℕ) → ℕ → Block → ℕ
block_open numbers chunk b = open_word numbers chunk (phis_word numbers chunk 0 b.phis) 0 b.instrs b.term

-- the words of the blocks from which these uses are, with them
abbrev pub use_words : List (Option ℕ) → ℕ → List ℕ → List EdgeUse → List ℕ
use_words numbers chunk words [] = words
use_words numbers chunk words (u ∷ us) =
    use_words numbers chunk (slice_set words u.from (bit_or (word_at words u.from) (value_word numbers chunk u.value))) us

-- ---- values that are used where they aren't made

abbrev pub opens_mask : List (Option ℕ) → ℕ → ℕ → List Block → ℕ
opens_mask numbers chunk word [] = word
opens_mask numbers chunk word (b ∷ bs) = opens_mask numbers chunk (bit_or word (block_open numbers chunk b)) bs

abbrev pub uses_mask : List (Option ℕ) → ℕ → ℕ → List EdgeUse → ℕ
uses_mask numbers chunk word [] = word
uses_mask numbers chunk word (u ∷ us) = uses_mask numbers chunk (bit_or word (value_word numbers chunk u.value)) us

-- the values of a chunk that some block uses before making them, or some phi
abbrev pub far_mask : List (Option ℕ) → ℕ → List Block → List EdgeUse → ℕ
far_mask numbers chunk blocks uses = uses_mask numbers chunk (opens_mask numbers chunk 0 blocks) uses

abbrev pub is_far_at : List (Option ℕ) → List Block → List EdgeUse → Option (Option ℕ) → Bool
is_far_at numbers blocks uses (Some (Some k)) = has_bit (far_mask numbers (k / 64) blocks uses) (k % 64)
is_far_at numbers blocks uses _ = false

-- no other value is needed from the front of a block on
abbrev pub is_far : List (Option ℕ) → List Block → List EdgeUse → ℕ → Bool
is_far numbers blocks uses v = is_far_at numbers blocks uses (slice_get numbers v)

abbrev pub value_if : Bool → ℕ → List ℕ
value_if true v = v ∷ []
value_if false v = []

-- ---- where the questions begin

abbrev pub made_starts : List ℕ → List (ℕ × ℕ) → List (ℕ × ℕ)
made_starts made edges = map (λ e. (e.1, word_at made e.0)) edges

abbrev pub open_starts : ℕ → List ℕ → List (ℕ × ℕ)
open_starts at [] = []
open_starts at (w ∷ ws) = (at, w) ∷ open_starts (at + 1) ws

abbrev pub use_start : List (Option ℕ) → ℕ → List ℕ → EdgeUse → ℕ × ℕ
use_start numbers chunk stops u = (u.from, without (value_word numbers chunk u.value) (word_at stops u.from))

-- the last block first, since need goes backward
abbrev pub needed_starts : List (Option ℕ) → ℕ → List ℕ → List ℕ → List EdgeUse → List (ℕ × ℕ)
needed_starts numbers chunk stops opens uses = reverse (open_starts 0 opens ++ map (use_start numbers chunk stops) uses)

-- ---- the suspends

abbrev pub word_if : Bool → ℕ → List ℕ
word_if true w = w ∷ []
word_if false w = []

abbrev pub suspend_words : List (Option ℕ) → ℕ → ℕ → ℕ → List Instr → List ℕ
suspend_words numbers chunk before behind [] = []
suspend_words numbers chunk before behind (i ∷ is) =
    word_if (is_call_of Intrinsic.CoroSuspend i) (bit_and before behind)
    ++ suspend_words numbers chunk (result_word numbers chunk before (result_of i)) behind is

abbrev pub way_at : List (ℕ × ℕ) → ℕ → ℕ × ℕ
way_at ways at = unwrap_or (slice_get ways at) (0, 0)

abbrev pub behind_word : List ℕ → List ℕ → ℕ × ℕ → ℕ → ℕ
behind_word own needed way at = bit_or (word_at own at) (bit_or (word_at needed way.0) (word_at needed way.1))

-- for each suspend the values that are defined before it and needed behind it
abbrev pub crossing_words : List (Option ℕ) → ℕ → List ℕ → List ℕ → List ℕ → List (ℕ × ℕ) → ℕ → List Block → List ℕ
crossing_words numbers chunk seen own needed ways at [] = []
crossing_words numbers chunk seen own needed ways at (b ∷ bs) =
    suspend_words numbers chunk (phis_word numbers chunk (word_at seen at) b.phis) (behind_word own needed (way_at ways at) at) b.instrs
    ++ crossing_words numbers chunk seen own needed ways (at + 1) bs

-- The words of suspends have the bit exactly where the value crosses.
pub data AreTold (f : Function) (v c : ℕ) : List Point → List ℕ → Type 0 where
  Nothing : AreTold f v c [] []
  More : (s : Point) (ss : List Point) (w : ℕ) (ws : List ℕ) → (HasBit w c → Crosses f v s) → (Crosses f v s → HasBit w c) → AreTold f v c ss ws → AreTold f v c (s ∷ ss) (w ∷ ws)

-- for each value of the chunk
abbrev pub TellChunk : Function → List (Option ℕ) → ℕ → List ℕ → Type 0
TellChunk f numbers chunk words =
    (v k : ℕ) → slice_get numbers v ≡ Some (Some k) → k / 64 ≡ chunk → IsListed v (values_of f) → AreTold f v (k % 64) (suspends_of f) words

-- these are values of the function
abbrev pub AreValues : Function → List ℕ → Type 0
AreValues f values = (v : ℕ) → IsListed v values → IsListed v (values_of f)

-- ---- pairs

abbrev pub mark_unless : Bool → ℕ → ℕ → List (ℕ × ℕ)
mark_unless true k w = []
mark_unless false k w = (k, w) ∷ []

-- the words that aren't empty, by their positions
abbrev pub marked_from : ℕ → List ℕ → List (ℕ × ℕ)
marked_from k [] = []
marked_from k (w ∷ ws) = mark_unless (w == 0) k w ++ marked_from (k + 1) ws

abbrev pub pair_if : Bool → ℕ → ℕ → List (ℕ × ℕ)
pair_if true v k = (v, k) ∷ []
pair_if false v k = []

abbrev pub pairs_in : ℕ → ℕ → List (ℕ × ℕ) → List (ℕ × ℕ)
pairs_in v c [] = []
pairs_in v c (m ∷ ms) = pair_if (has_bit m.1 c) v m.0 ++ pairs_in v c ms
