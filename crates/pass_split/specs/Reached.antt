-- The blocks that the entry reaches, found by a search, and a function with these alone.
use Rattle.std.specs.Prelude.{ℕ, zero, suc, Bool, true, false, List, [], map, filter, length, replicate, slice_get, slice_set, Some, None, Option, ◌+◌, ◌∷◌, if◌then◌else◌}
use Rattle.ir_model.specs.Names.{position_of}
use Rattle.ir_model.specs.declared.instr.Incoming.{Incoming}
use Rattle.ir_model.specs.declared.instr.Phi.{Phi}
use Rattle.ir_model.specs.declared.module.Block.{Block}
use Rattle.ir_model.specs.declared.module.Function.{Function}
use Rattle.ir_paths.specs.Paths.{targets}

abbrev pub flag_or_false : Option Bool → Bool
flag_or_false None = false
flag_or_false (Some b) = b

-- whether a label is flagged
abbrev pub is_flagged : List Bool → ℕ → Bool
is_flagged flags label = flag_or_false (slice_get flags label)

abbrev pub targets_in : Option Block → List ℕ
targets_in None = []
targets_in (Some b) = targets b.term

-- the labels to which the edges of a label's block lead
abbrev pub targets_at : Function → ℕ → List ℕ
targets_at f label = targets_in (slice_get f.blocks (position_of f label))

-- the labels put on a pile one by one
abbrev pub piled : List ℕ → List ℕ → List ℕ
piled [] todo = todo
piled (t ∷ ts) todo = piled ts (t ∷ todo)

abbrev pub todo_after : Function → List Bool → ℕ → List ℕ → List ℕ
todo_after f flags label todo = if is_flagged flags label then todo else piled (targets_at f label) todo

-- the flags after so many turns, each of which takes one label from the pile
abbrev pub flagged_within : ℕ → Function → List Bool → List ℕ → List Bool
flagged_within zero f flags todo = flags
flagged_within (suc n) f flags [] = flags
flagged_within (suc n) f flags (label ∷ todo) = flagged_within n f (slice_set flags label true) (todo_after f flags label todo)

abbrev pub edges_of : List Block → ℕ
edges_of [] = 0
edges_of (b ∷ bs) = length (targets b.term) + edges_of bs

abbrev pub entry_of : List Block → List ℕ
entry_of [] = []
entry_of (b ∷ bs) = b.label ∷ []

-- for each label whether the entry reaches it; each edge is looked at once at most
abbrev pub reached : Function → List Bool
reached f = flagged_within (edges_of f.blocks + 1) f (replicate (length f.names) false) (entry_of f.blocks)

-- ---- a function without the blocks that aren't reached

abbrev pub kept_phi : List Bool → Phi → Phi
kept_phi flags p = record { result = p.result; ty = p.ty; incoming = filter (λ i. is_flagged flags i.from) p.incoming }

abbrev pub kept_block : List Bool → Block → Block
kept_block flags b = record { label = b.label; phis = map (kept_phi flags) b.phis; instrs = b.instrs; term = b.term }

abbrev pub kept_blocks : List Bool → List Block → List Block
kept_blocks flags blocks = map (kept_block flags) (filter (λ b. is_flagged flags b.label) blocks)

abbrev pub pruned : Function → Function
pruned f =
    record {
      name = f.name;
      result = f.result;
      params = f.params;
      coroutine = f.coroutine;
      blocks = kept_blocks (reached f) f.blocks;
      names = f.names;
    }
